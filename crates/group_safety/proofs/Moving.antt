-- Each move of a server keeps the facts: the small steps' lemmas in the words of `mark`.
use Rattle.file_tree.specs.Book.{Entry}
use Rattle.std.proofs.Common.{◌≡◌, ℕ, List, [], ◌∷◌, ◌++◌, Option, Some, refl, subst}
use Rattle.group_safety.proofs.May.{MayAccept, MayAppend, MayChoose, MayCommit, MayHeed, MayJoin, committing_group}
use Rattle.group_safety.specs.Bases.{Bases}
use Rattle.group_rules.specs.Effects.{NewLog}
use Rattle.group_safety.specs.Entered.{ServerWithin}
use Rattle.group_safety.specs.Facts.{BodyOk, Ok, ServerOk}
use Rattle.group_safety.specs.Laws.{Grows}
use Rattle.group_rules.specs.Moves.{Accepting, Appending, Choosing, Collecting, Committing, Heeding, Joining, Move, Sending, act, acts, book_after, moved, moved_by}
use Rattle.group_rules.specs.Places.{Zero, One, Two, Place, Trio, at, get}
use Rattle.group_safety.specs.Reported.{Reported}
use Rattle.group_safety.specs.Settled.{Settled}
use Rattle.group_rules.specs.State.{Collects, Duty, Group, Message, Plan, Report, Role, Server}
use Rattle.group_safety.specs.Words.{In}
use Rattle.group_safety.proofs.Grow.{with_call}
use Rattle.group_safety.proofs.Choice.{choice_kept}
use Rattle.group_safety.proofs.Joining.{join_kept}
use Rattle.group_safety.proofs.Accepting.{accept_kept}
use Rattle.group_safety.proofs.Opening.{heed_kept}
use Rattle.group_safety.proofs.Appending.{append_kept}
use Rattle.group_safety.proofs.Committing.{commit_kept}
use Rattle.group_safety.proofs.Settled.{SettledMay, settled_moved}
use Rattle.group_safety.proofs.Bases.{BasesMay, bases_moved}
use Rattle.group_safety.proofs.Reported.{ReportedMay, reported_moved}
use Rattle.group_safety.proofs.Growth.{grows_same, grows_then, grows_moved}
use Rattle.group_safety.proofs.Entering.{Beside, BesideMay, beside_moved}
use Rattle.group_rules.specs.Step.{Near}
use Rattle.group_safety.proofs.Quiet.{Fine, fine, one_server, send_kept, ok_beside}

pub at_self : {A : Type 0} (f : Place → A) (q : Place) (x : A) → at f q x q ≡ x
at_self f Zero x = refl
at_self f One x = refl
at_self f Two x = refl

-- the facts hold, and q is in the state s
pub record Good (g : Group Entry) (q : Place) (s : Server Entry) : Type 0 where
  pub ok : Ok g
  pub is : g.server q ≡ s
  pub settled : Settled g
  pub bases : Bases g
  pub reported : Reported g
  pub beside : Beside g
  pub near : Near g.clock

-- what is so of the server
pub its : {g : Group Entry} {q : Place} {s : Server Entry} → Good g q s → Fine g q s
its {g = g} {q = q} {s = s} h = fine g h.ok q s h.is

-- what is so of its numbers
pub its_within : {g : Group Entry} {q : Place} {s : Server Entry} → Good g q s → ServerWithin s
its_within {q = q} h = subst (λ (s : Server Entry). ServerWithin s) h.is (h.beside.within.server q)

-- what each move asks beside what makes its facts
abbrev pub May : Group Entry → Place → Server Entry → Move Entry → Type 0
May g q s m = SettledMay g q s m × BasesMay g q s m × BesideMay g q s m × ReportedMay q s m

-- each of the moves is made in a good group, and leads to one
unfoldable pub Goes : Group Entry → Place → Server Entry → List (Move Entry) → Type 0
Goes g q s [] = Good g q s
Goes g q s (m ∷ ms) = Good g q s × May g q s m × Goes (moved g q s m) q (act q (g.clock q) s m) ms

pub goes_good : (ms : List (Move Entry)) (g : Group Entry) (q : Place) (s : Server Entry) → Goes g q s ms → Good (moved_by g q s ms) q (acts q (g.clock q) s ms)
unfolding Goes
goes_good [] g q s h = h
goes_good (m ∷ ms) g q s h = goes_good ms (moved g q s m) q (act q (g.clock q) s m) h.2

-- the history grows
pub goes_grows : (ms : List (Move Entry)) (g : Group Entry) (q : Place) (s : Server Entry) → Goes g q s ms → Grows g.page (moved_by g q s ms).page g.committed (moved_by g q s ms).committed g.joins (moved_by g q s ms).joins
unfolding Goes
goes_grows [] g q s h = grows_same g.page g.committed g.joins
goes_grows (m ∷ ms) g q s h = grows_then (grows_moved g h.0.ok q s h.0.is m h.1.0 h.1.1) (goes_grows ms (moved g q s m) q (act q (g.clock q) s m) h.2)

pub goes_done : {g : Group Entry} {q : Place} {s : Server Entry} → Good g q s → Goes g q s []
unfolding Goes
goes_done h = h

-- a move, and then the others
pub goes_more : (g : Group Entry) (q : Place) (s : Server Entry) (m : Move Entry) (ms : List (Move Entry)) → Good g q s → May g q s m → Ok (moved g q s m)
    → (Good (moved g q s m) q (act q (g.clock q) s m) → Goes (moved g q s m) q (act q (g.clock q) s m) ms) → Goes g q s (m ∷ ms)
unfolding Goes
goes_more g q s m ms h r k next = (
  h,
  r,
  next (record {
    ok = k;
    is = at_self g.server q (act q (g.clock q) s m);
    settled = settled_moved g h.ok h.settled q s h.is m r.0 k;
    bases = bases_moved g h.ok h.bases q s h.is m r.1;
    reported = reported_moved g h.ok h.reported q s h.is (its_within h) m r.3;
    beside = beside_moved g h.ok h.beside q s h.is m r.0 r.1 r.2 k;
    near = h.near;
  }),
)

-- one move
pub goes_one : (g : Group Entry) (q : Place) (s : Server Entry) (m : Move Entry) → Good g q s → May g q s m → Ok (moved g q s m) → Goes g q s (m ∷ [])
goes_one g q s m h r k = goes_more g q s m [] h r k (λ h. goes_done h)

pub goes_then : (q : Place) (a b : List (Move Entry)) (g : Group Entry) (s : Server Entry) → Goes g q s a → (Good (moved_by g q s a) q (acts q (g.clock q) s a) → Goes (moved_by g q s a) q (acts q (g.clock q) s a) b) → Goes g q s (a ++ b)
unfolding Goes
goes_then q [] b g s h k = k h
goes_then q (m ∷ a) b g s h k = (h.0, h.1, goes_then q a b (moved g q s m) (act q (g.clock q) s m) h.2 k)

pub choosing : {g : Group Entry} {q : Place} {s : Server Entry} → Good g q s → (reports : Trio (Option Report)) (plan : Plan) (from : ℕ) → MayChoose g s reports plan from → Ok (moved g q s (Choosing plan from))
choosing {g = g} {q = q} {s = s} h reports plan from = subst (λ s. MayChoose g s reports plan from → Ok (moved g q s (Choosing plan from))) h.is (choice_kept g h.ok q reports plan from)

pub calling : {g : Group Entry} {q : Place} {s : Server Entry} → Good g q s → (reports reports' : Trio (Option Report)) → s.duty ≡ Collects reports → ((x : Place) (t : Report) → get reports' x ≡ Some t → In g.joins (record { from = x; view = s.promised; report = t })) → Ok (moved g q s (Collecting reports'))
calling {g = g} {q = q} {s = s} h reports reports' e j =
    let old = (its h).duty reports e in
    one_server g h.ok q _ (with_call q s (Collects reports') (its h)
    (λ t x. record { positive = old.positive; own = old.own; unformed = old.unformed; joined = let y : reports' ≡ t = cc in subst (λ (t : Trio (Option Report)). (z : Place) (u : Report) → get t z ≡ Some u → In g.joins (record { from = z; view = s.promised; report = u })) y j })
    (λ v p x. cc))

pub joining : {g : Group Entry} {q : Place} {s : Server Entry} → Good g q s → (v : ℕ) (duty : Duty) → MayJoin g q s v duty → Ok (moved g q s (Joining v duty))
joining {g = g} {q = q} {s = s} h v duty = subst (λ s. MayJoin g q s v duty → Ok (moved g q s (Joining v duty))) h.is (join_kept g h.ok q v duty)

pub accepting' : {g : Group Entry} {q : Place} {s : Server Entry} → Good g q s → (plan : Plan) (role : Role) (n : NewLog Entry) → MayAccept g q s plan role n → Ok (moved g q s (Accepting plan role n))
accepting' {g = g} {q = q} {s = s} h plan role n = subst (λ s. MayAccept g q s plan role n → Ok (moved g q s (Accepting plan role n))) h.is (accept_kept g h.ok q plan role n)

pub heeding' : {g : Group Entry} {q : Place} {s : Server Entry} → Good g q s → (items : List Entry) (cp base : ℕ) → MayHeed g q s items cp base → Ok (moved g q s (Heeding items cp base))
heeding' {g = g} {q = q} {s = s} h items cp base = subst (λ s. MayHeed g q s items cp base → Ok (moved g q s (Heeding items cp base))) h.is (heed_kept g h.ok q items cp base)

pub appending : {g : Group Entry} {q : Place} {s : Server Entry} → Good g q s → (e : Entry) → MayAppend g q s → Ok (moved g q s (Appending e))
appending {g = g} {q = q} {s = s} h e = subst (λ s. MayAppend g q s → Ok (moved g q s (Appending e))) h.is (append_kept g h.ok q e)

pub committing : {g : Group Entry} {q : Place} {s : Server Entry} → Ok g → g.server q ≡ s → (n : ℕ) → MayCommit g q s n → Ok (moved g q s (Committing n))
committing {g = g} {q = q} {s = s} ok is n = subst (λ s. MayCommit g q s n → Ok (moved g q s (Committing n))) is (λ m. ok_beside (committing_group g q n) (book_after g.book g.committed (g.server q) (Committing n)) g.answered (commit_kept g ok q n m))

at_at : {A : Type 0} (f : Place → A) (q : Place) (a b : A) (x : Place) → at (at f q a) q b x ≡ at f q b x
at_at f Zero a b Zero = refl
at_at f Zero a b One = refl
at_at f Zero a b Two = refl
at_at f One a b Zero = refl
at_at f One a b One = refl
at_at f One a b Two = refl
at_at f Two a b Zero = refl
at_at f Two a b One = refl
at_at f Two a b Two = refl

-- a server that changes twice
pub merge : (g : Group Entry) (f : Place → Server Entry) (q : Place) (a b : Server Entry) → Ok (record g { server = at (at f q a) q b }) → Ok (record g { server = at f q b })
merge g f q a b ok = record {
  server = λ x. subst (λ (s : Server _). ServerOk g.page g.joins g.committed (g.clock x) x s) (at_at f q a b x) (ok.server x);
  page = ok.page;
  pair = ok.pair;
  join = ok.join;
  packet = ok.packet;
  first_view = ok.first_view;
  late = ok.late;
  committed = ok.committed;
}

pub sending : {g : Group Entry} {q : Place} {s : Server Entry} → Good g q s → (to : Place) (m : Message Entry) → BodyOk g.page g.joins g.committed q to m → Ok (moved g q s (Sending to m))
sending {g = g} {q = q} {s = s} h to m b = send_kept g h.ok q s h.is to m b
