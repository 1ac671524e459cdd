-- What a whole step leaves of the facts amid it.
use Rattle.std.proofs.Common.{◌≡◌, ℕ, ◌+◌, ◌<◌, ◌≤◌, ◌⊎◌, true, List, [], ◌∷◌, ◌++◌, refl, sym, ap, ◌∙◌, subst, inl, inr, arith, ⊎_elim, max}
use Rattle.std.specs.List.{AllByRecursion}
use Rattle.std.proofs.lemmas.Bool.{cases_lt}
use Rattle.trace_claims.specs.Servers.{AckDelivered, PromiseDelivered}
use Rattle.trace_claims.specs.Trace.{Trace}
use Rattle.file_tree.specs.Book.{Entry}
use Rattle.group_rules.specs.Form.{role_of}
use Rattle.group_rules.specs.Moves.{Accepting, Basing, Choosing, Collecting, Committing, Heeding, Move, Noting, Opening, Sending, act, acts, moved, moved_by}
use Rattle.group_rules.specs.Names.{id_of, view_of}
use Rattle.group_rules.specs.Places.{Place, partner}
use Rattle.group_rules.specs.Replicate.{answers}
use Rattle.group_rules.specs.State.{Ack, Group, Open, Plan, Server}
use Rattle.group_rules.specs.Step.{Comes, Input}
use Rattle.group_safety.proofs.Moving.{Goes}
use Rattle.trace_laws.proofs.After.{acts_both, moved_clock, moves_both}
use Rattle.trace_laws.proofs.Amid.{AllShown, Amid, IsApart, KeepsPlace, SomeShown, Untold, all_moved, all_some, amid_moves, goes_later, goes_now, some_accepts, some_heeds, some_then, apart_no_more}
use Rattle.trace_laws.proofs.MoveKinds.{AreMild, AreTail, IsMild, IsTail, Kind, Plain, accepts, appends, commits, IsFront, AreFront, each-append, fronts_mild, heeds, mild, notes, plain, reads, repeats, tails_mild}

-- ---- what moves tell

mild_untold : (q : Place) (m : Move Entry) → IsMild m → Untold q m
mild_untold q (Accepting plan role n) h = absurd h
mild_untold q (Noting t lb until) h = absurd h
mild_untold q (Committing n) h = absurd h
mild_untold q m h = (tt, tt)

milds_untold : (q : Place) (ms : List (Move Entry)) → AreMild ms → AllByRecursion (Untold q) ms
milds_untold q [] h = tt
milds_untold q (m ∷ ms) h = (mild_untold q m h.0, milds_untold q ms h.1)

answers_untold : (q : Place) (n : ℕ) (es : List Entry) → AllByRecursion (Untold q) (answers n es)
answers_untold q n [] = tt
answers_untold q n (e ∷ es) = ((tt, tt), answers_untold q (n + 1) es)

plain_untold : (q : Place) (ms : List (Move Entry)) → Plain q ms → AllByRecursion (Untold q) ms
plain_untold q _ (mild ms h) = milds_untold q ms h
plain_untold q _ (accepts plan n before after h t) =
    each-append (Untold q) before (Accepting plan (role_of plan.storers q) n ∷ after)
    (milds_untold q before (fronts_mild before h)) (
      (refl, tt),
      milds_untold q after (tails_mild after t),
    )
plain_untold q _ (heeds items cp base after t) = (
  (tt, tt),
  milds_untold q after (tails_mild after t),
)

-- what the Ack that came tells
pub record AckCame (b : Trace) (q : Place) (s : Server Entry) (t until : ℕ) : Type 0 where
  pub acked : (n : ℕ) → n ≤ t → AckDelivered b (id_of (partner s.plan.storers)) (id_of q)
      (view_of s.accepted) n
  pub promised : (n : ℕ) → n < until → PromiseDelivered b (id_of (partner s.plan.storers))
      (id_of q) (view_of s.accepted) n

abbrev pub AcksCame : Trace → Place → Server Entry → Input → Type 0
AcksCame b q s i = s.mode ≡ Open → (from : Place) (t lb until : ℕ)
    → i ≡ Comes from (Ack s.accepted t lb until) → AckCame b q s t until

noted : (b : Trace) (g : Group Entry) (q : Place) (s : Server Entry) (t lb until : ℕ)
    → s.mode ≡ Open → AckCame b q s t until → Amid b s g q s
    → Amid b s (moved g q s (Noting t lb until)) q (act q (g.clock q) s (Noting t lb until))
noted b g q s t lb until o a h = record {
  role = record { known = h.role.known };
  told = record {
    acked = h.told.acked;
    granted = λ o n l. ⊎_elim (λ x. h.told.granted o n x) (λ x. a.promised n x)
        (either_below n s.grant until l);
  };
  first = record { opened = λ o. inl (o, refl) };
}
  where
    either_below : (n x y : ℕ) → n < max x y → (n < x) ⊎ (n < y)
    either_below n x y l = ⊎_elim (λ (z : y < x). inl (omega arith))
        (λ (z : x ≤ y). inr (omega arith)) (cases_lt y x)

committed : (b : Trace) (g : Group Entry) (q : Place) (s s' : Server Entry) (t until : ℕ)
    → s.mode ≡ Open → s'.mode ≡ s.mode → s'.accepted ≡ s.accepted → s'.plan ≡ s.plan
    → AckCame b q s t until → Amid b s g q s'
    → Amid b s (moved g q s' (Committing t)) q (act q (g.clock q) s' (Committing t))
committed b g q s s' t until o m v p a h = record {
  role = record { known = h.role.known };
  told = record {
    acked = λ o n l. inr (subst (λ x. AckDelivered b (id_of (partner s'.plan.storers)) (id_of q)
        (view_of x) n) (sym v)
        (subst (λ (x : Plan). AckDelivered b (id_of (partner x.storers)) (id_of q)
        (view_of s.accepted) n) (sym p) (a.acked n l)));
    granted = h.told.granted;
  };
  first = record { opened = λ _. inl (o, sym v) };
}

-- the server after a step of a kind
pub kind_amid : (b : Trace) (g : Group Entry) (q : Place) (s : Server Entry) (i : Input)
    (ms : List (Move Entry)) → Kind q (g.clock q) s i ms → Goes g q s ms → AcksCame b q s i
    → Amid b s g q s
    → Amid b s (moved_by g q s ms) q (acts q (g.clock q) s ms)
kind_amid b g q s i ms (plain _ p) k a h = amid_moves ms b s g q s k (plain_untold q ms p) h
kind_amid b g q s i ms (appends e after o is u t) k a h = amid_moves ms b s g q s k (
  (tt, tt),
  milds_untold q after (tails_mild after t),
) h
kind_amid b g q s i ms (reads e after o is u l t) k a h = amid_moves ms b s g q s k (
  (tt, tt),
  milds_untold q after (tails_mild after t),
) h
kind_amid b g q s i ms (repeats index e client number cred call after o is u l t) k a h =
    amid_moves ms b s g q s k ((tt, tt), milds_untold q after (tails_mild after t)) h
kind_amid b g q s i ms (notes from t lb until after o is tail) k a h =
    amid_moves after b s (moved g q s (Noting t lb until)) q
    (act q (g.clock q) s (Noting t lb until)) (goes_later (Noting t lb until) after g q s k)
    (milds_untold q after (tails_mild after tail))
    (noted b g q s t lb until o (a o from t lb until is) h)
kind_amid b g q s i ms (commits from t lb until es after o is lt few tail) k a h =
    let rest = answers s.cp es ++ after in
    let g1 = moved g q s (Noting t lb until) in
    let s1 = act q (g.clock q) s (Noting t lb until) in
    let g2 = moved g1 q s1 (Committing t) in
    let s2 = act q (g.clock q) s1 (Committing t) in
    let k1 = goes_later (Noting t lb until) (Committing t ∷ rest) g q s k in
    let k2 = goes_later (Committing t) rest g1 q s1 k1 in
    let came = a o from t lb until is in
    amid_moves rest b s g2 q s2 k2 (each-append (Untold q) (answers s.cp es) after
    (answers_untold q s.cp es) (milds_untold q after (tails_mild after tail)))
    (committed b g1 q s s1 t until o refl refl refl came (noted b g q s t lb until o came h))

-- ---- what partners have shown

mild_apart : (m : Move Entry) → IsMild m → IsApart m
mild_apart (Accepting plan role n) h = absurd h
mild_apart (Heeding items cp base) h = absurd h
mild_apart m h = tt

milds_apart : (ms : List (Move Entry)) → AreMild ms → AllByRecursion IsApart ms
milds_apart [] h = tt
milds_apart (m ∷ ms) h = (mild_apart m h.0, milds_apart ms h.1)

answers_apart : (n : ℕ) (es : List Entry) → AllByRecursion IsApart (answers n es)
answers_apart n [] = tt
answers_apart n (e ∷ es) = (tt, answers_apart (n + 1) es)

tail_keeps : (q : Place) (clock : ℕ) (s : Server Entry) (m : Move Entry) → IsTail m
    → KeepsPlace s (act q clock s m)
tail_keeps q clock s (Sending to m) h = record { accepted = refl; held = refl; up = refl }
tail_keeps q clock s (Basing n) h = record { accepted = refl; held = refl; up = refl }
tail_keeps q clock s (Opening lb) h = record { accepted = refl; held = refl; up = refl }
tail_keeps q clock s m h = absurd h

some_tails : (ms : List (Move Entry)) (b : Trace) (g : Group Entry) (q : Place) (s : Server Entry)
    → AreTail ms → SomeShown b g.page q s
    → SomeShown b (moved_by g q s ms).page q (acts q (g.clock q) s ms)
some_tails [] b g q s t h = h
some_tails (m ∷ ms) b g q s t h = some_tails ms b (moved g q s m) q (act q (g.clock q) s m) t.1
    (some_then b g.page (moved g q s m).page q s (act q (g.clock q) s m)
    (apart_no_more g q s m (mild_apart m (tails_mild (m ∷ []) (t.0, tt)).0))
    (tail_keeps q (g.clock q) s m t.0) h)

pub apart_some : (ms : List (Move Entry)) (b : Trace) (g : Group Entry) (q : Place)
    (s : Server Entry) → AllByRecursion IsApart ms → AllShown b g.page
    → SomeShown b (moved_by g q s ms).page q (acts q (g.clock q) s ms)
apart_some ms b g q s a h = all_some b (moved_by g q s ms).page q _ (all_moved ms b g q s a h)

front_up : (q : Place) (clock : ℕ) (s : Server Entry) (ms : List (Move Entry)) → AreFront ms
    → (acts q clock s ms).up ≡ s.up
front_up q clock s [] f = refl
front_up q clock s (m ∷ ms) f = front_up q clock (act q clock s m) ms f.1 ∙ one m f.0
  where
    one : (m : Move Entry) → IsFront m → (act q clock s m).up ≡ s.up
    one (Collecting reports) f = refl
    one (Choosing plan from) f = refl
    one (Sending to m) f = refl
    one m f = absurd f

pub plain_some : (b : Trace) (g : Group Entry) (q : Place) (s : Server Entry)
    (ms : List (Move Entry)) → Plain q ms → s.up ≡ true → Goes g q s ms → AllShown b g.page
    → SomeShown b (moved_by g q s ms).page q (acts q (g.clock q) s ms)
plain_some b g q s _ (mild ms m) up k h = apart_some ms b g q s (milds_apart ms m) h
plain_some b g q s _ (accepts plan n before after m t) up k h =
    let g1 = moved_by g q s before in
    let s1 = acts q (g.clock q) s before in
    let move = Accepting plan (role_of plan.storers q) n in
    let first = some_accepts b g1 q s1 plan n (front_up q (g.clock q) s before m
    ∙ up) (all_moved before b g q s (milds_apart before (fronts_mild before m)) h) in
    let last = some_tails after b (moved g1 q s1 move) q (act q (g1.clock q) s1 move) t first in
    let same_clock : g1.clock ≡ g.clock = moved_clock before g q s in
    let server : acts q (g1.clock q) s1 (move ∷ after) ≡ acts q (g.clock q) s (before ++ move
    ∷ after) =
    ap (λ (c : Place → ℕ). acts q (c q) s1 (move ∷ after)) same_clock
    ∙ sym (acts_both q (g.clock q) before (move ∷ after) s) in
    subst (λ s'. SomeShown b (moved_by g q s (before ++ move ∷ after)).page q s') server
    (subst (λ (x : Group Entry). SomeShown b x.page q (acts q (g1.clock q) s1 (move ∷ after)))
    (sym (moves_both before (move ∷ after) g q s)) last)
plain_some b g q s _ (heeds items cp base after t) up k h =
    let move = Heeding items cp base in
    some_tails after b (moved g q s move) q (act q (g.clock q) s move) t
    (some_heeds b g q s items cp base up (goes_now after _ q _ (goes_later move after g q s k)) h)

pub kind_some : (b : Trace) (g : Group Entry) (q : Place) (s : Server Entry) (i : Input)
    (ms : List (Move Entry)) → Kind q (g.clock q) s i ms → s.up ≡ true → Goes g q s ms
    → AllShown b g.page
    → SomeShown b (moved_by g q s ms).page q (acts q (g.clock q) s ms)
kind_some b g q s i ms (plain _ p) up k h = plain_some b g q s ms p up k h
kind_some b g q s i ms (appends e after o is u t) up k h = apart_some ms b g q s (
  tt,
  milds_apart after (tails_mild after t),
) h
kind_some b g q s i ms (reads e after o is u l t) up k h = apart_some ms b g q s (
  tt,
  milds_apart after (tails_mild after t),
) h
kind_some b g q s i ms (repeats index e client number cred call after o is u l t) up k h =
    apart_some ms b g q s (tt, milds_apart after (tails_mild after t)) h
kind_some b g q s i ms (notes from t lb until after o is tail) up k h = apart_some ms b g q s (
  tt,
  milds_apart after (tails_mild after tail),
) h
kind_some b g q s i ms (commits from t lb until es after o is lt few tail) up k h =
    apart_some ms b g q s (
      tt,
      (
        tt,
        each-append IsApart (answers s.cp es) after (answers_apart s.cp es)
            (milds_apart after (tails_mild after tail)),
      ),
    ) h
