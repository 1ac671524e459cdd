-- What a whole step answers is the book's.
use Rattle.std.proofs.Common.{◌≡◌, ℕ, Bool, true, false, List, [], ◌∷◌, ◌++◌, Contains, inl, inr, refl, sym, ap, ◌∙◌, subst, arith, ⊎_elim}
use Rattle.std.specs.Prelude.{MatchBool}
use Rattle.std.proofs.lemmas.List.Elements.{Contains-append_cases, Contains-push_cases}
use Rattle.file_tree.specs.Book.{Entry}
use Rattle.group_rules.specs.Moves.{Move, Reading, Saying, moved_by}
use Rattle.group_rules.specs.Places.{Place}
use Rattle.group_rules.specs.Said.{Answer, answers_said, reads_said}
use Rattle.group_rules.specs.State.{Answers, Group, Lists, Refuses, Server}
use Rattle.group_rules.specs.Step.{Input as Begins}
use Rattle.group_safety.specs.Laws.{Whole}
use Rattle.group_safety.specs.Words.{In}
use Rattle.harp_types.specs.Update.{is_update}
use Rattle.harp_types.specs.declared.peer.Peer.{Peer}
use Rattle.node_outputs.specs.Said.{answered, in_turn}
use Rattle.node_outputs.specs.declared.outputs.Answered.{Answered}
use Rattle.trace_laws.proofs.Answering.{AreReadless, AreSilent, Answering, IsInBook, answered_in_book, given, milds_silent, reading, updating}
use Rattle.trace_laws.proofs.MoveKinds.{AreTail, tails_mild}
use Rattle.running_laws.specs.Books.{IsOfBook}
use Rattle.running_laws.specs.Events.{Event}
use Rattle.running_laws.proofs.Owed.{AreOwed, IsFor, IsOwed, Owes}

-- ---- an answer by itself

-- that of an update of the book
of_update : (es : List Event) (old new : List Entry) (x : Answer) (p : Peer) → x.reads ≡ false
    → IsOwed es x p → IsInBook new x.index x.entry → IsOfBook old new es (answered p x)
of_update es old new x p updates owed b = record {
  entry = x.entry;
  client = refl;
  number = refl;
  reply = refl;
  cred = owed.cred;
  call = owed.call;
  asked = owed.was;
  place = subst (λ (u : Bool). MatchBool u
      ((is_update owed.call ≡ true) × Contains new x.entry × (x.entry.index ≡ x.index))
      ((owed.call ≡ x.entry.call) × (owed.cred ≡ x.entry.cred)
      × ((more : List Entry) × (new ≡ old ++ (more ++ x.entry ∷ []))))) (sym b.updates) (
        subst (λ (r : Bool). IsFor r x.entry owed.cred owed.call) updates owed.fits,
        b.stands,
        b.index,
      );
}

abbrev read_answer : ℕ → Entry → Answer
read_answer n e = record { index = n; entry = e; reads = true }

-- a read, as it is entered
abbrev as_read : Entry → Entry
as_read e = record e { index = 0; stamp = 0 }

of_read : (es : List Event) (old new : List Entry) (n : ℕ) (e : Entry) (p : Peer)
    → is_update e.call ≡ false → IsOwed es (read_answer n e) p
    → (more : List Entry) → new ≡ old ++ (more ++ as_read e ∷ [])
    → IsOfBook old new es (answered p (read_answer n e))
of_read es old new n e p reads owed more is = record {
  entry = as_read e;
  client = refl;
  number = refl;
  reply = refl;
  cred = owed.cred;
  call = owed.call;
  asked = owed.was;
  place = subst (λ (u : Bool). MatchBool u
      ((is_update owed.call ≡ true) × Contains new (as_read e) × (0 ≡ n))
      ((owed.call ≡ e.call) × (owed.cred ≡ e.cred)
      × ((more : List Entry) × (new ≡ old ++ (more ++ as_read e ∷ []))))) (sym reads)
      (owed.fits.0, owed.fits.1, (more, is));
}

-- ---- of moves

pub none_answered : (ms : List (Move Entry)) → AreSilent ms → answers_said ms ≡ []
none_answered [] h = refl
none_answered (Saying (Answers n e) ∷ ms) h = absurd h.0
none_answered (Reading n e ∷ ms) h = absurd h.0
none_answered (Saying (Refuses client number cause) ∷ ms) h = none_answered ms h.1
none_answered (Saying (Lists n) ∷ ms) h = none_answered ms h.1
none_answered (m ∷ ms) h = none_answered ms h.1

none_read : (ms : List (Move Entry)) → AreSilent ms → reads_said ms ≡ []
none_read [] h = refl
none_read (Saying (Answers n e) ∷ ms) h = absurd h.0
none_read (Reading n e ∷ ms) h = absurd h.0
none_read (m ∷ ms) h = none_read ms h.1

-- what moves without a read answer are updates
said_so : (ms : List (Move Entry)) (x : Answer) → AreReadless ms → In (answers_said ms) x
    → (x.reads ≡ false) × In ms (Saying (Answers x.index x.entry))
said_so [] x h i = absurd i
said_so (Saying (Answers n e) ∷ ms) x h (inl same) =
    let updates : false ≡ x.reads = ap (λ (y : Answer). y.reads) same in
    let says : Saying (Answers n e) ≡ Saying (Answers x.index x.entry) =
    ap (λ (y : Answer). Saying (Answers y.index y.entry)) same in
    (sym updates, inl says)
said_so (Saying (Answers n e) ∷ ms) x h (inr i) =
    let rest = said_so ms x h.1 i in (rest.0, inr rest.1)
said_so (Reading n e ∷ ms) x h i = absurd h.0
said_so (Saying (Refuses client number cause) ∷ ms) x h i =
    let rest = said_so ms x h.1 i in (rest.0, inr rest.1)
said_so (Saying (Lists n) ∷ ms) x h i =
    let rest = said_so ms x h.1 i in (rest.0, inr rest.1)
said_so (m ∷ ms) x h i = let rest = said_so ms x h.1 i in (rest.0, inr rest.1)

-- of what a read's step answers
read_only : (n : ℕ) (e : Entry) (after : List (Move Entry)) (x : Answer) → AreTail after
    → In (answers_said (Reading n e ∷ after)) x → read_answer n e ≡ x
read_only n e after x t (inl same) = same
read_only n e after x t (inr i) = absurd (subst (λ (xs : List Answer). In xs x)
    (none_answered after (milds_silent after (tails_mild after t))) i)

answered_so : (es : List Event) (g : Group Entry) (q : Place) (s : Server Entry) (i : Begins)
    (ms : List (Move Entry)) → Answering (g.clock q) s i ms → Whole (moved_by g q s ms)
    → (new more : List Entry) → new ≡ (moved_by g q s ms).book
    → new ≡ g.book ++ (more ++ reads_said ms)
    → (x : Answer) (p : Peer) → In (answers_said ms) x → IsOwed es x p
    → IsOfBook g.book new es (answered p x)
answered_so es g q s i _ (reading e after o is u l t) w new more same grows x p among owed =
    let one : read_answer s.cp e ≡ x = read_only s.cp e after x t among in
    let reads : reads_said (Reading s.cp e ∷ after) ≡ as_read e ∷ [] =
    ap (λ (es : List Entry). as_read e ∷ es)
    (none_read after (milds_silent after (tails_mild after t))) in
    subst (λ (y : Answer). IsOfBook g.book new es (answered p y)) one
    (of_read es g.book new s.cp e p u
    (subst (λ (y : Answer). IsOwed es y p) (sym one) owed) more
    (grows ∙ ap (λ (es : List Entry). g.book ++ (more ++ es)) reads))
answered_so es g q s i _ (updating ms u) w new more same grows x p among owed =
    let said = said_so ms x u.readless among in
    let kept = given ms g q s x.index x.entry (u.views x.index x.entry said.1) said.1 in
    of_update es g.book new x p said.0 owed
    (subst (λ (es : List Entry). IsInBook es x.index x.entry) (sym same)
    (answered_in_book (moved_by g q s ms) w
    (record { view = s.accepted; index = x.index; entry = x.entry }) kept))

-- ---- who is answered, in turn

-- an answer that goes to a peer, to whom it is owed
record GoesTo (es : List Event) (xs : List Answer) (a : Answered) : Type 0 where
  answer : Answer
  peer : Peer
  is : answered peer answer ≡ a
  among : In xs answer
  owed : IsOwed es answer peer

goes_to : (es : List Event) (xs : List Answer) (peers : List Peer) (a : Answered)
    → AreOwed es xs peers → Contains (in_turn answered xs peers) a → GoesTo es xs a
goes_to es [] peers a h c = absurd (omega (arith, c.1))
goes_to es (x ∷ xs) [] a h c = absurd (omega (arith, c.1))
goes_to es (x ∷ xs) (p ∷ peers) a h c = ⊎_elim
    (λ (one : Contains (answered p x ∷ []) a).
    ⊎_elim (λ (none : Contains [] a). absurd (omega (arith, none.1)))
    (λ (same : answered p x ≡ a).
    record { answer = x; peer = p; is = same; among = inl refl; owed = h.0 })
    (Contains-push_cases [] (answered p x) a one))
    (λ (later : Contains (in_turn answered xs peers) a).
    let rest = goes_to es xs peers a h.1 later in
    record {
      answer = rest.answer;
      peer = rest.peer;
      is = rest.is;
      among = inr rest.among;
      owed = rest.owed;
    })
    (Contains-append_cases (answered p x ∷ []) (in_turn answered xs peers) a c)

-- EACH ANSWER OF A STEP is the book's
pub answers_of_book : (es : List Event) (g : Group Entry) (q : Place) (s : Server Entry)
    (i : Begins) (ms : List (Move Entry)) → Answering (g.clock q) s i ms
    → Whole (moved_by g q s ms) → (new more : List Entry) → new ≡ (moved_by g q s ms).book
    → new ≡ g.book ++ (more ++ reads_said ms) → (peers : List Peer) → Owes es peers ms
    → (a : Answered) → Contains (in_turn answered (answers_said ms) peers) a
    → IsOfBook g.book new es a
answers_of_book es g q s i ms kind w new more same grows peers owes a c =
    let to = goes_to es (answers_said ms) peers a owes c in
    subst (IsOfBook g.book new es) to.is
    (answered_so es g q s i ms kind w new more same grows to.answer to.peer to.among to.owed)
