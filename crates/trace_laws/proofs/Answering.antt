-- What a step enters and answers: the read that it asks for, or updates of the book.
use Rattle.std.proofs.Common.{◌≡◌, ℕ, zero, suc, ◌+◌, ◌-◌, ◌<◌, ◌≤◌, ◌⊎◌, true, false, List, [], ◌∷◌, ◌++◌, append_assoc, append-nil, length, Some, refl, sym, ap, ◌∙◌, subst, inl, inr, arith, ⊎_elim, slice_get}
use Rattle.std.specs.Prelude.{Contains, ⊤}
use Rattle.std.specs.List.{AllByRecursion}
use Rattle.std.proofs.lemmas.Bool.{cases_Bool}
use Rattle.std.proofs.lemmas.List.Elements.{Contains-append_right}
use Rattle.harp_types.specs.declared.call.Call.{Call}
use Rattle.harp_types.specs.declared.cred.Cred.{Cred}
use Rattle.harp_types.specs.Update.{is_update}
use Rattle.trace_types.specs.declared.line.Line.{Line}
use Rattle.trace_types.specs.declared.line.Line.TheVariants as line
use Rattle.trace_claims.specs.Trace.{AtPlacesAfter, Trace}
use Rattle.file_tree.specs.Book.{Entry, updates}
use Rattle.group_rules.specs.Form.{role_of}
use Rattle.group_safety.specs.Laws.{Whole}
use Rattle.group_rules.specs.Moves.{Accepting, Appending, Basing, Committing, Move, Noting, Opening, Reading, Saying, Sending, act, moved, moved_by, new_entries}
use Rattle.group_rules.specs.Names.{id_of}
use Rattle.group_rules.specs.Places.{Place}
use Rattle.group_rules.specs.Replicate.{answers}
use Rattle.group_rules.specs.State.{Ack, Answered, Answers, Group, Lists, Open, Refuses, Server, Waits}
use Rattle.group_rules.specs.Step.{Ask, Comes, Does, Input}
use Rattle.group_safety.specs.Words.{In}
use Rattle.group_safety.proofs.Lawful.{answers_grow}
use Rattle.group_safety.proofs.Moving.{Goes}
use Rattle.group_safety.proofs.Repeats.{index_is}
use Rattle.group_trace.specs.Lines.{answered_lines}
use Rattle.trace_laws.proofs.Amid.{goes_later, goes_may}
use Rattle.trace_laws.proofs.LineParts.{AreSaid, AreStateless}
use Rattle.trace_laws.proofs.MoveKinds.{AreMild, AreTail, IsAsked, IsMild, IsTail, Kind, Plain, accepts, appends, commits, each-append, fronts_mild, heeds, mild, notes, plain, reads, repeats, tails_mild}

-- ---- which moves answer

-- a move that answers no read
abbrev pub IsReadless : Move Entry → Type 0
IsReadless (Reading n e) = ⊥
IsReadless m = ⊤

abbrev pub AreReadless : List (Move Entry) → Type 0
AreReadless ms = AllByRecursion IsReadless ms

-- a move that answers nothing
abbrev pub IsSilent : Move Entry → Type 0
IsSilent (Saying (Answers n e)) = ⊥
IsSilent (Reading n e) = ⊥
IsSilent m = ⊤

abbrev pub AreSilent : List (Move Entry) → Type 0
AreSilent ms = AllByRecursion IsSilent ms

-- a move that keeps the server's view
abbrev pub KeepsView : Move Entry → Type 0
KeepsView (Noting t lb until) = ⊤
KeepsView (Committing n) = ⊤
KeepsView (Saying say) = ⊤
KeepsView (Sending to m) = ⊤
KeepsView (Basing n) = ⊤
KeepsView (Opening lb) = ⊤
KeepsView m = ⊥

mild_silent : (m : Move Entry) → IsMild m → IsSilent m
mild_silent (Saying (Answers n e)) h = absurd h
mild_silent (Reading n e) h = absurd h
mild_silent m h = tt

pub milds_silent : (ms : List (Move Entry)) → AreMild ms → AreSilent ms
milds_silent [] h = tt
milds_silent (m ∷ ms) h = (mild_silent m h.0, milds_silent ms h.1)

silent_readless : (m : Move Entry) → IsSilent m → IsReadless m
silent_readless (Reading n e) h = absurd h
silent_readless m h = tt

pub silents_readless : (ms : List (Move Entry)) → AreSilent ms → AreReadless ms
silents_readless [] h = tt
silents_readless (m ∷ ms) h = (silent_readless m h.0, silents_readless ms h.1)

silent_out : (ms : List (Move Entry)) → AreSilent ms → (n : ℕ) (e : Entry)
    → In ms (Saying (Answers n e)) → ⊥
silent_out [] h n e i = i
silent_out (m ∷ ms) h n e (inl same) = subst IsSilent same h.0
silent_out (m ∷ ms) h n e (inr i) = silent_out ms h.1 n e i

tail_view : (m : Move Entry) → IsTail m → KeepsView m
tail_view (Sending to m) h = tt
tail_view (Basing n) h = tt
tail_view (Opening lb) h = tt
tail_view m h = absurd h

tails_view : (ms : List (Move Entry)) → AreTail ms → AllByRecursion KeepsView ms
tails_view [] h = tt
tails_view (m ∷ ms) h = (tail_view m h.0, tails_view ms h.1)

answers_view : (n : ℕ) (es : List Entry) → AllByRecursion KeepsView (answers n es)
answers_view n [] = tt
answers_view n (e ∷ es) = (tt, answers_view (n + 1) es)

answers_readless : (n : ℕ) (es : List Entry) → AreReadless (answers n es)
answers_readless n [] = tt
answers_readless n (e ∷ es) = (tt, answers_readless (n + 1) es)

-- an Ack of the server's view with a top of at least n
pub record AckUpTo (s : Server Entry) (i : Input) (n : ℕ) : Type 0 where
  pub from : Place
  pub top : ℕ
  pub lb : ℕ
  pub until : ℕ
  pub is : i ≡ Comes from (Ack s.accepted top lb until)
  pub within : n ≤ top

-- an update that an open leader answers: it was committed before, or by the Ack that comes
pub record AnswersNow (s : Server Entry) (i : Input) (n : ℕ) : Type 0 where
  pub open' : s.mode ≡ Open
  pub reach : (n ≤ s.cp) ⊎ AckUpTo s i n
  pub asks : (client number : ℕ) (cred : Cred) (call : Call)
      → i ≡ Does (Ask client number cred call) → is_update call ≡ true

-- the step answers updates alone
pub record AnswersUpdates (s : Server Entry) (i : Input) (ms : List (Move Entry)) : Type 0 where
  pub readless : AreReadless ms
  pub each : (n : ℕ) (e : Entry) → In ms (Saying (Answers n e)) → AnswersNow s i n
  pub views : (n : ℕ) (e : Entry) → In ms (Saying (Answers n e)) → AllByRecursion KeepsView ms

-- the step reads, or answers updates alone
pub data Answering (clock : ℕ) (s : Server Entry) (i : Input) : List (Move Entry) → Type 0 where
  reading : (e : Entry) (after : List (Move Entry)) → s.mode ≡ Open → IsAsked i e
      → is_update e.call ≡ false → clock < s.grant → AreTail after
      → Answering clock s i (Reading s.cp e ∷ after)
  updating : (ms : List (Move Entry)) → AnswersUpdates s i ms → Answering clock s i ms

silent : (clock : ℕ) (s : Server Entry) (i : Input) (ms : List (Move Entry)) → AreSilent ms
    → Answering clock s i ms
silent clock s i ms h = updating ms (record {
  readless = silents_readless ms h;
  each = λ n e x. absurd (silent_out ms h n e x);
  views = λ n e x. absurd (silent_out ms h n e x);
})

-- an answer among those of a list of entries
pub answers_in : (c : ℕ) (es : List Entry) (n : ℕ) (e : Entry)
    → In (answers c es) (Saying (Answers n e)) → n ≤ c + length es
answers_in c [] n e i = absurd i
answers_in c (x ∷ es) n e (inl same) =
    let z : c + 1 ≡ n = cc in
    omega arith
answers_in c (x ∷ es) n e (inr i) = let l = answers_in (c + 1) es n e i in omega arith

in_parts : (xs ys : List (Move Entry)) (m : Move Entry) → In (xs ++ ys) m → In xs m ⊎ In ys m
in_parts [] ys m i = inr i
in_parts (x ∷ xs) ys m (inl same) = inl (inl same)
in_parts (x ∷ xs) ys m (inr i) = ⊎_elim (λ a. inl (inr a)) (λ b. inr b) (in_parts xs ys m i)

plain_silent : (q : Place) (ms : List (Move Entry)) → Plain q ms → AreSilent ms
plain_silent q _ (mild ms h) = milds_silent ms h
plain_silent q _ (accepts plan n before after f t) =
    each-append IsSilent before (Accepting plan (role_of plan.storers q) n ∷ after)
    (milds_silent before (fronts_mild before f)) (tt, milds_silent after (tails_mild after t))
plain_silent q _ (heeds items cp base after t) = (tt, milds_silent after (tails_mild after t))

pub kind_answers : (q : Place) (clock : ℕ) (s : Server Entry) (i : Input) (ms : List (Move Entry))
    → Kind q clock s i ms → Answering clock s i ms
kind_answers q clock s i _ (plain ms p) = silent clock s i ms (plain_silent q ms p)
kind_answers q clock s i _ (appends e after o is u t) = silent clock s i (Appending e ∷ after) (
  tt,
  milds_silent after (tails_mild after t),
)
kind_answers q clock s i _ (reads e after o is u l t) = reading e after o is u l t
kind_answers q clock s i _ (repeats index e client number cred call after o is u l t) =
    updating (Saying (Answers index e) ∷ after) (record {
      readless = (tt, silents_readless after (milds_silent after (tails_mild after t)));
      each = λ n x j. record {
        open' = o;
        reach = inl (⊎_elim (λ (same : Saying (Answers index e) ≡ Saying (Answers n x)). let z :
            index
            ≡ n = cc in subst (λ k. k ≤ s.cp) z l)
            (λ rest. absurd (silent_out after (milds_silent after (tails_mild after t)) n x rest))
            j);
        asks = λ c m d k same.
            let both : Does (Ask client number cred call) ≡ Does (Ask c m d k) = sym is ∙ same in
            let one : call ≡ k = cc in
            subst (λ k. is_update k ≡ true) one u;
      };
      views = λ n x j. (tt, tails_view after t);
    })
kind_answers q clock s i _ (notes from t lb until after o is tail) =
    silent clock s i (Noting t lb until ∷ after) (tt, milds_silent after (tails_mild after tail))
kind_answers q clock s i _ (commits from t lb until es after o is lt few tail) =
    updating (Noting t lb until ∷ Committing t ∷ (answers s.cp es ++ after)) (record {
      readless = (
        tt,
        (
          tt,
          each-append IsReadless (answers s.cp es) after (answers_readless s.cp es)
              (silents_readless after (milds_silent after (tails_mild after tail))),
        ),
      );
      each = λ n x j. record {
        open' = o;
        reach = inr (record {
          from = from;
          top = t;
          lb = lb;
          until = until;
          is = is;
          within =
              within n x j;
        });
        asks = λ c m d k same. absurd (let clash : Does (Ask c m d k) ≡
            Comes from (Ack s.accepted t lb until) = sym same ∙ is in cc);
      };
      views = λ n x j. (
        tt,
        (
          tt,
          each-append KeepsView (answers s.cp es) after (answers_view s.cp es)
              (tails_view after tail),
        ),
      );
    })
  where
    within : (n : ℕ) (x : Entry)
        → In (Noting t lb until ∷ Committing t ∷ (answers s.cp es ++ after)) (Saying (Answers n x))
        → n ≤ t
    within n x (inl same) = absurd cc
    within n x (inr (inl same)) = absurd cc
    within n x (inr (inr j)) = ⊎_elim
        (λ a. let l = answers_in s.cp es n x a in omega arith)
        (λ b. absurd (silent_out after (milds_silent after (tails_mild after tail)) n x b))
        (in_parts (answers s.cp es) after (Saying (Answers n x)) j)

-- ---- answered lines at their places

-- a law of answered lines that said lines before them don't touch
pub answered_places : (P : Trace → Line → Type 0) (q : Place) (ms : List (Move Entry))
    (before : Trace) → AreReadless ms
    → ((n : ℕ) (e : Entry) → In ms (Saying (Answers n e)) → (more : Trace) → AreSaid more
    → AreStateless more
    → P (before ++ more) (line.Answered (id_of q) e.client e.number n e.reply))
    → AtPlacesAfter P before (answered_lines q ms)
answered_places P q [] before r each = tt
answered_places P q (Saying (Answers n e) ∷ ms) before r each =
    let l = line.Answered (id_of q) e.client e.number n e.reply in (
      subst (λ b. P b l) (append-nil before) (each n e (inl refl) [] tt tt),
      answered_places P q ms (before ++ l ∷ []) r.1 (λ m x i more s t. subst
          (λ b. P b (line.Answered (id_of q) x.client x.number m x.reply))
          (sym (append_assoc before (l ∷ []) more)) (each m x (inr i) (l ∷ more) (tt, s) (tt, t))),
    )
answered_places P q (Reading n e ∷ ms) before r each = absurd r.0
answered_places P q (Saying (Refuses client number cause) ∷ ms) before r each =
    answered_places P q ms before r.1 (λ n e i. each n e (inr i))
answered_places P q (Saying (Lists n) ∷ ms) before r each = answered_places P q ms before r.1
    (λ n e i. each n e (inr i))
answered_places P q (m ∷ ms) before r each = answered_places P q ms before r.1
    (λ n e i. each n e (inr i))

pub silent_answers : (q : Place) (ms : List (Move Entry)) → AreSilent ms → answered_lines q ms ≡ []
silent_answers q [] h = refl
silent_answers q (Saying (Answers n e) ∷ ms) h = absurd h.0
silent_answers q (Reading n e ∷ ms) h = absurd h.0
silent_answers q (Saying (Refuses client number cause) ∷ ms) h = silent_answers q ms h.1
silent_answers q (Saying (Lists n) ∷ ms) h = silent_answers q ms h.1
silent_answers q (m ∷ ms) h = silent_answers q ms h.1

-- ---- what is answered stands in the book

in_back' : (xs ys : List (Answered Entry)) (a : Answered Entry) → In ys a → In (xs ++ ys) a
in_back' [] ys a h = h
in_back' (x ∷ xs) ys a h = inr (in_back' xs ys a h)

view_kept : (q : Place) (clock : ℕ) (s : Server Entry) (m : Move Entry) → KeepsView m
    → (act q clock s m).accepted ≡ s.accepted
view_kept q clock s (Noting t lb until) h = refl
view_kept q clock s (Committing n) h = refl
view_kept q clock s (Saying say) h = refl
view_kept q clock s (Sending to m) h = refl
view_kept q clock s (Basing n) h = refl
view_kept q clock s (Opening lb) h = refl
view_kept q clock s m h = absurd h

-- an answer among the moves is among the answers that were given, in the server's view
pub given : (ms : List (Move Entry)) (g : Group Entry) (q : Place) (s : Server Entry) (n : ℕ)
    (e : Entry) → AllByRecursion KeepsView ms → In ms (Saying (Answers n e))
    → In (moved_by g q s ms).answered (record { view = s.accepted; index = n; entry = e })
given [] g q s n e k i = absurd i
given (m ∷ ms) g q s n e k (inr i) =
    subst (λ v. In (moved_by g q s (m ∷ ms)).answered (record { view = v; index = n; entry = e }))
    (view_kept q (g.clock q) s m k.0) (given ms (moved g q s m) q
    (act q (g.clock q) s m) n e k.1 i)
given (m ∷ ms) g q s n e k (inl same) =
    subst (λ m. In (moved_by (moved g q s m) q (act q (g.clock q) s m) ms).answered
    (record { view = s.accepted; index = n; entry = e })) (sym same)
    (let new = answers_grow ms (moved g q s (Saying (Answers n e))) q
    (act q (g.clock q) s (Saying (Answers n e))) in
    subst (λ given. In given (record { view = s.accepted; index = n; entry = e })) (sym new.1)
    (in_back' new.0 _ _ (inl refl)))

-- an update of the book: it stands in it with its index
pub record IsInBook (book : List Entry) (n : ℕ) (e : Entry) : Type 0 where
  pub stands : Contains book e
  pub updates : is_update e.call ≡ true
  pub index : e.index ≡ n

one_first : (x : Entry) (xs : List Entry) (k : ℕ) (e : Entry) → is_update x.call ≡ true
    → ((j : ℕ) → slice_get (updates xs) j ≡ Some e → Contains xs e × (is_update e.call ≡ true))
    → slice_get (x ∷ updates xs) k ≡ Some e → Contains (x ∷ xs) e × (is_update e.call ≡ true)
one_first x xs zero e u rest h =
    let same : x ≡ e = cc in
    subst (λ y. Contains (x ∷ xs) y × (is_update y.call ≡ true)) same ((0, omega arith, refl), u)
one_first x xs (suc k) e u rest h = let r = rest k h in (
  Contains-append_right (x ∷ []) xs e r.0,
  r.1,
)

filtered : (xs : List Entry) (k : ℕ) (e : Entry) → slice_get (updates xs) k ≡ Some e
    → Contains xs e × (is_update e.call ≡ true)
filtered [] k e h = cc
filtered (x ∷ xs) k e h = elim (cases_Bool (is_update x.call)) [
  | inl u ↦
      let taken : updates (x ∷ xs) ≡ x ∷ updates xs = rw u refl in
      one_first x xs k e u (λ j. filtered xs j e) (sym (ap (λ ys. slice_get ys k) taken) ∙ h)
  | inr n ↦
      let left : updates (x ∷ xs) ≡ updates xs = rw n refl in
      let rest = filtered xs k e (sym (ap (λ ys. slice_get ys k) left) ∙ h) in
      (Contains-append_right (x ∷ []) xs e rest.0, rest.1)
]

-- each answer that was given is of an update of the book
pub answered_in_book : (g : Group Entry) → Whole g → (a : Answered Entry) → In g.answered a
    → IsInBook g.book a.index a.entry
answered_in_book g w a i =
    let k = w.answers.each a i in
    let at : slice_get (updates g.book) (a.index - 1) ≡ Some a.entry =
    ap (λ xs. slice_get xs (a.index - 1)) w.books.updates ∙ k.entry in
    let found = filtered g.book (a.index - 1) a.entry at in
    let low : a.index - 1 < a.index = omega (arith, k.positive) in
    let listed : slice_get (g.page a.view).list (a.index - 1) ≡ Some a.entry =
    k.sure.same (a.index - 1) low ∙ k.entry in
    let index = index_is (g.page a.view).list (a.index - 1) a.entry
    (w.books.list a.view k.formed) listed in
    record { stands = found.0; updates = found.1; index = omega (arith, index, k.positive) }

-- ---- what is entered

-- the entries by which moves without a read prolong the book are committed ones
pub enters : (ms : List (Move Entry)) (g : Group Entry) (q : Place) (s : Server Entry)
    → AreReadless ms
    → (es : List Entry) × ((moved_by g q s ms).book ≡ g.book ++ es)
    × ((moved_by g q s ms).committed ≡ g.committed ++ es)
enters [] g q s h = ([], sym (append-nil g.book), sym (append-nil g.committed))
enters (m ∷ ms) g q s h =
    let a = one m h.0 in
    let b = enters ms (moved g q s m) q (act q (g.clock q) s m) h.1 in (
      a.0 ++ b.0,
      b.1 ∙ ap (λ (l : List Entry). l ++ b.0) a.1 ∙ append_assoc g.book a.0 b.0,
      b.2 ∙ ap (λ (l : List Entry). l ++ b.0) a.2 ∙ append_assoc g.committed a.0 b.0,
    )
  where
    one : (m : Move Entry) → IsReadless m → (es : List Entry) × ((moved g q s m).book ≡ g.book
        ++ es) × ((moved g q s m).committed ≡ g.committed ++ es)
    one (Committing n) h = (new_entries g.committed s.base s.items n, refl, refl)
    one (Opening lb) h = (
      new_entries g.committed s.base s.items (s.base + length s.items),
      refl,
      refl,
    )
    one (Reading n e) h = absurd h
    one m h = ([], sym (append-nil g.book), sym (append-nil g.committed))

-- after a read nothing more is entered
pub tails_enter : (ms : List (Move Entry)) (g : Group Entry) (q : Place) (s : Server Entry)
    → AreTail ms → s.mode ≡ Open → Goes g q s ms
    → ((moved_by g q s ms).book ≡ g.book) × ((moved_by g q s ms).committed ≡ g.committed)
tails_enter [] g q s t o k = (refl, refl)
tails_enter (Sending to m ∷ ms) g q s t o k = tails_enter ms (moved g q s (Sending to m)) q s t.1 o
    (goes_later (Sending to m) ms g q s k)
tails_enter (Basing n ∷ ms) g q s t o k = tails_enter ms (moved g q s (Basing n)) q
    (act q (g.clock q) s (Basing n)) t.1 o (goes_later (Basing n) ms g q s k)
tails_enter (Opening lb ∷ ms) g q s t o k = absurd (let clash : Open ≡ Waits = sym o
    ∙ (goes_may (Opening lb) ms g q s k).0.0 in cc)
tails_enter (m ∷ ms) g q s t o k = absurd t.0

-- ---- lists of entries

pub in_at : (xs : List Entry) (k : ℕ) (e : Entry) → slice_get xs k ≡ Some e → In xs e
in_at [] k e h = cc
in_at (x ∷ xs) zero e h = inl (let y : x ≡ e = cc in y)
in_at (x ∷ xs) (suc k) e h = inr (in_at xs k e h)

at_in : (xs : List Entry) (e : Entry) → In xs e → (k : ℕ) × (k < length xs)
    × (slice_get xs k ≡ Some e)
at_in [] e h = absurd h
at_in (x ∷ xs) e (inl same) = (0, omega arith, ap Some same)
at_in (x ∷ xs) e (inr h) = let i = at_in xs e h in (suc i.0, omega (arith, i.1), i.2)

pub in_back : (xs ys : List Entry) (e : Entry) → In ys e → In (xs ++ ys) e
in_back [] ys e h = h
in_back (x ∷ xs) ys e h = inr (in_back xs ys e h)

-- what is committed stands in the list of a formed view
pub committed_listed : (g : Group Entry) → Whole g → (e : Entry) → In g.committed e
    → (v : ℕ) × In (g.page v).list e
committed_listed g w e i =
    let at = at_in g.committed e i in
    let c = w.ok.committed in
    (c.0, in_at (g.page c.0).list at.0 e (c.2.same at.0 at.1 ∙ at.2))
