-- How many packets and reads the moves of a step make.
use Rattle.std.proofs.Common.{◌≡◌, ℕ, zero, suc, ◌+◌, ◌≤◌, Bool, true, false, List, [], ◌∷◌, ◌++◌, length, refl, ap, subst, arith, if◌then◌else◌}
use Rattle.std.specs.List.{AllByRecursion, sum_by}
use Rattle.std.specs.Prelude.{⊤}
use Rattle.std.proofs.lemmas.List.{length-append}
use Rattle.std.proofs.lemmas.List.Sums.{sum_by-cons}
use Rattle.trace_types.specs.declared.step.Step.{Step}
use Rattle.trace_types.specs.declared.step.Step.TheVariants as step
use Rattle.file_tree.specs.Book.{Entry}
use Rattle.group_rules.specs.Form.{role_of}
use Rattle.group_rules.specs.Moves.{Accepting, Appending, Basing, Committing, Heeding, Move, Noting, Opening, Reading, Saying, Sending, act, book_after, committed_after, moved, moved_by, new_entries}
use Rattle.group_rules.specs.Open.{base_tests, rebase}
use Rattle.group_rules.specs.Places.{Place, all_of}
use Rattle.group_rules.specs.Replicate.{answers}
use Rattle.group_rules.specs.Said.{sends_said}
use Rattle.group_rules.specs.State.{Ack, Answers, Beat, Demote, Event, Fetch, Form, Formed, Give, Group, Invite, Join, Message, Server, top}
use Rattle.group_rules.specs.Step.{Apply, Ask, Comes, Crash, Deed, Does, Flush, Input, ListTree, Power, Suspect, Tick}
use Rattle.group_rules.proofs.Tests.{by_if}
use Rattle.group_trace.specs.Run.{bytes_of}
use Rattle.group_trace.specs.Scene.{Measures}
use Rattle.accept_laws.proofs.Weights.{weight}
use Rattle.trace_laws.proofs.MoveKinds.{IsAsked, IsFront, IsMild, IsTail, Kind, Plain, accepts, appends, commits, each-append, heeds, mild, notes, plain, reads, repeats}
use Rattle.trace_laws.proofs.Turns.{IsBegunBy, IsNoAsk, asked, came, other}
use Rattle.accept_laws.specs.Laws.{TakeBytes, told}

-- ---- packets

pub packets_are : (ms : List (Move Entry)) (g : Group Entry) (q : Place) (s : Server Entry)
    → length (moved_by g q s ms).packets ≡ length g.packets + length (sends_said ms)
packets_are [] g q s = omega arith
packets_are (Sending to m ∷ ms) g q s =
    let rest = packets_are ms (moved g q s (Sending to m)) q s in omega (arith, rest)
packets_are (m ∷ ms) g q s = packets_are ms (moved g q s m) q (act q (g.clock q) s m)

pub bytes_are : (m : Measures) → TakeBytes m → (list : List Entry) (ms : List (Move Entry))
    → length (sends_said ms) ≤ bytes_of m list ms
unfolding bytes_of
bytes_are m b list [] = omega arith
bytes_are m b list (Sending to message ∷ ms) =
    let rest = bytes_are m b list ms in
    let one = b list message in
    omega (arith, rest, one)
bytes_are m b list (move ∷ ms) = bytes_are m b list ms

weight_some : (m : Message Entry) → 1 ≤ weight m
weight_some (Invite v) = omega arith
weight_some (Join v t) = omega arith
weight_some (Form v plan) = omega arith
weight_some (Fetch v index) = omega arith
weight_some (Give v index items) = omega arith
weight_some (Formed v lb) = omega arith
weight_some (Event v index cp base e) = omega arith
weight_some (Beat v cp base) = omega arith
weight_some (Ack v t lb until) = omega arith
weight_some (Demote v) = omega arith

pub weighed : (xs : List (Place × Message Entry))
    → length xs ≤ sum_by (λ (p : Place × Message Entry). weight p.1) xs
weighed [] = omega arith
weighed (x ∷ xs) =
    let rest = weighed xs in
    let one = weight_some x.1 in
    let all = sum_by-cons (λ (p : Place × Message Entry). weight p.1) x xs in
    omega (arith, rest, one, all)

pub base_silent : (s : Server Entry) → length (sends_said (rebase s)) ≡ 0
base_silent s =
    by_if (λ (ms : List (Move Entry)). length (sends_said ms) ≡ 0) (all_of (base_tests s)) _ []
    (λ _. refl) (λ _. refl)

-- ---- reads

unfoldable pub readings : List (Move Entry) → ℕ
readings [] = 0
readings (Reading n e ∷ ms) = suc (readings ms)
readings (m ∷ ms) = readings ms

-- the book grows by what is committed, and by the reads
pub book_are : (ms : List (Move Entry)) (g : Group Entry) (q : Place) (s : Server Entry)
    → length (moved_by g q s ms).book + length g.committed ≡
    length g.book + length (moved_by g q s ms).committed + readings ms
unfolding readings
book_are [] g q s = omega arith
book_are (Committing n ∷ ms) g q s =
    let rest = book_are ms (moved g q s (Committing n)) q (act q (g.clock q) s (Committing n)) in
    let new = new_entries g.committed s.base s.items n in
    let a = length-append g.book new in
    let b = length-append g.committed new in
    omega (arith, rest, a, b)
book_are (Opening lb ∷ ms) g q s =
    let rest = book_are ms (moved g q s (Opening lb)) q (act q (g.clock q) s (Opening lb)) in
    let new = new_entries g.committed s.base s.items (s.base + length s.items) in
    let a = length-append g.book new in
    let b = length-append g.committed new in
    omega (arith, rest, a, b)
book_are (Reading n e ∷ ms) g q s =
    let rest = book_are ms (moved g q s (Reading n e)) q (act q (g.clock q) s (Reading n e)) in
    let a = length-append g.book (e ∷ []) in
    omega (arith, rest, a)
book_are (m ∷ ms) g q s = book_are ms (moved g q s m) q (act q (g.clock q) s m)

abbrev IsNoRead : Move Entry → Type 0
IsNoRead (Reading n e) = ⊥
IsNoRead m = ⊤

no_reads : (ms : List (Move Entry)) → AllByRecursion IsNoRead ms → readings ms ≡ 0
unfolding readings
no_reads [] h = refl
no_reads (Reading n e ∷ ms) h = absurd h.0
no_reads (m ∷ ms) h = no_reads ms h.1

each_of_kind : (P : Move Entry → Type 0) → ((m : Move Entry) → P m → IsNoRead m)
    → (ms : List (Move Entry)) → AllByRecursion P ms → AllByRecursion IsNoRead ms
each_of_kind P f [] h = tt
each_of_kind P f (m ∷ ms) h = (f m h.0, each_of_kind P f ms h.1)

tail_one : (m : Move Entry) → IsTail m → IsNoRead m
tail_one (Reading n e) h = absurd h
tail_one m h = tt

mild_one : (m : Move Entry) → IsMild m → IsNoRead m
mild_one (Reading n e) h = absurd h
mild_one m h = tt

front_one : (m : Move Entry) → IsFront m → IsNoRead m
front_one (Reading n e) h = absurd h
front_one m h = tt

tails : (ms : List (Move Entry)) → AllByRecursion IsTail ms → AllByRecursion IsNoRead ms
tails ms h = each_of_kind IsTail tail_one ms h

answers_none : (n : ℕ) (es : List Entry) → AllByRecursion IsNoRead (answers n es)
answers_none n [] = tt
answers_none n (e ∷ es) = (tt, answers_none (n + 1) es)

plain_none : (q : Place) (ms : List (Move Entry)) → Plain q ms → AllByRecursion IsNoRead ms
plain_none q _ (mild ms h) = each_of_kind IsMild mild_one ms h
plain_none q _ (accepts plan n before after f t) =
    each-append IsNoRead before (Accepting plan (role_of plan.storers q) n ∷ after)
    (each_of_kind IsFront front_one before f) (tt, tails after t)
plain_none q _ (heeds items cp base after t) = (tt, tails after t)

-- how many calls a step asks
abbrev pub asks : Input → ℕ
asks (Does (Ask client number cred call)) = 1
asks i = 0

from_none : (ms : List (Move Entry)) (k : ℕ) → AllByRecursion IsNoRead ms → readings ms ≤ k
from_none ms k h = let none = no_reads ms h in omega (arith, none)

pub kind_reads : (q : Place) (clock : ℕ) (s : Server Entry) (i : Input) (ms : List (Move Entry))
    → Kind q clock s i ms → readings ms ≤ asks i
unfolding readings
kind_reads q clock s i _ (plain ms p) = from_none ms (asks i) (plain_none q ms p)
kind_reads q clock s i _ (appends e after o a u t) =
    from_none (Appending e ∷ after) (asks i) (tt, tails after t)
kind_reads q clock s i _ (reads e after o a u l t) =
    let none = no_reads after (tails after t) in
    let one : asks i ≡ 1 = ap asks a in
    omega (arith, none, one)
kind_reads q clock s i _ (repeats index e client number cred call after o a u l t) =
    from_none (Saying (Answers index e) ∷ after) (asks i) (tt, tails after t)
kind_reads q clock s i _ (notes from t lb until after o a k) =
    from_none (Noting t lb until ∷ after) (asks i) (tt, tails after k)
kind_reads q clock s i _ (commits from t lb until es after o a l f k) =
    from_none (Noting t lb until ∷ Committing t ∷ (answers s.cp es ++ after)) (asks i) (
      tt,
      (
        tt,
        each-append IsNoRead (answers s.cp es) after (answers_none s.cp es) (tails after k),
      ),
    )

deed_asks : (d : Deed) → IsNoAsk d → asks (Does d) ≡ 0
deed_asks (Ask client number cred call) h = absurd h
deed_asks d h = refl

pub begun_asks : (g : Group Entry) (s : Step) (q : Place) (i : Input) → IsBegunBy g s q i
    → asks i ≤ told s
begun_asks g _ _ _ (asked server client number cred call) = omega arith
begun_asks g _ _ _ (came n p at) = omega arith
begun_asks g _ _ _ (other s q d o x) = let none = deed_asks d x in omega (arith, none)
