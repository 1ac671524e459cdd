-- How many lines a step has.
use Rattle.std.proofs.Common.{◌≡◌, ℕ, suc, ◌+◌, ◌*◌, ◌≤◌, true, List, [], ◌∷◌, ◌++◌, drop, length, take, Option, None, refl, ap, arith}
use Rattle.std.proofs.lemmas.List.{length-append, length-drop, length-map}
use Rattle.harp_types.specs.declared.state.StateLine.{StateLine}
use Rattle.trace_types.specs.declared.line.Line.{Line}
use Rattle.trace_types.specs.declared.line.Line.TheVariants as line
use Rattle.trace_types.specs.declared.step.Step.{Step}
use Rattle.trace_types.specs.declared.step.Step.TheVariants as step
use Rattle.file_tree.specs.Book.{Entry, tree_after}
use Rattle.file_tree.proofs.SoundLaws.{book_sound}
use Rattle.group_rules.specs.Disk.{settled_tests}
use Rattle.group_rules.specs.Moves.{Committing, Move, Opening, Reading, act, acts, book_after, moved, moved_by, new_entries}
use Rattle.group_rules.specs.Names.{id_of, place_of}
use Rattle.group_rules.specs.Places.{Zero, One, Two, Place, all_of}
use Rattle.group_rules.specs.Said.{refusals_said, sends_said}
use Rattle.group_rules.specs.State.{Group, Message, Packet, Server}
use Rattle.group_rules.specs.Step.{list_of}
use Rattle.group_rules.proofs.Tests.{by_if}
use Rattle.group_safety.specs.Laws.{Whole}
use Rattle.group_trace.specs.Lines.{answered_lines, entered_lines, lines_of_moves, listed_lines, listing_of, packet_lines, refused_line, refused_lines, sent_lines, state_line, state_lines}
use Rattle.group_trace.specs.Refusals.{own_refusal}
use Rattle.group_trace.specs.Run.{group_after, is_elementary, step_lines}
use Rattle.group_trace.specs.Scene.{Measures, Scene}
use Rattle.group_trace.specs.Shown.{same_shown, shown_of}
use Rattle.accept_laws.specs.Laws.{told}
use Rattle.accept_laws.proofs.Counts.{begun_asks, packets_are}
use Rattle.trace_laws.proofs.After.{moved_other, moved_server}
use Rattle.trace_laws.proofs.Turns.{take_step}
use Rattle.accept_laws.proofs.Answers.{kind_answers, pending}
use Rattle.accept_laws.proofs.ListingCounts.{tree_few}
use Rattle.accept_laws.proofs.Refusals.{made_refuses}

-- ---- the parts of a step's lines

entered_are : (es : List Entry) (n : ℕ) → length (entered_lines n es) ≡ length es
unfolding entered_lines
entered_are [] n = refl
entered_are (e ∷ es) n = ap suc (entered_are es (n + 1))

sent_are : (xs : List (Place × Message Entry)) (n : ℕ) (q : Place)
    → length (packet_lines n q xs) ≡ length xs
unfolding packet_lines
sent_are [] n q = refl
sent_are (x ∷ xs) n q = ap suc (sent_are xs (n + 1) q)

state_few : (q : Place) (before now : Option StateLine)
    → length (state_lines q before now) ≤ 1
state_few q before now =
    by_if (λ (ls : List Line). length ls ≤ 1) (same_shown before now) [] (state_line q now ∷ [])
    (λ _. omega arith) (λ _. omega arith)

listing_few : (g : Group Entry) (s : Step) → length (listing_of g s) ≤ 3145731 * told s
listing_few g (step.List server) =
    let q = place_of server in
    let es = take (g.server q).cp (list_of g q) in
    let few = tree_few (tree_after es) (book_sound es) in
    by_if (λ (ls : List Line). length ls ≤ 3145731 * 1) (all_of (settled_tests q (g.server q)))
    (listed_lines q (g.server q).cp (tree_after es)) (line.Unlisted (id_of q) ∷ [])
    (λ _. omega (arith, few)) (λ _. omega arith)
listing_few g s = omega arith

book_longer : (ms : List (Move Entry)) (g : Group Entry) (q : Place) (s : Server Entry)
    → length g.book ≤ length (moved_by g q s ms).book
book_longer [] g q s = omega arith
book_longer (m ∷ ms) g q s =
    let rest = book_longer ms (moved g q s m) q (act q (g.clock q) s m) in
    let first = one m in
    omega (arith, rest, first)
  where
    one : (m : Move Entry) → length g.book ≤ length (book_after g.book g.committed s m)
    one (Committing n) =
        let a = length-append g.book (new_entries g.committed s.base s.items n) in omega (arith, a)
    one (Opening lb) =
        let a = length-append g.book
        (new_entries g.committed s.base s.items (s.base + length s.items)) in omega (arith, a)
    one (Reading n e) = let a = length-append g.book (e ∷ []) in omega (arith, a)
    one m = omega arith

moves_few : (g : Group Entry) (q : Place) (ms : List (Move Entry)) (listing : List Line)
    → let g' = moved_by g q (g.server q) ms in
    length (lines_of_moves g g' q ms listing) + length g.packets + length g.book
    ≤ length g'.packets + length g'.book + length (answered_lines q ms)
    + length (refusals_said ms) + 1 + length listing
moves_few g q ms listing =
    let g' = moved_by g q (g.server q) ms in
    let es = drop (length g.book) g'.book in
    let n = length g.packets in
    let states = state_lines q (shown_of (g.server q)) (shown_of (g'.server q)) in
    let sent = sent_lines n q ms in
    let refused = refused_lines q ms in
    let answered = answered_lines q ms in
    let a = entered_are es (length g.book) in
    let b = length-drop (length g.book) g'.book in
    let c = book_longer ms g q (g.server q) in
    let d = sent_are (sends_said ms) n q in
    let e = packets_are ms g q (g.server q) in
    let f = state_few q (shown_of (g.server q)) (shown_of (g'.server q)) in
    let h = length-map (refusals_said ms) (refused_line q) in
    let i = length-append (entered_lines (length g.book) es)
    (answered ++ (refused ++ (sent ++ (states ++ listing)))) in
    let j = length-append answered (refused ++ (sent ++ (states ++ listing))) in
    let k = length-append refused (sent ++ (states ++ listing)) in
    let l = length-append sent (states ++ listing) in
    let o = length-append states listing in
    omega (arith, a, b, c, d, e, f, h, i, j, k, l, o)

-- ---- a step

-- the records of all logs that their leaders have not committed
unfoldable pub all_pending : Group Entry → ℕ
all_pending g = pending (g.server Zero) + pending (g.server One) + pending (g.server Two)

moved_pending : (ms : List (Move Entry)) (g : Group Entry) (q : Place)
    → all_pending (moved_by g q (g.server q) ms) + pending (g.server q)
    ≡ all_pending g + pending (acts q (g.clock q) (g.server q) ms)
unfolding all_pending
moved_pending ms g Zero =
    let a = ap pending (moved_server ms g Zero (g.server Zero) refl) in
    let b = ap pending (moved_other ms g Zero One (g.server Zero) (λ e. cc)) in
    let c = ap pending (moved_other ms g Zero Two (g.server Zero) (λ e. cc)) in
    omega (arith, a, b, c)
moved_pending ms g One =
    let a = ap pending (moved_server ms g One (g.server One) refl) in
    let b = ap pending (moved_other ms g One Zero (g.server One) (λ e. cc)) in
    let c = ap pending (moved_other ms g One Two (g.server One) (λ e. cc)) in
    omega (arith, a, b, c)
moved_pending ms g Two =
    let a = ap pending (moved_server ms g Two (g.server Two) refl) in
    let b = ap pending (moved_other ms g Two Zero (g.server Two) (λ e. cc)) in
    let c = ap pending (moved_other ms g Two One (g.server Two) (λ e. cc)) in
    omega (arith, a, b, c)

same_pending : (g g' : Group Entry) → g'.server ≡ g.server → all_pending g' ≡ all_pending g
unfolding all_pending
same_pending g g' e =
    ap (λ (f : Place → Server Entry). pending (f Zero) + pending (f One) + pending (f Two)) e

pub step_few : (m : Measures) (w : Scene) → Whole w.group → (s : Step)
    → own_refusal m w.group s ≡ None → is_elementary s ≡ true
    → let g' = group_after m w s in
    length (step_lines m w s) + length w.group.packets + length w.group.book + all_pending g'
    ≤ length g'.packets + length g'.book + all_pending w.group + 2 + 3145733 * told s
step_few m w h s r e =
    let g = w.group in
    let all = take_step (λ g' ls. length ls + length g.packets + length g.book + all_pending g'
    ≤ length g'.packets + length g'.book + all_pending g + 1 + 3145733 * told s) m w h s r e
    (λ g' k same.
    let a = ap (λ (ps : List (Packet Entry)). length ps) same.packets in
    let b = ap (λ (es : List Entry). length es) same.book in
    let c = same_pending g g' same.server in
    omega (arith, a, b, c))
    (λ q i ms t.
    let lines = moves_few g q ms (listing_of g s) in
    let answers = kind_answers g q (g.server q) i ms t.kind t.goes in
    let refused = made_refuses g q i ms t.made in
    let asked = begun_asks g s q i t.begun in
    let listed = listing_few g s in
    let held = moved_pending ms g q in
    omega (arith, lines, answers, refused, asked, listed, held)) in
    omega (arith, all)
