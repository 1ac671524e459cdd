-- The answers that stand in the lines of a server's moves.
use Rattle.std.proofs.Common.{◌≡◌, ℕ, ◌+◌, List, [], ◌∷◌, ◌++◌, append-nil, map, length, drop, Option, None, Some, refl, ap, ◌∙◌}
use Rattle.harp_types.specs.declared.reply.Reply.{Reply}
use Rattle.harp_types.specs.declared.state.StateLine.{StateLine}
use Rattle.trace_types.specs.declared.line.Line.{Line}
use Rattle.trace_types.specs.declared.line.Line.TheVariants as line
use Rattle.trace_types.specs.declared.step.Step.{Step}
use Rattle.file_tree.specs.Book.{Entry}
use Rattle.group_rules.specs.Moves.{Move}
use Rattle.group_rules.specs.Places.{Place}
use Rattle.group_rules.specs.Said.{Answer, Refusal, answers_said, refusals_said, sends_said}
use Rattle.group_rules.specs.State.{Group, Message}
use Rattle.group_rules.proofs.Tests.{by_if}
use Rattle.group_trace.specs.Lines.{answered_line, answered_lines, entered_lines, lines_of_moves, listing_of, packet_lines, refused_line, refused_lines, sent_lines, state_line, state_lines}
use Rattle.group_trace.specs.Run.{lines_where, moved_in, step_lines}
use Rattle.group_trace.specs.Scene.{Measures, Scene}
use Rattle.group_trace.specs.Shown.{same_shown, shown_of}
use Rattle.door_play.specs.Replies.{answers_in}
use Rattle.door_play.proofs.Scenes.{Turns}

pub answers-append : (ls more : List Line)
    → answers_in (ls ++ more) ≡ answers_in ls ++ answers_in more
unfolding answers_in
answers-append [] more = refl
answers-append (line.Answered server client number index reply ∷ ls) more =
    ap (λ (xs : List (ℕ × Reply)). (number, reply) ∷ xs) (answers-append ls more)
answers-append (l ∷ ls) more = answers-append ls more

-- lines without an answer, and then others
silent : (ls more : List Line) → answers_in ls ≡ [] → answers_in (ls ++ more) ≡ answers_in more
silent ls more e =
    answers-append ls more ∙ ap (λ (xs : List (ℕ × Reply)). xs ++ answers_in more) e

-- the answers of moves, each with its call's number
abbrev pub answered : Answer → ℕ × Reply
answered a = (a.entry.number, a.entry.reply)

abbrev pub said : List (Move Entry) → List (ℕ × Reply)
said ms = map answered (answers_said ms)

entered_silent : (n : ℕ) (es : List Entry) → answers_in (entered_lines n es) ≡ []
unfolding answers_in entered_lines
entered_silent n [] = refl
entered_silent n (e ∷ es) = entered_silent (n + 1) es

answered_said : (q : Place) (xs : List Answer)
    → answers_in (map (answered_line q) xs) ≡ map answered xs
unfolding answers_in
answered_said q [] = refl
answered_said q (x ∷ xs) = ap (λ (ys : List (ℕ × Reply)). answered x ∷ ys) (answered_said q xs)

refused_silent : (q : Place) (xs : List Refusal) → answers_in (map (refused_line q) xs) ≡ []
unfolding answers_in
refused_silent q [] = refl
refused_silent q (x ∷ xs) = refused_silent q xs

sent_silent : (n : ℕ) (q : Place) (xs : List (Place × Message Entry))
    → answers_in (packet_lines n q xs) ≡ []
unfolding answers_in packet_lines
sent_silent n q [] = refl
sent_silent n q (x ∷ xs) = sent_silent (n + 1) q xs

one_silent : (q : Place) (now : Option StateLine) → answers_in (state_line q now ∷ []) ≡ []
unfolding answers_in
one_silent q None = refl
one_silent q (Some state) = refl

state_silent : (q : Place) (before now : Option StateLine)
    → answers_in (state_lines q before now) ≡ []
unfolding answers_in
state_silent q before now = by_if (λ (ls : List Line). answers_in ls ≡ []) (same_shown before now)
    [] (state_line q now ∷ []) (λ _. refl) (λ _. one_silent q now)

none : answers_in [] ≡ []
unfolding answers_in
none = refl

moves_said : (g g' : Group Entry) (q : Place) (ms : List (Move Entry))
    → answers_in (lines_of_moves g g' q ms []) ≡ said ms
moves_said g g' q ms =
    let state = state_lines q (shown_of (g.server q)) (shown_of (g'.server q)) in
    let sent = sent_lines (length g.packets) q ms in
    let refused = refused_lines q ms in
    let new = drop (length g.book) g'.book in
    let behind : answers_in (refused ++ (sent ++ (state ++ []))) ≡ [] =
    silent refused _ (refused_silent q (refusals_said ms))
    ∙ silent sent _ (sent_silent (length g.packets) q (sends_said ms))
    ∙ silent state [] (state_silent q _ _) ∙ none in
    silent (entered_lines (length g.book) new) _ (entered_silent (length g.book) new)
    ∙ answers-append (answered_lines q ms) _
    ∙ ap (λ (xs : List (ℕ × Reply)). answers_in (answered_lines q ms) ++ xs) behind
    ∙ append-nil _ ∙ answered_said q (answers_said ms)

pub step_said : (m : Measures) (w : Scene) (s : Step) (q : Place) (ms : List (Move Entry))
    → Turns m w s q ms → answers_in (step_lines m w s) ≡ said ms
unfolding answers_in
step_said m w s q ms t =
    ap (λ (x : Option (Place × List (Move Entry))).
    answers_in (line.Event s ∷ lines_where w.group x (listing_of w.group s))) t.turn_is
    ∙ ap (λ (ls : List Line). answers_in (lines_of_moves w.group (moved_in w.group
    (q, ms)) q ms ls))
    t.no_listing
    ∙ moves_said w.group (moved_in w.group (q, ms)) q ms
