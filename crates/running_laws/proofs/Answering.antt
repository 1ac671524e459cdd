-- The answers among the lines of a step are those of its outputs.
use Rattle.std.proofs.Common.{◌≡◌, ℕ, ◌+◌, Bool, true, false, List, [], ◌∷◌, ◌++◌, append-nil, drop, length, filter, map, Option, None, Some, refl, ap, ◌∙◌, if◌then◌else◌}
use Rattle.std.proofs.lemmas.List.Elements.{filter-append}
use Rattle.file_tree.specs.Book.{Entry}
use Rattle.group_rules.specs.Names.{place_of}
use Rattle.group_rules.specs.Moves.{Move}
use Rattle.group_rules.specs.Places.{Place}
use Rattle.group_rules.specs.Said.{Answer, Refusal, answers_said, refusals_said, sends_said}
use Rattle.group_rules.specs.State.{Group, Message as Told}
use Rattle.group_trace.specs.Lines.{answered_line, entered_lines, lines_of_moves, packet_lines, refused_line, state_line, state_lines}
use Rattle.group_trace.specs.Shown.{message_shown, same_shown, shown_of}
use Rattle.harp_types.specs.declared.server.ServerId.{ServerId}
use Rattle.harp_types.specs.declared.state.StateLine.{StateLine}
use Rattle.node.specs.declared.input.Input.{Input}
use Rattle.node_outputs.specs.Messages.{heard}
use Rattle.node_outputs.specs.declared.outputs.Answered.{Answered}
use Rattle.node_outputs.specs.declared.outputs.Outputs.{Outputs}
use Rattle.node_outputs.specs.declared.outputs.Refused.{Refused}
use Rattle.node_outputs.specs.declared.outputs.Sent.{Sent}
use Rattle.trace_types.specs.declared.line.Line.{Line}
use Rattle.trace_types.specs.declared.line.Line.TheVariants as line
use Rattle.world.specs.World.{WorldValue}
use Rattle.world_lines.specs.Given.{answered_lines, packet_of, reads_in, refused_lines, sent_line, sent_lines, updates_in}
use Rattle.running_laws.specs.Events.{Site}
use Rattle.running_laws.specs.Statement.{is_answer}
use Rattle.running_laws.proofs.Takings.{IsTurn, lines_left, state_shown}

none_entered : (n : ℕ) (es : List Entry) → filter is_answer (entered_lines n es) ≡ []
unfolding entered_lines
none_entered n [] = refl
none_entered n (e ∷ es) = none_entered (n + 1) es

none_refused : (place : ServerId) (rs : List Refused)
    → filter is_answer (refused_lines place rs) ≡ []
none_refused place [] = refl
none_refused place (r ∷ rs) = none_refused place rs

all_answered : (place : ServerId) (answers : List Answered)
    → filter is_answer (answered_lines place answers) ≡ answered_lines place answers
all_answered place [] = refl
all_answered place (a ∷ rest) =
    ap (λ ls. answered_lines place (a ∷ []) ++ ls) (all_answered place rest)

none_in_sent : (from : ServerId) (n : ℕ) (s : Sent) → filter is_answer (sent_line from n s) ≡ []
none_in_sent from n s = by (heard s.message)
  where
    by : (o : Option (Told Entry)) → filter is_answer (elim o [
      | None ↦ []
      | Some m ↦ line.Sent n from s.to (message_shown m) ∷ []
    ]) ≡ []
    by None = refl
    by (Some m) = refl

none_sent : (from : ServerId) (n : ℕ) (sends : List Sent)
    → filter is_answer (sent_lines from n sends) ≡ []
unfolding sent_lines
none_sent from n [] = refl
none_sent from n (s ∷ sends) =
    let rest = sent_lines from (n + length (packet_of from s)) sends in
    filter-append is_answer (sent_line from n s) rest
    ∙ ap (λ ls. ls ++ filter is_answer rest) (none_in_sent from n s)
    ∙ none_sent from (n + length (packet_of from s)) sends

pub none_shown : (q : Place) (before now : Option StateLine)
    → filter is_answer (state_lines q before now) ≡ []
none_shown q before now = by (same_shown before now) now
  where
    by : (b : Bool) (now : Option StateLine)
        → filter is_answer (if b then [] else state_line q now ∷ []) ≡ []
    by true now = refl
    by false None = refl
    by false (Some s) = refl

-- THE ANSWERS of a whole step
pub answers_left : (x : WorldValue) (place : ServerId) (now : ℕ) (given : Input)
    (outs : Option Outputs) (a b : Site) (t : IsTurn x place now given outs a b)
    → filter is_answer (lines_left x place now given outs a b t)
    ≡ answered_lines place t.step.puts.answers.items
answers_left x place now given outs a b t =
    let puts = t.step.puts in
    let answered = answered_lines place puts.answers.items in
    let entered = entered_lines (length x.book.entries)
    (updates_in x.book puts ++ reads_in puts.answers.items) in
    let refused = refused_lines place puts.refusals.items in
    let sent = sent_lines place (length x.packets) puts.sends.items in
    let shown = state_lines (place_of place) (state_shown t.step.old) (state_shown t.step.new) in
    let all = filter is_answer in
    filter-append is_answer (entered ++ (answered ++ (refused ++ sent))) shown
    ∙ ap (λ ls. all (entered ++ (answered ++ (refused ++ sent))) ++ ls)
    (none_shown (place_of place) (state_shown t.step.old) (state_shown t.step.new))
    ∙ append-nil (all (entered ++ (answered ++ (refused ++ sent))))
    ∙ filter-append is_answer entered (answered ++ (refused ++ sent))
    ∙ ap (λ ls. ls ++ all (answered ++ (refused ++ sent))) (none_entered (length x.book.entries)
    (updates_in x.book puts ++ reads_in puts.answers.items))
    ∙ filter-append is_answer answered (refused ++ sent)
    ∙ ap (λ ls. ls ++ all (refused ++ sent)) (all_answered place puts.answers.items)
    ∙ ap (λ ls. answered ++ ls) (filter-append is_answer refused sent
    ∙ ap (λ ls. ls ++ all sent) (none_refused place puts.refusals.items)
    ∙ none_sent place (length x.packets) puts.sends.items)
    ∙ append-nil answered

-- ---- of moves

none_then : (xs ys : List Line) → filter is_answer xs ≡ [] → filter is_answer ys ≡ []
    → filter is_answer (xs ++ ys) ≡ []
none_then xs ys h k = filter-append is_answer xs ys
    ∙ ap (λ ls. ls ++ filter is_answer ys) h ∙ k

refused_none : (q : Place) (rs : List Refusal) → filter is_answer (map (refused_line q) rs) ≡ []
refused_none q [] = refl
refused_none q (r ∷ rs) = refused_none q rs

packets_none : (n : ℕ) (q : Place) (xs : List (Place × Told Entry))
    → filter is_answer (packet_lines n q xs) ≡ []
unfolding packet_lines
packets_none n q [] = refl
packets_none n q (x ∷ xs) = packets_none (n + 1) q xs

-- of moves that answer nobody there are none among the lines
pub none_in_moves : (g after : Group Entry) (q : Place) (ms : List (Move Entry))
    → answers_said ms ≡ [] → filter is_answer (lines_of_moves g after q ms []) ≡ []
none_in_moves g after q ms none =
    let entered = entered_lines (length g.book) (drop (length g.book) after.book) in
    let shown = state_lines q (shown_of (g.server q)) (shown_of (after.server q)) in
    let sent = packet_lines (length g.packets) q (sends_said ms) in
    let refused = map (refused_line q) (refusals_said ms) in
    none_then entered _ (none_entered (length g.book) (drop (length g.book) after.book))
    (none_then (map (answered_line q) (answers_said ms)) _
    (ap (λ (xs : List Answer). filter is_answer (map (answered_line q) xs)) none)
    (none_then refused _ (refused_none q (refusals_said ms))
    (none_then sent _ (packets_none (length g.packets) q (sends_said ms))
    (none_then shown [] (none_shown q (shown_of (g.server q)) (shown_of (after.server q))) refl))))
