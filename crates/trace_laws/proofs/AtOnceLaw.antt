-- The step that delivers an Ack to the open leader of its view answers each update up to its top.
use Rattle.std.proofs.Common.{◌≡◌, ℕ, zero, suc, ◌+◌, ◌-◌, ◌<◌, Bool, true, false, List, [], ◌∷◌, ◌++◌, append_assoc, append-nil, length, drop, Option, Some, None, refl, sym, ap, ◌∙◌, subst, arith, map, if◌then◌else◌}
use Rattle.std.specs.Prelude.{⊤}
use Rattle.std.specs.List.{AllByRecursion}
use Rattle.harp_types.specs.View.{View}
use Rattle.harp_types.specs.declared.server.ServerId.{ServerId}
use Rattle.harp_types.specs.declared.state.StateLine.{StateLine}
use Rattle.trace_types.specs.declared.step.Step.TheVariants as step
use Rattle.trace_types.specs.declared.line.Line.{Line}
use Rattle.trace_types.specs.declared.line.Line.TheVariants as line
use Rattle.trace_types.specs.declared.line.ShownMessage.TheVariants as shown
use Rattle.trace_claims.specs.Acknowledged.{AnswersUpToTop, answers_after, answers_in_step}
use Rattle.trace_claims.specs.Servers.{Packet as PacketShown, ack_packet, last_state}
use Rattle.trace_claims.specs.Trace.{Trace}
use Rattle.trace_claims.proofs.Places.{all-append}
use Rattle.file_tree.specs.Book.{Entry}
use Rattle.group_safety.specs.Laws.{answered_in, numbers_after}
use Rattle.group_rules.specs.Limits.{by_held}
use Rattle.group_rules.specs.Moves.{Falling, Move, Reading, Saying, Sending}
use Rattle.group_rules.specs.Names.{id_of, view_of}
use Rattle.group_rules.specs.Places.{Place}
use Rattle.group_rules.specs.State.{Ack, Answers, Beat, Demote, Event, Fetch, Form, Formed, Give, Group, Invite, Join, Lists, Message, Open, Refuses, Server}
use Rattle.group_rules.specs.Step.{Comes, list_of, step_of}
use Rattle.group_safety.specs.Words.{IsActive}
use Rattle.group_rules.proofs.Tests.{if_is, le_is}
use Rattle.group_safety.proofs.AtOnce.{answers_at_once}
use Rattle.group_rules.specs.Said.{refusals_said}
use Rattle.group_trace.specs.Lines.{refused_line, answered_lines, entered_lines, lines_of_moves, listing_of, refused_lines, sent_lines, state_line, state_lines, packet_lines}
use Rattle.group_trace.specs.Calls.{CallKind, moves_of, passes}
use Rattle.group_trace.specs.Run.{delivery, lines_where, moved_in, turn}
use Rattle.group_trace.specs.Scene.{Measures, Scene}
use Rattle.trace_laws.specs.Stops.{NeverCut}
use Rattle.group_rules.specs.Shown.{state_of}
use Rattle.group_trace.specs.Shown.{message_shown, same_shown, shown_of}
use Rattle.trace_laws.proofs.LineParts.{made_each}
use Rattle.trace_laws.proofs.Answering.{Answering, AreReadless, kind_answers, reading, updating}
use Rattle.trace_laws.proofs.OpenLines.{open_shown}
use Rattle.trace_laws.proofs.Packets.{was_sent}
use Rattle.trace_laws.proofs.Standing.{Stands}
use Rattle.trace_laws.proofs.StepKinds.{step_kind}
use Rattle.trace_laws.proofs.StopLaws.{makes_no_call}
use Rattle.trace_laws.proofs.Views.{view_is}

-- ---- the answers among lines

-- a line that neither answers nor begins a step
abbrev pub IsIdle : Line → Type 0
IsIdle (line.Event s) = ⊥
IsIdle (line.Answered server client number index reply) = ⊥
IsIdle l = ⊤

idle_pass : (ls rest : List Line) → AllByRecursion IsIdle ls → answers_in_step (ls ++ rest) ≡
    answers_in_step rest
idle_pass [] rest h = refl
idle_pass (line.Event s ∷ ls) rest h = absurd h.0
idle_pass (line.Answered server client number index reply ∷ ls) rest h = absurd h.0
idle_pass (l ∷ ls) rest h = idle_pass ls rest h.1

idle_entered : (n : ℕ) (es : List Entry) → AllByRecursion IsIdle (entered_lines n es)
unfolding entered_lines
idle_entered n [] = tt
idle_entered n (e ∷ es) = (tt, idle_entered (n + 1) es)

refused_idle : (q : Place) (ms : List (Move Entry)) → AllByRecursion IsIdle (refused_lines q ms)
refused_idle q ms = made_each IsIdle (refused_line q) (λ r. tt) (refusals_said ms)

sent_idle : (n : ℕ) (q : Place) (ms : List (Move Entry))
    → AllByRecursion IsIdle (sent_lines n q ms)
unfolding packet_lines
sent_idle n q [] = tt
sent_idle n q (Sending to m ∷ ms) = (tt, sent_idle (n + 1) q ms)
sent_idle n q (m ∷ ms) = sent_idle n q ms

state_idle : (q : Place) (before now : Option StateLine)
    → AllByRecursion IsIdle (state_lines q before now)
state_idle q before now = by (same_shown before now) now
  where
    by : (b : Bool) (now : Option StateLine) → AllByRecursion IsIdle (if b then [] else
        state_line q now ∷ [])
    by true now = tt
    by false (Some st) = (tt, tt)
    by false None = (tt, tt)

-- who answers these indices
abbrev pub by_server : Place → List ℕ → List (ServerId × ℕ)
by_server q ns = map (λ n. (id_of q, n)) ns

answers_pass : (q : Place) (ms : List (Move Entry)) (rest : List Line) → AreReadless ms
    → answers_in_step (answered_lines q ms ++ rest) ≡ by_server q (answered_in ms)
    ++ answers_in_step rest
answers_pass q [] rest h = refl
answers_pass q (Saying (Answers n e) ∷ ms) rest h =
    ap (λ xs. (id_of q, n) ∷ xs) (answers_pass q ms rest h.1)
answers_pass q (Saying (Refuses client number cause) ∷ ms) rest h = answers_pass q ms rest h.1
answers_pass q (Saying (Lists n) ∷ ms) rest h = answers_pass q ms rest h.1
answers_pass q (Reading n e ∷ ms) rest h = absurd h.0
answers_pass q (m ∷ ms) rest h = answers_pass q ms rest h.1

by_numbers : (q : Place) (c k : ℕ) → by_server q (numbers_after c k) ≡ answers_after (id_of q) c k
by_numbers q c zero = refl
by_numbers q c (suc k) = ap (λ xs. (id_of q, c + 1) ∷ xs) (by_numbers q (c + 1) k)

-- the answers of a step's lines, and what follows
answers_of_moves : (g g' : Group Entry) (q : Place) (ms : List (Move Entry)) (later : List Line)
    → AreReadless ms
    → answers_in_step (lines_of_moves g g' q ms [] ++ later) ≡ by_server q (answered_in ms)
    ++ answers_in_step later
answers_of_moves g g' q ms later h =
    let es = entered_lines (length g.book) (drop (length g.book) g'.book) in
    let a = answered_lines q ms in
    let idle = refused_lines q ms ++ (sent_lines (length g.packets) q ms
    ++ (state_lines q (shown_of (g.server q)) (shown_of (g'.server q)) ++ [])) in
    let quiet : AllByRecursion IsIdle idle = all-append IsIdle (refused_lines q ms) _
    (refused_idle q ms)
    (all-append IsIdle (sent_lines (length g.packets) q ms) _ (sent_idle (length g.packets) q ms)
    (all-append IsIdle (state_lines q _ _) [] (state_idle q _ _) tt)) in
    ap answers_in_step (append_assoc es (a ++ idle) later) ∙ idle_pass es ((a ++ idle) ++ later)
    (idle_entered (length g.book) _)
    ∙ ap answers_in_step (append_assoc a idle later) ∙ answers_pass q ms (idle ++ later) h
    ∙ ap (λ xs. by_server q (answered_in ms) ++ xs) (idle_pass idle later quiet)

-- ---- no stop cuts it

passes_none : (stop : Option ℕ) (calls : List CallKind) → calls ≡ [] → passes stop calls ≡ true
passes_none None calls e = refl
passes_none (Some most) calls e = le_is (length calls) most
    (let none : length calls ≡ 0 = ap length e in omega arith)

-- ---- the delivery of an Ack

-- the message that a trace shows as an Ack is one
pub record IsAckOf (m : Message Entry) (view : View) (top lb until : ℕ) : Type 0 where
  pub number : ℕ
  pub is : m ≡ Ack number top lb until
  pub view_so : view_of number ≡ view

ack_of : (m : Message Entry) (view : View) (top lb until : ℕ) → message_shown m ≡
    shown.Ack view top lb until → IsAckOf m view top lb until
ack_of (Invite v) view top lb until e = absurd cc
ack_of (Join v t) view top lb until e = absurd cc
ack_of (Form v p) view top lb until e = absurd cc
ack_of (Fetch v index) view top lb until e = absurd cc
ack_of (Give v index items) view top lb until e = absurd cc
ack_of (Formed v l) view top lb until e = absurd cc
ack_of (Event v index cp base x) view top lb until e = absurd cc
ack_of (Beat v cp base) view top lb until e = absurd cc
ack_of (Demote v) view top lb until e = absurd cc
ack_of (Ack v t l u) view top lb until e =
    let tops : t ≡ top = cc in
    let lbs : l ≡ lb = cc in
    let untils : u ≡ until = cc in
    let views : view_of v ≡ view = cc in
    record { number = v; is = rw (tops, lbs, untils) refl; view_so = views }

ack_readless : (clock : ℕ) (s : Server Entry) (from : Place) (v t lb until : ℕ)
    (ms : List (Move Entry)) → Answering clock s (Comes from (Ack v t lb until)) ms
    → AreReadless ms
ack_readless clock s from v t lb until _ (reading e after o is u l tails) = absurd cc
ack_readless clock s from v t lb until ms (updating _ a) = a.readless

is_shown : (s : Server Entry) (st : StateLine) → shown_of s ≡ Some st
    → (s.up ≡ true) × (state_of s ≡ st)
is_shown s st e = by s.up e
  where
    by : (b : Bool) → (if b then Some (state_of s) else None) ≡ Some st
        → (b ≡ true) × (state_of s ≡ st)
    by true e = (refl, let z : state_of s ≡ st = cc in z)
    by false e = absurd cc

pub delivered_at_once : (m : Measures) (before : Trace) (w : Scene) → Stands before w.group
    → (n : ℕ) (later : Trace) → answers_in_step later ≡ []
    → AnswersUpToTop before n (lines_where w.group (turn m w (step.Deliver n))
    (listing_of w.group (step.Deliver n)) ++ later)
delivered_at_once m before w h n later none from to view top lb until state is last open' accepted
    low =
    let g = w.group in
    let sent = was_sent g.packets n (ack_packet from to view top lb until) (sym (h.packets n)
    ∙ is) in
    let p = sent.packet in
    let q = p.to in
    let to_is : id_of q ≡ to = ap (λ (x : PacketShown). x.to) sent.shown_so in
    let body = ack_of p.body view top lb until
    (ap (λ (x : PacketShown). x.message) sent.shown_so) in
    let s = g.server q in
    let shown_now = is_shown s state (sym (h.states q) ∙ ap (last_state before) to_is ∙ last) in
    let mode_is : s.mode ≡ Open =
    open_shown s.mode s.duty (ap (λ (x : StateLine). x.mode) shown_now.1 ∙ open') in
    let active : IsActive s.mode = subst IsActive (sym mode_is) tt in
    let log = ((h.whole.ok.server q).modes.active active).0 in
    let cp_is : state.cp ≡ s.cp = ap (λ (x : StateLine). x.cp) (sym shown_now.1)
    ∙ ap (λ l. by_held l s.cp s.lb) log in
    let view_now : s.accepted ≡ body.number =
    view_is s.accepted body.number (ap (λ (x : StateLine). x.accepted) shown_now.1 ∙ accepted
    ∙ sym body.view_so) in
    let i = Comes p.from p.body in
    let ms = step_of m.size g q i in
    let once = answers_at_once m.size g h.whole n p sent.numbered_so body.number top lb until in
    let answered : answered_in ms ≡ numbers_after s.cp (top - s.cp) =
    once.indices body.is shown_now.0 mode_is view_now (subst (λ c. c < top) cp_is low) in
    let never : NeverCut i = subst (λ x. NeverCut (Comes p.from x)) (sym body.is) tt in
    let whole : moves_of m g (w.armed q) q i ≡ ms =
    if_is _ ms (Falling ∷ []) (passes_none (w.armed q) _ (makes_no_call m g q i never)) in
    let turned : turn m w (step.Deliver n) ≡ Some (q, ms) =
    ap (delivery m w) sent.numbered_so
    ∙ if_is s.up (Some (q, moves_of m g (w.armed q) q i)) None shown_now.0
    ∙ ap (λ x. Some (q, x)) whole in
    let readless : AreReadless ms = subst (λ x. AreReadless (step_of m.size g q (Comes p.from x)))
    (sym body.is)
    (ack_readless (g.clock q) s p.from body.number top lb until _ (kind_answers q (g.clock q) s _ _
    (step_kind m.size q (g.clock q) (list_of g q) s
    (Comes p.from (Ack body.number top lb until))))) in
    ap (λ o. answers_in_step (lines_where g o [] ++ later)) turned
    ∙ answers_of_moves g (moved_in g (q, ms)) q ms later readless
    ∙ ap (λ xs. by_server q (answered_in ms) ++ xs) none
    ∙ append-nil (by_server q (answered_in ms))
    ∙ ap (by_server q) answered ∙ by_numbers q s.cp (top - s.cp)
    ∙ ap (λ c. answers_after (id_of q) c (top - c)) (sym cp_is)
    ∙ ap (λ x. answers_after x state.cp (top - state.cp)) to_is
