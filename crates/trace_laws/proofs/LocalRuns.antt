-- Each step of a run is local.
use Rattle.std.proofs.Common.{◌≡◌, ◌≤◌, true, List, [], ◌∷◌, ◌++◌, length, None, le_refl, refl, sym, ap, ◌∙◌, subst}
use Rattle.std.proofs.lemmas.List.Sums.{fold-append}
use Rattle.trace_types.specs.declared.step.Step.{Step}
use Rattle.trace_types.specs.declared.line.Line.{Line}
use Rattle.trace_types.specs.declared.line.Line.TheVariants as line
use Rattle.trace_claims.specs.LocalSteps.{AddsRecords, IsNextPacket, last_shown, later_shown, more_sent, records}
use Rattle.trace_claims.specs.Servers.{first_state}
use Rattle.trace_claims.specs.Trace.{AtPlacesAfter, Trace}
use Rattle.trace_claims.proofs.Places.{places-append}
use Rattle.file_tree.specs.Book.{Entry}
use Rattle.group_rules.specs.Limits.{room}
use Rattle.group_rules.specs.Moves.{Move}
use Rattle.group_rules.specs.Names.{id_of}
use Rattle.group_rules.specs.Places.{Zero, One, Two, Place, all_of}
use Rattle.group_rules.specs.State.{Group, Server}
use Rattle.group_rules.specs.Step.{Input, first_group}
use Rattle.group_trace.specs.Refusals.{own_refusal}
use Rattle.group_trace.specs.Run.{CanFollow, group_after, is_elementary, next, run_lines, step_lines}
use Rattle.group_trace.specs.Scene.{Measures, Scene, first_scene}
use Rattle.trace_laws.proofs.Keeping.{turn_lines, turn_stands}
use Rattle.trace_laws.proofs.KeptRecords.{kept}
use Rattle.trace_laws.proofs.RecordLaws.{Counted, kept_after, packets_step, sent_after}
use Rattle.trace_laws.proofs.RunLaws.{step_stands}
use Rattle.trace_laws.proofs.Standing.{Stands}
use Rattle.trace_laws.proofs.StateRecords.{records_step}
use Rattle.trace_laws.proofs.Turns.{Turned, take_step}

-- an event line shows nothing
quiet_counted : (before : Trace) (g g' : Group Entry) (s : Step) → Counted before g
    → g'.server ≡ g.server → g'.packets ≡ g.packets
    → Counted (before ++ line.Event s ∷ []) g'
quiet_counted before g g' s c servers packets = record {
  sent = fold-append more_sent 0 before (line.Event s ∷ []) ∙ c.sent ∙ ap length (sym packets);
  kept = λ q. subst (λ n. length (kept q (g'.server q)) ≤ records n)
      (sym (fold-append (later_shown (id_of q)) (first_state (id_of q)) before
      (line.Event s ∷ [])))
      (subst (λ (f : Place → Server Entry). length (kept q (f q))
      ≤ records (last_shown before (id_of q))) (sym servers) (c.kept q));
}

step_counted : (m : Measures) (before : Trace) (w : Scene) → Stands before w.group
    → Counted before w.group → (s : Step) → own_refusal m w.group s ≡ None → is_elementary s ≡ true
    → Counted (before ++ step_lines m w s) (group_after m w s)
step_counted m before w h c s r e =
    take_step (λ g' ls. Counted (before ++ line.Event s ∷ ls) g') m w h.whole s r e
    (λ g' k same. quiet_counted before w.group g' s c same.server same.packets)
    (λ q i ms t. record {
      sent = sent_after before w.group c s q ms;
      kept = kept_after before w.group h c s q i ms t (turn_stands before w.group h s q i ms t);
    })

-- a law of a server's steps that asks for what is counted
abbrev CountedLaw : (Trace → Line → Type 0) → Type 0
CountedLaw P = (before : Trace) (g : Group Entry) → Stands before g → Counted before g
    → (s : Step) (q : Place) (i : Input) (ms : List (Move Entry)) → Turned g s q i ms
    → AtPlacesAfter P before (turn_lines g s q ms)

run_counted : (P : Trace → Line → Type 0) → ((before : Trace) (s : Step) → P before (line.Event s))
    → CountedLaw P → (m : Measures) (ss : List Step) (before : Trace) (w : Scene)
    → Stands before w.group → Counted before w.group → CanFollow m w ss
    → AtPlacesAfter P before (run_lines m w ss)
unfolding run_lines
run_counted P event law m [] before w h c t = tt
run_counted P event law m (s ∷ ss) before w h c t =
    places-append P before (step_lines m w s) (run_lines m (next m w s) ss)
    (take_step (λ g' ls. AtPlacesAfter P before (line.Event s ∷ ls)) m w h.whole s
    t.0 t.1 (λ g' k same. (event before s, tt))
    (λ q i ms t. law before w.group h c s q i ms t))
    (run_counted P event law m ss (before ++ step_lines m w s) (next m w s)
    (step_stands m before w h s t.0 t.1) (step_counted m before w h c s t.0 t.1) t.2)

none_kept : (q : Place) → length (kept q (first_group.server q)) ≤ records (first_state (id_of q))
unfolding all_of room
none_kept Zero = le_refl 0
none_kept One = le_refl 0
none_kept Two = le_refl 0

first_counted : Counted [] first_group
first_counted = record { sent = refl; kept = none_kept }

-- of a run from the first group on
pub run_packets : (m : Measures) (ss : List Step) → Stands [] first_group
    → CanFollow m first_scene ss → AtPlacesAfter IsNextPacket [] (run_lines m first_scene ss)
run_packets m ss h t =
    run_counted IsNextPacket (λ b s. tt) packets_step m ss [] first_scene h first_counted t

pub run_records : (m : Measures) (ss : List Step) → Stands [] first_group
    → CanFollow m first_scene ss → AtPlacesAfter AddsRecords [] (run_lines m first_scene ss)
run_records m ss h t =
    run_counted AddsRecords (λ b s. tt) records_step m ss [] first_scene h first_counted t
