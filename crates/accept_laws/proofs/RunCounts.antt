-- The lines of a run.
use Rattle.std.proofs.Common.{ℕ, ◌+◌, ◌*◌, ◌≤◌, List, [], ◌∷◌, length, arith}
use Rattle.std.proofs.lemmas.List.{length-append}
use Rattle.harp_base.specs.Fields.{AllFit}
use Rattle.trace_types.specs.declared.step.Step.{Step}
use Rattle.group_rules.specs.Limits.{room}
use Rattle.group_rules.specs.Places.{all_of}
use Rattle.group_trace.specs.Refusals.{net_refusal, own_refusal}
use Rattle.group_trace.specs.Run.{AreTaken, next, run, run_lines, step_lines}
use Rattle.group_trace.specs.Scene.{Measures, Scene, first_scene}
use Rattle.trace_laws.proofs.Turns.{own_none}
use Rattle.accept_laws.specs.Laws.{TakeBytes, ToldFits, all_told, told}
use Rattle.accept_laws.specs.Within.{latest}
use Rattle.accept_laws.proofs.Runs.{IsRunning, book_few, first_running, run_running, runs_on, taken_fits}
use Rattle.accept_laws.specs.CountLaws.{RunsAreShort}
use Rattle.accept_laws.proofs.Answers.{pending}
use Rattle.accept_laws.proofs.StepCounts.{all_pending, step_few}

run_few : (m : Measures) → TakeBytes m → (ss : List Step) (w : Scene) (n : ℕ)
    → IsRunning n (latest n) w → AreTaken m w ss → AllFit ToldFits ss
    → let g' = (run m w ss).group in
    length (run_lines m w ss) + length w.group.packets + length w.group.book + all_pending g'
    ≤ length g'.packets + length g'.book + all_pending w.group + 2 * length ss
    + 3145733 * all_told ss
unfolding run run_lines
run_few m b [] w n h t f = omega arith
run_few m b (s ∷ ss) w n h t f =
    let own = own_none (own_refusal m w.group s) (net_refusal w s) t.0 in
    let fits = taken_fits m w s h.packets own f.0 in
    let one = step_few m w h.whole_so s own t.1 in
    let rest = run_few m b ss (next m w s) (n + told s) (runs_on m b w n h s t.0 t.1 fits.0) t.2 f.1
    in
    let both = length-append (step_lines m w s) (run_lines m (next m w s) ss) in
    omega (arith, one, rest, both)

first_pending : all_pending first_scene.group ≤ 0
unfolding all_pending pending all_of room
first_pending = omega arith

pub runs_short : RunsAreShort
runs_short m b ss t f =
    let h = run_running m b ss first_scene 0 first_running t f in
    let w = run m first_scene ss in
    let n = 0 + all_told ss in
    let all = run_few m b ss first_scene 0 first_running t f in
    let packets = h.packets in
    let book = book_few n (latest n) w.group h.whole_so h.within h.book in
    let none = first_pending in
    omega (arith, all, packets, book, none)
