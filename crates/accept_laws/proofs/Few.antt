-- The trace of a text has few lines.
use Rattle.std.proofs.Common.{[], ◌∷◌, arith}
use Rattle.std.proofs.lemmas.List.{length-append}
use Rattle.line_reader.specs.Lines.{lines_of}
use Rattle.group_trace.specs.Run.{run_lines}
use Rattle.group_trace.specs.Scene.{first_scene}
use Rattle.schedule_play.specs.Reading.{reading}
use Rattle.schedule_play.specs.Trace.{last_of}
use Rattle.schedule_play.proofs.TakenLaws.{reading_taken}
use Rattle.accept_laws.proofs.Deliveries.{first_going, left_few}
use Rattle.accept_laws.proofs.RunCounts.{runs_short}
use Rattle.accept_laws.specs.TextLaws.{TracesAreFew}
use Rattle.accept_laws.proofs.Readings.{reading_told}
use Rattle.accept_laws.proofs.StepsRead.{reading_few}

pub traces_few : TracesAreFew
traces_few m b text short =
    let r = reading m text in
    let read = reading_told m (lines_of text) 1 first_scene (omega arith) short in
    let told = read.few in
    let steps = reading_few m b (lines_of text) 1 (omega arith) first_scene first_going in
    let packets = left_few first_scene first_going in
    let lines = run_lines m first_scene r.steps in
    let all = runs_short m b r.steps (reading_taken m 1 (lines_of text) first_scene) read.fit in
    let last = length-append lines (last_of m r ∷ []) in
    omega (arith, told, steps, packets, all, last)
