-- Runs that go on.
use Rattle.std.proofs.Common.{◌≡◌, List, [], ◌∷◌, ◌++◌, refl, sym, ap, ◌∙◌, append_assoc}
use Rattle.trace_types.specs.declared.step.Step.{Step}
use Rattle.group_trace.specs.Run.{AreTaken, next, run, run_lines, step_lines}
use Rattle.group_trace.specs.Scene.{Measures, Scene, first_scene}
use Rattle.group_trace.specs.DiskCalls.{Spellings, measures_of}
use Rattle.group_trace.specs.DiskRun.{DiskScene, disk_next, disk_run, first_disk_scene}
use Rattle.schedule_play.specs.Stage.{IsReached}
use Rattle.trace_laws.proofs.RunLaws.{can_follow}

pub run-append : (m : Measures) (w : Scene) (done later : List Step)
    → run m w (done ++ later) ≡ run m (run m w done) later
unfolding run
run-append m w [] later = refl
run-append m w (s ∷ done) later = run-append m (next m w s) done later

pub run_lines-append : (m : Measures) (w : Scene) (done later : List Step)
    → run_lines m w (done ++ later) ≡ run_lines m w done ++ run_lines m (run m w done) later
unfolding run run_lines
run_lines-append m w [] later = refl
run_lines-append m w (s ∷ done) later =
    ap (λ ls. step_lines m w s ++ ls) (run_lines-append m (next m w s) done later)
    ∙ sym (append_assoc (step_lines m w s) (run_lines m (next m w s) done)
    (run_lines m (run m (next m w s) done) later))

-- a run with disks goes on, and its scene is that of the run without
pub disk_run-append : (f : Spellings) (w : DiskScene) (done later : List Step)
    → disk_run f w (done ++ later) ≡ disk_run f (disk_run f w done) later
unfolding disk_run
disk_run-append f w [] later = refl
disk_run-append f w (s ∷ done) later = disk_run-append f (disk_next f w s) done later

pub disk_more : (f : Spellings) (done : List Step) (s : Step)
    → disk_next f (disk_run f first_disk_scene done) s
    ≡ disk_run f first_disk_scene (done ++ s ∷ [])
unfolding disk_run
disk_more f done s = sym (disk_run-append f first_disk_scene done (s ∷ []))

same_scene : (f : Spellings) (w : DiskScene) (ss : List Step)
    → (disk_run f w ss).scene ≡ run (measures_of f) w.scene ss
unfolding disk_run run
same_scene f w [] = refl
same_scene f w (s ∷ ss) = same_scene f (disk_next f w s) ss

pub disk_scene : (f : Spellings) (ss : List Step)
    → (disk_run f first_disk_scene ss).scene ≡ run (measures_of f) first_scene ss
disk_scene f ss = same_scene f first_disk_scene ss

-- steps that are taken lead to where they lead
pub reached : (f : Spellings) (ss : List Step) → AreTaken (measures_of f) first_scene ss
    → IsReached f (disk_run f first_disk_scene ss)
reached f ss taken = record {
  steps = ss;
  taken = can_follow (measures_of f) first_scene ss taken;
  leads = refl;
}
