-- Where observed runs lead, and runs that go on.
use Rattle.std.proofs.Common.{◌≡◌, List, [], ◌∷◌, ◌++◌, append-nil, sym, ap, ◌∙◌}
use Rattle.std.proofs.lemmas.Grind.{flat_map-append}
use Rattle.trace_types.specs.declared.step.Step.{Step}
use Rattle.group_trace.specs.Scene.{Measures}
use Rattle.group_trace.specs.DiskCalls.{Spellings, measures_of}
use Rattle.group_trace.specs.DiskRun.{DiskScene, disk_next, disk_run, first_disk_scene}
use Rattle.schedule_play.specs.Stage.{IsReached}
use Rattle.schedule_play.proofs.Runs.{disk_more, disk_scene, reached}
use Rattle.observed_text.specs.declared.step.Act.{Act}
use Rattle.observed_text.specs.declared.step.ObservedStep.{ObservedStep}
use Rattle.observed_text.specs.declared.step.ObservedStep.TheVariants as observed
use Rattle.observe_laws.specs.Run.{AreObserved, observed_next, observed_run, played_of, played_steps}
use Rattle.observe_laws.specs.Scene.{ObservedScene, first_observed}
use Rattle.observe_laws.proofs.Traced.{observed_run-append, scene_played, taken_played}

-- the scene where steps lead, with the observer
abbrev pub scene_after : Spellings → List ObservedStep → ObservedScene
scene_after f done = observed_run (measures_of f) first_observed done

-- the scene where the steps of the schedule among them lead, with the disks
abbrev pub disks_after : Spellings → List ObservedStep → DiskScene
disks_after f done = disk_run f first_disk_scene (played_steps done)

-- it is the same scene
pub scene_there : (f : Spellings) (done : List ObservedStep)
    → (disks_after f done).scene ≡ (scene_after f done).scene
scene_there f done =
    disk_scene f (played_steps done) ∙ sym (scene_played (measures_of f) first_observed done)

-- and it is reached
pub reached_there : (f : Spellings) (done : List ObservedStep)
    → AreObserved (measures_of f) first_observed done → IsReached f (disks_after f done)
reached_there f done taken =
    reached f (played_steps done) (taken_played (measures_of f) first_observed done taken)

-- ---- one step more

pub next_there : (m : Measures) (done : List ObservedStep) (s : ObservedStep)
    → observed_next m (observed_run m first_observed done) s
    ≡ observed_run m first_observed (done ++ s ∷ [])
unfolding observed_run
next_there m done s = sym (observed_run-append m first_observed done (s ∷ []))

played-append : (xs ys : List ObservedStep)
    → played_steps (xs ++ ys) ≡ played_steps xs ++ played_steps ys
played-append xs ys = flat_map-append played_of xs ys

pub one_played : (f : Spellings) (done : List ObservedStep) (s : Step)
    → disk_next f (disks_after f done) s ≡ disks_after f (done ++ observed.Played s ∷ [])
one_played f done s =
    disk_more f (played_steps done) s
    ∙ ap (disk_run f first_disk_scene) (sym (played-append done (observed.Played s ∷ [])))

-- an act leaves the disks
pub one_acted : (f : Spellings) (done : List ObservedStep) (a : Act)
    → disks_after f done ≡ disks_after f (done ++ observed.Acted a ∷ [])
one_acted f done a =
    ap (disk_run f first_disk_scene)
    (sym (played-append done (observed.Acted a ∷ []) ∙ append-nil (played_steps done)))
