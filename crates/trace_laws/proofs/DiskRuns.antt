-- The disks beside every run.
use Rattle.std.proofs.Common.{◌≡◌, false, List, [], ◌∷◌, refl}
use Rattle.trace_types.specs.declared.step.Step.{Step}
use Rattle.group_safety.specs.Disks.{empty_disks}
use Rattle.group_rules.specs.Places.{Place, is_p2}
use Rattle.group_safety.proofs.Disks.{first_disks}
use Rattle.group_safety.proofs.Lawful.{bases_on_both_disks, every_later_view, reads_alone, stands_for, within_limits}
use Rattle.group_safety.proofs.Safe.{first_whole}
use Rattle.trace_laws.proofs.Blocks.{few_blocks}
use Rattle.trace_laws.proofs.StoreRuns.{are_fuzzy, first_stores, read_exactly}
use Rattle.group_trace.specs.Run.{CanFollow, run}
use Rattle.group_trace.specs.Scene.{first_scene}
use Rattle.trace_laws.proofs.RightRuns.{run_right}
use Rattle.group_trace.specs.DiskCalls.{Spellings, measures_of}
use Rattle.trace_laws.specs.DiskLaws.{DiskIsRight, DiskRunIsRight}
use Rattle.group_trace.specs.DiskRun.{DiskScene, disk_next, disk_run, first_disk_scene}
use Rattle.trace_laws.proofs.Steps.{Stands, step_stands}

-- its scenes are those of the run without disks
same_scene : (f : Spellings) (ss : List Step) (w : DiskScene) → (disk_run f w ss).scene ≡
    run (measures_of f) w.scene ss
unfolding disk_run run
same_scene f [] w = refl
same_scene f (s ∷ ss) w = same_scene f ss (disk_next f w s)

run_stands : (f : Spellings) (ss : List Step) (w : DiskScene) → Stands w.scene.group w.disks
    → CanFollow (measures_of f) w.scene ss
    → Stands (disk_run f w ss).scene.group (disk_run f w ss).disks
unfolding disk_run
run_stands f [] w h t = h
run_stands f (s ∷ ss) w h t = run_stands f ss (disk_next f w s)
    (step_stands f w h s t.0 t.1) t.2

disk_right : (w : DiskScene) → Stands w.scene.group w.disks → (q : Place) → is_p2 q ≡ false
    → DiskIsRight w q
disk_right w h q p =
    let exact = read_exactly w.scene.group h.0 h.1.0 h.1.1 w.disks h.1.2 q p in
    let fuzzy = are_fuzzy w.scene.group h.0 h.1.0 h.1.1 w.disks h.1.2 q p in
    record {
      fuzzy = fuzzy;
      few = few_blocks w.scene.group h.0 q w.disks fuzzy;
      at_top = exact.at_top;
      at_cp_open = exact.at_cp_open;
      at_cp_live = exact.at_cp_live;
    }

pub disk_runs_right : (f : Spellings) (ss : List Step) → CanFollow (measures_of f) first_scene ss
    → DiskRunIsRight f ss
disk_runs_right f ss t =
    let stands = run_stands f ss first_disk_scene
    (first_whole, (empty_disks, first_disks, first_stores)) t in
    let group = (disk_run f first_disk_scene ss).scene.group in
    record {
      lines = run_right (measures_of f) ss t;
      scene = same_scene f ss first_disk_scene;
      disks = disk_right (disk_run f first_disk_scene ss) stands;
      bases = bases_on_both_disks group stands.0;
      logs = stands_for group stands.0;
      later_views = every_later_view group stands.0;
      alone = reads_alone group stands.0;
      within = within_limits group stands.0;
      clocks = stands.0.near;
    }
