-- Worked rows: a stop cuts an apply after three of the five changes of a record, and its pick keeps
-- the first and the third; and a power failure is cut after the first Put of its save.
use Rattle.std.specs.Prelude.{◌≡◌, true, false, List, [], ◌∷◌, ◌++◌, Some, None, is_some, replicate}
use Rattle.harp_types.specs.declared.server.ServerId.TheVariants as server
use Rattle.harp_types.specs.declared.reply.Reply.TheVariants as reply
use Rattle.harp_types.specs.declared.cred.TheConstants.{SUPERUSER}
use Rattle.harp_types.specs.declared.pick.Pick.TheVariants as pick
use Rattle.trace_types.specs.declared.step.Step.{Step}
use Rattle.trace_types.specs.declared.step.Step.TheVariants as step
use Rattle.harp_cells.specs.declared.cell.Cell.TheVariants as cell
use Rattle.harp_cells.specs.declared.value.Value.TheVariants as value
use Rattle.group_rules.specs.Places.{Zero}
use Rattle.group_trace.specs.RowOfAnUpdate.{made, make_a}
use Rattle.group_trace.specs.RowsOfOpening.{opening_steps}
use Rattle.group_trace.specs.Run.{AreTaken}
use Rattle.group_trace.specs.Scene.{first_scene}
use Rattle.group_trace.specs.DiskCalls.{Spellings, measures_of}
use Rattle.group_trace.specs.DiskRun.{DiskScene, disk_run, first_disk_scene}

-- records and messages of 100 bytes, and no bytes that are a message
abbrev pub plain_spellings : Spellings
plain_spellings = record {
  record_bytes = λ before e. replicate 100 0;
  message_size =
      λ list m. 100;
  is_message = λ bytes. false;
}

-- an update is answered in view 1.0
abbrev pub answered_steps : List Step
answered_steps =
    opening_steps ++
    (step.Ask server.Zero 7 1 SUPERUSER make_a ∷
    step.Deliver 9 ∷
    step.Deliver 10 ∷
    [])

-- its leader applies it, and stops
abbrev pub cut_apply_steps : List Step
cut_apply_steps =
    answered_steps ++
    (step.Stop server.Zero 3 (pick.Bits (true ∷ false ∷ [])) ∷
    step.Apply server.Zero 1 ∷
    [])

-- what that leaves
abbrev pub cut_apply_scene : DiskScene
cut_apply_scene = disk_run plain_spellings first_disk_scene cut_apply_steps

-- the server is down; the new entry and the new object are there, the directory's attributes and
-- the totals aren't
pub record CutApply : Type 0 where
  pub taken : AreTaken (measures_of plain_spellings) first_scene cut_apply_steps
  pub down : (cut_apply_scene.scene.group.server Zero).up ≡ false
  pub slot : (cut_apply_scene.disks Zero).synced (cell.Slot 1 0) ≡ Some (value.Slot 2 (0x61 ∷ []))
  pub directory : (cut_apply_scene.disks Zero).synced (cell.Object 1) ≡ None
  pub object : is_some ((cut_apply_scene.disks Zero).synced (cell.Object 2)) ≡ true
  pub totals : (cut_apply_scene.disks Zero).synced cell.Meta ≡ None
  pub client : (cut_apply_scene.disks Zero).synced (cell.Client 7) ≡ None

-- its leader applies and flushes it, and its power fails: one call of the save passes
abbrev pub cut_save_steps : List Step
cut_save_steps =
    answered_steps ++
    (step.Apply server.Zero 1 ∷
    step.Flush server.Zero ∷
    step.PowerCut server.Zero 1 pick.All ∷
    [])

-- what that leaves
abbrev pub cut_save_scene : DiskScene
cut_save_scene = disk_run plain_spellings first_disk_scene cut_save_steps

-- what was synced is there, the client's reply too, and beside it the record that the save put
pub record CutSave : Type 0 where
  pub taken : AreTaken (measures_of plain_spellings) first_scene cut_save_steps
  pub lb : (cut_save_scene.scene.group.server Zero).lb ≡ 1
  pub slot : (cut_save_scene.disks Zero).synced (cell.Slot 1 0) ≡ Some (value.Slot 2 (0x61 ∷ []))
  pub client : (cut_save_scene.disks Zero).synced (cell.Client 7) ≡
      Some (value.Client 1 1 (reply.Node 2 made))
  pub saved : (cut_save_scene.disks Zero).synced (cell.Saved 1) ≡
      Some (value.SavedCred (replicate 100 0))
