-- The scene after a server's moves.
use Rattle.std.proofs.Common.{◌≡◌, ◌+◌, List, [], None, refl}
use Rattle.file_tree.specs.Book.{Entry}
use Rattle.group_trace.specs.DiskCalls.{measures_of}
use Rattle.group_trace.specs.DiskRun.{DiskScene, Stores}
use Rattle.group_rules.specs.Moves.{Move}
use Rattle.group_rules.specs.Places.{Place, at}
use Rattle.group_rules.specs.Step.{list_of}
use Rattle.group_trace.specs.Lines.{lines_of_moves}
use Rattle.group_trace.specs.Run.{bytes_of, moved_in}
use Rattle.world_rules.specs.Spellings.{spellings}
use Rattle.world_laws.specs.StockLaws.{Stays}
use Rattle.trace_laws.proofs.After.{moved_clock, moved_other}
use Rattle.trace_types.specs.declared.line.Line.{Line}
use Rattle.world.proofs.Moved.{moved_delta}
use Rattle.world.proofs.Servers.{OneTurns}

-- the scene after these moves of a server, with these disks
abbrev pub scene_after : DiskScene → Place → List (Move Entry) → Stores → DiskScene
scene_after w q ms disks = record {
  scene = record {
    group = moved_in w.scene.group (q, ms);
    delivered = w.scene.delivered;
    armed = at w.scene.armed q None;
    sent = w.scene.sent + bytes_of (measures_of spellings)
        (list_of (moved_in w.scene.group (q, ms)) q) ms;
  };
  disks = disks;
  picks = w.picks;
}

-- their lines
abbrev pub lines_after : DiskScene → Place → List (Move Entry) → List Line
lines_after w q ms = lines_of_moves w.scene.group (moved_in w.scene.group (q, ms)) q ms []

pub scene_turns : (w : DiskScene) (q : Place) (ms : List (Move Entry)) (disks : Stores)
    → Stays w.scene.group (moved_in w.scene.group (q, ms))
    → ((y : Place) → (y ≡ q → ⊥) → disks y ≡ w.disks y)
    → OneTurns w (scene_after w q ms disks) q
scene_turns w q ms disks stays others = record {
  stays = stays;
  others = λ y n. moved_other ms w.scene.group q y (w.scene.group.server q) n;
  disks = others;
  clock = moved_clock ms w.scene.group q (w.scene.group.server q);
  delta = moved_delta ms w.scene.group q (w.scene.group.server q);
  armed = refl;
  picks = refl;
}
