-- What a world shows beside what the run shows.
use Rattle.std.specs.Prelude.{◌≡◌, Option, Some, IfSome, option_map}
use Rattle.group_rules.specs.Names.{place_of}
use Rattle.group_trace.specs.Scene.{Measures}
use Rattle.harp_types.specs.declared.server.ServerId.{ServerId}
use Rattle.observer.specs.Progress.{want_of}
use Rattle.record_changes.specs.Records.{history_of}
use Rattle.shown.specs.Rule.{outline_of, shown_by}
use Rattle.shown.specs.declared.shown.Shown.{Shown}
use Rattle.shown.specs.declared.shown.Want.{Want}
use Rattle.shown.specs.Truth.{IsShownOf}
use Rattle.observe_laws.specs.Run.{shown_in}
use Rattle.observe_laws.specs.Scene.{ObservedScene, showing_of}

-- WHAT IS SHOWN BY THE RULE AND TRULY is what the run shows: of a cell that an observer wants, the
-- updates tell what it holds
abbrev pub ShownAsTold : Type 0
ShownAsTold = (m : Measures) (w : ObservedScene) (server : ServerId) (x : Want) (o : Option Shown)
    → want_of w.progress ≡ Some x
    → option_map outline_of o ≡ shown_by m.size w.scene.group (place_of server) x
    → IfSome o (IsShownOf (history_of w.scene.group.committed))
    → option_map showing_of o ≡ shown_in m w server
