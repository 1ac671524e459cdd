-- What a boot makes of a mark.
use Rattle.std.specs.Prelude.{map, ℕ, Bool, false, ◌∷◌, Option, None, Some}
use Rattle.event_record.specs.Record.{entry_of}
use Rattle.file_tree.specs.Book.{Entry}
use Rattle.group_rules.specs.Effects.{load_tests, lost_log, resting}
use Rattle.group_rules.specs.Limits.{can_have}
use Rattle.group_rules.specs.Names.{place_of}
use Rattle.group_rules.specs.Places.{Place, all_of}
use Rattle.group_rules.specs.State.{Follows, Leads, Lost, Mark, Outside, Role, Saved, Server}
use Rattle.harp_types.specs.declared.state.Role.{Role as Part}
use Rattle.harp_types.specs.declared.state.Role.TheVariants as part
use Rattle.idle_log.specs.Kept.{with_kept}
use Rattle.idle_log.specs.declared.kept.Kept.{Kept}
use Rattle.volatile_log.specs.Log.{LogValue}

abbrev pub role_of : Part → Role
role_of (part.Leads s) = Leads (place_of s)
role_of (part.Follows s) = Follows (place_of s)
role_of part.Outside = Outside

-- a log, as a mark saves it
abbrev pub saved_of : LogValue → Saved Entry
saved_of log = record { base = log.base; cp = log.cp; items = map entry_of log.records }

-- a boot takes the saved log of this mark
abbrev pub takes_saved : Place → Mark Entry → Option (Saved Entry) → Bool
takes_saved q m None = false
takes_saved q m (Some v) = all_of (can_have q m.role ∷ load_tests m.lb v)

-- a server that has just booted from this mark and holds this
abbrev pub rests : (clock delta : ℕ) → Mark Entry → Kept → Server Entry
rests clock delta m k = with_kept (resting clock delta m Lost (lost_log m.lb)) k
