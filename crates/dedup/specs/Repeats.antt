-- What an update's number says of it beside the last update of its client.
use Rattle.std.specs.Prelude.{ℕ, ◌==◌, nat_lt, nat_le, Option, Some, None, if◌then◌else◌}
use Rattle.harp_types.specs.declared.reply.Reply.{Reply}
use Rattle.file_tree.specs.Book.{Entry}
use Rattle.harp_cells.specs.declared.value.Value.{Value}
use Rattle.harp_cells.specs.declared.value.Value.TheVariants as value
use Rattle.dedup.specs.declared.repeat.Seen.{Seen}
use Rattle.dedup.specs.declared.repeat.Seen.TheVariants.{New, Kept, Pending, Old}

-- the last update again: its reply is kept where its index is at most the commit point, and else
-- still to come
abbrev pub repeated : ℕ → Reply → ℕ → Seen
repeated index reply commit_point = if nat_le index commit_point then Kept index reply else Pending

-- a number beside the last one: the same, an older one, or a new one
abbrev pub seen_beside : ℕ → ℕ → Reply → ℕ → ℕ → Seen
seen_beside last index reply number commit_point =
    if number == last then repeated index reply commit_point
    else (if nat_lt number last then Old else New)

-- any number is new of a client without an update
abbrev pub seen_after : Option Entry → ℕ → ℕ → Seen
seen_after None number commit_point = New
seen_after (Some e) number commit_point = seen_beside e.number e.index e.reply number commit_point

-- the same by the client's cell; a value of another kind of cell is no update
abbrev pub seen_in : Option Value → ℕ → ℕ → Seen
seen_in None number commit_point = New
seen_in (Some (value.Client last index reply)) number commit_point =
    seen_beside last index reply number commit_point
seen_in (Some (value.Meta next used stamp)) number commit_point = New
seen_in (Some (value.Object inode)) number commit_point = New
seen_in (Some (value.Unformed inode)) number commit_point = New
seen_in (Some (value.Block bytes)) number commit_point = New
seen_in (Some (value.Slot object name)) number commit_point = New
seen_in (Some (value.Saved bytes)) number commit_point = New
seen_in (Some (value.SavedCred bytes)) number commit_point = New
