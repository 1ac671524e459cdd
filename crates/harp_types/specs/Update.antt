-- Updates and reads.
use Rattle.std.specs.Prelude.{Bool, true, false}
use Rattle.harp_types.specs.declared.call.Call.{Call}
use Rattle.harp_types.specs.declared.call.Call.TheVariants as call

-- an update may change the tree, a read can't
abbrev pub is_update : Call → Bool
is_update (call.SetAttr handle attr) = true
is_update (call.Write handle offset bytes) = true
is_update (call.Create dir name attr) = true
is_update (call.Remove dir name) = true
is_update (call.Rename dir name to_dir to_name) = true
is_update (call.Link handle dir name) = true
is_update (call.SymLink dir name text attr) = true
is_update (call.MkDir dir name attr) = true
is_update (call.RmDir dir name) = true
is_update call.Null = false
is_update (call.GetAttr handle) = false
is_update (call.Lookup dir name) = false
is_update (call.ReadLink handle) = false
is_update (call.Read handle offset count) = false
is_update (call.ReadDir dir cookie count) = false
is_update (call.StatFs handle) = false

-- an update of entries of directories alone, which sets neither attributes nor bytes
abbrev pub changes_entries : Call → Bool
changes_entries (call.Remove dir name) = true
changes_entries (call.RmDir dir name) = true
changes_entries (call.Link handle dir name) = true
changes_entries (call.Rename dir name to_dir to_name) = true
changes_entries (call.SetAttr handle attr) = false
changes_entries (call.Write handle offset bytes) = false
changes_entries (call.Create dir name attr) = false
changes_entries (call.SymLink dir name text attr) = false
changes_entries (call.MkDir dir name attr) = false
changes_entries call.Null = false
changes_entries (call.GetAttr handle) = false
changes_entries (call.Lookup dir name) = false
changes_entries (call.ReadLink handle) = false
changes_entries (call.Read handle offset count) = false
changes_entries (call.ReadDir dir cookie count) = false
changes_entries (call.StatFs handle) = false
