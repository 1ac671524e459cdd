-- The calls that are drawn.
use Rattle.std.specs.Prelude.{ℕ, ◌+◌, ◌==◌, List, [], ◌∷◌, if◌then◌else◌}
use Rattle.harp_types.specs.Limits.{field_left}
use Rattle.harp_types.specs.declared.attr.SetAttr.{SetAttr}
use Rattle.harp_types.specs.declared.attr.Time.{Time}
use Rattle.harp_types.specs.declared.call.Call.{Call}
use Rattle.harp_types.specs.declared.call.Call.TheVariants as call
use Rattle.sweep.specs.declared.calls.EntryCall.{EntryCall}
use Rattle.sweep.specs.declared.calls.EntryCall.TheVariants as of
use Rattle.sweep.specs.declared.calls.CallKind.{CallKind}
use Rattle.sweep.specs.declared.calls.CallKind.TheVariants as kind
use Rattle.sweep.specs.Draws.{Drawing, ◌>>=◌, gives, below}

-- the number of an object
abbrev pub handle : Drawing ℕ
handle = do
  number ← below 8
  gives (number + 1)

-- a name of one letter: a, b, c or d
abbrev pub name : Drawing (List ℕ)
name = do
  letter ← below 4
  gives ((letter + 97) ∷ [])

-- a directory, and a name in it
unfoldable pub entry : Drawing (ℕ × List ℕ)
entry = do
  dir ← handle
  name ← name
  gives (dir, name)

-- only the mode is set
abbrev pub with_mode : ℕ → SetAttr
with_mode mode =
    let left : Time = record { seconds = field_left; micros = field_left } in
    record {
      mode = mode;
      uid = field_left;
      gid = field_left;
      size = field_left;
      atime = left;
      mtime = left;
    }

-- the kinds of calls, by number
abbrev pub call_kind : ℕ → CallKind
call_kind number =
    if number == 0 then kind.OfEntry of.Create else
    if number == 1 then kind.OfEntry of.MkDir else
    if number == 2 then kind.Write else
    if number == 3 then kind.OfEntry of.Remove else
    if number == 4 then kind.Rename else
    if number == 5 then kind.OfEntry of.Lookup else
    if number == 6 then kind.Read else kind.ReadDir

-- a file is made with mode 644, and a directory with mode 755, in octal
abbrev pub call_of_entry : EntryCall → ℕ → List ℕ → Call
call_of_entry of.Create dir name = call.Create dir name (with_mode 420)
call_of_entry of.MkDir dir name = call.MkDir dir name (with_mode 493)
call_of_entry of.Remove dir name = call.Remove dir name
call_of_entry of.Lookup dir name = call.Lookup dir name

unfoldable pub write : Drawing Call
write = do
  file ← handle
  offset ← below 10000
  gives (call.Write file offset (0xaa ∷ 0xbb ∷ 0xcc ∷ 0xdd ∷ []))

unfoldable pub rename : Drawing Call
rename = do
  from ← entry
  to ← entry
  gives (call.Rename from.0 from.1 to.0 to.1)

unfoldable pub call_of_kind : CallKind → Drawing Call
call_of_kind (kind.OfEntry call) = do
  place ← entry
  gives (call_of_entry call place.0 place.1)
call_of_kind kind.Write = write
call_of_kind kind.Rename = rename
call_of_kind kind.Read = do
  file ← handle
  gives (call.Read file 0 100)
call_of_kind kind.ReadDir = do
  dir ← handle
  gives (call.ReadDir dir 0 500)

unfoldable pub any_call : Drawing Call
any_call = do
  number ← below 8
  call_of_kind (call_kind number)
