-- What a caller may do: Unix permissions by owner, group and others. User 0 may do all.
use Rattle.std.specs.Prelude.{ℕ, ◌/◌, ◌%◌, Bool, false, not, ◌==◌, ◌&&◌, ◌||◌, bit_and, Option, Some, None, Ok, if◌then◌else◌}
use Rattle.harp_types.specs.Limits.{field_left}
use Rattle.harp_types.specs.declared.attr.SetAttr.{SetAttr}
use Rattle.harp_types.specs.declared.cred.Cred.{Cred}
use Rattle.harp_types.specs.declared.reply.Status.TheVariants.{Perm, Acces}
use Rattle.file_tree.specs.declared.object.Object.{Object}
use Rattle.file_tree.specs.Tree.{Tree, Slots, place}
use Rattle.file_tree.specs.Tries.{Tried, ◌>>=◌, refuse, directory}

-- what is wanted of an object, as a bit of a class
abbrev pub reading : ℕ
reading = 4

abbrev pub writing : ℕ
writing = 2

abbrev pub searching : ℕ
searching = 1

-- the bits of a mode that count for a caller: those of the owner, of the group, or of others
abbrev pub class_bits : Cred → ℕ → ℕ → ℕ → ℕ
class_bits cred mode uid gid =
    if cred.uid == uid then mode / 64 % 8
    else (if cred.gid == gid then mode / 8 % 8 else mode % 8)

-- whether a caller may do all that is wanted with an object of this mode, user and group
abbrev pub may : Cred → ℕ → ℕ → ℕ → ℕ → Bool
may cred mode uid gid want =
    (cred.uid == 0)
    || (bit_and (class_bits cred mode uid gid) want == want)

abbrev pub may_at : Cred → Option Object → ℕ → Bool
may_at cred None want = false
may_at cred (Some o) want = may cred o.mode o.uid o.gid want

-- a refusal, unless the caller may do what is wanted with the object that a number names
abbrev pub allowed : Tree → Cred → ℕ → ℕ → Tried (Unit {0})
allowed tree cred number want = refuse Acces (not (may_at cred (place tree number) want))

-- the slots of the directory that a number names, where the caller may search it
abbrev pub searched : Tree → Cred → ℕ → Tried Slots
searched tree cred dir = do
  slots ← directory tree dir
  _ ← allowed tree cred dir searching
  Ok slots

-- ---- fields that are set

abbrev pub is_given : ℕ → Bool
is_given field = not (field == field_left)

-- whether a SETATTR gives another field than the size
abbrev pub sets_more : SetAttr → Bool
sets_more a =
    is_given a.mode || is_given a.uid || is_given a.gid || is_given a.atime.seconds
    || is_given a.mtime.seconds

-- whether a field is given, and with another value
abbrev pub differs : ℕ → ℕ → Bool
differs field value = is_given field && not (field == value)

-- whether an object would go to another user, or to a group that is neither its own nor the
-- caller's
abbrev pub gives_away : Cred → SetAttr → ℕ → ℕ → Bool
gives_away cred a uid gid = differs a.uid uid || (differs a.gid gid && differs a.gid cred.gid)

-- whether a caller may set these fields of an object of this user and group: its owner may, but not
-- give it away, and others set no field but the size
abbrev pub may_set : Cred → SetAttr → ℕ → ℕ → Bool
may_set cred a uid gid =
    (cred.uid == 0)
    || (if cred.uid == uid then not (gives_away cred a uid gid) else not (sets_more a))

-- whether a caller may make an object with these fields: its user and group are the caller's own,
-- where they are given
abbrev pub may_give : Cred → SetAttr → Bool
may_give cred a = (cred.uid == 0) || not (differs a.uid cred.uid || differs a.gid cred.gid)

-- a refusal, unless the caller may write the directory and make an object with these fields
abbrev pub may_make : Tree → Cred → ℕ → SetAttr → Tried (Unit {0})
may_make tree cred dir a = do
  _ ← allowed tree cred dir writing
  refuse Perm (not (may_give cred a))

abbrev pub size_alone : SetAttr → SetAttr
size_alone a = record {
  mode = field_left;
  uid = field_left;
  gid = field_left;
  size = a.size;
  atime = record { seconds = field_left; micros = field_left };
  mtime = record { seconds = field_left; micros = field_left };
}

-- the fields of a CREATE that count for a file of this user that is there: of others than its owner
-- the size alone
abbrev pub heeded : Cred → ℕ → SetAttr → SetAttr
heeded cred uid a = if (cred.uid == 0) || (cred.uid == uid) then a else size_alone a
