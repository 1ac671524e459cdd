-- Reading the words of a trace from left to right, with the place where no word goes on.
use Rattle.std.specs.Prelude.{ℕ, ◌+◌, ◌==◌, List, [], ◌∷◌, map, find, slice_index, Option, Some, None, Result, Ok, Err, if◌then◌else◌}
use Rattle.std.specs.Str.{bytes_eq}
use Rattle.harp_types.specs.View.{View}
use Rattle.harp_types.specs.declared.server.ServerId.{ServerId}
use Rattle.harp_types.specs.declared.state.Held.{Held}
use Rattle.harp_types.specs.declared.state.Held.TheVariants as held
use Rattle.harp_types.specs.declared.attr.Time.{Time}
use Rattle.harp_types.specs.declared.attr.Kind.{Kind}
use Rattle.harp_types.specs.declared.attr.Kind.TheVariants as kind
use Rattle.harp_types.specs.declared.attr.Attr.{Attr}
use Rattle.text_spelling.specs.Lines.{held_text}
use Rattle.schedule_text.specs.declared.fault.TextFault.{TextFault}
use Rattle.schedule_text.specs.declared.fault.TextFault.TheVariants.{Grammar}
use Rattle.schedule_text.specs.Fields.{Reader, ◌>>=◌, spaced_at, number_at, u32_at, count_at, server_at, hex_at}
use Rattle.schedule_text.specs.Words.{named_at}
use Rattle.schedule_text.specs.Reading.{both_at, made_at}

-- ---- fields in a row

infixl 20 ◌⊗◌
abbrev pub ◌⊗◌ : {A B : Type 0} → Reader A → Reader B → Reader (A × B)
r ⊗ s = both_at r s

-- the place after this byte, which has to stand here
abbrev pub sign_at : ℕ → List ℕ → ℕ → Result ℕ TextFault
sign_at sign line at = if slice_index line at == sign then Ok (at + 1) else Err (Grammar at)

-- this byte, which tells nothing more
abbrev pub mark_at : ℕ → Reader (Unit {0})
mark_at sign line at = do
  next ← sign_at sign line at
  Ok (tt, next)

-- a field behind this byte
abbrev pub behind_at : {A : Type 0} → ℕ → Reader A → Reader A
behind_at sign r line at = do
  from ← sign_at sign line at
  r line from

-- a field behind a comma, and one behind a colon
abbrev pub comma_at : {A : Type 0} → Reader A → Reader A
comma_at = behind_at 44

abbrev pub colon_at : {A : Type 0} → Reader A → Reader A
colon_at = behind_at 58

-- ---- words for values

-- the value of these that has this word
abbrev pub value_named : {N : Type 0} → (N → List ℕ) → List N → List ℕ → Option N
value_named word all w = find (λ n. bytes_eq w (word n)) all

-- the word of one of these values
abbrev pub name_at : {N : Type 0} → (N → List ℕ) → List N → Reader N
name_at word all = named_at (map word all) (value_named word all)

-- a name, and the fields that it calls for
abbrev pub by_name_at : {N A : Type 0} → Reader N → (N → Reader A) → Reader A
by_name_at name fields line at = do
  n ← name line at
  fields n.0 line n.1

-- ---- views, and what is held

abbrev pub view_of : ℕ → ServerId → View
view_of count coordinator = record { count = count; coordinator = coordinator }

-- the count and the coordinator
unfoldable pub view_at : Reader View
view_at = made_at (count_at ⊗ behind_at 46 server_at) (λ x. view_of x.0 x.1)

abbrev pub spaced_view_at : Reader View
spaced_view_at = spaced_at view_at

abbrev pub helds : List Held
helds = held.Empty ∷ held.Held ∷ held.Lost ∷ []

abbrev pub held_at : Reader Held
held_at = name_at held_text helds

-- ---- names and contents

-- from one byte on to so many
abbrev pub some_hex_at : ℕ → Reader (List ℕ)
some_hex_at most line at =
    if slice_index line at == 45 then Err (Grammar at) else hex_at most line at

-- ---- attributes

abbrev pub kind_of : ℕ → Option Kind
kind_of b =
    if b == 49 then Some kind.Regular
    else (if b == 50 then Some kind.Directory
    else (if b == 53 then Some kind.Link else None))

abbrev pub kind_at : Reader Kind
kind_at line at =
    elim (kind_of (slice_index line at)) [ None ↦ Err (Grammar at) | Some k ↦ Ok (k, at + 1) ]

-- sixteen bits in octal digits
abbrev pub mode_at : Reader ℕ
mode_at = number_at 8 65535

abbrev pub time_of : ℕ → ℕ → Time
time_of seconds micros = record { seconds = seconds; micros = micros }

-- seconds and microseconds
unfoldable pub moment_at : Reader Time
moment_at = made_at (u32_at ⊗ colon_at u32_at) (λ x. time_of x.0 x.1)

-- kind, mode, links and owners
unfoldable pub owner_at : Reader ((((Kind × ℕ) × ℕ) × ℕ) × ℕ)
owner_at = kind_at ⊗ comma_at mode_at ⊗ comma_at u32_at ⊗ comma_at u32_at ⊗ comma_at u32_at

-- size, blocks and number
unfoldable pub extent_at : Reader ((ℕ × ℕ) × ℕ)
extent_at = comma_at u32_at ⊗ comma_at u32_at ⊗ comma_at u32_at

-- of the last access, of the last change of the contents, and of the last change
unfoldable pub times_at : Reader ((Time × Time) × Time)
times_at = comma_at moment_at ⊗ comma_at moment_at ⊗ comma_at moment_at

abbrev pub attr_of : (((((Kind × ℕ) × ℕ) × ℕ) × ℕ) × ((ℕ × ℕ) × ℕ)) × ((Time × Time) × Time)
    → Attr
attr_of ((((((k, mode), links), uid), gid), ((size, blocks), fileid)), ((a, m), c)) = record {
  kind = k;
  mode = mode;
  links = links;
  uid = uid;
  gid = gid;
  size = size;
  blocks = blocks;
  fileid = fileid;
  atime = a;
  mtime = m;
  ctime = c;
}

unfoldable pub attr_at : Reader Attr
attr_at = made_at (owner_at ⊗ extent_at ⊗ times_at) attr_of

abbrev pub spaced_attr_at : Reader Attr
spaced_attr_at = spaced_at attr_at
