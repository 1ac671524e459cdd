-- The entries of all directories of a picture, and what they say of each object.
use Rattle.std.specs.Prelude.{◌≡◌, ℕ, ◌+◌, ◌<◌, ◌≤◌, ◌==◌, ◌&&◌, not, Bool, min, List, [], ◌∷◌, ◌++◌}
use Rattle.std.specs.Prelude.{length, slice_index_or, count_by, Option, Some, None}
use Rattle.std.specs.Prelude.{if◌then◌else◌}
use Rattle.std.specs.List.{flat_map, list_any}
use Rattle.file_tree.specs.declared.object.Slot.{Slot}
use Rattle.audit.specs.declared.entries.Names.{Names}
use Rattle.audit.specs.declared.picture.Portrait.{Portrait}
use Rattle.audit.specs.Pictures.{AreInOrder, attributes}
use Rattle.audit.specs.Flaws.{ancestor, is_directory, names_of, names_shown, portrait_at, slots_in}

-- ---- entries

abbrev pub number_named : Option Slot → Option ℕ
number_named None = None
number_named (Some s) = Some s.number

-- an entry: the number that it names, and its directory
abbrev pub entry_at : ℕ → Option Slot → List (ℕ × ℕ)
entry_at dir None = []
entry_at dir (Some s) = (s.number, dir) ∷ []

-- those of an object, if it is a directory
abbrev pub entries_by : Portrait → List (ℕ × ℕ)
entries_by x = if is_directory x then flat_map (entry_at x.number) (slots_in x) else []

unfoldable pub entries_in : List Portrait → List (ℕ × ℕ)
entries_in objects = flat_map entries_by objects

abbrev pub is_entry : ℕ → ℕ → ℕ × ℕ → Bool
is_entry n dir e = (e.0 == n) && (e.1 == dir)

-- ---- what entries say of objects

-- the most that are counted
abbrev pub most_names : ℕ
most_names = 18446744073709551615

-- what entries say of an object
pub record AreSaid (entries : List (ℕ × ℕ)) (x : Portrait) (names : Names) : Type 0 where
  pub count : names.count ≡ min (count_by (λ e. e.0 == x.number) entries) most_names
  pub held : names.held ≡ list_any (is_entry x.number (attributes x.object).parent) entries

-- of each
pub record AreNamed (objects : List Portrait) (entries : List (ℕ × ℕ)) (names : List Names)
    : Type 0 where
  pub long : length names ≡ length objects
  pub each : (i : ℕ) (x : Portrait) (d : Names) → i < length objects
      → x ≡ slice_index_or objects i x → AreSaid entries x (slice_index_or names i d)

-- what the entries of two parts of the directories say of each
pub record AreNamedBy (objects : List Portrait) (low high : List Names) : Type 0 where
  pub some : List (ℕ × ℕ)
  pub others : List (ℕ × ℕ)
  pub all : some ++ others ≡ entries_in objects
  pub first : AreNamed objects some low
  pub second : AreNamed objects others high

-- an entry of its stored parent names an object
abbrev pub is_held : List Portrait → Portrait → Bool
is_held objects x =
    not (names_shown x.number (portrait_at objects (attributes x.object).parent) == 0)

-- what all entries say of an object
pub record IsNamed (objects : List Portrait) (x : Portrait) (names : Names) : Type 0 where
  pub count : names.count ≡ min (names_of objects x.number) most_names
  pub held : names.held ≡ is_held objects x

-- ---- places and ways

-- objects with ascending numbers from 1 on
abbrev pub AreByNumber : List Portrait → Type 0
AreByNumber objects = (next : ℕ) × AreInOrder 1 next objects

-- the place of an object with this number, or none where no object has it
abbrev pub IsPlace : List Portrait → ℕ → Option ℕ → Type 0
IsPlace objects number None = portrait_at objects number ≡ None
IsPlace objects number (Some place) =
    (place < length objects)
    × ((d : Portrait) → portrait_at objects number ≡ Some (slice_index_or objects place d))

-- the number so many steps up from another, or more
pub record IsWay (steps : ℕ) (objects : List Portrait) (n way : ℕ) : Type 0 where
  pub made : ℕ
  pub some : 1 ≤ made
  pub enough : steps ≤ made
  pub is : way ≡ ancestor made objects n

-- from each object
pub record AreWays (steps : ℕ) (objects : List Portrait) (ways : List ℕ) : Type 0 where
  pub long : length ways ≡ length objects
  pub each : (i : ℕ) (x : Portrait) → i < length objects → x ≡ slice_index_or objects i x
      → IsWay steps objects x.number (slice_index_or ways i 0)
