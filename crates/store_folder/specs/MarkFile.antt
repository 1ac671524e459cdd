-- The file of the mark: its bytes, and those of old marks, which end before the last two fields.
use Rattle.std.specs.Prelude.{◌≡◌, ◌⊎◌, ℕ, ◌<◌, ◌^◌, ◌==◌, if◌then◌else◌, length, Bool, true, false, List, [], ◌∷◌, ◌++◌, Option, Some, None, is_some, Ok, Err}
use Rattle.harp_types.specs.View.{above}
use Rattle.harp_base.specs.Fields.{Read, Reader, ◌⊗◌, field_as, fields_by_tag, tag_at, u32_at, below_at, u32_bytes, u64_bytes}
use Rattle.harp_base.specs.Names.{ViewFits, view_bytes, view_at}
use Rattle.harp_types.specs.declared.server.ServerId.TheVariants.{Zero, One, Two}
use Rattle.harp_types.specs.declared.state.Role.{Role}
use Rattle.harp_types.specs.declared.state.Role.TheVariants.{Leads, Follows, Outside}
use Rattle.harp_store.specs.Mark.{IsLongest, IsRing, MarkFields, SavedNumbers, old_ring}
use Rattle.store_folder.specs.declared.mark_fields.Numbers.{Numbers}
use Rattle.store_folder.specs.declared.mark_fields.FirstFields.{FirstFields}
use Rattle.store_folder.specs.declared.mark_fields.LastFields.{LastFields}

-- ---- a field that may be absent: a byte 0, or a byte 1 and the field

abbrev pub flag_number : Bool → ℕ
flag_number false = 0
flag_number true = 1

abbrev pub flags : List Bool
flags = false ∷ true ∷ []

abbrev pub bytes_behind : {A : Type 0} → (A → List ℕ) → Option A → List ℕ
bytes_behind spell None = []
bytes_behind spell (Some x) = spell x

abbrev pub option_bytes : {A : Type 0} → (A → List ℕ) → Option A → List ℕ
option_bytes spell o = flag_number (is_some o) ∷ bytes_behind spell o

abbrev pub field_behind : {A : Type 0} → Reader A → Bool → Reader (Option A)
field_behind r false bytes at = Ok (None, at)
field_behind r true bytes at = field_as Some r bytes at

abbrev pub option_at : {A : Type 0} → Reader A → Reader (Option A)
option_at r = fields_by_tag (tag_at flag_number flags) (field_behind r)

-- ---- roles

abbrev pub role_number : Role → ℕ
role_number Outside = 0
role_number (Leads Zero) = 1
role_number (Leads One) = 2
role_number (Leads Two) = 3
role_number (Follows Zero) = 4
role_number (Follows One) = 5
role_number (Follows Two) = 6

abbrev pub roles : List Role
roles =
    Outside ∷ Leads Zero ∷ Leads One ∷ Leads Two ∷ Follows Zero ∷ Follows One ∷ Follows Two ∷ []

-- ---- the numbers of a saved log, but for its ring

abbrev pub NumbersFit : Numbers → Type 0
NumbersFit n = (n.base < 2 ^ 62) × (n.cp < 2 ^ 62) × (n.top < 2 ^ 62)

unfoldable pub numbers_bytes : Numbers → List ℕ
numbers_bytes n = u64_bytes n.base ++ u64_bytes n.cp ++ u64_bytes n.top

unfoldable pub numbers_at : Reader Numbers
numbers_at =
    field_as (λ x. record { base = x.0.0; cp = x.0.1; top = x.1 })
    (below_at (2 ^ 62) ⊗ below_at (2 ^ 62) ⊗ below_at (2 ^ 62))

-- ---- the fields of each mark, and the two behind them

abbrev pub OptionFits : {A : Type 0} → (A → Type 0) → Option A → Type 0
OptionFits Fits None = Unit {0}
OptionFits Fits (Some x) = Fits x

abbrev pub FirstFit : FirstFields → Type 0
FirstFit f = ViewFits f.promised × ViewFits f.accepted × (f.lb < 2 ^ 62)
    × OptionFits NumbersFit f.numbers

unfoldable pub first_bytes : FirstFields → List ℕ
first_bytes f =
    view_bytes f.promised ++ view_bytes f.accepted ++ role_number f.role ∷ [] ++ u64_bytes f.lb
    ++ option_bytes numbers_bytes f.numbers

unfoldable pub first_at : Reader FirstFields
first_at =
    field_as (λ x. record {
      promised = x.0.0.0.0;
      accepted = x.0.0.0.1;
      role = x.0.0.1;
      lb = x.0.1;
      numbers = x.1;
    })
    (view_at ⊗ view_at ⊗ tag_at role_number roles ⊗ below_at (2 ^ 62) ⊗ option_at numbers_at)

abbrev pub LastFit : LastFields → Type 0
LastFit f = OptionFits (λ n. n < 2 ^ 32) f.longest × OptionFits (λ n. n < 2 ^ 32) f.ring

unfoldable pub last_bytes : LastFields → List ℕ
last_bytes f = option_bytes u32_bytes f.longest ++ option_bytes u32_bytes f.ring

unfoldable pub last_at : Reader LastFields
last_at = field_as (λ x. record { longest = x.0; ring = x.1 }) (option_at u32_at ⊗ option_at u32_at)

-- ---- the fields of a file

abbrev pub old_ring_of : Option Numbers → Option ℕ
old_ring_of None = None
old_ring_of (Some n) = Some old_ring

-- what the file of an old mark lacks
abbrev pub old_last : FirstFields → LastFields
old_last f = record { longest = None; ring = old_ring_of f.numbers }

abbrev pub Fields : Type 0
Fields = Option (FirstFields × LastFields)

abbrev pub fields_whole : List ℕ → FirstFields → Read LastFields → Fields
fields_whole bytes first (Err e) = None
fields_whole bytes first (Ok last) = if last.1 == length bytes then Some (first, last.0) else None

abbrev pub fields_behind : List ℕ → Read FirstFields → Fields
fields_behind bytes (Err e) = None
fields_behind bytes (Ok first) =
    if first.1 == length bytes then Some (first.0, old_last first.0)
    else fields_whole bytes first.0 (last_at bytes first.1)

-- the fields of a mark's file
unfoldable pub fields_in : List ℕ → Fields
fields_in bytes = fields_behind bytes (first_at bytes 0)

-- ---- a mark

abbrev pub SavedFits : SavedNumbers → Type 0
SavedFits s = (s.base < 2 ^ 62) × (s.cp < 2 ^ 62) × (s.top < 2 ^ 62) × IsRing s.ring

-- what each mark keeps
abbrev pub MarkFits : MarkFields → Type 0
MarkFits m = ViewFits m.promised × ViewFits m.accepted × (above m.accepted m.promised ≡ false)
    × (m.lb < 2 ^ 62) × IsLongest m.longest × OptionFits SavedFits m.saved

abbrev pub numbers_of : Option SavedNumbers → Option Numbers
numbers_of None = None
numbers_of (Some s) = Some (record { base = s.base; cp = s.cp; top = s.top })

abbrev pub ring_of : Option SavedNumbers → Option ℕ
ring_of None = None
ring_of (Some s) = Some s.ring

abbrev pub first_of : MarkFields → FirstFields
first_of m = record {
  promised = m.promised;
  accepted = m.accepted;
  role = m.role;
  lb = m.lb;
  numbers = numbers_of m.saved;
}

abbrev pub last_of : MarkFields → LastFields
last_of m = record { longest = m.longest; ring = ring_of m.saved }

-- THE BYTES OF A MARK
abbrev pub mark_bytes : MarkFields → List ℕ
mark_bytes m = first_bytes (first_of m) ++ last_bytes (last_of m)

-- an old mark: from before promises had a length and the log got longer
abbrev pub IsOld : MarkFields → Type 0
IsOld m = (m.longest ≡ None) × OptionFits (λ s. s.ring ≡ old_ring) m.saved

-- a mark is spelled whole, or an old one without the last two fields
abbrev pub IsMarkFile : List ℕ → MarkFields → Type 0
IsMarkFile bytes m = (bytes ≡ mark_bytes m) ⊎ (IsOld m × (bytes ≡ first_bytes (first_of m)))
