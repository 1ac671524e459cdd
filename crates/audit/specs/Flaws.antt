-- What is wrong in a picture: the flaws in their order.
use Rattle.std.specs.Prelude.{ℕ, zero, suc, ◌+◌, ◌*◌, ◌==◌, ◌&&◌, ◌||◌, not, nat_lt, Bool, true}
use Rattle.std.specs.Prelude.{false, List, [], ◌∷◌, ◌++◌, length, map, count_by, sum_by, Option}
use Rattle.std.specs.Prelude.{Some, None, Ok, Err, if◌then◌else◌}
use Rattle.std.specs.List.{flat_map, list_any}
use Rattle.harp_types.specs.Limits.{largest_file, longest_path, slot_size, tree_blocks}
use Rattle.harp_types.specs.declared.attr.Kind.{Kind}
use Rattle.harp_types.specs.declared.attr.Kind.TheVariants as kind
use Rattle.file_tree.specs.declared.object.Slot.{Slot}
use Rattle.file_tree.specs.Sound.{has_name}
use Rattle.file_tree.specs.Tree.{Slots, blocks_of, names_in}
use Rattle.file_tree.specs.Tries.{Tried, entry_name, is_some}
use Rattle.harp_cells.specs.declared.value.Value.{Value}
use Rattle.harp_cells.specs.declared.value.Value.TheVariants as value
use Rattle.audit.specs.declared.attributes.Attributes.{Attributes}
use Rattle.audit.specs.declared.flaw.Finding.{Finding}
use Rattle.audit.specs.declared.flaw.Flaw.{Flaw}
use Rattle.audit.specs.declared.flaw.Flaw.TheVariants as flaw
use Rattle.audit.specs.declared.picture.Picture.{Picture}
use Rattle.audit.specs.declared.picture.Portrait.{Portrait}
use Rattle.audit.specs.Pictures.{attributes, is_directory_kind}

-- ---- the objects of a picture

-- the object of a number
unfoldable pub portrait_at : List Portrait → ℕ → Option Portrait
portrait_at [] number = None
portrait_at (x ∷ xs) number = if x.number == number then Some x else portrait_at xs number

abbrev pub is_directory : Portrait → Bool
is_directory x = is_directory_kind (attributes x.object).kind

abbrev pub is_directory_shown : Option Portrait → Bool
is_directory_shown None = false
is_directory_shown (Some x) = is_directory x

abbrev pub parent_shown : Option Portrait → ℕ
parent_shown None = 0
parent_shown (Some x) = (attributes x.object).parent

-- ---- entries

abbrev pub entry_of_value : Value → Option Slot
entry_of_value (value.Slot object name) = Some (record { name = name; number = object })
entry_of_value (value.Meta next used stamp) = None
entry_of_value (value.Object i) = None
entry_of_value (value.Unformed i) = None
entry_of_value (value.Block bytes) = None
entry_of_value (value.Client number index reply) = None
entry_of_value (value.Saved bytes) = None
entry_of_value (value.SavedCred bytes) = None

-- the entry in a slot
abbrev pub entry_in : Option Value → Option Slot
entry_in None = None
entry_in (Some v) = entry_of_value v

abbrev pub slots_in : Portrait → Slots
slots_in x = map entry_in x.slots

-- the slots of a directory that name a number; slots of another object name none
abbrev pub names_by : ℕ → Portrait → ℕ
names_by number x = if is_directory x then names_in number (slots_in x) else 0

abbrev pub names_shown : ℕ → Option Portrait → ℕ
names_shown number None = 0
names_shown number (Some x) = names_by number x

-- the slots of all directories that do
unfoldable pub names_of : List Portrait → ℕ → ℕ
names_of objects number = sum_by (names_by number) objects

-- ---- flaws of the whole

abbrev pub blocks_by : Portrait → ℕ
blocks_by x = blocks_of (attributes x.object).size

unfoldable pub blocks_in : List Portrait → ℕ
blocks_in objects = sum_by blocks_by objects

abbrev pub has_no_root : List Portrait → Bool
has_no_root objects = not (is_directory_shown (portrait_at objects 1))

abbrev pub has_wrong_space : Picture → Bool
has_wrong_space p = not (p.used == blocks_in p.objects) || nat_lt tree_blocks p.used

-- ---- flaws of an object

-- a regular file is too large
abbrev pub is_large_file : Attributes → Bool
is_large_file a = nat_lt largest_file a.size || not (a.slots == 0)

abbrev pub is_odd_directory : Attributes → Bool
is_odd_directory a = not (a.size == slot_size * a.slots)

abbrev pub is_odd_link : Attributes → ℕ → Bool
is_odd_link a text =
    not (text == a.size) || (nat_lt longest_path text || not (a.slots == 0))

abbrev pub is_odd_kind : Option Kind → Attributes → ℕ → Bool
is_odd_kind None a text = true
is_odd_kind (Some kind.Regular) a text = is_large_file a
is_odd_kind (Some kind.Directory) a text = is_odd_directory a
is_odd_kind (Some kind.Link) a text = is_odd_link a text

-- FORM: no kind of object, a mode above 12 bits, a size that isn't one, or slots of no directory
abbrev pub has_odd_form : Portrait → Bool
has_odd_form x =
    nat_lt 4095 (attributes x.object).mode
    || is_odd_kind (attributes x.object).kind (attributes x.object) x.text

abbrev pub is_refused : Tried (Unit {0}) → Bool
is_refused (Ok x) = false
is_refused (Err status) = true

abbrev pub is_bad_entry : List Portrait → Option Slot → Bool
is_bad_entry objects None = false
is_bad_entry objects (Some s) =
    (s.number == 1) || (not (is_some (portrait_at objects s.number))
    || is_refused (entry_name s.name))

-- the name of the entry stands in a slot
abbrev pub stands_in : Option Slot → Slots → Bool
stands_in None slots = false
stands_in (Some s) slots = list_any (has_name s.name) slots

-- a name stands twice
unfoldable pub has_twins : Slots → Bool
has_twins [] = false
has_twins (s ∷ slots) = stands_in s slots || has_twins slots

-- SLOT: an entry names no object or the root, has a name that none may have, or the name of another
abbrev pub has_bad_slot : List Portrait → Portrait → Bool
has_bad_slot objects x =
    list_any (is_bad_entry objects) (slots_in x) || has_twins (slots_in x)

-- an entry names a directory
abbrev pub names_directory : List Portrait → Option Slot → Bool
names_directory objects None = false
names_directory objects (Some s) = is_directory_shown (portrait_at objects s.number)

-- 2 and the subdirectories, or the slots that name it
abbrev pub links_by : List Portrait → Portrait → ℕ
links_by objects x =
    if is_directory x then 2 + count_by (names_directory objects) (slots_in x)
    else names_of objects x.number

-- LINKS: they aren't those computed, no slot names another object than the root, or several name a
-- directory
abbrev pub has_wrong_links : List Portrait → Portrait → Bool
has_wrong_links objects x =
    not ((attributes x.object).links == links_by objects x)
    || ((not (x.number == 1) && (names_of objects x.number == 0))
    || (is_directory x && nat_lt 1 (names_of objects x.number)))

-- the stored parent of a directory has no slot that names it
abbrev pub has_wrong_holder : List Portrait → Portrait → Bool
has_wrong_holder objects x =
    if x.number == 1 then not ((attributes x.object).parent == 1)
    else names_shown x.number (portrait_at objects (attributes x.object).parent) == 0

-- PARENT: a directory's stored parent isn't the one with its slot, or another object has one
abbrev pub has_wrong_parent : List Portrait → Portrait → Bool
has_wrong_parent objects x =
    if is_directory x then has_wrong_holder objects x
    else not ((attributes x.object).parent == 0)

-- one step up by the stored parents: the root stays, and nothing is above what isn't there
abbrev pub above : List Portrait → ℕ → ℕ
above objects number =
    if number == 1 then 1 else parent_shown (portrait_at objects number)

-- so many steps up
unfoldable pub ancestor : ℕ → List Portrait → ℕ → ℕ
ancestor zero objects number = number
ancestor (suc steps) objects number = ancestor steps objects (above objects number)

-- LOST: the parents of a directory don't lead to the root within as many steps as there are objects
abbrev pub is_lost : List Portrait → Portrait → Bool
is_lost objects x =
    is_directory x && not (ancestor (length objects) objects x.number == 1)

-- the first flaw of an object
abbrev pub first_flaw : List Portrait → Portrait → Option Flaw
first_flaw objects x =
    if has_odd_form x then Some flaw.Form
    else (if has_bad_slot objects x then Some flaw.Slot
    else (if has_wrong_links objects x then Some flaw.Links
    else (if has_wrong_parent objects x then Some flaw.Parent
    else (if is_lost objects x then Some flaw.Lost else None))))

-- ---- the findings

abbrev pub finding_where : Bool → Flaw → List Finding
finding_where holds flaw = if holds then record { number = 0; flaw = flaw } ∷ [] else []

abbrev pub finding_of : ℕ → Option Flaw → List Finding
finding_of number None = []
finding_of number (Some flaw) = record { number = number; flaw = flaw } ∷ []

abbrev pub finding_at : List Portrait → Portrait → List Finding
finding_at objects x = finding_of x.number (first_flaw objects x)

-- THE FINDINGS: those of the whole, and then the first flaw of each object
abbrev pub findings : Picture → List Finding
findings p =
    finding_where (has_no_root p.objects) flaw.Root
    ++ finding_where (has_wrong_space p) flaw.Space
    ++ flat_map (finding_at p.objects) p.objects
