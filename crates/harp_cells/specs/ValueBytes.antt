-- The values of cells as bytes.
use Rattle.std.specs.Prelude.{◌≡◌, ℕ, ◌+◌, ◌<◌, ◌≤◌, ◌^◌, Bool, true, false, List, [], ◌∷◌, ◌++◌, length, nat_lt, Ok, Err}
use Rattle.harp_types.specs.Limits.{longest_name, block_size}
use Rattle.harp_types.specs.declared.attr.Kind.{Kind}
use Rattle.harp_types.specs.declared.attr.Time.{Time}
use Rattle.harp_base.specs.Fields.{Read, Reader, ◌⊗◌, byte_at, field_as, fields_by_tag, passing, tag_at, u16_at, u32_at, u64_at, below_at, bytes_at, u16_bytes, u32_bytes, u64_bytes, counted_bytes}
use Rattle.harp_base.specs.Attributes.{TimeFits, time_at, time_bytes}
use Rattle.harp_types.specs.Kinds.{kind_number, kinds}
use Rattle.harp_base.specs.Replies.{ReplyFits, reply_at, reply_bytes}
use Rattle.harp_cells.specs.Kinds.{is_other_kind}
use Rattle.harp_cells.specs.declared.value.Inode.{Inode}
use Rattle.harp_cells.specs.declared.value.UnformedInode.{UnformedInode}
use Rattle.harp_cells.specs.declared.value.Value.{Value}
use Rattle.harp_cells.specs.declared.value.Value.TheVariants as value
use Rattle.harp_cells.specs.declared.codec_forms.ValueForm.{ValueForm}
use Rattle.harp_cells.specs.declared.codec_forms.ValueForm.TheVariants as form

-- ---- fields

-- the most bytes of a record, and of a record without a credential
abbrev pub longest_record : ℕ
longest_record = 60008

abbrev pub longest_old_record : ℕ
longest_old_record = 60000

abbrev pub is_some : List ℕ → Bool
is_some bytes = nat_lt 0 (length bytes)

-- a u16 length from 1 to so much, and that many bytes
unfoldable pub some_bytes_at : ℕ → Reader (List ℕ)
some_bytes_at most = passing is_some (bytes_at most)

abbrev pub SomeFit : ℕ → List ℕ → Type 0
SomeFit most bytes = (1 ≤ length bytes) × (length bytes ≤ most)

-- ---- attributes of an object

abbrev pub InodeFits : Inode → Type 0
InodeFits o =
    (o.mode < 2 ^ 16) × (o.uid < 2 ^ 32) × (o.gid < 2 ^ 32) × (o.links < 2 ^ 32)
    × (o.parent < 2 ^ 32) × (o.size < 2 ^ 32) × (o.slots < 2 ^ 32)
    × TimeFits o.atime × TimeFits o.mtime × TimeFits o.ctime

unfoldable pub inode_bytes : Inode → List ℕ
inode_bytes o =
    kind_number o.kind ∷ [] ++ u16_bytes o.mode ++ u32_bytes o.uid ++ u32_bytes o.gid
    ++ u32_bytes o.links ++ u32_bytes o.parent ++ u32_bytes o.size ++ u32_bytes o.slots
    ++ time_bytes o.atime ++ time_bytes o.mtime ++ time_bytes o.ctime

abbrev pub inode_of_fields : ((((((((((Kind × ℕ) × ℕ) × ℕ) × ℕ) × ℕ) × ℕ) × ℕ) × Time) × Time) × Time)
    → Inode
inode_of_fields ((((((((((k, mode), u), g), l), p), s), n), a), m), c) = record {
  kind = k;
  mode = mode;
  uid = u;
  gid = g;
  links = l;
  parent = p;
  size = s;
  slots = n;
  atime = a;
  mtime = m;
  ctime = c;
}

unfoldable pub inode_at : Reader Inode
inode_at =
    field_as inode_of_fields
    (tag_at kind_number kinds ⊗ u16_at ⊗ u32_at ⊗ u32_at ⊗ u32_at ⊗ u32_at ⊗ u32_at ⊗ u32_at
    ⊗ time_at ⊗ time_at ⊗ time_at)

-- ---- attributes of what is no object of the three kinds

abbrev pub other_kind_at : Reader ℕ
other_kind_at = passing is_other_kind byte_at

abbrev pub UnformedFits : UnformedInode → Type 0
UnformedFits o =
    (is_other_kind o.kind ≡ true)
    × (o.mode < 2 ^ 16) × (o.uid < 2 ^ 32) × (o.gid < 2 ^ 32) × (o.links < 2 ^ 32)
    × (o.parent < 2 ^ 32) × (o.size < 2 ^ 32) × (o.slots < 2 ^ 32)
    × TimeFits o.atime × TimeFits o.mtime × TimeFits o.ctime

unfoldable pub unformed_bytes : UnformedInode → List ℕ
unformed_bytes o =
    o.kind ∷ [] ++ u16_bytes o.mode ++ u32_bytes o.uid ++ u32_bytes o.gid
    ++ u32_bytes o.links ++ u32_bytes o.parent ++ u32_bytes o.size ++ u32_bytes o.slots
    ++ time_bytes o.atime ++ time_bytes o.mtime ++ time_bytes o.ctime

abbrev pub unformed_of_fields : ((((((((((ℕ × ℕ) × ℕ) × ℕ) × ℕ) × ℕ) × ℕ) × ℕ) × Time) × Time) × Time)
    → UnformedInode
unformed_of_fields ((((((((((k, mode), u), g), l), p), s), n), a), m), c) = record {
  kind = k;
  mode = mode;
  uid = u;
  gid = g;
  links = l;
  parent = p;
  size = s;
  slots = n;
  atime = a;
  mtime = m;
  ctime = c;
}

unfoldable pub unformed_at : Reader UnformedInode
unformed_at =
    field_as unformed_of_fields
    (other_kind_at ⊗ u16_at ⊗ u32_at ⊗ u32_at ⊗ u32_at ⊗ u32_at ⊗ u32_at ⊗ u32_at
    ⊗ time_at ⊗ time_at ⊗ time_at)

-- the byte at a place, where it was read, is the number of no kind
abbrev pub is_read_other : Read ℕ → Bool
is_read_other (Ok x) = is_other_kind x.0
is_read_other (Err fault) = false

unfoldable pub has_other_kind : List ℕ → ℕ → Bool
has_other_kind bytes at = is_read_other (byte_at bytes at)

-- ---- values

abbrev pub value_form : Value → ValueForm
value_form (value.Meta next used stamp) = form.Meta
value_form (value.Object inode) = form.Object
value_form (value.Unformed inode) = form.Object
value_form (value.Block bytes) = form.Block
value_form (value.Slot object name) = form.Slot
value_form (value.Client number index reply) = form.Client
value_form (value.Saved bytes) = form.Saved
value_form (value.SavedCred bytes) = form.SavedCred

abbrev pub value_form_number : ValueForm → ℕ
value_form_number form.Meta = 1
value_form_number form.Object = 2
value_form_number form.Block = 3
value_form_number form.Slot = 4
value_form_number form.Client = 5
value_form_number form.Saved = 6
value_form_number form.SavedCred = 7

abbrev pub value_forms : List ValueForm
value_forms = form.Meta ∷ form.Object ∷ form.Block ∷ form.Slot ∷ form.Client ∷ form.Saved
    ∷ form.SavedCred ∷ []

abbrev pub value_fields : Value → List ℕ
value_fields (value.Meta next used stamp) = u32_bytes next ++ u32_bytes used ++ u64_bytes stamp
value_fields (value.Object inode) = inode_bytes inode
value_fields (value.Unformed inode) = unformed_bytes inode
value_fields (value.Block bytes) = counted_bytes bytes
value_fields (value.Slot object name) = u32_bytes object ++ counted_bytes name
value_fields (value.Client number index reply) =
    u64_bytes number ++ u64_bytes index ++ reply_bytes reply
value_fields (value.Saved bytes) = counted_bytes bytes
value_fields (value.SavedCred bytes) = counted_bytes bytes

-- the one spelling of a value: the number of its form, and its fields
abbrev pub value_bytes : Value → List ℕ
value_bytes v = value_form_number (value_form v) ∷ value_fields v

-- the bounds of the fields
abbrev pub ValueFits : Value → Type 0
ValueFits (value.Meta next used stamp) =
    (next < 2 ^ 32) × (used < 2 ^ 32) × (stamp < 2 ^ 62 + 2000)
ValueFits (value.Object inode) = InodeFits inode
ValueFits (value.Unformed inode) = UnformedFits inode
ValueFits (value.Block bytes) = SomeFit block_size bytes
ValueFits (value.Slot object name) = (object < 2 ^ 32) × SomeFit longest_name name
ValueFits (value.Client number index reply) =
    (number < 2 ^ 64) × (index < 2 ^ 64) × ReplyFits reply
ValueFits (value.Saved bytes) = SomeFit longest_old_record bytes
ValueFits (value.SavedCred bytes) = SomeFit longest_record bytes

-- the attributes of an object, or of what has another kind
abbrev pub attributes_at : (other : Bool) → Reader Value
attributes_at true bytes at = field_as value.Unformed unformed_at bytes at
attributes_at false bytes at = field_as value.Object inode_at bytes at

unfoldable pub value_fields_at : ValueForm → Reader Value
value_fields_at form.Meta bytes at =
    field_as (λ x. value.Meta x.0.0 x.0.1 x.1) (u32_at ⊗ u32_at ⊗ below_at (2 ^ 62 + 2000)) bytes at
value_fields_at form.Object bytes at = attributes_at (has_other_kind bytes at) bytes at
value_fields_at form.Block bytes at = field_as value.Block (some_bytes_at block_size) bytes at
value_fields_at form.Slot bytes at =
    field_as (λ x. value.Slot x.0 x.1) (u32_at ⊗ some_bytes_at longest_name) bytes at
value_fields_at form.Client bytes at =
    field_as (λ x. value.Client x.0.0 x.0.1 x.1) (u64_at ⊗ u64_at ⊗ reply_at) bytes at
value_fields_at form.Saved bytes at =
    field_as value.Saved (some_bytes_at longest_old_record) bytes at
value_fields_at form.SavedCred bytes at =
    field_as value.SavedCred (some_bytes_at longest_record) bytes at

-- a value: its form's number, and then the fields
unfoldable pub value_at : Reader Value
value_at = fields_by_tag (tag_at value_form_number value_forms) value_fields_at
