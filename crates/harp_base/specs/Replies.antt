-- The one spelling of a reply, and reading it.
use Rattle.std.specs.Prelude.{ℕ, ◌<◌, ◌≤◌, ◌^◌, Bool, true, false, List, [], ◌∷◌, ◌++◌, length, Ok}
use Rattle.harp_types.specs.Statuses.{status_number, statuses}
use Rattle.harp_types.specs.declared.reply.DirEntry.{DirEntry}
use Rattle.harp_types.specs.declared.reply.Reply.{Reply}
use Rattle.harp_types.specs.declared.reply.Reply.TheVariants as reply
use Rattle.harp_base.specs.declared.reply_form.ReplyForm.{ReplyForm}
use Rattle.harp_base.specs.declared.reply_form.ReplyForm.TheVariants as form
use Rattle.harp_types.specs.Limits.{longest_name, longest_path, longest_transfer}
use Rattle.harp_base.specs.Fields.{Reader, ◌⊗◌, field_as, fields_by_tag, tag_at, u16_at, u32_at, bytes_at, many_at, u16_bytes, u32_bytes, counted_bytes, many_bytes, AllFit}
use Rattle.harp_base.specs.Attributes.{AttrFits, attr_at, attr_bytes}

-- ---- pages

abbrev pub EntryFits : DirEntry → Type 0
EntryFits e = (e.fileid < 2 ^ 32) × (length e.name ≤ longest_name) × (e.cookie < 2 ^ 32)

unfoldable pub entry_bytes : DirEntry → List ℕ
entry_bytes e = u32_bytes e.fileid ++ counted_bytes e.name ++ u32_bytes e.cookie

unfoldable pub entry_at : Reader DirEntry
entry_at =
    field_as (λ x. record { fileid = x.0.0; name = x.0.1; cookie = x.1 })
    (u32_at ⊗ bytes_at longest_name ⊗ u32_at)

abbrev pub EntriesFit : List DirEntry → Type 0
EntriesFit entries = (length entries < 2 ^ 16) × AllFit EntryFits entries

-- a u16 number of entries, and the entries
unfoldable pub entries_bytes : List DirEntry → List ℕ
entries_bytes entries = u16_bytes (length entries) ++ many_bytes entry_bytes entries

unfoldable pub entries_at : Reader (List DirEntry)
entries_at = fields_by_tag u16_at (many_at entry_at)

abbrev pub flag_number : Bool → ℕ
flag_number false = 0
flag_number true = 1

abbrev pub flags : List Bool
flags = false ∷ true ∷ []

-- ---- replies

abbrev pub form_of : Reply → ReplyForm
form_of (reply.Refused status) = form.Refused
form_of reply.Done = form.Done
form_of (reply.Attr attr) = form.Attr
form_of (reply.Node handle attr) = form.Node
form_of (reply.Path text) = form.Path
form_of (reply.Bytes attr bytes) = form.Bytes
form_of (reply.Page entries eof) = form.Page
form_of (reply.Space transfer block blocks free available) = form.Space

abbrev pub form_number : ReplyForm → ℕ
form_number form.Refused = 0
form_number form.Done = 1
form_number form.Attr = 2
form_number form.Node = 3
form_number form.Path = 4
form_number form.Bytes = 5
form_number form.Page = 6
form_number form.Space = 7

abbrev pub forms : List ReplyForm
forms = form.Refused ∷ form.Done ∷ form.Attr ∷ form.Node ∷ form.Path ∷ form.Bytes ∷ form.Page
    ∷ form.Space ∷ []

abbrev pub reply_fields_of : Reply → List ℕ
reply_fields_of (reply.Refused status) = status_number status ∷ []
reply_fields_of reply.Done = []
reply_fields_of (reply.Attr attr) = attr_bytes attr
reply_fields_of (reply.Node handle attr) = u32_bytes handle ++ attr_bytes attr
reply_fields_of (reply.Path text) = counted_bytes text
reply_fields_of (reply.Bytes attr bytes) = attr_bytes attr ++ counted_bytes bytes
reply_fields_of (reply.Page entries eof) = entries_bytes entries ++ flag_number eof ∷ []
reply_fields_of (reply.Space transfer block blocks free available) =
    u32_bytes transfer ++ u32_bytes block ++ u32_bytes blocks ++ u32_bytes free
    ++ u32_bytes available

-- the one spelling of a reply: the number of its form, and its fields
abbrev pub reply_bytes : Reply → List ℕ
reply_bytes r = form_number (form_of r) ∷ reply_fields_of r

-- the bounds of the fields
abbrev pub ReplyFits : Reply → Type 0
ReplyFits (reply.Refused status) = Unit {0}
ReplyFits reply.Done = Unit {0}
ReplyFits (reply.Attr attr) = AttrFits attr
ReplyFits (reply.Node handle attr) = (handle < 2 ^ 32) × AttrFits attr
ReplyFits (reply.Path text) = length text ≤ longest_path
ReplyFits (reply.Bytes attr bytes) = AttrFits attr × (length bytes ≤ longest_transfer)
ReplyFits (reply.Page entries eof) = EntriesFit entries
ReplyFits (reply.Space transfer block blocks free available) =
    (transfer < 2 ^ 32) × (block < 2 ^ 32) × (blocks < 2 ^ 32) × (free < 2 ^ 32)
    × (available < 2 ^ 32)

unfoldable pub reply_fields_at : ReplyForm → Reader Reply
reply_fields_at form.Refused bytes at =
    field_as reply.Refused (tag_at status_number statuses) bytes at
reply_fields_at form.Done bytes at = Ok (reply.Done, at)
reply_fields_at form.Attr bytes at = field_as reply.Attr attr_at bytes at
reply_fields_at form.Node bytes at = field_as (λ x. reply.Node x.0 x.1) (u32_at ⊗ attr_at) bytes at
reply_fields_at form.Path bytes at = field_as reply.Path (bytes_at longest_path) bytes at
reply_fields_at form.Bytes bytes at =
    field_as (λ x. reply.Bytes x.0 x.1) (attr_at ⊗ bytes_at longest_transfer) bytes at
reply_fields_at form.Page bytes at =
    field_as (λ x. reply.Page x.0 x.1) (entries_at ⊗ tag_at flag_number flags) bytes at
reply_fields_at form.Space bytes at =
    field_as (λ x. reply.Space x.0.0.0.0 x.0.0.0.1 x.0.0.1 x.0.1 x.1)
    (u32_at ⊗ u32_at ⊗ u32_at ⊗ u32_at ⊗ u32_at) bytes at

-- a reply: its form's number, and then the fields
unfoldable pub reply_at : Reader Reply
reply_at = fields_by_tag (tag_at form_number forms) reply_fields_at
