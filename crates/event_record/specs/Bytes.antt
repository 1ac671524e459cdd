-- The one spelling of a record, and reading it.
use Rattle.std.specs.Prelude.{◌≡◌, ℕ, ◌+◌, ◌<◌, ◌≤◌, ◌^◌, List, ◌++◌, length, nat_le, nat_lt}
use Rattle.harp_types.specs.declared.call.Call.{Call}
use Rattle.harp_types.specs.declared.cred.Cred.{Cred}
use Rattle.harp_types.specs.declared.reply.Reply.{Reply}
use Rattle.harp_types.specs.View.{View}
use Rattle.harp_base.specs.Fields.{AllFit, Reader, ◌⊗◌, below_at, field_as, fields_by_tag, limited, many_at, many_bytes, passing, u16_at, u16_bytes, u32_at, u32_bytes, u64_at, u64_bytes}
use Rattle.harp_base.specs.Calls.{CallFits, call_at, call_bytes}
use Rattle.harp_base.specs.Names.{CredFits, ViewFits, cred_at, cred_bytes, view_at, view_bytes}
use Rattle.harp_base.specs.Replies.{ReplyFits, reply_at, reply_bytes}
use Rattle.harp_cells.specs.declared.change.Change.{Change}
use Rattle.harp_cells.specs.CellBytes.{ChangeFits, change_at, change_bytes}
use Rattle.harp_cells.specs.ValueBytes.{longest_old_record, longest_record}
use Rattle.event_record.specs.declared.reading.Head.{Head}
use Rattle.event_record.specs.declared.reading.Tail.{Tail}
use Rattle.event_record.specs.declared.record.RecordFields.{RecordFields}

-- ---- limits

-- the most changes of a record
abbrev pub most_changes : ℕ
most_changes = 16

-- numbers of updates are below this one
abbrev pub index_limit : ℕ
index_limit = 2 ^ 62

-- moments are below this one
abbrev pub moment_limit : ℕ
moment_limit = 2 ^ 62 + 2000

-- ---- numbers and changes

abbrev pub IndexFits : ℕ → Type 0
IndexFits n = (1 ≤ n) × (n < index_limit)

unfoldable pub index_at : Reader ℕ
index_at = passing (λ n. nat_lt 0 n) (below_at index_limit)

abbrev pub ChangesFit : List Change → Type 0
ChangesFit changes = (length changes ≤ most_changes) × AllFit ChangeFits changes

-- a u16 number of changes, and the changes
unfoldable pub changes_bytes : List Change → List ℕ
changes_bytes changes = u16_bytes (length changes) ++ many_bytes change_bytes changes

unfoldable pub changes_at : Reader (List Change)
changes_at = fields_by_tag (passing (λ n. nat_le n most_changes) u16_at) (many_at change_at)

-- ---- what stands before a credential, and behind it

abbrev pub HeadFits : Head → Type 0
HeadFits h =
    ViewFits h.stamped × IndexFits h.index × (h.client < 2 ^ 32) × (h.number < 2 ^ 64)

unfoldable pub head_bytes : Head → List ℕ
head_bytes h =
    view_bytes h.stamped ++ u64_bytes h.index ++ u32_bytes h.client ++ u64_bytes h.number

abbrev pub head_from : ((View × ℕ) × ℕ) × ℕ → Head
head_from (((s, i), c), n) = record { stamped = s; index = i; client = c; number = n }

unfoldable pub head_at : Reader Head
head_at = field_as head_from (view_at ⊗ index_at ⊗ u32_at ⊗ u64_at)

abbrev pub TailFits : Tail → Type 0
TailFits t =
    CallFits t.call × (t.stamp < moment_limit) × ReplyFits t.reply × ChangesFit t.changes

unfoldable pub tail_bytes : Tail → List ℕ
tail_bytes t =
    call_bytes t.call ++ u64_bytes t.stamp ++ reply_bytes t.reply ++ changes_bytes t.changes

abbrev pub tail_from : ((Call × ℕ) × Reply) × List Change → Tail
tail_from (((c, s), r), cs) = record { call = c; stamp = s; reply = r; changes = cs }

unfoldable pub tail_at : Reader Tail
tail_at = field_as tail_from (call_at ⊗ below_at moment_limit ⊗ reply_at ⊗ changes_at)

-- ---- records

abbrev pub head_of : RecordFields → Head
head_of r =
    record { stamped = r.stamped; index = r.index; client = r.client; number = r.number }

abbrev pub tail_of : RecordFields → Tail
tail_of r = record { call = r.call; stamp = r.stamp; reply = r.reply; changes = r.changes }

abbrev pub record_from : Head → Cred → Tail → RecordFields
record_from h cred t = record {
  stamped = h.stamped;
  index = h.index;
  client = h.client;
  number = h.number;
  cred = cred;
  call = t.call;
  stamp = t.stamp;
  reply = t.reply;
  changes = t.changes;
}

-- the one spelling of a record
abbrev pub record_bytes : RecordFields → List ℕ
record_bytes r = head_bytes (head_of r) ++ cred_bytes r.cred ++ tail_bytes (tail_of r)

-- the bounds of the fields
abbrev pub FieldsFit : RecordFields → Type 0
FieldsFit r = HeadFits (head_of r) × CredFits r.cred × TailFits (tail_of r)

abbrev pub RecordFits : RecordFields → Type 0
RecordFits r = FieldsFit r × (length (record_bytes r) ≤ longest_record)

-- the fields of a record, however long
unfoldable pub record_fields_at : Reader RecordFields
record_fields_at =
    field_as (λ x. record_from x.0.0 x.0.1 x.1) (head_at ⊗ cred_at ⊗ tail_at)

-- A RECORD, in its bytes
abbrev pub item_at : Reader RecordFields
item_at = limited longest_record record_fields_at

-- ---- records without a credential

-- whose calls are the superuser's
abbrev pub superuser : Cred
superuser = record { uid = 0; gid = 0 }

abbrev pub old_record_bytes : RecordFields → List ℕ
old_record_bytes r = head_bytes (head_of r) ++ tail_bytes (tail_of r)

abbrev pub OldRecordFits : RecordFields → Type 0
OldRecordFits r =
    (HeadFits (head_of r) × (r.cred ≡ superuser) × TailFits (tail_of r))
    × (length (old_record_bytes r) ≤ longest_old_record)

unfoldable pub old_fields_at : Reader RecordFields
old_fields_at = field_as (λ x. record_from x.0 superuser x.1) (head_at ⊗ tail_at)

abbrev pub old_item_at : Reader RecordFields
old_item_at = limited longest_old_record old_fields_at
