-- What holds of the lengths of messages.
use Rattle.std.specs.Prelude.{◌≡◌, ◌≤◌, ◌<◌, ◌+◌, ◌⊎◌, ◌^◌, ℕ, List, [], ◌∷◌, length, map, Some}
use Rattle.std.specs.List.{sum_by}
use Rattle.harp_base.specs.Fields.{many_bytes}
use Rattle.harp_types.specs.View.{View}
use Rattle.harp_cells.specs.ValueBytes.{longest_record}
use Rattle.event_record.specs.declared.record.RecordFields.{RecordFields}
use Rattle.event_record.specs.Bytes.{record_bytes}
use Rattle.volatile_log.specs.Log.{LogValue}
use Rattle.wire.specs.declared.message.Message.{Message}
use Rattle.wire.specs.declared.message.Message.TheVariants as message
use Rattle.wire.specs.Messages.{message_bytes}
use Rattle.witness.specs.Serving.{given, most_bytes, record_size}

-- each of these is a record: it has at most 60,008 bytes
abbrev pub AreRecords : List RecordFields → Type 0
AreRecords [] = Unit {0}
AreRecords (r ∷ rs) = (record_size r ≤ longest_record) × AreRecords rs

-- the bytes of records, one after the other
abbrev pub size_of : List RecordFields → ℕ
size_of records = length (many_bytes record_bytes records)

-- what is given is one record, or takes at most 48,000 bytes
abbrev pub GivesAreWithin : Type 0
GivesAreWithin = (log : LogValue) (index last : ℕ) (records : List RecordFields)
    → given record_size log index last ≡ Some records
    → (length records ≡ 1) ⊎ (size_of records ≤ most_bytes)

-- so a Give of records has at most 60,028 bytes
abbrev pub GivesAreShort : Type 0
GivesAreShort = (view : View) (first : ℕ) (log : LogValue) (index last : ℕ)
    (records : List RecordFields)
    → given record_size log index last ≡ Some records → AreRecords records
    → length (message_bytes (message.Give view first records)) ≤ 60028

-- the bytes of messages
abbrev pub bytes_of : List Message → ℕ
bytes_of ms = sum_by (λ m. length (message_bytes m)) ms

-- a Beat and at most 64 Events take less than 2^22 bytes
abbrev pub TicksAreShort : Type 0
TicksAreShort = (view : View) (cp base : ℕ) (records : List RecordFields) → length records ≤ 64
    → AreRecords records
    → length (message_bytes (message.Beat view cp base))
    + bytes_of (map (λ r. message.Event view cp base r) records) < 2 ^ 22
