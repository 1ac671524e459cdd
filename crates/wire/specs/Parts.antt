-- The parts of messages as bytes.
use Rattle.std.specs.Prelude.{◌≡◌, ℕ, ◌+◌, ◌<◌, ◌≤◌, ◌^◌, Bool, ◌==◌, ◌&&◌, ◌||◌, List, [], ◌∷◌, ◌++◌, length, nat_lt, Option, Some, None, Ok, if◌then◌else◌}
use Rattle.harp_types.specs.declared.server.ServerId.{ServerId}
use Rattle.harp_types.specs.declared.server.ServerId.TheVariants.{Zero, One, Two}
use Rattle.harp_types.specs.declared.state.Held.{Held}
use Rattle.harp_types.specs.declared.state.Held.TheVariants as held
use Rattle.harp_types.specs.Server.{number_of}
use Rattle.harp_base.specs.Fields.{Reader, ◌>>=◌, ◌⊗◌, field_as, fields_by_tag, passing, tag_at, byte_at, u16_at, below_at, many_at, u16_bytes, many_bytes, AllFit}
use Rattle.event_record.specs.declared.record.RecordFields.{RecordFields}
use Rattle.event_record.specs.Bytes.{RecordFits, record_bytes, item_at}
use Rattle.harp_types.specs.declared.cause.Cause.{Cause}
use Rattle.harp_types.specs.declared.cause.Cause.TheVariants as cause
use Rattle.wire.specs.declared.forms.Reason.{Reason}
use Rattle.wire.specs.declared.forms.Reason.TheVariants as reason
use Rattle.wire.specs.declared.storers.Storers.{Storers}
use Rattle.wire.specs.declared.storers.Storers.TheVariants.{ZeroOne, ZeroTwo, OneTwo}
use Rattle.wire.specs.Storers.{leader_of, partner_of}

-- one byte
abbrev pub byte : ℕ → List ℕ
byte n = n ∷ []

-- the ends of promises are below this
abbrev pub deadline_at : Reader ℕ
deadline_at = below_at (2 ^ 62 + 100000)

-- ---- what a server has

abbrev pub held_number : Held → ℕ
held_number held.Empty = 0
held_number held.Held = 1
held_number held.Lost = 2

abbrev pub helds : List Held
helds = held.Empty ∷ held.Held ∷ held.Lost ∷ []

abbrev pub held_at : Reader Held
held_at = tag_at held_number helds

-- ---- storers

-- two numbers that are those of storers
abbrev pub is_pair : ℕ × ℕ → Bool
is_pair x = ((x.0 == 0) && ((x.1 == 1) || (x.1 == 2))) || ((x.0 == 1) && (x.1 == 2))

abbrev pub storers_from : ℕ × ℕ → Storers
storers_from x = if x.0 == 1 then OneTwo else (if x.1 == 1 then ZeroOne else ZeroTwo)

abbrev pub storers_bytes : Storers → List ℕ
storers_bytes s = byte (number_of (leader_of s)) ++ byte (number_of (partner_of s))

-- a leader that no storers have, and a partner that isn't its own, are faults of the leader's byte
unfoldable pub storers_at : Reader Storers
storers_at =
    field_as storers_from (passing is_pair (passing (λ n. nat_lt n 2) byte_at ⊗ byte_at))

-- ---- causes of refusals

abbrev pub reason_of : Cause → Reason
reason_of cause.BadClient = reason.BadClient
reason_of (cause.NotLeader hint) = reason.NotLeader
reason_of cause.NotYetOpen = reason.NotYetOpen
reason_of cause.NoPromise = reason.NoPromise
reason_of cause.LogFull = reason.LogFull
reason_of cause.Old = reason.Old

abbrev pub reason_number : Reason → ℕ
reason_number reason.NotLeader = 1
reason_number reason.NotYetOpen = 2
reason_number reason.NoPromise = 3
reason_number reason.LogFull = 4
reason_number reason.Old = 5
reason_number reason.BadClient = 6

abbrev pub reasons : List Reason
reasons = reason.NotLeader ∷ reason.NotYetOpen ∷ reason.NoPromise ∷ reason.LogFull ∷ reason.Old
    ∷ reason.BadClient ∷ []

-- a hint is a server, or 3 for none
abbrev pub hint_number : Option ServerId → ℕ
hint_number (Some s) = number_of s
hint_number None = 3

abbrev pub hints : List (Option ServerId)
hints = Some Zero ∷ Some One ∷ Some Two ∷ None ∷ []

-- the byte of no hint
abbrev pub no_hint_at : Reader (Unit {0})
no_hint_at = tag_at (λ u. 3) (tt ∷ [])

abbrev pub hint_of : Cause → Option ServerId
hint_of cause.BadClient = None
hint_of (cause.NotLeader hint) = hint
hint_of cause.NotYetOpen = None
hint_of cause.NoPromise = None
hint_of cause.LogFull = None
hint_of cause.Old = None

-- the one spelling of a cause: its number, and the hint
abbrev pub cause_bytes : Cause → List ℕ
cause_bytes c = reason_number (reason_of c) ∷ byte (hint_number (hint_of c))

-- only a server that doesn't lead gives a hint
unfoldable pub hint_at : Reason → Reader Cause
hint_at reason.NotLeader bytes at = field_as cause.NotLeader (tag_at hint_number hints) bytes at
hint_at reason.NotYetOpen bytes at =
    field_as (λ h. cause.NotYetOpen) no_hint_at bytes at
hint_at reason.NoPromise bytes at =
    field_as (λ h. cause.NoPromise) no_hint_at bytes at
hint_at reason.LogFull bytes at =
    field_as (λ h. cause.LogFull) no_hint_at bytes at
hint_at reason.Old bytes at = field_as (λ h. cause.Old) no_hint_at bytes at
hint_at reason.BadClient bytes at =
    field_as (λ h. cause.BadClient) no_hint_at bytes at

unfoldable pub cause_at : Reader Cause
cause_at = fields_by_tag (tag_at reason_number reasons) hint_at

-- ---- records

abbrev pub is_some : List RecordFields → Bool
is_some records = nat_lt 0 (length records)

abbrev pub RecordsFit : List RecordFields → Type 0
RecordsFit records = (1 ≤ length records) × (length records < 2 ^ 16) × AllFit RecordFits records

-- a u16 number of records, at least 1, and the records
unfoldable pub records_bytes : List RecordFields → List ℕ
records_bytes records = u16_bytes (length records) ++ many_bytes record_bytes records

unfoldable pub records_at : Reader (List RecordFields)
records_at = passing is_some (fields_by_tag u16_at (many_at item_at))
