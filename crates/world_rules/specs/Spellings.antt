-- How the servers of a group spell records and messages.
use Rattle.std.specs.Prelude.{◌-◌, Bool, true, false, List, [], ◌∷◌, ◌++◌, length, take, Result, Ok, Err}
use Rattle.event_record.specs.Bytes.{record_bytes}
use Rattle.event_record.specs.declared.record.RecordFields.{RecordFields}
use Rattle.file_tree.specs.Book.{Entry}
use Rattle.group_trace.specs.DiskCalls.{Spellings}
use Rattle.group_rules.specs.Names.{id_of, view_of}
use Rattle.group_rules.specs.Places.{Pair, S01, S02, S12}
use Rattle.group_rules.specs.State.{Ack, Beat, Demote, Empty, Event, Fetch, Form, Formed, Give, Held, Invite, Join, Log, Lost, Message}
use Rattle.harp_types.specs.declared.state.Held.{Held as HeldTold}
use Rattle.harp_types.specs.declared.state.Held.TheVariants as held
use Rattle.tree_log.specs.Records.{record_of}
use Rattle.wire.specs.declared.decoding.DecodeFault.{DecodeFault}
use Rattle.wire.specs.declared.message.Message.{Message as Wire}
use Rattle.wire.specs.declared.message.Message.TheVariants as wire
use Rattle.wire.specs.declared.storers.Storers.{Storers}
use Rattle.wire.specs.declared.storers.Storers.TheVariants as storers
use Rattle.wire.specs.Messages.{decoded, message_bytes}

-- the record of an entry behind those before it; which view it is stamped with changes none of its
-- numbers of bytes
abbrev pub plain_record : List Entry → Entry → RecordFields
plain_record before e = record_of (view_of 0) before e

-- the records of entries, one behind the other
unfoldable pub plain_records : List Entry → List Entry → List RecordFields
plain_records before [] = []
plain_records before (e ∷ es) = plain_record before e ∷ plain_records (before ++ e ∷ []) es

abbrev pub held_told : Held → HeldTold
held_told Log = held.Held
held_told Lost = held.Lost
held_told Empty = held.Empty

abbrev pub storers_told : Pair → Storers
storers_told S01 = storers.ZeroOne
storers_told S02 = storers.ZeroTwo
storers_told S12 = storers.OneTwo

-- a message of the machine as servers send it, where its sender has this list of entries
abbrev pub told_as : List Entry → Message Entry → Wire
told_as list (Invite v) = wire.Invite (view_of v)
told_as list (Join v t) =
    wire.Join (view_of v) (held_told t.held) (view_of t.accepted) t.base t.lb t.cp t.top t.horizon
told_as list (Form v plan) =
    wire.Form (view_of v) (storers_told plan.storers) (id_of plan.source) plan.base plan.cp
    plan.start plan.horizon
told_as list (Fetch v index) = wire.Fetch (view_of v) index
told_as list (Give v index items) =
    wire.Give (view_of v) index (plain_records (take (index - 1) list) items)
told_as list (Formed v lb) = wire.Formed (view_of v) lb
told_as list (Event v index cp base e) =
    wire.Event (view_of v) cp base (plain_record (take (index - 1) list) e)
told_as list (Beat v cp base) = wire.Beat (view_of v) cp base
told_as list (Ack v top lb until) = wire.Ack (view_of v) top lb until
told_as list (Demote v) = wire.Demote (view_of v)

-- bytes in which a message is read
abbrev pub is_read : Result Wire DecodeFault → Bool
is_read (Ok message) = true
is_read (Err fault) = false

-- THE SPELLINGS OF THE GROUP'S SERVERS: the bytes of records and of messages as they are sent
abbrev pub spellings : Spellings
spellings = record {
  record_bytes = λ before e. record_bytes (plain_record before e);
  message_size = λ list m. length (message_bytes (told_as list m));
  is_message = λ bytes. is_read (decoded bytes);
}
