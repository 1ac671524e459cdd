-- How long messages are.
use Rattle.std.proofs.Common.{◌≡◌, ◌+◌, ℕ, List, arith}
use Rattle.std.proofs.Common.{length, length-append}
use Rattle.harp_types.specs.View.{View}
use Rattle.harp_types.specs.declared.call.Call.{Call}
use Rattle.harp_types.specs.declared.cause.Cause.{Cause}
use Rattle.harp_types.specs.declared.cred.Cred.{Cred}
use Rattle.harp_types.specs.declared.reply.Reply.{Reply}
use Rattle.harp_types.specs.declared.server.ServerId.{ServerId}
use Rattle.harp_types.specs.declared.state.Held.{Held}
use Rattle.harp_base.specs.Calls.{call_bytes}
use Rattle.harp_base.specs.Fields.{many_bytes, u16_bytes}
use Rattle.harp_base.specs.Replies.{reply_bytes}
use Rattle.event_record.specs.declared.record.RecordFields.{RecordFields}
use Rattle.event_record.specs.Bytes.{record_bytes}
use Rattle.wire.specs.declared.message.Message.TheVariants as message
use Rattle.wire.specs.declared.storers.Storers.{Storers}
use Rattle.wire.specs.Messages.{message_bytes}
use Rattle.wire.specs.Parts.{records_bytes}
use Rattle.event_record.proofs.Sizes.{len_cred, len_u16, len_u32, len_u64, len_view}

-- ---- records

len_records : (rs : List RecordFields) → length (records_bytes rs)
    ≡ 2 + length (many_bytes record_bytes rs)
unfolding records_bytes
len_records rs = omega (
  arith,
  length-append (u16_bytes (length rs)) (many_bytes record_bytes rs),
  len_u16 (length rs),
)

-- ---- messages

pub event_size : (view : View) (cp base : ℕ) (r : RecordFields)
    → length (message_bytes (message.Event view cp base r)) ≡ 26 + length (record_bytes r)
event_size view cp base r = simp (length-append, len_view, len_u64) (omega arith)

pub beat_size : (view : View) (cp base : ℕ)
    → length (message_bytes (message.Beat view cp base)) ≡ 26
beat_size view cp base = simp (length-append, len_view, len_u64) (omega arith)

pub ack_size : (view : View) (top lb until : ℕ)
    → length (message_bytes (message.Ack view top lb until)) ≡ 34
ack_size view top lb until = simp (length-append, len_view, len_u64) (omega arith)

pub invite_size : (view : View) → length (message_bytes (message.Invite view)) ≡ 10
invite_size view = simp (length-append, len_view, len_u64) (omega arith)

pub demote_size : (view : View) → length (message_bytes (message.Demote view)) ≡ 10
demote_size view = simp (length-append, len_view, len_u64) (omega arith)

pub fetch_size : (view : View) (first : ℕ)
    → length (message_bytes (message.Fetch view first)) ≡ 18
fetch_size view first = simp (length-append, len_view, len_u64) (omega arith)

pub formed_size : (view : View) (lb : ℕ)
    → length (message_bytes (message.Formed view lb)) ≡ 18
formed_size view lb = simp (length-append, len_view, len_u64) (omega arith)

pub form_size : (view : View) (storers : Storers) (source : ServerId)
    (base cp start horizon : ℕ)
    → length (message_bytes (message.Form view storers source base cp start horizon)) ≡ 45
form_size view storers source base cp start horizon =
    simp (length-append, len_view, len_u64) (omega arith)

pub join_size : (view : View) (has : Held) (accepted : View) (base lb cp top horizon : ℕ)
    → length (message_bytes (message.Join view has accepted base lb cp top horizon)) ≡ 60
join_size view has accepted base lb cp top horizon =
    simp (length-append, len_view, len_u64) (omega arith)

pub give_size : (view : View) (first : ℕ) (rs : List RecordFields)
    → length (message_bytes (message.Give view first rs))
    ≡ 20 + length (many_bytes record_bytes rs)
give_size view first rs = simp (length-append, len_view, len_u64, len_records) (omega arith)

pub ask_size : (client number : ℕ) (cred : Cred) (call : Call)
    → length (message_bytes (message.Ask client number cred call))
    ≡ 21 + length (call_bytes call)
ask_size client number cred call =
    simp (length-append, len_u32, len_u64, len_cred) (omega arith)

pub answer_size : (client number index : ℕ) (reply : Reply)
    → length (message_bytes (message.Answer client number index reply))
    ≡ 21 + length (reply_bytes reply)
answer_size client number index reply = simp (length-append, len_u32, len_u64) (omega arith)

pub refusal_size : (client number : ℕ) (cause : Cause)
    → length (message_bytes (message.CannotServe client number cause)) ≡ 15
refusal_size client number cause = simp (length-append, len_u32, len_u64) (omega arith)

pub ruleset sizes = (
  event_size,
  give_size,
  ask_size,
  answer_size,
  refusal_size,
  beat_size,
  ack_size,
  invite_size,
  demote_size,
  fetch_size,
  formed_size,
  form_size,
  join_size,
)
