-- The one spelling of a message, and reading it.
use Rattle.std.specs.Prelude.{◌≡◌, ℕ, ◌+◌, ◌<◌, ◌^◌, ◌==◌, List, [], ◌∷◌, ◌++◌, length, Result, Ok, Err, if◌then◌else◌}
use Rattle.harp_base.specs.declared.field.Misread.{Misread}
use Rattle.harp_base.specs.declared.field.Misread.TheVariants as misread
use Rattle.harp_types.specs.Server.{number_of}
use Rattle.harp_base.specs.Fields.{Read, Reader, ◌⊗◌, field_as, fields_by_tag, tag_at, u32_at, u64_at, u32_bytes, u64_bytes}
use Rattle.harp_base.specs.Names.{ViewFits, view_at, view_bytes, server_at, CredFits, cred_at, cred_bytes}
use Rattle.harp_base.specs.Calls.{CallFits, call_at, call_bytes}
use Rattle.harp_base.specs.Replies.{ReplyFits, reply_at, reply_bytes}
use Rattle.event_record.specs.Bytes.{RecordFits, record_bytes, item_at}
use Rattle.wire.specs.declared.message.Message.{Message}
use Rattle.wire.specs.declared.message.Message.TheVariants as message
use Rattle.wire.specs.declared.forms.Form.{Form}
use Rattle.wire.specs.declared.forms.Form.TheVariants as form
use Rattle.wire.specs.declared.decoding.DecodeFault.{DecodeFault}
use Rattle.wire.specs.declared.decoding.DecodeFault.TheVariants.{Short, BadTag, Trailing, TooLong, NoMemory}
use Rattle.wire.specs.Parts.{byte, deadline_at, held_number, held_at, storers_bytes, storers_at, cause_bytes, cause_at, RecordsFit, records_bytes, records_at}

abbrev pub form_of : Message → Form
form_of (message.Invite view) = form.Invite
form_of (message.Join view has accepted base lb cp top horizon) = form.Join
form_of (message.Form view storers source base cp start horizon) = form.Form
form_of (message.Fetch view first) = form.Fetch
form_of (message.Give view first records) = form.Give
form_of (message.Formed view lb) = form.Formed
form_of (message.Event view cp base event) = form.Event
form_of (message.Beat view cp base) = form.Beat
form_of (message.Ack view top lb until) = form.Ack
form_of (message.Demote view) = form.Demote
form_of (message.Ask client number cred call) = form.Ask
form_of (message.Answer client number index reply) = form.Answer
form_of (message.CannotServe client number cause) = form.CannotServe

-- 5, 7 and 11 were the tags of messages without a credential
abbrev pub form_number : Form → ℕ
form_number form.Invite = 1
form_number form.Join = 2
form_number form.Form = 3
form_number form.Fetch = 4
form_number form.Formed = 6
form_number form.Beat = 8
form_number form.Ack = 9
form_number form.Demote = 10
form_number form.Answer = 12
form_number form.CannotServe = 13
form_number form.Give = 21
form_number form.Event = 23
form_number form.Ask = 27

abbrev pub forms : List Form
forms = form.Invite ∷ form.Join ∷ form.Form ∷ form.Fetch ∷ form.Formed ∷ form.Beat ∷ form.Ack
    ∷ form.Demote ∷ form.Answer ∷ form.CannotServe ∷ form.Give ∷ form.Event ∷ form.Ask ∷ []

-- the fields in their order
abbrev pub message_fields : Message → List ℕ
message_fields (message.Invite view) = view_bytes view
message_fields (message.Join view has accepted base lb cp top horizon) =
    view_bytes view ++ byte (held_number has) ++ view_bytes accepted ++ u64_bytes base
    ++ u64_bytes lb ++ u64_bytes cp ++ u64_bytes top ++ u64_bytes horizon
message_fields (message.Form view storers source base cp start horizon) =
    view_bytes view ++ storers_bytes storers ++ byte (number_of source) ++ u64_bytes base
    ++ u64_bytes cp ++ u64_bytes start ++ u64_bytes horizon
message_fields (message.Fetch view first) = view_bytes view ++ u64_bytes first
message_fields (message.Give view first records) =
    view_bytes view ++ u64_bytes first ++ records_bytes records
message_fields (message.Formed view lb) = view_bytes view ++ u64_bytes lb
message_fields (message.Event view cp base event) =
    view_bytes view ++ u64_bytes cp ++ u64_bytes base ++ record_bytes event
message_fields (message.Beat view cp base) = view_bytes view ++ u64_bytes cp ++ u64_bytes base
message_fields (message.Ack view top lb until) =
    view_bytes view ++ u64_bytes top ++ u64_bytes lb ++ u64_bytes until
message_fields (message.Demote view) = view_bytes view
message_fields (message.Ask client number cred call) =
    u32_bytes client ++ u64_bytes number ++ cred_bytes cred ++ call_bytes call
message_fields (message.Answer client number index reply) =
    u32_bytes client ++ u64_bytes number ++ u64_bytes index ++ reply_bytes reply
message_fields (message.CannotServe client number cause) =
    u32_bytes client ++ u64_bytes number ++ cause_bytes cause

-- the one spelling of a message: its form's number, and the fields
abbrev pub message_bytes : Message → List ℕ
message_bytes m = form_number (form_of m) ∷ message_fields m

-- the bounds of the fields
abbrev pub MessageFits : Message → Type 0
MessageFits (message.Invite view) = ViewFits view
MessageFits (message.Join view has accepted base lb cp top horizon) =
    ViewFits view × ViewFits accepted × (base < 2 ^ 64) × (lb < 2 ^ 64) × (cp < 2 ^ 64)
    × (top < 2 ^ 64) × (horizon < 2 ^ 62 + 100000)
MessageFits (message.Form view storers source base cp start horizon) =
    ViewFits view × (base < 2 ^ 64) × (cp < 2 ^ 64) × (start < 2 ^ 64)
    × (horizon < 2 ^ 62 + 100000)
MessageFits (message.Fetch view first) = ViewFits view × (first < 2 ^ 64)
MessageFits (message.Give view first records) =
    ViewFits view × (first < 2 ^ 64) × RecordsFit records
MessageFits (message.Formed view lb) = ViewFits view × (lb < 2 ^ 64)
MessageFits (message.Event view cp base event) =
    ViewFits view × (cp < 2 ^ 64) × (base < 2 ^ 64) × RecordFits event
MessageFits (message.Beat view cp base) = ViewFits view × (cp < 2 ^ 64) × (base < 2 ^ 64)
MessageFits (message.Ack view top lb until) =
    ViewFits view × (top < 2 ^ 64) × (lb < 2 ^ 64) × (until < 2 ^ 62 + 100000)
MessageFits (message.Demote view) = ViewFits view
MessageFits (message.Ask client number cred call) =
    (client < 2 ^ 32) × (number < 2 ^ 64) × CredFits cred × CallFits call
MessageFits (message.Answer client number index reply) =
    (client < 2 ^ 32) × (number < 2 ^ 64) × (index < 2 ^ 64) × ReplyFits reply
MessageFits (message.CannotServe client number cause) = (client < 2 ^ 32) × (number < 2 ^ 64)

unfoldable pub message_fields_at : Form → Reader Message
message_fields_at form.Invite bytes at = field_as message.Invite view_at bytes at
message_fields_at form.Join bytes at =
    field_as (λ x. message.Join x.0.0.0.0.0.0.0 x.0.0.0.0.0.0.1 x.0.0.0.0.0.1 x.0.0.0.0.1 x.0.0.0.1
    x.0.0.1 x.0.1 x.1)
    (view_at ⊗ held_at ⊗ view_at ⊗ u64_at ⊗ u64_at ⊗ u64_at ⊗ u64_at ⊗ deadline_at) bytes at
message_fields_at form.Form bytes at =
    field_as (λ x. message.Form x.0.0.0.0.0.0 x.0.0.0.0.0.1 x.0.0.0.0.1 x.0.0.0.1 x.0.0.1 x.0.1 x.1)
    (view_at ⊗ storers_at ⊗ server_at ⊗ u64_at ⊗ u64_at ⊗ u64_at ⊗ deadline_at) bytes at
message_fields_at form.Fetch bytes at =
    field_as (λ x. message.Fetch x.0 x.1) (view_at ⊗ u64_at) bytes at
message_fields_at form.Give bytes at =
    field_as (λ x. message.Give x.0.0 x.0.1 x.1) (view_at ⊗ u64_at ⊗ records_at) bytes at
message_fields_at form.Formed bytes at =
    field_as (λ x. message.Formed x.0 x.1) (view_at ⊗ u64_at) bytes at
message_fields_at form.Event bytes at =
    field_as (λ x. message.Event x.0.0.0 x.0.0.1 x.0.1 x.1) (view_at ⊗ u64_at ⊗ u64_at ⊗ item_at)
    bytes at
message_fields_at form.Beat bytes at =
    field_as (λ x. message.Beat x.0.0 x.0.1 x.1) (view_at ⊗ u64_at ⊗ u64_at) bytes at
message_fields_at form.Ack bytes at =
    field_as (λ x. message.Ack x.0.0.0 x.0.0.1 x.0.1 x.1) (view_at ⊗ u64_at ⊗ u64_at ⊗ deadline_at)
    bytes at
message_fields_at form.Demote bytes at = field_as message.Demote view_at bytes at
message_fields_at form.Ask bytes at =
    field_as (λ x. message.Ask x.0.0.0 x.0.0.1 x.0.1 x.1) (u32_at ⊗ u64_at ⊗ cred_at ⊗ call_at)
    bytes at
message_fields_at form.Answer bytes at =
    field_as (λ x. message.Answer x.0.0.0 x.0.0.1 x.0.1 x.1) (u32_at ⊗ u64_at ⊗ u64_at ⊗ reply_at)
    bytes at
message_fields_at form.CannotServe bytes at =
    field_as (λ x. message.CannotServe x.0.0 x.0.1 x.1) (u32_at ⊗ u64_at ⊗ cause_at) bytes at

-- a message: its form's number, and then the fields
unfoldable pub message_at : Reader Message
message_at = fields_by_tag (tag_at form_number forms) message_fields_at

-- ---- a whole datagram

abbrev pub fault_of : ℕ → Misread → DecodeFault
fault_of size (misread.Ends from to) = Short size
fault_of size (misread.BadTag n) = BadTag n
fault_of size (misread.TooLong n) = TooLong n
fault_of size misread.NoMemory = NoMemory

-- what was read, where nothing is left of so many bytes
abbrev pub whole : ℕ → Read Message → Result Message DecodeFault
whole size (Ok x) = if x.1 == size then Ok x.0 else Err (Trailing x.1)
whole size (Err e) = Err (fault_of size e)

-- the message of bytes, or the first fault
abbrev pub decoded : List ℕ → Result Message DecodeFault
decoded bytes = whole (length bytes) (message_at bytes 0)

abbrev pub IsFault : DecodeFault → Result Message DecodeFault → Type 0
IsFault NoMemory read = Unit {0}
IsFault (Short n) read = read ≡ Err (Short n)
IsFault (BadTag n) read = read ≡ Err (BadTag n)
IsFault (Trailing n) read = read ≡ Err (Trailing n)
IsFault (TooLong n) read = read ≡ Err (TooLong n)

-- what a function returned is this, unless memory ran out
abbrev pub Decodes : Result Message DecodeFault → Result Message DecodeFault → Type 0
Decodes (Ok m) read = read ≡ Ok m
Decodes (Err e) read = IsFault e read
