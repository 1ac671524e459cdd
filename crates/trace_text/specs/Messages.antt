-- Reading messages from left to right, with the place where none goes on.
use Rattle.std.specs.Prelude.{ℕ, ◌+◌, nat_lt, List, [], ◌∷◌, codes, Ok, Err, if◌then◌else◌}
use Rattle.harp_types.specs.Server.{number_of}
use Rattle.harp_types.specs.declared.server.ServerId.{ServerId}
use Rattle.trace_types.specs.declared.line.ShownMessage.{ShownMessage}
use Rattle.trace_types.specs.declared.line.ShownMessage.TheVariants as message
use Rattle.schedule_text.specs.declared.fault.TextFault.TheVariants.{Grammar}
use Rattle.schedule_text.specs.Fields.{Reader, ◌>>=◌, spaced_at}
use Rattle.schedule_text.specs.Words.{ranged_at}
use Rattle.schedule_text.specs.Reading.{made_at, spaced_server_at, spaced_count_at, spaced_u32_at}
use Rattle.trace_text.specs.declared.message_form.MessageForm.{MessageForm}
use Rattle.trace_text.specs.declared.message_form.MessageForm.TheVariants as form
use Rattle.trace_text.specs.Fields.{◌⊗◌, name_at, by_name_at, spaced_view_at, held_at}

-- the two storers of a view, in the order of their numbers
unfoldable pub storers_at : Reader (ServerId × ServerId)
storers_at line at = do
  leader ← spaced_server_at line at
  if nat_lt (number_of leader.0) 2
      then (do
        partner ← spaced_server_at line leader.1
        if nat_lt (number_of leader.0) (number_of partner.0)
            then Ok ((leader.0, partner.0), partner.1)
            else Err (Grammar (leader.1 + 1)))
      else Err (Grammar (at + 1))

-- an index of a record, from 1
abbrev pub spaced_index_at : Reader ℕ
spaced_index_at = spaced_at (ranged_at 1 999999999999999999)

abbrev pub three_at : Reader ((ℕ × ℕ) × ℕ)
three_at = spaced_count_at ⊗ spaced_count_at ⊗ spaced_count_at

abbrev pub message_name : MessageForm → List ℕ
message_name form.Invite = codes "invite"
message_name form.Join = codes "join"
message_name form.Form = codes "form"
message_name form.Fetch = codes "fetch"
message_name form.Give = codes "give"
message_name form.Formed = codes "formed"
message_name form.Event = codes "event"
message_name form.Beat = codes "beat"
message_name form.Ack = codes "ack"
message_name form.Demote = codes "demote"

abbrev pub message_forms : List MessageForm
message_forms =
    form.Invite ∷ form.Join ∷ form.Form ∷ form.Fetch ∷ form.Give ∷ form.Formed ∷ form.Event
    ∷ form.Beat ∷ form.Ack ∷ form.Demote ∷ []

-- a message of a form, behind its name
unfoldable pub message_fields_at : MessageForm → Reader ShownMessage
message_fields_at form.Invite line at = made_at spaced_view_at message.Invite line at
message_fields_at form.Join line at =
    made_at (spaced_view_at ⊗ spaced_at held_at ⊗ spaced_view_at
    ⊗ (three_at ⊗ spaced_count_at ⊗ spaced_count_at))
    (λ x. message.Join x.0.0.0 x.0.0.1 x.0.1 x.1.0.0.0.0 x.1.0.0.0.1 x.1.0.0.1 x.1.0.1 x.1.1)
    line at
message_fields_at form.Form line at =
    made_at (spaced_view_at ⊗ storers_at ⊗ spaced_server_at ⊗ (three_at ⊗ spaced_count_at))
    (λ x. message.Form x.0.0.0 x.0.0.1.0 x.0.0.1.1 x.0.1 x.1.0.0.0 x.1.0.0.1 x.1.0.1 x.1.1)
    line at
message_fields_at form.Fetch line at =
    made_at (spaced_view_at ⊗ spaced_count_at) (λ x. message.Fetch x.0 x.1) line at
message_fields_at form.Give line at =
    made_at (spaced_view_at ⊗ spaced_count_at ⊗ spaced_at (ranged_at 1 65535))
    (λ x. message.Give x.0.0 x.0.1 x.1) line at
message_fields_at form.Formed line at =
    made_at (spaced_view_at ⊗ spaced_count_at) (λ x. message.Formed x.0 x.1) line at
message_fields_at form.Event line at =
    made_at (spaced_view_at ⊗ spaced_index_at ⊗ spaced_count_at ⊗ spaced_count_at
    ⊗ spaced_u32_at ⊗ spaced_count_at)
    (λ x. message.Event x.0.0.0.0.0 x.0.0.0.0.1 x.0.0.0.1 x.0.0.1 x.0.1 x.1) line at
message_fields_at form.Beat line at =
    made_at (spaced_view_at ⊗ spaced_count_at ⊗ spaced_count_at)
    (λ x. message.Beat x.0.0 x.0.1 x.1) line at
message_fields_at form.Ack line at =
    made_at (spaced_view_at ⊗ spaced_count_at ⊗ spaced_count_at ⊗ spaced_count_at)
    (λ x. message.Ack x.0.0.0 x.0.0.1 x.0.1 x.1) line at
message_fields_at form.Demote line at = made_at spaced_view_at message.Demote line at

unfoldable pub message_at : Reader ShownMessage
message_at = by_name_at (name_at message_name message_forms) message_fields_at
