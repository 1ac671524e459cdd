-- The records that messages carry, whole: with the view that each was appended in, and its changes.
use Rattle.std.specs.Prelude.{List, [], ◌∷◌}
use Rattle.std.specs.List.{flat_map}
use Rattle.event_record.specs.declared.record.RecordFields.{RecordFields}
use Rattle.wire.specs.declared.message.Message.{Message as Wire}
use Rattle.wire.specs.declared.message.Message.TheVariants as wire
use Rattle.node_outputs.specs.declared.outputs.Outputs.{Outputs}

-- an Event carries one record, and a Give those that are given
abbrev pub carried : Wire → List RecordFields
carried (wire.Event view cp base r) = r ∷ []
carried (wire.Give view first records) = records
carried (wire.Invite view) = []
carried (wire.Join view has accepted base lb cp top horizon) = []
carried (wire.Form view storers source base cp start horizon) = []
carried (wire.Fetch view first) = []
carried (wire.Formed view lb) = []
carried (wire.Beat view cp base) = []
carried (wire.Ack view top lb until) = []
carried (wire.Demote view) = []
carried (wire.Ask client number cred call) = []
carried (wire.Answer client number index reply) = []
carried (wire.CannotServe client number cause) = []

-- the records that were sent, in their order
abbrev pub records_sent : Outputs → List RecordFields
records_sent o = flat_map (λ s. carried s.message) o.sends.items
