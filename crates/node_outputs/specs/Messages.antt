-- Messages of the code as those of the group's machine.
use Rattle.std.specs.Prelude.{map, Option, None, Some}
use Rattle.harp_types.specs.declared.state.Held.{Held as HeldTold}
use Rattle.harp_types.specs.declared.state.Held.TheVariants as held
use Rattle.event_record.specs.Record.{entry_of}
use Rattle.file_tree.specs.Book.{Entry}
use Rattle.group_rules.specs.Names.{number_of_view, place_of}
use Rattle.group_rules.specs.Places.{Pair, Place, S01, S02, S12}
use Rattle.group_rules.specs.State.{Ack, Beat, Demote, Empty, Event, Fetch, Form, Formed, Give, Held, Invite, Join, Log, Lost, Message}
use Rattle.wire.specs.declared.message.Message.{Message as Wire}
use Rattle.wire.specs.declared.message.Message.TheVariants as wire
use Rattle.wire.specs.declared.storers.Storers.{Storers}
use Rattle.wire.specs.declared.storers.Storers.TheVariants as storers

abbrev pub held_heard : HeldTold → Held
held_heard held.Empty = Empty
held_heard held.Held = Log
held_heard held.Lost = Lost

abbrev pub pair_heard : Storers → Pair
pair_heard storers.ZeroOne = S01
pair_heard storers.ZeroTwo = S02
pair_heard storers.OneTwo = S12

-- the message that a server hears; those of clients are none
abbrev pub heard : Wire → Option (Message Entry)
heard (wire.Invite view) = Some (Invite (number_of_view view))
heard (wire.Join view had accepted base lb cp top horizon) = Some (Join (number_of_view view)
    (record {
      held = held_heard had;
      accepted = number_of_view accepted;
      base = base;
      lb = lb;
      cp = cp;
      top = top;
      horizon = horizon;
    }))
heard (wire.Form view pair source base cp start horizon) = Some (Form (number_of_view view)
    (record {
      storers = pair_heard pair;
      source = place_of source;
      base = base;
      cp = cp;
      start = start;
      horizon = horizon;
    }))
heard (wire.Fetch view first) = Some (Fetch (number_of_view view) first)
heard (wire.Give view first records) = Some (Give (number_of_view view) first
    (map entry_of records))
heard (wire.Formed view lb) = Some (Formed (number_of_view view) lb)
heard (wire.Event view cp base r) = Some (Event (number_of_view view) r.index cp base (entry_of r))
heard (wire.Beat view cp base) = Some (Beat (number_of_view view) cp base)
heard (wire.Ack view top lb until) = Some (Ack (number_of_view view) top lb until)
heard (wire.Demote view) = Some (Demote (number_of_view view))
heard (wire.Ask client number cred call) = None
heard (wire.Answer client number index reply) = None
heard (wire.CannotServe client number cause) = None

-- a message of the machine is heard as it is
abbrev pub as_heard : Place × Message Entry → Place × Option (Message Entry)
as_heard s = (s.0, Some s.1)
