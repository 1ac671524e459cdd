-- The records that a step sends, beside the entries that its messages tell.
use Rattle.std.specs.Prelude.{◌≡◌, ℕ, true, List, ◌++◌, Some}
use Rattle.event_record.specs.declared.record.RecordFields.{RecordFields}
use Rattle.file_tree.specs.Book.{Entry}
use Rattle.group_rules.specs.Moves.{Sending, moved_by}
use Rattle.group_rules.specs.Places.{Place}
use Rattle.group_rules.specs.State.{Group, Message, Packet}
use Rattle.group_rules.specs.Step.{Comes, Deed, Does, Input, list_of, numbered, step_of}
use Rattle.group_safety.specs.Laws.{Whole}
use Rattle.group_safety.specs.Words.{In}
use Rattle.idle_log.specs.Gives.{StandIn}
use Rattle.node.specs.Stock.{Stock}
use Rattle.node_outputs.specs.Messages.{heard}
use Rattle.node_outputs.specs.Records.{carried}
use Rattle.world_laws.specs.Stocks.{Carries, HasStock}
use Rattle.replica.specs.Asking.{recorded}
use Rattle.wire.specs.declared.message.Message.{Message as Wire}

-- the records that a server has to send in a step: those of its log, and what the step appends
abbrev pub at_hand : (List Entry → Entry → ℕ) → Group Entry → Place → Input → Stock
    → List RecordFields
at_hand size g q i k =
    k.log ++ recorded (g.server q).accepted (list_of g q) (step_of size g q i)

-- WHAT A STEP SENDS carries the records of its view's list, where a message that is heard as one of
-- the step's carries records that its server has at hand
abbrev pub SendsRight : (List Entry → Entry → ℕ) → Group Entry → Place → Input → Type 0
SendsRight size g q i = (k : Stock) → HasStock g q k
    → (to : Place) (m : Message Entry) → In (step_of size g q i) (Sending to m)
    → (x : Wire) → heard x ≡ Some m → StandIn (at_hand size g q i k) (carried x)
    → Carries (moved_by g q (g.server q) (step_of size g q i)).page m (carried x)

abbrev pub DeedsSend : Type 0
DeedsSend = (size : List Entry → Entry → ℕ) (g : Group Entry) → Whole g → (q : Place)
    → (g.server q).up ≡ true → (d : Deed) → SendsRight size g q (Does d)

abbrev pub DeliveriesSend : Type 0
DeliveriesSend = (size : List Entry → Entry → ℕ) (g : Group Entry) → Whole g → (n : ℕ)
    (p : Packet Entry) → numbered g.packets n ≡ Some p → (g.server p.to).up ≡ true
    → SendsRight size g p.to (Comes p.from p.body)
