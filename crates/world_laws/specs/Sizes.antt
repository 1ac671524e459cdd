-- How many bytes the messages of servers have.
use Rattle.std.specs.Prelude.{◌≡◌, true, length, Some}
use Rattle.file_tree.specs.Book.{Entry}
use Rattle.group_trace.specs.DiskCalls.{measures_of}
use Rattle.group_rules.specs.Moves.{Sending, moved_by}
use Rattle.group_rules.specs.Places.{Place}
use Rattle.group_rules.specs.State.{Group, Message}
use Rattle.group_rules.specs.Step.{Input as Begins, list_of}
use Rattle.group_safety.specs.Laws.{Whole}
use Rattle.group_safety.specs.Words.{In}
use Rattle.world_laws.specs.Begins.{MayBegin}
use Rattle.world_rules.specs.Spellings.{spellings}
use Rattle.world_rules.specs.Steps.{moves_at}
use Rattle.node_outputs.specs.Messages.{heard}
use Rattle.node_outputs.specs.Records.{carried}
use Rattle.world_laws.specs.Stocks.{Carries}
use Rattle.wire.specs.declared.message.Message.{Message as Wire}
use Rattle.wire.specs.Messages.{message_bytes}

-- A MESSAGE THAT A STEP SENDS has as many bytes as the run says, if it carries the records of its
-- view's list: the view that a record is stamped with changes none
abbrev pub MessagesAreSized : Type 0
MessagesAreSized = (g : Group Entry) → Whole g → (q : Place) → (g.server q).up ≡ true
    → (i : Begins) → MayBegin g q i
    → (to : Place) (m : Message Entry) → In (moves_at g q i) (Sending to m)
    → (x : Wire) → heard x ≡ Some m
    → Carries (moved_by g q (g.server q) (moves_at g q i)).page m (carried x)
    → length (message_bytes x) ≡ (measures_of spellings).bytes
    (list_of (moved_by g q (g.server q) (moves_at g q i)) q) m
