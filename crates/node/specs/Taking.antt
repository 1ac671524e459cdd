-- The moves of what comes to a node.
use Rattle.std.specs.Prelude.{ℕ, ◌≤◌, List, [], Option, None, Some, IfSome, option_map, ⊤}
use Rattle.file_tree.specs.Book.{Entry}
use Rattle.group_rules.specs.Moves.{Move}
use Rattle.group_rules.specs.Names.{place_of}
use Rattle.group_rules.specs.Places.{Place}
use Rattle.group_rules.specs.State.{Fetch, Message, Server, top}
use Rattle.group_rules.specs.Step.{Comes, Input, rule, step}
use Rattle.harp_types.specs.declared.server.ServerId.{ServerId}
use Rattle.node.specs.Node.{NodeValue}
use Rattle.node.specs.Serving.{IsSized}
use Rattle.node_outputs.specs.Messages.{heard}
use Rattle.wire.specs.declared.message.Message.{Message as Wire}

-- those of a node that hears this message, whatever its saved log has
abbrev pub coming : (List Entry → Entry → ℕ) → (clock : ℕ) → List Entry → NodeValue → Place
    → Message Entry → List (Move Entry)
coming size clock list n from m = rule size n.me clock list n.plain (Comes from m)

-- what a server is given by a message: nothing by a client's
abbrev pub input_in : ServerId → Wire → Option Input
input_in from message = option_map (Comes (place_of from)) (heard message)

-- those of what a server is given, if anything, and with the base of a whole step
abbrev pub ruled : (List Entry → Entry → ℕ) → Place → (clock : ℕ) → List Entry → Server Entry
    → Option Input → List (Move Entry)
ruled size q clock list s None = []
ruled size q clock list s (Some i) = rule size q clock list s i

abbrev pub stepped : (List Entry → Entry → ℕ) → Place → (clock : ℕ) → List Entry
    → Server Entry → Option Input → List (Move Entry)
stepped size q clock list s None = []
stepped size q clock list s (Some i) = step size q clock list s i

-- The records that a Fetch asks for have these sizes, and no more are served than there are;
-- another message asks for none
abbrev pub FillsFor : (List Entry → Entry → ℕ) → List Entry → NodeValue → Message Entry → Type 0
FillsFor size list n (Fetch v index) =
    (n.plain.served ≤ top n.plain) × IsSized size list n v index
FillsFor size list n m = ⊤

abbrev pub Fills : (List Entry → Entry → ℕ) → List Entry → NodeValue → Wire → Type 0
Fills size list n message = IfSome (heard message) (FillsFor size list n)
