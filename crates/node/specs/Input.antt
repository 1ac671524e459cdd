-- What a node is given, as what a step of the group's machine begins with.
use Rattle.std.specs.Prelude.{◌≡◌, ◌≤◌, ℕ, true, List, [], ◌∷◌, Option, Some, ⊤}
use Rattle.event_record.specs.declared.record.RecordFields.{RecordFields}
use Rattle.file_tree.specs.Book.{Entry}
use Rattle.group_rules.specs.State.{top}
use Rattle.group_rules.specs.Step.{Apply, Ask, Does, Flush, Input as Begins, ListTree, Suspect, Tick}
use Rattle.harp_types.specs.declared.peer.Peer.{Peer}
use Rattle.harp_store.specs.Disk.{Moments}
use Rattle.node.specs.Asking.{reads_tree}
use Rattle.node.specs.Node.{NodeValue}
use Rattle.node.specs.Stock.{IsFetch}
use Rattle.node.specs.Stored.{log_of}
use Rattle.node.specs.Taking.{Fills, input_in}
use Rattle.node.specs.declared.input.Input.{Input}
use Rattle.node.specs.declared.input.Input.TheVariants as input
use Rattle.node_outputs.specs.Records.{carried}
use Rattle.tree_log.specs.Reading.{HoldsTree, IsOfList}

-- a client's message in place of a server's is nothing
abbrev pub input_of : Input → Option Begins
input_of input.Tick = Some (Does Tick)
input_of input.Suspect = Some (Does Suspect)
input_of (input.Message from message) = input_in from message
input_of (input.Ask peer client number cred call) = Some (Does (Ask client number cred call))
input_of (input.Apply most) = Some (Does (Apply most))
input_of input.Flush = Some (Does Flush)
input_of input.List = Some (Does ListTree)

-- what the moves of a node rest on beside its server: of a Fetch, that its log is of the list, and
-- that no more is served than it has; of an ask, where the tree is read to answer it, that it can
-- be read
abbrev pub FillsInput : List Entry → NodeValue → (clock : ℕ) → Option Moments → Input → Type 0
FillsInput list n clock told input.Tick = ⊤
FillsInput list n clock told input.Suspect = ⊤
FillsInput list n clock told (input.Message from message) =
    IsFetch message → (n.plain.served ≤ top n.plain) × IsOfList list (log_of n)
FillsInput list n clock told (input.Ask peer client number cred call) =
    reads_tree n client call clock ≡ true → HoldsTree list n.plain.cp (log_of n) told
FillsInput list n clock told (input.Apply most) = ⊤
FillsInput list n clock told input.Flush = ⊤
FillsInput list n clock told input.List = ⊤

-- the same by the sizes of the records, whatever gives them
abbrev pub FillsSized : (List Entry → Entry → ℕ) → List Entry → NodeValue → (clock : ℕ)
    → Option Moments → Input → Type 0
FillsSized size list n clock told input.Tick = ⊤
FillsSized size list n clock told input.Suspect = ⊤
FillsSized size list n clock told (input.Message from message) = Fills size list n message
FillsSized size list n clock told (input.Ask peer client number cred call) =
    reads_tree n client call clock ≡ true → HoldsTree list n.plain.cp (log_of n) told
FillsSized size list n clock told (input.Apply most) = ⊤
FillsSized size list n clock told input.Flush = ⊤
FillsSized size list n clock told input.List = ⊤

-- who is answered or refused in turn: an ask's own peer; those who wait, where an update commits
abbrev pub peers_of : NodeValue → Input → List Peer
peers_of n input.Tick = n.peers
peers_of n input.Suspect = n.peers
peers_of n (input.Message from message) = n.peers
peers_of n (input.Ask peer client number cred call) = peer ∷ []
peers_of n (input.Apply most) = []
peers_of n input.Flush = []
peers_of n input.List = []

-- the records that come with it
abbrev pub came : Input → List RecordFields
came input.Tick = []
came input.Suspect = []
came (input.Message from message) = carried message
came (input.Ask peer client number cred call) = []
came (input.Apply most) = []
came input.Flush = []
came input.List = []
