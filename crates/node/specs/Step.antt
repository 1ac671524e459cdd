-- A step of a server.
use Rattle.std.specs.Prelude.{◌≡◌, ℕ, ◌++◌, true, false, List, Option, Some, ⊤}
use Rattle.file_tree.specs.Book.{Entry}
use Rattle.group_rules.specs.Moves.{Move, acts}
use Rattle.group_rules.specs.Places.{Place}
use Rattle.group_rules.specs.State.{Server}
use Rattle.harp_types.specs.declared.peer.Peer.{Peer}
use Rattle.harp_store.specs.Disk.{Moments}
use Rattle.idle_log.specs.Gives.{StandIn}
use Rattle.node.specs.Input.{came, peers_of}
use Rattle.node.specs.Node.{NodeValue, server}
use Rattle.node.specs.Stock.{stock, stock_after}
use Rattle.node.specs.Stored.{log_of, stores}
use Rattle.node.specs.declared.input.Input.{Input}
use Rattle.node.specs.declared.input.Input.TheVariants as input
use Rattle.node_outputs.specs.Makes.{with_moves}
use Rattle.node_outputs.specs.Records.{records_sent}
use Rattle.node_outputs.specs.Said.{nothing, said}
use Rattle.node_outputs.specs.declared.outputs.Outputs.{Outputs}
use Rattle.tree_listing.specs.declared.listing.Listing.{Listing}
use Rattle.tree_log.specs.Reading.{HoldsTree}
use Rattle.replica.specs.Asking.{recorded}
use Rattle.replica.specs.Listing.{listing_at}

-- A step made these moves: the server is the one after them, and the outputs are just what they say
pub record Steps (q : Place) (clock : ℕ) (ms : List (Move Entry)) (peers : List Peer)
    (old new : Server Entry) (outs : Outputs) : Type 0 where
  pub state : new ≡ acts q clock old ms
  pub said : said outs ≡ with_moves q clock old ms peers nothing

-- A STEP OF A NODE on this input made these moves, of whole records. `list` is its list of entries
-- up to its top, and `items` are the records of its saved log
pub record StepsWhole (clock : ℕ) (list items : List Entry) (given : Input) (ms : List (Move Entry))
    (old new : NodeValue) (outs : Outputs) : Type 0 where
  pub machine : Steps old.me clock ms (peers_of old given) (server old items) (server new items)
      outs
  -- its records, and who waits
  pub whole : stock new ≡ stock_after old.me clock list (came given) (peers_of old given)
      (server old items) ms (stock old)
  -- each record in what is sent stands in the log, or is that of what is appended
  pub sent : StandIn (old.records ++ recorded old.plain.accepted list ms) (records_sent outs)

-- THE LISTING that an input asks for: a settled data server lists the tree after the committed
-- updates, and another server lists nothing
pub record Lists (n : NodeValue) (told : Option Moments) (old new : Option Listing) : Type 0 where
  pub settled : (list : List Entry) → stores n ≡ true → HoldsTree list n.plain.cp (log_of n) told
      → new ≡ Some (listing_at n.plain.cp list)
  pub other : stores n ≡ false → new ≡ old

abbrev pub ListsFor : Input → NodeValue → Option Moments → (old new : Option Listing) → Type 0
ListsFor input.List n told old new = Lists n told old new
ListsFor input.Tick n told old new = ⊤
ListsFor input.Suspect n told old new = ⊤
ListsFor (input.Message from message) n told old new = ⊤
ListsFor (input.Ask peer client number cred call) n told old new = ⊤
ListsFor (input.Apply most) n told old new = ⊤
ListsFor input.Flush n told old new = ⊤
