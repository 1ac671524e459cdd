-- What a server has beside the machine's: records whole, and who waits.
use Rattle.std.specs.Prelude.{◌≡◌, ℕ, ◌-◌, nat_lt, List, [], ◌∷◌, ◌++◌, length, take, drop, if◌then◌else◌, ⊤}
use Rattle.event_record.specs.declared.record.RecordFields.{RecordFields}
use Rattle.file_tree.specs.Book.{Entry}
use Rattle.group_rules.specs.Moves.{Accepting, Appending, Basing, Committing, Demoting, Heeding, Joining, Move, Pulling, Staging, act}
use Rattle.group_rules.specs.Names.{view_of}
use Rattle.group_rules.specs.Places.{Place}
use Rattle.group_rules.specs.State.{Server}
use Rattle.harp_types.specs.declared.peer.Peer.{Peer}
use Rattle.idle_log.specs.Kept.{log_in}
use Rattle.idle_log.specs.Pulls.{adopted_records}
use Rattle.idle_log.specs.declared.kept.Kept.{Kept}
use Rattle.tree_log.specs.Records.{record_of}
use Rattle.node.specs.Node.{NodeValue}
use Rattle.node.specs.State.{peers_in, pulled_in, records_in}
use Rattle.node.specs.declared.state.State.{State}
use Rattle.wire.specs.declared.message.Message.{Message as Wire}
use Rattle.wire.specs.declared.message.Message.TheVariants as wire

-- the records of its log, those that it pulled, and who waits for the records above CP
pub record Stock : Type 0 where
  pub log : List RecordFields
  pub pulled : List RecordFields
  pub waits : List Peer

abbrev pub stock : NodeValue → Stock
stock n = record { log = n.records; pulled = n.pulled; waits = n.peers }

abbrev pub stock_in : State → Stock
stock_in s = record { log = records_in s; pulled = pulled_in s; waits = peers_in s }

-- of a server that keeps this, and pulled these records
abbrev pub stock_kept : Kept → List RecordFields → Stock
stock_kept k pulled = record { log = (log_in k).records; pulled = pulled; waits = [] }

-- a storer that has just accepted its view has these records alone
abbrev pub StartsWith : List RecordFields → State → Type 0
StartsWith log s = stock_in s ≡ record { log = log; pulled = []; waits = [] }

-- THE STOCK AFTER A MOVE of this server: what it pulls and heeds are the records that came, what it
-- appends is the record of the entry in its list, whose askers wait then, and when it accepts a
-- view it goes on with its own and the pulled ones. A record is committed to the first who waits,
-- and nobody waits beyond a view
abbrev pub stock_by : Place → List Entry → (came : List RecordFields) → (askers : List Peer)
    → Server Entry → Move Entry → Stock → Stock
stock_by q list came askers s (Joining v duty) k = record k { pulled = []; waits = [] }
stock_by q list came askers s (Pulling plan from) k = record k { pulled = [] }
stock_by q list came askers s (Staging items) k = record k { pulled = k.pulled ++ came }
stock_by q list came askers s (Accepting plan role n) k = record {
  log = adopted_records q s plan k.log (k.pulled ++ came);
  pulled = [];
  waits = [];
}
stock_by q list came askers s (Heeding items cp base) k = record k {
  log = drop (base - s.base) (k.log ++ take (length items - length s.items) came);
}
stock_by q list came askers s (Appending e) k = record k {
  log = k.log ++ record_of (view_of s.accepted) list e ∷ [];
  waits = k.waits ++ askers;
}
stock_by q list came askers s (Committing n) k = record k { waits = drop (n - s.cp) k.waits }
stock_by q list came askers s (Basing n) k = record k { log = drop (n - s.base) k.log }
stock_by q list came askers s (Demoting v) k = record {
  log = [];
  pulled = if nat_lt v s.promised then k.pulled else [];
  waits = [];
}
stock_by q list came askers s m k = k

-- and after several
abbrev pub stock_after : Place → (clock : ℕ) → List Entry → (came : List RecordFields)
    → (askers : List Peer) → Server Entry → List (Move Entry) → Stock → Stock
stock_after q clock list came askers s [] k = k
stock_after q clock list came askers s (m ∷ ms) k =
    stock_after q clock list came askers (act q clock s m) ms (stock_by q list came askers s m k)

-- these moves of a server, to which these records came, lead from one stock to another. Nothing is
-- appended, so no list and nobody who asks counts
abbrev pub Stocks : List RecordFields → Place → Server Entry → List (Move Entry) → (old new : Stock)
    → Type 0
Stocks came q s ms old new = (clock : ℕ) (list : List Entry) (askers : List Peer)
    → new ≡ stock_after q clock list came askers s ms old

-- a message that asks for records
abbrev pub IsFetch : Wire → Type 0
IsFetch (wire.Fetch view first) = ⊤
IsFetch (wire.Invite view) = ⊥
IsFetch (wire.Join view has accepted base lb cp top horizon) = ⊥
IsFetch (wire.Form view storers source base cp start horizon) = ⊥
IsFetch (wire.Give view first records) = ⊥
IsFetch (wire.Formed view lb) = ⊥
IsFetch (wire.Event view cp base r) = ⊥
IsFetch (wire.Beat view cp base) = ⊥
IsFetch (wire.Ack view top lb until) = ⊥
IsFetch (wire.Demote view) = ⊥
IsFetch (wire.Ask client number cred call) = ⊥
IsFetch (wire.Answer client number index reply) = ⊥
IsFetch (wire.CannotServe client number cause) = ⊥
