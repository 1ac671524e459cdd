-- What a server does with an ask.
use Rattle.std.specs.Prelude.{◌≡◌, ℕ, ◌≤◌, ◌&&◌, ◌||◌, nat_le, nat_lt, Bool, List, ◌∷◌, [], ◌++◌, Option, if◌then◌else◌}
use Rattle.file_tree.specs.Book.{Entry}
use Rattle.group_rules.specs.Ask.{hint_of}
use Rattle.group_rules.specs.Limits.{is_open}
use Rattle.group_rules.specs.Moves.{Move}
use Rattle.group_rules.specs.Places.{Place}
use Rattle.group_rules.specs.State.{BadClient, Cause, NotLeader, Role}
use Rattle.harp_types.specs.Limits.{last_client}
use Rattle.harp_types.specs.Update.{is_update}
use Rattle.harp_types.specs.declared.call.Call.{Call}
use Rattle.harp_types.specs.declared.peer.Peer.{Peer}
use Rattle.harp_store.specs.Disk.{Moments}
use Rattle.node.specs.Node.{NodeValue, server}
use Rattle.node.specs.Stored.{log_of}
use Rattle.node_outputs.specs.Makes.{Makes}
use Rattle.node_outputs.specs.Records.{records_sent}
use Rattle.node_outputs.specs.Said.{waits_of}
use Rattle.node_outputs.specs.declared.outputs.Outputs.{Outputs}
use Rattle.tree_log.specs.Reading.{HoldsTree}
use Rattle.replica.specs.Asking.{appended, recorded}
use Rattle.volatile_log.specs.Log.{top}

-- whether the tree is read to answer an ask of a client at this clock: an open leader does so for
-- each update, and for a read while its partner's promise runs
abbrev pub reads_tree : NodeValue → ℕ → Call → ℕ → Bool
reads_tree n client call now =
    nat_le client last_client && is_open n.plain.mode
    && (is_update call || nat_lt now n.plain.grant)

-- why a server that doesn't lead its view refuses an ask of a client
abbrev pub cause_away : Place → Role → ℕ → Cause
cause_away q role client =
    if nat_lt last_client client then BadClient else NotLeader (hint_of q role)

-- AN ASK of a peer made these moves, and who waits for what they append has come to those who wait.
-- What is appended goes to the log and to the partner as one and the same record, and the log is
-- then of the list with it. `items` are the records of a saved log
pub record Asked (now : ℕ) (list : List Entry) (ms : List (Move Entry)) (peer : Peer)
    (items : List Entry) (old new : NodeValue) (before after : Outputs) : Type 0 where
  pub makes : Makes old.me now ms (peer ∷ []) (server old items) (server new items) before after
  pub waits : new.peers ≡ old.peers ++ waits_of peer ms
  pub records : new.records ≡ old.records ++ recorded old.plain.accepted list ms
  pub sent : records_sent after ≡ records_sent before ++ recorded old.plain.accepted list ms
  pub tree : (upto : ℕ) (told : Option Moments) → upto ≤ top (log_of old)
      → HoldsTree list upto (log_of old) told
      → HoldsTree (list ++ appended ms) upto (log_of new) told
