-- What a leader does with an ask.
use Rattle.std.specs.Prelude.{◌≡◌, ℕ, ◌≤◌, ◌&&◌, ◌||◌, nat_le, nat_lt, Bool, List, [], ◌∷◌, ◌++◌, Option}
use Rattle.std.specs.List.{flat_map}
use Rattle.harp_types.specs.Limits.{last_client}
use Rattle.harp_types.specs.Update.{is_update}
use Rattle.harp_types.specs.declared.call.Call.{Call}
use Rattle.harp_types.specs.declared.peer.Peer.{Peer}
use Rattle.event_record.specs.declared.record.RecordFields.{RecordFields}
use Rattle.file_tree.specs.Book.{Entry}
use Rattle.group_rules.specs.Moves.{Appending, Move}
use Rattle.group_rules.specs.Names.{view_of}
use Rattle.harp_store.specs.Disk.{Moments}
use Rattle.tree_log.specs.Records.{record_of}
use Rattle.node_outputs.specs.Makes.{Makes}
use Rattle.node_outputs.specs.Records.{records_sent}
use Rattle.node_outputs.specs.Said.{waits_of}
use Rattle.node_outputs.specs.declared.outputs.Outputs.{Outputs}
use Rattle.tree_log.specs.Reading.{HoldsTree}
use Rattle.replica.specs.Leading.{Leading, Outer, led, place_led}
use Rattle.volatile_log.specs.Log.{top}

-- whether the tree is read to answer an ask of a client at this clock: an open leader does so for
-- each update, and for a read while its partner's promise runs
abbrev pub reads_tree : Leading → ℕ → Call → ℕ → Bool
reads_tree l client call now =
    nat_le client last_client && l.opened && (is_update call || nat_lt now l.grant)

-- the entries that moves append
abbrev pub appended_by : Move Entry → List Entry
appended_by (Appending e) = e ∷ []
appended_by m = []

abbrev pub appended : List (Move Entry) → List Entry
appended ms = flat_map appended_by ms

-- their records, each of its entry after this list, and stamped with the leader's view
abbrev pub recorded_by : ℕ → List Entry → Move Entry → List RecordFields
recorded_by view list (Appending e) = record_of (view_of view) list e ∷ []
recorded_by view list m = []

abbrev pub recorded : ℕ → List Entry → List (Move Entry) → List RecordFields
recorded view list ms = flat_map (recorded_by view list) ms

-- whatever an ask does, of a leader it changes its records, its cells in memory, and who waits
abbrev pub IsGrown : Leading → Leading → Type 0
IsGrown old new = new ≡ record old {
  log = record (old.log) { records = new.log.records };
  cached = new.cached;
  peers = new.peers;
}

-- AN ASK of a peer made these moves, and who waits for what they append has come to those who wait.
-- What is appended goes to the log and to the partner as one and the same record, and the log is
-- then of the list with it
pub record Asked (now : ℕ) (list : List Entry) (ms : List (Move Entry)) (peer : Peer) (o : Outer)
    (old new : Leading) (before after : Outputs) : Type 0 where
  pub makes : Makes (place_led old o) now ms (peer ∷ []) (led old o) (led new o) before after
  pub waits : new.peers ≡ old.peers ++ waits_of peer ms
  pub log : new.log ≡ record (old.log) { records = old.log.records ++ recorded old.view list ms }
  pub sent : records_sent after ≡ records_sent before ++ recorded old.view list ms
  pub tree : (upto : ℕ) (told : Option Moments) → upto ≤ top old.log
      → HoldsTree list upto old.log told
      → HoldsTree (list ++ appended ms) upto new.log told
