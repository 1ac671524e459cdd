-- What a call of a server gives that makes moves of the group's machine, whether it goes well or
-- fails.
use Rattle.std.specs.Prelude.{◌≡◌, ◌≢◌, ℕ, false, List, Option, Result, MatchResult}
use Rattle.event_record.specs.declared.record.RecordFields.{RecordFields}
use Rattle.file_tree.specs.Book.{Entry}
use Rattle.group_rules.specs.Moves.{Move}
use Rattle.group_rules.specs.Places.{Place}
use Rattle.group_rules.specs.State.{Server}
use Rattle.harp_store.specs.Disk.{Moments}
use Rattle.harp_types.specs.Streams.{Rose}
use Rattle.harp_types.specs.declared.peer.Peer.{Peer}
use Rattle.node.specs.Cached.{IsCachedAs}
use Rattle.node.specs.Disk.{MayLeave, disk_after, marked_by}
use Rattle.node.specs.Node.{NodeValue, server}
use Rattle.node.specs.Stock.{Stocks, stock}
use Rattle.node.specs.declared.fault.NodeFault.{NodeFault}
use Rattle.node.specs.declared.fault.NodeFault.TheVariants.{Halted, StoreFailed}
use Rattle.node_outputs.specs.Makes.{Makes}
use Rattle.node_outputs.specs.declared.outputs.Outputs.{Outputs}

-- the moves of a server, by what the server is
abbrev pub Moves : Type 0
Moves = Place → Server Entry → List (Move Entry)

-- IT WENT WELL. The server made these moves, if what they rest on holds; these records came to it,
-- and these peers are answered in turn. By the same moves its records and who waits are known, its
-- mark, and the disk
pub record Acts (rests : Type 0) (clock : ℕ) (moves : Moves) (came : List RecordFields)
    (askers : List Peer) (old new : NodeValue) (before after : Outputs)
    (disk left : Option Moments) : Type 0 where
  pub me : new.me ≡ old.me
  pub up : new.halted ≡ false
  pub makes : rests → (items : List Entry) → let s = server old items in
      Makes old.me clock (moves old.me s) askers s (server new items) before after
  pub stock : (items : List Entry) → let s = server old items in
      Stocks came old.me s (moves old.me s) (stock old) (stock new)
  pub cached : IsCachedAs old.cached new.cached
  pub mark : new.mark ≡ marked_by old.mark (moves old.me old.plain)
  pub written : left ≡ disk_after (moves old.me old.plain) new.mark disk

-- IT FAILED. The disk is as it was, or has the mark that the moves write; and the store failed only
-- where its count of faults rose
pub record Fails (moves : Moves) (old new : NodeValue) (disk left : Option Moments)
    (faults risen : ℕ) (why : NodeFault) : Type 0 where
  pub me : new.me ≡ old.me
  pub part : let ms = moves old.me old.plain in
      MayLeave ms (marked_by old.mark ms) disk left
  pub running : why ≢ Halted
  pub rose : why ≡ StoreFailed → Rose faults risen

abbrev pub Handles : Result (Unit {0}) NodeFault → (rests : Type 0) → (clock : ℕ) → Moves
    → (came : List RecordFields) → (askers : List Peer) → (old new : NodeValue)
    → (before after : Outputs) → (disk left : Option Moments) → (faults risen : ℕ) → Type 0
Handles result rests clock moves came askers old new before after disk left faults risen =
    MatchResult result
    (λ done. Acts rests clock moves came askers old new before after disk left)
    (Fails moves old new disk left faults risen)
