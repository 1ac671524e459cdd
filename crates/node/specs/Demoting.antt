-- A server that promised a view above the one that it is demoted of.
use Rattle.std.specs.Prelude.{◌≡◌, ℕ, List, [], ◌∷◌, nat_lt, true, false}
use Rattle.file_tree.specs.Book.{Entry}
use Rattle.group_rules.specs.Effects.{demoted}
use Rattle.group_rules.specs.Moves.{Demoting}
use Rattle.group_rules.specs.Names.{number_of_view}
use Rattle.harp_types.specs.View.{View}
use Rattle.harp_types.specs.declared.server.ServerId.{ServerId}
use Rattle.harp_store.specs.Mark.{MarkFields}
use Rattle.node.specs.Disk.{marked}
use Rattle.node.specs.Node.{NodeValue, server, value}
use Rattle.node.specs.Stock.{Stocks, stock}
use Rattle.node.specs.declared.state.State.{State}
use Rattle.node.specs.declared.state.Task.{Task}
use Rattle.promise.specs.Promise.{HorizonValue}

-- whatever else the server has, its part in the promised view goes on without a log
abbrev pub GoesOn : State → State → Type 0
GoesOn old new = (me : ServerId) (mark : MarkFields) (horizon : HorizonValue) (served : ℕ)
    (duty : Task) (items : List Entry) (view : View)
    → nat_lt (number_of_view view) (number_of_view mark.promised) ≡ true
    → server (value me (marked mark (Demoting (number_of_view view))) horizon 0 duty new) items
    ≡ demoted (server (value me mark horizon served duty old) items) (number_of_view view)

-- the witness left its view for this one, and this is its mark now: its log is dropped
pub record LeavesFor (v : ℕ) (left : MarkFields) (old new : NodeValue) : Type 0 where
  pub me : new.me ≡ old.me
  pub up : new.halted ≡ false
  pub state : (items : List Entry) → server new items ≡ demoted (server old items) v
  pub stock : (items : List Entry) → Stocks [] old.me (server old items) (Demoting v ∷ [])
      (stock old) (stock new)
  pub cached : new.cached ≡ []
  pub mark : new.mark ≡ left
