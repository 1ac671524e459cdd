-- A node as a server of the machine.
use Rattle.std.proofs.Common.{refl}
use Rattle.harp_types.specs.declared.server.ServerId.{ServerId}
use Rattle.harp_store.specs.Mark.{MarkFields}
use Rattle.node.specs.Node.{IsServer, value}
use Rattle.node.specs.declared.state.State.{State}
use Rattle.node.specs.declared.state.Task.{Task}
use Rattle.promise.specs.Promise.{HorizonValue}
use Rattle.std.specs.Prelude.{ℕ}

pub is_server : (me : ServerId) (mark : MarkFields) (horizon : HorizonValue) (served : ℕ)
    (duty : Task) (s : State) → IsServer (value me mark horizon served duty s)
is_server me mark horizon served duty s = record { up = refl; mark = λ items. refl }
