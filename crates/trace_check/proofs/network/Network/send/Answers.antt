use Rattle.std.proofs.Common.{refl}
use Rattle.std.proofs.lemmas.Result.{on_ok_weaker}
use Rattle.trace_check.proofs.network.Network.send.Goals as goal

pub returns : goal.returns
returns c =
    on_ok_weaker c.note.result (λ sent. record { sent = sent; tops = refl; moments = refl })
    c.note.ensures
