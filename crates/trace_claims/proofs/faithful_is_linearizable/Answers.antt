use Rattle.trace_claims.proofs.Linearizable.{linearizable}
use Rattle.trace_claims.proofs.faithful_is_linearizable.Goals as goal

pub returns : goal.returns
returns c = linearizable
