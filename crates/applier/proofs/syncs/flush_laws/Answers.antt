use Rattle.applier.proofs.Flushes.{parts_flush}
use Rattle.applier.proofs.syncs.flush_laws.Goals as goal

pub returns : goal.returns
returns c = record { at_once = parts_flush }
