use Rattle.overlay.proofs.Indexing.{empty_follows}
use Rattle.overlay.proofs.index.CellIndex.new.Goals as goal

pub returns : goal.returns
returns c base = empty_follows c.new.result.entries base c.new.ensures.empty
