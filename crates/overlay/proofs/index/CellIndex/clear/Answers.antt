use Rattle.overlay.proofs.Indexing.{empty_follows}
use Rattle.overlay.proofs.index.CellIndex.clear.Goals as goal

pub returns : goal.returns
returns c base = empty_follows c.clear.new.self.entries base c.clear.ensures.empty
