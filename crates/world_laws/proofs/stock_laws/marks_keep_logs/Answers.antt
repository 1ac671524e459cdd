use Rattle.world_laws.proofs.StockSteps.{boots_are_right, falls_are_right}
use Rattle.world_laws.proofs.stock_laws.marks_keep_logs.Goals as goal

pub returns : goal.returns
returns c = record { falls = falls_are_right; boots = boots_are_right }
