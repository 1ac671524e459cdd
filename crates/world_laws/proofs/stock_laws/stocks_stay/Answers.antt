use Rattle.world_laws.proofs.Logs.{stocks_stay}
use Rattle.world_laws.proofs.stock_laws.stocks_stay.Goals as goal

pub returns : goal.returns
returns c = record { stay = stocks_stay }
