use Rattle.world_laws.proofs.StockSteps.{deeds_keep, deliveries_keep, others_stay}
use Rattle.world_laws.proofs.stock_laws.steps_keep_stocks.Goals as goal

pub returns : goal.returns
returns c = record { deeds = deeds_keep; deliveries = deliveries_keep; others = others_stay }
