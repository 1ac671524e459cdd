use Rattle.world_laws.proofs.Truths.{nodes_show}
use Rattle.world_laws.proofs.show_laws.nodes_show_rightly.Goals as goal

pub returns : goal.returns
returns c = record { right = nodes_show }
