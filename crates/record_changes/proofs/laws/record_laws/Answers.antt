use Rattle.record_changes.proofs.Histories.{as_long, fronts, grow, once, planned, same_blocks, stand}
use Rattle.record_changes.proofs.laws.record_laws.Goals as goal

pub returns : goal.returns
returns c = record {
  length = as_long;
  fronts = fronts;
  grow = grow;
  stand = stand;
  once =
      once;
  same = same_blocks;
  planned = planned;
}
