use Rattle.std.proofs.Common.{refl}
use Rattle.tree_log.proofs.Plans.{history_grows}
use Rattle.tree_log.proofs.Sizes.{planned_short}
use Rattle.tree_log.proofs.record_lengths.record_laws.Goals as goal

pub returns : goal.returns
returns c = record {
  entry = λ view entries e. refl;
  alike = λ view other entries e. refl;
  grow = history_grows;
  short = planned_short;
}
