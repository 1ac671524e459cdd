use Rattle.std.proofs.Common.{◌∙◌}
use Rattle.trace_check.proofs.checker.Checker.entered.Goals as goal

pub returns : goal.returns
returns c before s = c.entered.ensures ∙ s.kept.history.entered
