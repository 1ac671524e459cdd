use Rattle.group_safety.proofs.AtOnce.{answers_at_once}
use Rattle.group_safety.proofs.answered_at_once.Goals as goal

pub returns : goal.returns
returns c = record { answers = answers_at_once }
