use Rattle.store_laws.proofs.FewBlocks.{runs_have_few_blocks}
use Rattle.store_laws.proofs.StepCalls.{steps_make_calls}
use Rattle.store_laws.proofs.Steps.{steps_leave}
use Rattle.store_laws.proofs.laws.run_laws.Goals as goal

pub returns : goal.returns
returns c = record { calls = steps_make_calls; leave = steps_leave; few = runs_have_few_blocks }
