use Rattle.running_laws.proofs.Called.{lives_are_parts}
use Rattle.running_laws.proofs.lives.Goals as goal

pub returns : goal.returns
returns c = record { lives = lives_are_parts }
