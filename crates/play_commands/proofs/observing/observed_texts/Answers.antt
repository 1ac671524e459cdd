use Rattle.observed_text.proofs.ObservedLaws.{explained_observed}
use Rattle.play_commands.specs.Play.{sizes}
use Rattle.play_commands.proofs.observing.observed_texts.Goals as goal

pub returns-clause-meaning : goal.returns-clause-meaning
returns-clause-meaning c = explained_observed

pub returns-clause-right : goal.returns-clause-right
returns-clause-right c = c.every_observed_text.ensures sizes
