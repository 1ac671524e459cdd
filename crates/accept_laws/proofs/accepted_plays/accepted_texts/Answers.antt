use Rattle.accept_laws.proofs.Accepted.{accepted}
use Rattle.accept_laws.proofs.accepted_plays.accepted_texts.Goals as goal

pub returns : goal.returns
returns c = record { accepted = accepted }
