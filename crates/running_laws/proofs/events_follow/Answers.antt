use Rattle.running_laws.proofs.Following.{events_follow}
use Rattle.running_laws.proofs.events_follow.Goals as goal

pub returns : goal.returns
returns c = record { follow = events_follow }
