use Rattle.world_laws.proofs.Sized.{messages_sized}
use Rattle.world_laws.proofs.host_laws.messages_are_sized.Goals as goal

pub returns : goal.returns
returns c = record { sized = messages_sized }
