use Rattle.door_play.proofs.Forms.{replies_fit}
use Rattle.door_play.proofs.laws.replies_fit.Goals as goal

pub returns : goal.returns
returns c = record { forms = replies_fit }
