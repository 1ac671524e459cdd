use Rattle.door_play.proofs.Door.{answers_go_on, one_answer_more, one_call_more, refused_stays}
use Rattle.door_play.proofs.laws.one_call_more.Goals as goal

pub returns : goal.returns
returns c = record {
  further = one_call_more;
  behind = answers_go_on;
  stays = refused_stays;
  answered = one_answer_more;
}
