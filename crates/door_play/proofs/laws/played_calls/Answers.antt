use Rattle.door_play.proofs.Door.{answers_are_replies, only_full_net_refuses, read_steps_are_taken}
use Rattle.door_play.proofs.laws.played_calls.Goals as goal

pub returns : goal.returns
returns c = record {
  answers = answers_are_replies;
  refused = only_full_net_refuses;
  taken = read_steps_are_taken;
}
