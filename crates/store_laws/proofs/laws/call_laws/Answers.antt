use Rattle.store_laws.proofs.Calls.{calls_are_moments, calls_follow, changes_are_calls, changes_are_of_calls, first_changes, moments_before, puts_are_saved, saves_are_calls, saves_are_told, steps_follow}
use Rattle.store_laws.proofs.laws.call_laws.Goals as goal

pub returns : goal.returns
returns c = record {
  first = calls_follow;
  step = steps_follow;
  moments = calls_are_moments;
  before = moments_before;
  changes = changes_are_calls;
  firsts = first_changes;
  one_for_one = changes_are_of_calls;
  puts = puts_are_saved;
  saves = saves_are_calls;
  told = saves_are_told;
}
