use Rattle.group_trace.proofs.Rows.{full_log, old_mark, one_update, opening_at_its_moment, refusals_of_an_ask, repeat, acknowledged_three_times, update_taken_over, late_acknowledgement, abandoned_formation, witness, power_failure, power_failure_cut_off, stop_in_a_save, stop_at_a_join, stop_before_the_mark, stop_after_the_mark, fuzzy_disk, base_moves, no_view, promises_at_the_skew, promise_runs_out, longer_promises, shorter_promises}
use Rattle.group_trace.proofs.worked_rows.Goals as goal

pub returns : goal.returns
returns c = record {
  one_update = one_update;
  opening_at_its_moment = opening_at_its_moment;
  refusals_of_an_ask = refusals_of_an_ask;
  repeat = repeat;
  acknowledged_three_times = acknowledged_three_times;
  update_taken_over = update_taken_over;
  late_acknowledgement = late_acknowledgement;
  abandoned_formation = abandoned_formation;
  witness = witness;
  power_failure = power_failure;
  power_failure_cut_off = power_failure_cut_off;
  stop_in_a_save = stop_in_a_save;
  stop_at_a_join = stop_at_a_join;
  stop_before_the_mark = stop_before_the_mark;
  stop_after_the_mark = stop_after_the_mark;
  fuzzy_disk = fuzzy_disk;
  base_moves = base_moves;
  no_view = no_view;
  promises_at_the_skew = promises_at_the_skew;
  promise_runs_out = promise_runs_out;
  longer_promises = longer_promises;
  shorter_promises = shorter_promises;
  old_mark = old_mark;
  full_log = full_log;
}
