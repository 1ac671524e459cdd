-- The run plays the worked rows.
use Rattle.std.proofs.Common.{◌≡◌, Bool, true, false, List, [], ◌∷◌, Option, Some, None, ◌&&◌, ◌||◌, length, nat_le, arith, refl}
use Rattle.file_tree.specs.Tree.{attr_at, used_blocks, names_of, links_of, holder_from, parent_of, entry_from, free_from, with_entry}
use Rattle.file_tree.specs.Outcome.{lost_entry, with_size, create_again, create_new, add_entry, get_attr, set_fields, set_attr, remove, make_dir, room_for}
use Rattle.group_rules.specs.Places.{all_of}
use Rattle.group_rules.specs.Limits.{limit, room, give_bytes}
use Rattle.trace_claims.specs.Listing.{all_zero, block_lines, living, objects_from, slot_lines}
use Rattle.group_trace.specs.Lines.{entered_lines, packet_lines}
use Rattle.group_trace.specs.RowOfAnUpdate.{OneUpdate, one_update_steps}
use Rattle.group_trace.specs.RowWords.{plain_measures}
use Rattle.group_trace.specs.RowsOfOpening.{OpeningAtItsMoment, opening_at_its_moment_steps}
use Rattle.group_trace.specs.RowsOfAsks.{FullLog, RefusalsOfAnAsk, Repeat, AcknowledgedThreeTimes, UpdateTakenOver, refusals_of_an_ask_steps, repeat_steps, acknowledged_three_times_steps, update_taken_over_steps}
use Rattle.group_trace.specs.RowsOfViews.{LateAcknowledgement, AbandonedFormation, late_acknowledgement_steps, abandoned_formation_steps}
use Rattle.group_trace.specs.RowOfTheWitness.{Witness, witness_steps}
use Rattle.group_trace.specs.RowsOfPowerFailures.{PowerFailure, PowerFailureCutOff, StopInASave, power_failure_steps, power_failure_cut_off_steps, stop_in_a_save_steps}
use Rattle.group_trace.specs.RowsOfStops.{StopAtAJoin, StopBeforeTheMark, StopAfterTheMark, stop_at_a_join_steps, stop_before_the_mark_steps, stop_after_the_mark_steps}
use Rattle.group_trace.specs.RowsOfDisks.{FuzzyDisk, BaseMoves, NoView, fuzzy_disk_steps, base_moves_steps, no_view_steps}
use Rattle.group_trace.specs.RowsOfPromises.{OldMark, PromisesAtTheSkew, PromiseRunsOut, LongerPromises, ShorterPromises, promises_at_the_skew_steps, promise_runs_out_steps, longer_promises_steps, shorter_promises_steps}
use Rattle.group_trace.specs.Calls.{calls_of, changes_of}
use Rattle.group_trace.specs.Refusals.{net_limit, refusal}
use Rattle.group_trace.specs.Run.{AreTaken, bytes_of, is_elementary, next, run_lines}
use Rattle.group_trace.specs.Scene.{Measures, Scene, first_scene}
use Rattle.group_rules.specs.Shown.{same_state}
use Rattle.trace_types.specs.declared.line.LineFault.{LineFault}
use Rattle.trace_types.specs.declared.step.Step.{Step}
use Rattle.group_rules.proofs.Tests.{by_if, left, neither, not_le, right}
use Rattle.group_rules.specs.Ask.{refuse}
use Rattle.group_rules.specs.Moves.{Move}
use Rattle.group_rules.specs.State.{LogFull, Server, top}
use Rattle.file_tree.specs.Book.{Entry}
use Rattle.std.proofs.lemmas.Bool.Decides.{nat_tests}

-- ---- taken steps

abbrev pub is_free : Option LineFault → Bool
is_free None = true
is_free (Some fault) = false

free_is : (o : Option LineFault) → is_free o ≡ true → o ≡ None
free_is None e = refl
free_is (Some fault) e = cc

-- a test of whether all steps are taken
abbrev pub all_taken : Measures → Scene → List Step → Bool
all_taken m w [] = true
all_taken m w (s ∷ ss) =
    is_free (refusal m w s) && (is_elementary s && all_taken m (next m w s) ss)

pub taken : (m : Measures) (w : Scene) (ss : List Step) → all_taken m w ss ≡ true → AreTaken m w ss
taken m w [] e = tt
taken m w (s ∷ ss) e =
    let rest = right (is_free (refusal m w s)) _ e in
    let free = left (is_free (refusal m w s)) _ e in (
      free_is (refusal m w s) free,
      left (is_elementary s) _ rest,
      taken m (next m w s) ss (right (is_elementary s) _ rest),
    )

-- ---- the rows

pub one_update : OneUpdate
unfolding run_lines all_of limit room give_bytes attr_at used_blocks names_of links_of holder_from
    parent_of entry_from free_from with_entry lost_entry with_size set_fields set_attr create_again
    create_new add_entry get_attr remove make_dir room_for entered_lines packet_lines same_state
    calls_of changes_of bytes_of net_limit objects_from slot_lines block_lines all_zero living
one_update = (taken plain_measures first_scene one_update_steps refl, refl)

pub opening_at_its_moment : OpeningAtItsMoment
unfolding run_lines all_of limit room give_bytes attr_at used_blocks names_of links_of holder_from
    parent_of entry_from free_from with_entry lost_entry with_size set_fields set_attr create_again
    create_new add_entry get_attr remove make_dir room_for entered_lines packet_lines same_state
    calls_of changes_of bytes_of net_limit objects_from slot_lines block_lines all_zero living
opening_at_its_moment = (taken plain_measures first_scene opening_at_its_moment_steps refl, refl)

pub refusals_of_an_ask : RefusalsOfAnAsk
unfolding run_lines all_of limit room give_bytes attr_at used_blocks names_of links_of holder_from
    parent_of entry_from free_from with_entry lost_entry with_size set_fields set_attr create_again
    create_new add_entry get_attr remove make_dir room_for entered_lines packet_lines same_state
    calls_of changes_of bytes_of net_limit objects_from slot_lines block_lines all_zero living
refusals_of_an_ask = (taken plain_measures first_scene refusals_of_an_ask_steps refl, refl)

pub repeat : Repeat
unfolding run_lines all_of limit room give_bytes attr_at used_blocks names_of links_of holder_from
    parent_of entry_from free_from with_entry lost_entry with_size set_fields set_attr create_again
    create_new add_entry get_attr remove make_dir room_for entered_lines packet_lines same_state
    calls_of changes_of bytes_of net_limit objects_from slot_lines block_lines all_zero living
repeat = (taken plain_measures first_scene repeat_steps refl, refl)

pub acknowledged_three_times : AcknowledgedThreeTimes
unfolding run_lines all_of limit room give_bytes attr_at used_blocks names_of links_of holder_from
    parent_of entry_from free_from with_entry lost_entry with_size set_fields set_attr create_again
    create_new add_entry get_attr remove make_dir room_for entered_lines packet_lines same_state
    calls_of changes_of bytes_of net_limit objects_from slot_lines block_lines all_zero living
acknowledged_three_times = (
  taken plain_measures first_scene acknowledged_three_times_steps refl,
  refl,
)

pub update_taken_over : UpdateTakenOver
unfolding run_lines all_of limit room give_bytes attr_at used_blocks names_of links_of holder_from
    parent_of entry_from free_from with_entry lost_entry with_size set_fields set_attr create_again
    create_new add_entry get_attr remove make_dir room_for entered_lines packet_lines same_state
    calls_of changes_of bytes_of net_limit objects_from slot_lines block_lines all_zero living
update_taken_over = (taken plain_measures first_scene update_taken_over_steps refl, refl)

pub late_acknowledgement : LateAcknowledgement
unfolding run_lines all_of limit room give_bytes attr_at used_blocks names_of links_of holder_from
    parent_of entry_from free_from with_entry lost_entry with_size set_fields set_attr create_again
    create_new add_entry get_attr remove make_dir room_for entered_lines packet_lines same_state
    calls_of changes_of bytes_of net_limit objects_from slot_lines block_lines all_zero living
late_acknowledgement = (taken plain_measures first_scene late_acknowledgement_steps refl, refl)

pub abandoned_formation : AbandonedFormation
unfolding run_lines all_of limit room give_bytes attr_at used_blocks names_of links_of holder_from
    parent_of entry_from free_from with_entry lost_entry with_size set_fields set_attr create_again
    create_new add_entry get_attr remove make_dir room_for entered_lines packet_lines same_state
    calls_of changes_of bytes_of net_limit objects_from slot_lines block_lines all_zero living
abandoned_formation = (taken plain_measures first_scene abandoned_formation_steps refl, refl)

pub witness : Witness
unfolding run_lines all_of limit room give_bytes attr_at used_blocks names_of links_of holder_from
    parent_of entry_from free_from with_entry lost_entry with_size set_fields set_attr create_again
    create_new add_entry get_attr remove make_dir room_for entered_lines packet_lines same_state
    calls_of changes_of bytes_of net_limit objects_from slot_lines block_lines all_zero living
witness = (taken plain_measures first_scene witness_steps refl, refl)

pub power_failure : PowerFailure
unfolding run_lines all_of limit room give_bytes attr_at used_blocks names_of links_of holder_from
    parent_of entry_from free_from with_entry lost_entry with_size set_fields set_attr create_again
    create_new add_entry get_attr remove make_dir room_for entered_lines packet_lines same_state
    calls_of changes_of bytes_of net_limit objects_from slot_lines block_lines all_zero living
power_failure = (taken plain_measures first_scene power_failure_steps refl, refl)

pub power_failure_cut_off : PowerFailureCutOff
unfolding run_lines all_of limit room give_bytes attr_at used_blocks names_of links_of holder_from
    parent_of entry_from free_from with_entry lost_entry with_size set_fields set_attr create_again
    create_new add_entry get_attr remove make_dir room_for entered_lines packet_lines same_state
    calls_of changes_of bytes_of net_limit objects_from slot_lines block_lines all_zero living
power_failure_cut_off = (taken plain_measures first_scene power_failure_cut_off_steps refl, refl)

pub stop_in_a_save : StopInASave
unfolding run_lines all_of limit room give_bytes attr_at used_blocks names_of links_of holder_from
    parent_of entry_from free_from with_entry lost_entry with_size set_fields set_attr create_again
    create_new add_entry get_attr remove make_dir room_for entered_lines packet_lines same_state
    calls_of changes_of bytes_of net_limit objects_from slot_lines block_lines all_zero living
stop_in_a_save = (taken plain_measures first_scene stop_in_a_save_steps refl, refl)

pub stop_at_a_join : StopAtAJoin
unfolding run_lines all_of limit room give_bytes attr_at used_blocks names_of links_of holder_from
    parent_of entry_from free_from with_entry lost_entry with_size set_fields set_attr create_again
    create_new add_entry get_attr remove make_dir room_for entered_lines packet_lines same_state
    calls_of changes_of bytes_of net_limit objects_from slot_lines block_lines all_zero living
stop_at_a_join = (taken plain_measures first_scene stop_at_a_join_steps refl, refl)

pub stop_before_the_mark : StopBeforeTheMark
unfolding run_lines all_of limit room give_bytes attr_at used_blocks names_of links_of holder_from
    parent_of entry_from free_from with_entry lost_entry with_size set_fields set_attr create_again
    create_new add_entry get_attr remove make_dir room_for entered_lines packet_lines same_state
    calls_of changes_of bytes_of net_limit objects_from slot_lines block_lines all_zero living
stop_before_the_mark = (taken plain_measures first_scene stop_before_the_mark_steps refl, refl)

pub stop_after_the_mark : StopAfterTheMark
unfolding run_lines all_of limit room give_bytes attr_at used_blocks names_of links_of holder_from
    parent_of entry_from free_from with_entry lost_entry with_size set_fields set_attr create_again
    create_new add_entry get_attr remove make_dir room_for entered_lines packet_lines same_state
    calls_of changes_of bytes_of net_limit objects_from slot_lines block_lines all_zero living
stop_after_the_mark = (taken plain_measures first_scene stop_after_the_mark_steps refl, refl)

pub fuzzy_disk : FuzzyDisk
unfolding run_lines all_of limit room give_bytes attr_at used_blocks names_of links_of holder_from
    parent_of entry_from free_from with_entry lost_entry with_size set_fields set_attr create_again
    create_new add_entry get_attr remove make_dir room_for entered_lines packet_lines same_state
    calls_of changes_of bytes_of net_limit objects_from slot_lines block_lines all_zero living
fuzzy_disk = (taken plain_measures first_scene fuzzy_disk_steps refl, refl)

pub base_moves : BaseMoves
unfolding run_lines all_of limit room give_bytes attr_at used_blocks names_of links_of holder_from
    parent_of entry_from free_from with_entry lost_entry with_size set_fields set_attr create_again
    create_new add_entry get_attr remove make_dir room_for entered_lines packet_lines same_state
    calls_of changes_of bytes_of net_limit objects_from slot_lines block_lines all_zero living
base_moves = (taken plain_measures first_scene base_moves_steps refl, refl)

pub no_view : NoView
unfolding run_lines all_of limit room give_bytes attr_at used_blocks names_of links_of holder_from
    parent_of entry_from free_from with_entry lost_entry with_size set_fields set_attr create_again
    create_new add_entry get_attr remove make_dir room_for entered_lines packet_lines same_state
    calls_of changes_of bytes_of net_limit objects_from slot_lines block_lines all_zero living
no_view = (taken plain_measures first_scene no_view_steps refl, refl)

pub promises_at_the_skew : PromisesAtTheSkew
unfolding run_lines all_of limit room give_bytes attr_at used_blocks names_of links_of holder_from
    parent_of entry_from free_from with_entry lost_entry with_size set_fields set_attr create_again
    create_new add_entry get_attr remove make_dir room_for entered_lines packet_lines same_state
    calls_of changes_of bytes_of net_limit objects_from slot_lines block_lines all_zero living
promises_at_the_skew = (taken plain_measures first_scene promises_at_the_skew_steps refl, refl)

pub promise_runs_out : PromiseRunsOut
unfolding run_lines all_of limit room give_bytes attr_at used_blocks names_of links_of holder_from
    parent_of entry_from free_from with_entry lost_entry with_size set_fields set_attr create_again
    create_new add_entry get_attr remove make_dir room_for entered_lines packet_lines same_state
    calls_of changes_of bytes_of net_limit objects_from slot_lines block_lines all_zero living
promise_runs_out = (taken plain_measures first_scene promise_runs_out_steps refl, refl)

pub longer_promises : LongerPromises
unfolding run_lines all_of limit room give_bytes attr_at used_blocks names_of links_of holder_from
    parent_of entry_from free_from with_entry lost_entry with_size set_fields set_attr create_again
    create_new add_entry get_attr remove make_dir room_for entered_lines packet_lines same_state
    calls_of changes_of bytes_of net_limit objects_from slot_lines block_lines all_zero living
longer_promises = (taken plain_measures first_scene longer_promises_steps refl, refl)

pub shorter_promises : ShorterPromises
unfolding run_lines all_of limit room give_bytes attr_at used_blocks names_of links_of holder_from
    parent_of entry_from free_from with_entry lost_entry with_size set_fields set_attr create_again
    create_new add_entry get_attr remove make_dir room_for entered_lines packet_lines same_state
    calls_of changes_of bytes_of net_limit objects_from slot_lines block_lines all_zero living
shorter_promises = (taken plain_measures first_scene shorter_promises_steps refl, refl)

pub old_mark : (a b : Entry) → OldMark a b
unfolding all_of room
old_mark a b = record {
  first = refl;
  first_horizon = refl;
  second = refl;
  second_horizon = refl;
  longest = refl;
  short_horizon = refl;
}

pub full_log : (s : Server Entry) (e : Entry) → FullLog s e
unfolding limit room
full_log s e = record {
  full = λ h. by_if (λ (ms : List (Move Entry)). ms ≡ refuse e.client e.number LogFull)
      (nat_le room (length s.items) || nat_le limit (top s)) _ _ (λ _. refl)
      (λ n. let b = not_le room (length s.items) (neither _ _ n).0 in absurd (omega arith));
  appended = λ few low.
      let a : nat_le room (length s.items) ≡ false = grind (arith, nat_tests) in
      let b : nat_le limit (top s) ≡ false = grind (arith, nat_tests) in
      rw (a, b) refl;
}
