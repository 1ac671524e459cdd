-- The worked rows of an apply and of a save that are cut.
use Rattle.std.proofs.Common.{refl}
use Rattle.harp_cells.specs.Effect.{is_block_from, is_cell}
use Rattle.cell_changes.specs.Table.{loses, moves, tree_changes}
use Rattle.record_changes.specs.Records.{history_from}
use Rattle.file_tree.specs.Tree.{attr_at, used_blocks, names_of, links_of, holder_from, parent_of, entry_from, free_from, with_entry}
use Rattle.file_tree.specs.Outcome.{lost_entry, with_size, create_again, create_new, add_entry, get_attr, set_fields, set_attr, remove, make_dir, room_for}
use Rattle.group_rules.specs.Places.{all_of}
use Rattle.group_rules.specs.Limits.{limit, room, give_bytes}
use Rattle.trace_claims.specs.Listing.{all_zero, block_lines, living, objects_from, slot_lines}
use Rattle.group_trace.specs.Lines.{entered_lines, packet_lines}
use Rattle.group_rules.specs.Shown.{same_state}
use Rattle.group_trace.proofs.Rows.{taken}
use Rattle.group_trace.specs.Calls.{calls_of, changes_of}
use Rattle.group_trace.specs.Refusals.{net_limit}
use Rattle.group_trace.specs.Run.{bytes_of}
use Rattle.group_trace.specs.Scene.{first_scene}
use Rattle.group_trace.specs.DiskCalls.{after_calls, all_calls, measures_of, saved_puts}
use Rattle.group_trace.specs.Picks.{all_counted, erases_there, kept, most_blocks}
use Rattle.group_trace.specs.DiskRows.{CutApply, CutSave, cut_apply_steps, cut_save_steps, plain_spellings}
use Rattle.group_trace.specs.DiskRun.{disk_run}

pub cut_apply : CutApply
unfolding all_of limit room give_bytes attr_at used_blocks names_of links_of holder_from parent_of
    entry_from free_from with_entry lost_entry with_size set_fields set_attr create_again
    create_new add_entry get_attr remove make_dir room_for entered_lines packet_lines same_state
    calls_of changes_of bytes_of net_limit objects_from slot_lines block_lines all_zero living
    disk_run all_calls after_calls saved_puts kept all_counted erases_there most_blocks
    history_from tree_changes loses moves is_cell is_block_from
cut_apply =
    record {
      taken = taken (measures_of plain_spellings) first_scene cut_apply_steps refl;
      down =
          refl;
      slot = refl;
      directory = refl;
      object = refl;
      totals = refl;
      client = refl;
    }

pub cut_save : CutSave
unfolding all_of limit room give_bytes attr_at used_blocks names_of links_of holder_from parent_of
    entry_from free_from with_entry lost_entry with_size set_fields set_attr create_again
    create_new add_entry get_attr remove make_dir room_for entered_lines packet_lines same_state
    calls_of changes_of bytes_of net_limit objects_from slot_lines block_lines all_zero living
    disk_run all_calls after_calls saved_puts kept all_counted erases_there most_blocks
    history_from tree_changes loses moves is_cell is_block_from
cut_save =
    record {
      taken = taken (measures_of plain_spellings) first_scene cut_save_steps refl;
      lb = refl;
      slot = refl;
      client = refl;
      saved = refl;
    }
