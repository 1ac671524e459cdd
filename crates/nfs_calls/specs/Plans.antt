-- What an update plans.
use Rattle.std.specs.Prelude.{List, length, Ok}
use Rattle.harp_types.specs.declared.call.Call.{Call}
use Rattle.harp_types.specs.declared.reply.Reply.{Reply}
use Rattle.file_tree.specs.Tree.{Tree, used_blocks}
use Rattle.file_tree.specs.Tries.{◌>>=◌, Tried}
use Rattle.file_tree.specs.Calls.{settled}
use Rattle.file_tree.specs.Outcome.{Outcome}
use Rattle.harp_cells.specs.declared.change.Change.{Change}
use Rattle.harp_cells.specs.Effect.{Cells}
use Rattle.cell_changes.specs.Table.{changes_by, tree_changes}
use Rattle.nfs_calls.specs.declared.updates.planned.Planned.{Planned}
use Rattle.nfs_calls.specs.declared.parts.totals.Totals.{Totals}

abbrev pub totals_of : Tree → Totals
totals_of tree = record { next = length tree; used = used_blocks tree }

-- a plan as its reply, its changes and its totals
abbrev pub plan_view : Planned → Reply × List Change × Totals
plan_view p = (p.reply, p.changes.items, p.totals)

-- the reply of an outcome, the changes that lead to its tree, and the totals of that tree
abbrev pub planned : Cells → Tree → Call → Outcome → Tried (Reply × List Change × Totals)
planned cells tree c outcome = do
  x ← outcome
  Ok (x.0, tree_changes cells tree x.1 c, totals_of x.1)

-- the plan of an outcome, a refusal among them
abbrev pub settled_plan : Cells → Tree → Call → Outcome → Reply × List Change × Totals
settled_plan cells tree c outcome =
    ((settled tree outcome).0, changes_by cells tree c outcome, totals_of (settled tree outcome).1)
