use Rattle.std.proofs.Common.{◌≡◌, List, rules, subst, sym}
use Rattle.file_tree.specs.Calls.{outcome}
use Rattle.harp_cells.specs.declared.change.Change.{Change}
use Rattle.harp_cells.specs.CellsOfTree.{StandForTree}
use Rattle.harp_cells.specs.Effect.{after}
use Rattle.cell_changes.specs.Table.{update_changes}
use Rattle.cell_changes.proofs.Leads.{updates_lead}
use Rattle.nfs_calls.proofs.updates.prepare.prepare.Goals as goal

pub returns-clause-leads : goal.returns-clause-leads
returns-clause-leads g c t told =
    let e : c.put_totals.new.changes.items
    ≡ update_changes t.cells t.tree c.args.cred c.args.call.now c.args.stamp = search rules in
    subst (λ (changes : List Change). StandForTree (after changes t.cells)
    (outcome t.tree c.args.cred c.args.call.now c.args.stamp).1 c.args.stamp) (sym e)
    (updates_lead t c.args.cred c.args.call.now c.args.stamp c.requires)
