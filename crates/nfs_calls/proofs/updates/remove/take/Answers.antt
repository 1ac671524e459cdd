use Rattle.std.proofs.Common.{◌≡◌, ◌-◌, ◌∷◌, refl, sym, ◌∙◌, ap}
use Rattle.harp_types.specs.declared.reply.Reply.TheVariants.{Done}
use Rattle.harp_cells.specs.declared.value.Value.TheVariants as value
use Rattle.harp_cells.specs.declared.cell.Cell.TheVariants as cell
use Rattle.harp_cells.specs.declared.change.Change.TheVariants as change
use Rattle.nfs_calls.specs.declared.parts.totals.Totals.{Totals}
use Rattle.nfs_calls.specs.Entries.{link_of, relinked, loss, after_loss}
use Rattle.nfs_calls.proofs.Losses.{taken}
use Rattle.nfs_calls.proofs.TakenAway.{same_plan}
use Rattle.nfs_calls.proofs.updates.remove.take.Goals as goal

pub returns-clause-plan : goal.returns-clause-plan
returns-clause-plan c t name totals is =
    let i = c.args.inode.now in
    let j = c.args.object.now in
    let done = taken t.tree c.args.dir i name (c.args.slot, c.args.number) j c.args.now is in
    let items : c.lose.new.changes.items
    ≡ change.Erase (cell.Slot c.args.dir c.args.slot)
    ∷ change.Put (cell.Object c.args.dir)
    (value.Object (relinked c.args.now (i.links - link_of j.kind) i))
    ∷ loss c.args.number j c.args.now =
    rw (
      c.in_ok-lose.ensures,
      c.in_ok-put_object.ensures,
      c.in_ok-erase_slot.ensures,
      c.new-changes.ensures.items,
      c.relinked.ensures,
      c.saturating_sub-links.ensures,
      c.link_of.ensures,
    ) refl in
    same_plan Done _ _ _ _ (items ∙ sym done.changes)
    (c.after_loss.ensures ∙ ap (λ (m : Totals). after_loss m j) totals ∙ done.totals)
