use Rattle.std.proofs.Common.{◌≡◌, ◌<◌, true, length, sym, ap, subst, ◌∙◌}
use Rattle.std.specs.Map.{remove_entry}
use Rattle.harp_cells.specs.Effect.{is_cell}
use Rattle.cell_cache.specs.Entries.{Entries, Kept, has_entry}
use Rattle.cell_cache.proofs.Blocks.{removed_up_to}
use Rattle.cell_cache.proofs.Keeping.{equal, fewer, record_of, removed}
use Rattle.cell_cache.proofs.cache.CellCache.drop_entry.Goals as goal

pub returns-clause-entries : goal.returns-clause-entries
returns-clause-entries c =
    rw c.pop.ensures.entries
    (ap (λ (l : Entries). record_of l c.self.inside.entries.cap) (removed c.args.cell c.self.inside.entries.entries)
    ∙ ap (λ (k : Kept). record_of (remove_entry (is_cell c.args.cell) k.entries) k.places) c.self.view_is)

pub returns-clause-fewer : goal.returns-clause-fewer
returns-clause-fewer c has =
    let inside = subst (λ (k : Kept). has_entry c.args.cell k.entries ≡ true) (sym c.self.view_is) has in
    rw c.pop.ensures.entries
    (subst (λ (k : Kept). length (remove_entry (equal c.args.cell) c.self.inside.entries.entries) < length k.entries) c.self.view_is
    (subst (λ (l : Entries). length l < length c.self.inside.entries.entries)
    (sym (removed c.args.cell c.self.inside.entries.entries))
    (fewer c.args.cell c.self.inside.entries.entries inside)))

pub invariant_of-self : goal.invariant_of-self
invariant_of-self c =
    rw c.pop.ensures.entries
    (removed_up_to c.self.inside.last_block c.args.cell c.self.inside.entries.entries
    c.self.invariant)
