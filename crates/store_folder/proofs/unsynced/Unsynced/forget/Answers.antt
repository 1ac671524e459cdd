use Rattle.std.proofs.Common.{ℕ, ◌<◌, ◌^◌, List, false, refl, sym, subst, ap, ◌∙◌}
use Rattle.std.specs.Prelude.{All}
use Rattle.std.proofs.lemmas.Map.Views.{All-remove_key}
use Rattle.std.specs.Bool.{if◌then◌else◌}
use Rattle.harp_cells.specs.declared.cell.Cell.{Cell}
use Rattle.harp_cells.specs.declared.cell.Cell.TheVariants as cell
use Rattle.harp_cells.specs.Effect.{is_cell}
use Rattle.store_folder.specs.Unsynced.{Pending, is_stored}
use Rattle.store_folder.proofs.BlockLaws.{not_block, not_stored, stored_after}
use Rattle.store_folder.proofs.unsynced.Unsynced.forget.Goals as goal

pub returns-in-Block-clause-lost : goal.returns-in-Block-clause-lost
returns-in-Block-clause-lost c = λ d.
    stored_after c.self.inside.blocks.keys c.remove.new.self.keys c.in-Block.object c.in-Block.block
    false c.remove.ensures.updates.0 d
    ∙ ap (λ (p : Pending). if◌then◌else◌
    (is_cell (cell.Block c.in-Block.object c.in-Block.block) d) false (is_stored p.blocks d))
    c.self.view_is
    ∙ ap (λ (b : Cell). if◌then◌else◌ (is_cell b d) false (is_stored c.args.self.now.blocks d))
    (sym c.in-Block.is)

pub returns-in_default : goal.returns-in_default
returns-in_default c = record {
  lost = λ d. not_stored c.args.self.now.blocks c.args.cell d (not_block c.args.cell c.in_default.not-Block);
  same = refl;
}

pub invariant_of-self : goal.invariant_of-self
invariant_of-self c = (
  c.self.invariant.0,
  subst (λ (l : List (ℕ × ℕ)). All (λ b. b.1 < 2 ^ 32) l) (sym c.remove.ensures.keys)
      (All-remove_key _ (λ b. b.1 < 2 ^ 32) c.self.inside.blocks.keys c.self.invariant.1),
)
