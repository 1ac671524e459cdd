use Rattle.std.proofs.Common.{ℕ, ◌<◌, ◌^◌, List, true, ap, sym, subst, ◌∙◌, arith}
use Rattle.std.specs.Prelude.{All}
use Rattle.std.proofs.lemmas.Map.Views.{All-insert_key}
use Rattle.std.specs.Bool.{if◌then◌else◌}
use Rattle.harp_cells.specs.declared.cell.Cell.TheVariants as cell
use Rattle.harp_cells.specs.Effect.{is_cell}
use Rattle.store_folder.specs.Unsynced.{Pending, is_stored}
use Rattle.store_folder.proofs.BlockLaws.{pair_cmp, stored_after}
use Rattle.store_folder.proofs.unsynced.Unsynced.add_block.Goals as goal

pub returns-clause-added : goal.returns-clause-added
returns-clause-added c = λ d.
    stored_after c.self.inside.blocks.keys c.insert.new.self.keys c.args.object c.args.block true
    c.in_ok-insert.ensures.updates.0 d
    ∙ ap (λ (p : Pending). if◌then◌else◌ (is_cell (cell.Block c.args.object c.args.block) d) true
    (is_stored p.blocks d)) c.self.view_is

pub invariant_of-self-2 : goal.invariant_of-self-2
invariant_of-self-2 c =
    let fits : c.args.block < 2 ^ 32 = omega arith in (
      c.self.invariant.0,
      subst (λ (l : List (ℕ × ℕ)). All (λ b. b.1 < 2 ^ 32) l) (sym c.in_ok-insert.ensures.keys)
          (All-insert_key pair_cmp (c.args.object, c.args.block) (λ b. b.1 < 2 ^ 32)
          c.self.inside.blocks.keys c.self.invariant.1 fits),
    )
