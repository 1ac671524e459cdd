use Rattle.std.proofs.Common.{ℕ, List, sym, subst, ap, ◌∙◌}
use Rattle.std.specs.Prelude.{Contains}
use Rattle.harp_cells.specs.declared.cell.Cell.{Cell}
use Rattle.store_folder.specs.Unsynced.{Pending, is_cut, is_stored, is_touched}
use Rattle.store_folder.proofs.CoverLaws.{covered_all, covered_next}
use Rattle.store_folder.proofs.CutBlocks.{HasCut, cut_in}
use Rattle.store_folder.proofs.unsynced.Unsynced.add_cuts.Goals as goal

pub loop-object-preserved : goal.loop-object-preserved
loop-object-preserved c =
    covered_next (HasCut c.args.self.now c.loop-object.cells.items)
    (HasCut c.args.self.now c.add_cut_blocks.new.cells.items) _ _ _
    (c.in-Some.object.now, c.in-Some.first.now) c.in-Some.ensures.steps
    (λ x h block from there un. c.add_cut_blocks.ensures.kept _ (h block from there un))
    c.in_ok-add_cut_blocks.ensures.added
    c.loop-object.invariant

pub returns : goal.returns
returns c = λ d cut there untouched.
    let cuts = c.self.inside.cuts.entries in
    let k =
    cut_in cuts d (ap (λ (p : Pending). is_cut p.cuts d) c.self.view_is ∙ cut) in
    let all = sym (c.into_iter-object-iterator.ensures.into_iter_gives
    ∙ c.iter-object-items.ensures.rest) in
    subst (λ (x : Cell). Contains c.loop-object.cells.items x) (sym k.3)
    (covered_all (HasCut c.args.self.now c.loop-object.cells.items) _ _ c.in-None.ensures.steps.0
    c.loop-object.invariant (k.0, k.1)
    (subst (λ (l : List (ℕ × ℕ)). Contains l (k.0, k.1)) all k.4) k.2 k.5
    (ap (λ (x : Cell). is_stored c.args.self.now.blocks x) (sym k.3) ∙ there)
    (ap (λ (x : Cell). is_touched c.args.self.now.touched x) (sym k.3) ∙ untouched))
