use Rattle.std.proofs.Common.{ℕ, List, ◌∷◌, [], sym, subst, ap, ◌∙◌, true, ◌≡◌}
use Rattle.std.specs.Prelude.{Contains}
use Rattle.std.proofs.lemmas.List.Elements.{Contains-append_left, Contains-push}
use Rattle.harp_cells.specs.declared.cell.Cell.{Cell}
use Rattle.harp_cells.specs.Effect.{key}
use Rattle.store_folder.specs.Unsynced.{Pending, is_touched}
use Rattle.store_folder.proofs.CoverLaws.{covered_all, covered_next}
use Rattle.store_folder.proofs.KeyLaws.{touched_in}
use Rattle.store_folder.proofs.unsynced.Unsynced.add_touched.Goals as goal

abbrev Entry : Type 0
Entry = (ℕ × ℕ × ℕ) × Cell

pub loop-cell-preserved : goal.loop-cell-preserved
loop-cell-preserved c =
    let was = c.loop-cell.cells.items in
    let now = c.push.new.self.items in
    let e = c.in_ok-push.ensures.items in
    let more : (d : Cell) → Contains was d → Contains now d =
    λ d h. subst (λ (l : List Cell). Contains l d) (sym e)
    (Contains-append_left was (c.in-Some.cell.now ∷ []) d h) in
    let last : Contains now c.in-Some.cell.now =
    subst (λ (l : List Cell). Contains l c.in-Some.cell.now) (sym e)
    (Contains-push was c.in-Some.cell.now) in
    record {
      kept = λ d h. more d (c.loop-cell.invariant.kept d h);
      covered =
          covered_next (λ (x : Entry). Contains was x.1) (λ (x : Entry). Contains now x.1) _ _ _
          (c.in-Some.field-0-0.now, c.in-Some.cell.now) c.in-Some.ensures.steps
          (λ x h. more x.1 h) last c.loop-cell.invariant.covered;
    }

pub returns-in_err-push-clause-kept : goal.returns-in_err-push-clause-kept
returns-in_err-push-clause-kept c = λ d h.
    subst (λ (l : List Cell). Contains l d) (sym c.in_err-push.ensures.items)
    (c.loop-cell.invariant.kept d h)

pub returns-clause-added : goal.returns-clause-added
returns-clause-added c = λ d there.
    let touched : is_touched c.self.inside.touched.entries d ≡ true =
    ap (λ (p : Pending). is_touched p.touched d) c.self.view_is ∙ there in
    let all = sym (c.into_iter-cell-iterator.ensures.into_iter_gives
    ∙ c.iter-cell-items.ensures.rest) in
    covered_all (λ (x : Entry). Contains c.loop-cell.cells.items x.1) _ _ c.in-None.ensures.steps.0
    c.loop-cell.invariant.covered (key d, d)
    (subst (λ (l : List Entry). Contains l (key d, d)) all
    (touched_in c.self.inside.touched.entries c.self.invariant.0 d touched))
