use Rattle.std.proofs.Common.{ℕ, List, ◌∷◌, [], ◌≡◌, ◌≤◌, ◌<◌, ◌^◌, true, sym, subst, ap, ◌∙◌, rules, arith}
use Rattle.std.specs.Prelude.{Contains}
use Rattle.std.specs.Range.{range_inclusive_end, range_inclusive_start}
use Rattle.std.proofs.lemmas.List.Elements.{All-contains, Contains-append_left, Contains-push}
use Rattle.harp_cells.specs.declared.cell.Cell.{Cell}
use Rattle.harp_cells.specs.declared.cell.Cell.TheVariants.{Block}
use Rattle.store_folder.specs.Unsynced.{Pending, is_stored}
use Rattle.store_folder.proofs.CoverLaws.{covered_all, covered_next}
use Rattle.store_folder.proofs.CutBlocks.{Among, HasBlock, block_in, stored_in}
use Rattle.store_folder.proofs.unsynced.Unsynced.add_cut_blocks.Goals as goal

pub loop-block-preserved-in-Continue-1 : goal.loop-block-preserved-in-Continue-1
loop-block-preserved-in-Continue-1 c =
    let was = c.loop-block.cells.items in
    let now = c.push.new.self.items in
    let cell = Block c.args.object c.in-Some.field-0.now.1 in
    let e = c.in_ok-push.ensures.items in
    let more : (d : Cell) → Contains was d → Contains now d =
    λ d h. subst (λ (l : List Cell). Contains l d) (sym e)
    (Contains-append_left was (cell ∷ []) d h) in
    let last : Contains now cell =
    subst (λ (l : List Cell). Contains l cell) (sym e) (Contains-push was cell) in
    record {
      can_next = search rules;
      is_finite = search rules;
      kept = λ d h. more d (c.loop-block.invariant.kept d h);
      covered =
          covered_next (HasBlock c.args.self.now c.args.object was)
          (HasBlock c.args.self.now c.args.object now) _ _ _ c.in-Some.field-0.now
          c.in-Some.ensures.steps
          (λ x h un. more (Block c.args.object x.1) (h un)) (λ un. last)
          c.loop-block.invariant.covered;
    }

pub returns-in_err-push-clause-kept : goal.returns-in_err-push-clause-kept
returns-in_err-push-clause-kept c = λ d h.
    subst (λ (l : List Cell). Contains l d) (sym c.in_err-push.ensures.items)
    (c.loop-block.invariant.kept d h)

pub loop-block-preserved : goal.loop-block-preserved
loop-block-preserved c = record {
  can_next = search rules;
  is_finite = search rules;
  kept = c.loop-block.invariant.kept;
  covered =
      covered_next (HasBlock c.args.self.now c.args.object c.loop-block.cells.items)
      (HasBlock c.args.self.now c.args.object c.loop-block.cells.items) _ _ _
      c.in-Some.field-0.now c.in-Some.ensures.steps (λ x h. h) (λ un. absurd cc) c.loop-block.invariant.covered;
}

pub returns-clause-added : goal.returns-clause-added
returns-clause-added c = λ block from there untouched.
    let keys = c.self.inside.blocks.keys in
    let stored : is_stored keys (Block c.args.object block) ≡ true =
    ap (λ (p : Pending). is_stored p.blocks (Block c.args.object block)) c.self.view_is ∙ there in
    let fits =
    All-contains (λ b. b.1 < 2 ^ 32) keys (c.args.object, block) c.self.invariant.1
    (stored_in keys c.args.object block stored) in
    let most : block ≤ 4294967295 = omega (arith, fits) in
    let among : Among keys (c.args.object, c.args.first) (c.args.object, 4294967295)
    (c.args.object, block) =
    block_in keys c.args.object c.args.first 4294967295 block from most stored in
    let here : Among keys (range_inclusive_start c.new.result) (range_inclusive_end c.new.result)
    (c.args.object, block) =
    subst (λ (low : ℕ × ℕ). Among keys low (range_inclusive_end c.new.result)
    (c.args.object, block)) (sym c.new.ensures.start)
    (subst (λ (high : ℕ × ℕ). Among keys (c.args.object, c.args.first) high
    (c.args.object, block)) (sym c.new.ensures.end) among) in
    covered_all (HasBlock c.args.self.now c.args.object c.loop-block.cells.items) _ _
    c.in-None.ensures.steps.0 c.loop-block.invariant.covered (c.args.object, block)
    (subst (λ (l : List (ℕ × ℕ)). Contains l (c.args.object, block))
    (sym (c.into_iter-block-iterator.ensures.into_iter_gives
    ∙ c.range-block-items.ensures.between (search rules))) here) untouched
