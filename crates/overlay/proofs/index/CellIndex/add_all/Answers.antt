use Rattle.std.proofs.Common.{◌≤◌, ◌==◌, ◌&&◌, ◌||◌, List, length, arith, ap, ◌∙◌}
use Rattle.std.proofs.lemmas.List.{take_all}
use Rattle.harp_cells.specs.declared.change.Change.{Change}
use Rattle.overlay.specs.Index.{IsPartAddedTo, changes_at, names, place_of}
use Rattle.overlay.proofs.Places.{on_err}
use Rattle.overlay.proofs.Indexing.{more_added, none_added}
use Rattle.overlay.proofs.index.CellIndex.add_all.Goals as goal

pub loop-change-init : goal.loop-change-init
loop-change-init c = none_added c.args.self.now c.args.index

pub loop-change-preserved : goal.loop-change-preserved
loop-change-preserved c p i =
    more_added c.args.self.now c.loop-change.self c.add_place.new.self c.args.index c.loop-change.change-index
    c.args.changes.now c.change-item.result c.place_of.result p i c.loop-change-test.true
    (c.place_of.ensures ∙ ap place_of c.change-item.is) (c.in_ok-add_place.ensures.added p i) (c.loop-change.invariant p i)

pub returns-in_err-add_place-clause-part : goal.returns-in_err-add_place-clause-part
returns-in_err-add_place-clause-part c = on_err c.from_residual.result
    (IsPartAddedTo c.args.self.now c.args.index c.args.changes.now c.add_place.new.self) (
      c.loop-change.change-index,
      λ p i. c.in_err-add_place.ensures.same p i ∙ c.loop-change.invariant p i,
    )

pub returns-clause-added : goal.returns-clause-added
returns-clause-added c p i =
    let all : length c.args.changes.now ≤ c.loop-change.change-index =
    omega (arith, c.loop-change-test.false, c.loop-change.auto.change-index-end) in
    c.loop-change.invariant p i
    ∙ ap (λ (l : List Change). (c.args.index == i) && changes_at l p || names c.args.self.now p i)
    (take_all c.loop-change.change-index c.args.changes.now all)
