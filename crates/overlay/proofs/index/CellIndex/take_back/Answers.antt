use Rattle.std.proofs.Common.{◌≤◌, ◌==◌, ◌&&◌, List, length, arith, ap, ◌∙◌}
use Rattle.std.specs.Prelude.{not}
use Rattle.std.proofs.lemmas.List.{take_all}
use Rattle.harp_cells.specs.declared.change.Change.{Change}
use Rattle.overlay.specs.Index.{changes_at, names, place_of}
use Rattle.overlay.proofs.Indexing.{more_back, none_back}
use Rattle.overlay.proofs.index.CellIndex.take_back.Goals as goal

pub loop-change-init : goal.loop-change-init
loop-change-init c = none_back c.args.self.now c.args.index

pub loop-change-preserved : goal.loop-change-preserved
loop-change-preserved c p i =
    more_back c.args.self.now c.loop-change.self c.remove_place.new.self c.args.index c.loop-change.change-index
    c.args.changes.now c.change-item.result c.place_of.result p i c.loop-change-test.true
    (c.place_of.ensures ∙ ap place_of c.change-item.is) (c.remove_place.ensures p i) (c.loop-change.invariant p i)

pub returns : goal.returns
returns c p i =
    let all : length c.args.changes.now ≤ c.loop-change.change-index =
    omega (arith, c.loop-change-test.false, c.loop-change.auto.change-index-end) in
    c.loop-change.invariant p i
    ∙ ap (λ (l : List Change). not ((c.args.index == i) && changes_at l p) && names c.args.self.now p i)
    (take_all c.loop-change.change-index c.args.changes.now all)
