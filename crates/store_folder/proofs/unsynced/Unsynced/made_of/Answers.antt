use Rattle.std.proofs.Common.{◌≡◌, get_or, ◌<◌, List, length, refl, sym, ap, ◌∙◌, arith}
use Rattle.std.specs.Prelude.{take}
use Rattle.std.proofs.lemmas.List.{take_more}
use Rattle.harp_cells.specs.declared.cell.Cell.{Cell}
use Rattle.harp_cells.specs.declared.cell.Cell.TheVariants.{Meta}
use Rattle.harp_cells.specs.declared.change.Change.{Change}
use Rattle.store_folder.specs.Sync.{made_changes}
use Rattle.store_folder.proofs.SyncLaws.{made_none, made_more, stays_on}
use Rattle.store_folder.proofs.unsynced.Unsynced.made_of.Goals as goal

pub loop-cell-init : goal.loop-cell-init
loop-cell-init c = record {
  same = (refl, refl, refl);
  blocks = refl;
  made = c.new-changes.ensures.items ∙ sym (made_none c.args.self.now);
}

pub loop-cell-preserved : goal.loop-cell-preserved
loop-cell-preserved c =
    let old = c.args.self.now in
    let mid = c.loop-cell.self in
    let cells = c.args.cells.now in
    let i = c.loop-cell.cell-index in
    let within : i < length cells = omega arith in
    let e = take_more cells i Meta within in
    let kept = c.loop-cell.invariant in
    record {
      same = stays_on old mid c.add_made.new.self kept.same c.add_made.ensures.same;
      blocks = c.add_made.ensures.blocks ∙ kept.blocks;
      made = made_more old mid (take i cells) (get_or cells i Meta) c.loop-cell.changes.items
          c.add_made.new.changes.items kept.made kept.same c.in_ok-add_made.ensures.added
          ∙ ap (λ (l : List Cell). made_changes old l) (sym e);
    }
