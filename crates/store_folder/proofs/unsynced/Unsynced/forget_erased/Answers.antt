use Rattle.std.proofs.Common.{◌≡◌, get_or, ◌<◌, [], ◌∷◌, ◌++◌, rules, List, length, refl, sym, ap, subst, ◌∙◌, arith}
use Rattle.std.specs.Prelude.{take}
use Rattle.std.proofs.lemmas.List.{take_more}
use Rattle.harp_cells.specs.declared.change.Change.{Change}
use Rattle.store_folder.specs.Sync.{KeepsBlocks}
use Rattle.store_folder.specs.Unsynced.{Pending}
use Rattle.store_folder.proofs.SyncLaws.{keeps_more, same_keeps, same_on}
use Rattle.store_folder.proofs.unsynced.Unsynced.forget_erased.Goals as goal

pub loop-change-init : goal.loop-change-init
loop-change-init c = record {
  same = refl;
  blocks = same_keeps c.args.self.now c.args.self.now [] refl;
}

pub loop-change-preserved : goal.loop-change-preserved
loop-change-preserved c =
    let old = c.args.self.now in
    let mid = c.loop-change.self in
    let new = c.forget_one.new.self in
    let changes = c.args.changes.now in
    let i = c.loop-change.change-index in
    let within : i < length changes = omega arith in
    let x = c.change-item.result in
    let item : get_or changes i x ≡ x = search rules in
    let e = take_more changes i x within ∙ ap (λ (y : Change). take i changes ++ y ∷ []) item in
    let kept = c.loop-change.invariant in
    record {
      same = same_on old mid new kept.same c.forget_one.ensures.same;
      blocks = subst (λ (l : List Change). KeepsBlocks l old new) (sym e)
          (keeps_more old mid new (take i changes) x kept.blocks
          c.forget_one.ensures.blocks);
    }
