use Rattle.std.proofs.Common.{◌≡◌, [], ◌∷◌, List, refl, ap, subst, sym}
use Rattle.harp_cells.specs.declared.change.Change.{Change}
use Rattle.store_folder.specs.Sync.{KeepsBlocks}
use Rattle.store_folder.proofs.SyncLaws.{lost_keeps, same_keeps}
use Rattle.store_folder.proofs.unsynced.Unsynced.forget_one.Goals as goal

pub returns-in-Erase-clause-blocks : goal.returns-in-Erase-clause-blocks
returns-in-Erase-clause-blocks c =
    subst (λ (x : Change). KeepsBlocks (x ∷ []) c.args.self.now c.forget.new.self) (sym c.in-Erase.is)
    (lost_keeps c.args.self.now c.forget.new.self c.in-Erase.cell c.forget.ensures.lost)
