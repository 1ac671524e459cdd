use Rattle.std.proofs.Common.{List, refl, subst, inr}
use Rattle.harp_cells.specs.declared.change.Change.{Change}
use Rattle.store_folder.specs.Journal.{Journals}
use Rattle.store_folder.specs.Sync.{KeepsBlocks, Syncs, SyncsPart}
use Rattle.store_folder.proofs.SeenLaws.{on_err, on_ok}
use Rattle.store_folder.proofs.SyncLaws.{keeps_from}
use Rattle.store_folder.proofs.syncing.sync.Given
use Rattle.store_folder.proofs.syncing.sync.Goals as goal

all_of : (g : Given.Over) (c : goal.After-drop-changes-2 g)
    → Syncs c.args.folder.now c.args.unsynced.now c.forget_erased.new.self c.args.journal.now
    (record { length = c.write.new.self.length; waiting = c.bring_up.new.waiting })
    (g.F.DiskFiles.told c.args.files.now) (g.F.DiskFiles.told c.bring_up.new.files)
all_of g c =
    let changes = c.in_ok-changes.changes.items in
    record {
      changes = changes;
      unsynced = c.in_ok-changes.ensures.made;
      mid = c.write.new.self;
      told = g.F.DiskFiles.told c.write.new.files;
      journaled = subst (λ (l : List Change). Journals c.args.folder.now l c.args.journal.now
          c.write.new.self (g.F.DiskFiles.told c.args.files.now)
          (g.F.DiskFiles.told c.write.new.files)) c.deref.ensures.value c.in_default.ensures.done;
      length_is = refl;
      brought = c.bring_up.ensures;
      blocks = keeps_from c.args.unsynced.now c.changes.new.self c.forget_erased.new.self changes
          c.changes.ensures.blocks
          (subst (λ (l : List Change). KeepsBlocks l c.changes.new.self c.forget_erased.new.self)
          c.deref-2.ensures.value c.forget_erased.ensures.blocks);
    }

pub returns-clause-all : goal.returns-clause-all
returns-clause-all g c = on_ok c.bring_up.result _ (all_of g c)

pub returns-clause-some : goal.returns-clause-some
returns-clause-some g c = on_err c.bring_up.result _ (inr (inr (all_of g c)))
