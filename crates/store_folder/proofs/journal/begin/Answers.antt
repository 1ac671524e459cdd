use Rattle.std.proofs.Common.{rules, ◌≡◌, [], ◌∷◌, ◌∙◌}
use Rattle.store_folder.specs.Files.{Replaced, SyncedFolder, after_steps}
use Rattle.store_folder.specs.Journal.{BeginsPart, journal_path}
use Rattle.store_journal.specs.JournalFile.{entry_bytes}
use Rattle.store_folder.proofs.SeenLaws.{on_err}
use Rattle.store_folder.proofs.SyncLaws.{two_steps}
use Rattle.store_folder.proofs.journal.begin.Goals as goal

pub returns-in_err-replace-clause-part : goal.returns-in_err-replace-clause-part
returns-in_err-replace-clause-part g c =
    on_err c.from_residual-in_err-replace.result
    (BeginsPart c.args.folder.now c.args.changes.now (g.F.DiskFiles.told c.args.files.now)
    (g.F.DiskFiles.told c.replace.new.self))
    (1, c.in_err-replace.ensures.kept ∙ c.in_ok-sync_folder.ensures.synced)

pub returns-in_err-sync_folder-2-clause-part : goal.returns-in_err-sync_folder-2-clause-part
returns-in_err-sync_folder-2-clause-part g c =
    let replaced : g.F.DiskFiles.told c.replace.new.self
    ≡ after_steps (Replaced (journal_path c.args.folder.now) (entry_bytes c.args.changes.now) ∷ [])
    (g.F.DiskFiles.told c.sync_folder.new.self) = search rules in
    on_err c.from_residual-in_err-sync_folder-2.result
    (BeginsPart c.args.folder.now c.args.changes.now (g.F.DiskFiles.told c.args.files.now)
    (g.F.DiskFiles.told c.sync_folder-2.new.self)) (
      2,
      c.in_err-sync_folder-2.ensures.kept
          ∙ two_steps (SyncedFolder c.args.folder.now)
          (Replaced (journal_path c.args.folder.now) (entry_bytes c.args.changes.now))
          (g.F.DiskFiles.told c.args.files.now) (g.F.DiskFiles.told c.sync_folder.new.self)
          (g.F.DiskFiles.told c.replace.new.self) c.in_ok-sync_folder.ensures.synced replaced,
    )
