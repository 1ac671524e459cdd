use Rattle.std.proofs.Common.{ap}
use Rattle.store_folder.specs.Store.{files_of, folder_of, journal_of}
use Rattle.store_folder.proofs.SyncLaws.{attached_as}
use Rattle.store_folder.proofs.store.FolderStoreStore.attach.Goals as goal

pub returns-clause-attached : goal.returns-clause-attached
returns-clause-attached g c =
    attached_as c.try_attach-done.result c.counted.result c.args.path.now
    (folder_of c.try_attach-done.new.self) (folder_of c.counted.new.self)
    (journal_of c.try_attach-done.new.self) (journal_of c.counted.new.self)
    (g.F.DiskFiles.told (files_of c.args.self.now))
    (g.F.DiskFiles.told (files_of c.try_attach-done.new.self))
    (g.F.DiskFiles.told (files_of c.counted.new.self)) c.counted.ensures.same
    c.counted.ensures.folder c.counted.ensures.journal
    (ap g.F.DiskFiles.told c.counted.ensures.files) c.try_attach-done.ensures.attached
