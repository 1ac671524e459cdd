use Rattle.std.proofs.Common.{ℕ, List, Option, string_bytes, option_map, sym, ap, subst}
use Rattle.store_folder.specs.Store.{files_of, journal_of, unsynced_of}
use Rattle.store_folder.specs.Sync.{Syncs, SyncsAll, SyncsPart, SyncsSome}
use Rattle.store_folder.proofs.SeenLaws.{on_err}
use Rattle.store_folder.proofs.SyncLaws.{syncs_cleared}
use Rattle.store_folder.proofs.store.FolderStore.try_sync.Goals as goal

pub returns-in_err-sync-clause-some : goal.returns-in_err-sync-clause-some
returns-in_err-sync-clause-some g c =
    let old = unsynced_of c.args.self.now in
    let was = journal_of c.args.self.now in
    let before = g.F.DiskFiles.told (files_of c.args.self.now) in
    let after = g.F.DiskFiles.told c.sync.new.files in
    let here : SyncsPart (string_bytes c.in-Some.folder) old c.sync.new.unsynced was
    c.sync.new.journal before after =
    subst (λ (folder : List ℕ). SyncsPart folder old c.sync.new.unsynced was c.sync.new.journal
    before after) c.as_str.ensures.value c.in_err-sync.ensures.some in
    on_err c.from_residual.result _
    (subst (λ (folder : Option (List ℕ)). SyncsSome folder old c.sync.new.unsynced was
    c.sync.new.journal before after) (sym (ap (option_map string_bytes) c.in-Some.is)) here)

pub returns-clause-all : goal.returns-clause-all
returns-clause-all g c =
    let old = unsynced_of c.args.self.now in
    let was = journal_of c.args.self.now in
    let before = g.F.DiskFiles.told (files_of c.args.self.now) in
    let after = g.F.DiskFiles.told c.sync.new.files in
    let all : Syncs c.as_str.result.now old c.clear.new.self was c.sync.new.journal before after =
    syncs_cleared c.as_str.result.now old c.sync.new.unsynced c.clear.new.self was
    c.sync.new.journal before after c.in_ok-sync.ensures.all c.clear.ensures.blocks in
    let here : Syncs (string_bytes c.in-Some.folder) old c.clear.new.self was c.sync.new.journal
    before after =
    subst (λ (folder : List ℕ). Syncs folder old c.clear.new.self was c.sync.new.journal before
    after) c.as_str.ensures.value all in
    subst (λ (folder : Option (List ℕ)). SyncsAll folder old c.clear.new.self was
    c.sync.new.journal before after) (sym (ap (option_map string_bytes) c.in-Some.is)) here
