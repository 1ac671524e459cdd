use Rattle.std.proofs.Common.{◌≡◌, [], ◌∷◌, ℕ, List, Some, Option, rules, string_bytes, refl, sym, ap, subst, ◌∙◌, inl}
use Rattle.store_folder.specs.Files.{SyncedFolder, Told, after_steps}
use Rattle.store_folder.specs.Store.{files_of}
use Rattle.store_folder.specs.Sync.{MaySync}
use Rattle.store_journal.specs.Waiting.{NothingWaits}
use Rattle.store_folder.specs.declared.journal.Journal.{Journal}
use Rattle.store_folder.proofs.SeenLaws.{on_err}
use Rattle.store_folder.proofs.store.FolderStore.try_attach.Goals as goal

abbrev some_path : List ℕ → Option (List ℕ)
some_path l = Some l

pub returns-in_err-folder-clause-detached : goal.returns-in_err-folder-clause-detached
returns-in_err-folder-clause-detached g c =
    on_err c.from_residual.result _ (
      c.detach.ensures.folder,
      c.detach.ensures.waiting,
      inl (ap g.F.DiskFiles.told c.detach.ensures.files),
    )

pub returns-in_err-journal-clause-detached : goal.returns-in_err-journal-clause-detached
returns-in_err-journal-clause-detached g c =
    on_err c.from_residual-in_err-journal.result _ (
      c.open_folder.ensures.same.0 ∙ c.detach.ensures.folder,
      subst (λ (j : Journal). NothingWaits j.waiting) (sym c.open_folder.ensures.same.1)
          c.detach.ensures.waiting,
      subst (λ (t : Told). MaySync c.args.path.now t
          (g.F.DiskFiles.told (files_of c.open_folder.new.self)))
          (ap g.F.DiskFiles.told c.detach.ensures.files) c.in_err-journal.ensures.part,
    )

pub returns-clause-attached : goal.returns-clause-attached
returns-clause-attached g c =
    let path : string_bytes c.in_ok-folder.folder ≡ c.args.path.now = search rules in
    let opened = c.in_ok-journal.ensures.opened in (
      ap (λ (l : List ℕ). some_path l) path,
      opened.1 ∙ ap (λ (t : Told). after_steps (SyncedFolder c.args.path.now ∷ []) t)
          (ap g.F.DiskFiles.told c.detach.ensures.files),
      opened.2,
    )
