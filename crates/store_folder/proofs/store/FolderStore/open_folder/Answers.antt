use Rattle.std.proofs.Common.{[], ◌∷◌, refl, ap, ◌∙◌, inl, inr}
use Rattle.store_folder.specs.Files.{SyncedFolder, Told, after_steps}
use Rattle.store_folder.proofs.SeenLaws.{on_err}
use Rattle.store_folder.proofs.store.FolderStore.open_folder.Goals as goal

pub returns-then-is_empty-clause-part : goal.returns-then-is_empty-clause-part
returns-then-is_empty-clause-part g c = inl refl

pub returns-in_err-make_folder-clause-part : goal.returns-in_err-make_folder-clause-part
returns-in_err-make_folder-clause-part g c =
    on_err c.from_residual.result _ (inl c.make_folder.ensures.kept)

pub returns-in_err-lock_folder-clause-part : goal.returns-in_err-lock_folder-clause-part
returns-in_err-lock_folder-clause-part g c =
    on_err c.from_residual-in_err-lock_folder.result _
    (inl (c.lock_folder.ensures.kept ∙ c.make_folder.ensures.kept))

pub returns-in_err-sync_folder-clause-part : goal.returns-in_err-sync_folder-clause-part
returns-in_err-sync_folder-clause-part g c =
    on_err c.from_residual-in_err-sync_folder.result _
    (inl (c.in_err-sync_folder.ensures.kept ∙ c.lock_folder.ensures.kept
    ∙ c.make_folder.ensures.kept))

pub returns-in_err-list_blocks-clause-part : goal.returns-in_err-list_blocks-clause-part
returns-in_err-list_blocks-clause-part g c =
    on_err c.from_residual-in_err-list_blocks.result _
    (inr (c.in_ok-sync_folder.ensures.synced
    ∙ ap (λ (t : Told). after_steps (SyncedFolder c.args.path.now ∷ []) t)
    (c.lock_folder.ensures.kept ∙ c.make_folder.ensures.kept)))

pub returns-in_err-found-clause-part : goal.returns-in_err-found-clause-part
returns-in_err-found-clause-part g c =
    on_err c.from_residual-in_err-found.result _
    (inr (c.in_ok-sync_folder.ensures.synced
    ∙ ap (λ (t : Told). after_steps (SyncedFolder c.args.path.now ∷ []) t)
    (c.lock_folder.ensures.kept ∙ c.make_folder.ensures.kept)))

pub returns-in_err-journal-clause-part : goal.returns-in_err-journal-clause-part
returns-in_err-journal-clause-part g c =
    on_err c.from_residual-in_err-journal.result _
    (inr (c.in_ok-sync_folder.ensures.synced
    ∙ ap (λ (t : Told). after_steps (SyncedFolder c.args.path.now ∷ []) t)
    (c.lock_folder.ensures.kept ∙ c.make_folder.ensures.kept)))

pub returns-in_err-add_blocks-clause-part : goal.returns-in_err-add_blocks-clause-part
returns-in_err-add_blocks-clause-part g c =
    on_err c.from_residual-in_err-add_blocks.result _
    (inr (c.in_ok-sync_folder.ensures.synced
    ∙ ap (λ (t : Told). after_steps (SyncedFolder c.args.path.now ∷ []) t)
    (c.lock_folder.ensures.kept ∙ c.make_folder.ensures.kept)))
