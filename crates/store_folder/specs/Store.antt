-- A store over a folder: how many of its calls have failed, what isn't synced yet, its journal, its
-- files, and the path of its folder.
use Rattle.std.specs.Prelude.{ℕ, List, Option, option_map, string_bytes}
use Rattle.store_folder.specs.Files.{Told}
use Rattle.store_folder.specs.Unsynced.{Pending}
use Rattle.store_folder.specs.declared.journal.Journal.{Journal}
use Rattle.store_folder.specs.declared.store.FolderStore.{FolderStore}

abbrev pub store_faults : {F : Type 0} → FolderStore F → ℕ
store_faults store = store.faults

abbrev pub unsynced_of : {F : Type 0} → FolderStore F → Pending
unsynced_of store = store.unsynced

abbrev pub journal_of : {F : Type 0} → FolderStore F → Journal
journal_of store = store.journal

abbrev pub files_of : {F : Type 0} → FolderStore F → F
files_of store = store.files

abbrev pub folder_of : {F : Type 0} → FolderStore F → Option (List ℕ)
folder_of store = option_map string_bytes store.folder

-- what a store has beside what isn't synced
pub record Beside : Type 0 where
  pub told : Told
  pub folder : Option (List ℕ)
  pub journal : Journal

abbrev pub beside : {F : Type 0} → Told → FolderStore F → Beside
beside told store = record { told = told; folder = folder_of store; journal = journal_of store }
