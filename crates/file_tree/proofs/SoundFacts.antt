-- What a sound tree says of its entries and parents.
use Rattle.std.proofs.Common.{◌≡◌, ℕ, true, List, Some, Ok, refl, arith, inl, inr}
use Rattle.std.proofs.lemmas.Bool.{cases_eq}
use Rattle.file_tree.specs.Tree.{Tree, Slots, place, names_of, entry, is_directory_at, parent_of}
use Rattle.file_tree.specs.Tries.{directory, is_some}
use Rattle.file_tree.specs.Sound.{IsSound}
use Rattle.file_tree.proofs.Holders.{holder_is_directory, parent_holds, parent_of_root}
use Rattle.file_tree.proofs.SlotLaws.{found}
use Rattle.file_tree.proofs.SoundChanges.{live_from}
use Rattle.file_tree.proofs.SoundMoves.{found_held, names_at-le}
use Rattle.file_tree.proofs.TryLaws.{directory_is}

-- an entry names a live object
pub entry_lives : (tree : Tree) (dir : ℕ) (slots : Slots) (name : List ℕ) (x : ℕ × ℕ) → IsSound tree
    → directory tree dir ≡ Ok slots → entry slots name ≡ Some x
    → is_some (place tree x.1) ≡ true
entry_lives tree dir slots name x is d e =
    let at = directory_is tree dir slots d in
    let held = found_held tree dir at.object slots name x at.at at.body (found slots name x e) in
    let live =
    live_from x.1 (place tree x.1) (names_of tree x.1) (is.entries x.1)
    (omega (arith, held, names_at-le tree dir x.1)) in
    rw live.1 refl

-- the parent of a directory is a directory
pub parent_is_directory : (tree : Tree) (number : ℕ) → IsSound tree
    → is_directory_at (place tree number) ≡ true
    → is_directory_at (place tree (parent_of tree number)) ≡ true
parent_is_directory tree number is d = elim (cases_eq number 1) [
  | inl e ↦ rw (e, parent_of_root tree is.root) is.root
  | inr ne ↦
      holder_is_directory tree (parent_of tree number) number
      (parent_holds tree number is.entries d ne)
]
