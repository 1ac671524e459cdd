-- The tree after any calls from the first one is sound.
use Rattle.std.proofs.Common.{◌≡◌, ℕ, zero, suc, true, List, [], ◌∷◌, length, fold, Ok, Err, refl, arith}
use Rattle.harp_types.specs.declared.call.Call.{Call}
use Rattle.harp_types.specs.declared.call.Call.TheVariants as call
use Rattle.harp_types.specs.declared.cred.Cred.{Cred}
use Rattle.harp_types.specs.Time.{time_of}
use Rattle.file_tree.specs.Tree.{Tree, first_tree, place, names_of, is_directory_at}
use Rattle.file_tree.specs.Rename.{is_above}
use Rattle.file_tree.specs.Book.{Entry, tree_next, tree_after}
use Rattle.file_tree.specs.Outcome.{Outcome}
use Rattle.file_tree.specs.Calls.{settled, outcome}
use Rattle.file_tree.specs.Sound.{IsSoundObject, IsNamed, IsSound}
use Rattle.file_tree.proofs.Kept.{IsWithinLimits-first}
use Rattle.file_tree.proofs.ReadLaw.{read_keeps}
use Rattle.file_tree.proofs.SlotLaws.{no_slots_sound}
use Rattle.file_tree.proofs.TryLaws.{Given}
use Rattle.file_tree.proofs.SoundCalls.{LeavesSound, set_attr_sound, write_sound, create_sound, remove_sound, link_sound, make_link_sound, make_dir_sound, remove_dir_sound}
use Rattle.file_tree.proofs.RenameLaw.{rename_sound}

settled_sound : (tree : Tree) (o : Outcome) → IsSound tree → LeavesSound o
    → IsSound (settled tree o).1
unfolding Given
settled_sound tree (Ok x) is h = h
settled_sound tree (Err s) is h = is

pub outcome_sound : (tree : Tree) (cred : Cred) (c : Call) (stamp : ℕ) → IsSound tree
    → IsSound (outcome tree cred c stamp).1
outcome_sound tree cred call.Null stamp is = is
outcome_sound tree cred (call.GetAttr handle) stamp is =
    rw (read_keeps tree cred (call.GetAttr handle) stamp refl) is
outcome_sound tree cred (call.SetAttr handle attr) stamp is =
    settled_sound tree _ is (set_attr_sound tree cred handle attr (time_of stamp) is)
outcome_sound tree cred (call.Lookup dir name) stamp is =
    rw (read_keeps tree cred (call.Lookup dir name) stamp refl) is
outcome_sound tree cred (call.ReadLink handle) stamp is =
    rw (read_keeps tree cred (call.ReadLink handle) stamp refl) is
outcome_sound tree cred (call.Read handle offset count) stamp is =
    rw (read_keeps tree cred (call.Read handle offset count) stamp refl) is
outcome_sound tree cred (call.Write handle offset bytes) stamp is =
    settled_sound tree _ is (write_sound tree cred handle offset bytes (time_of stamp) is)
outcome_sound tree cred (call.Create dir name attr) stamp is =
    settled_sound tree _ is (create_sound tree cred dir name attr (time_of stamp) is)
outcome_sound tree cred (call.Remove dir name) stamp is =
    settled_sound tree _ is (remove_sound tree cred dir name (time_of stamp) is)
outcome_sound tree cred (call.Rename dir name to_dir to_name) stamp is =
    settled_sound tree _ is (rename_sound tree cred dir name to_dir to_name (time_of stamp) is)
outcome_sound tree cred (call.Link handle dir name) stamp is =
    settled_sound tree _ is (link_sound tree cred handle dir name (time_of stamp) is)
outcome_sound tree cred (call.SymLink dir name text attr) stamp is =
    settled_sound tree _ is (make_link_sound tree cred dir name text attr (time_of stamp) is)
outcome_sound tree cred (call.MkDir dir name attr) stamp is =
    settled_sound tree _ is (make_dir_sound tree cred dir name attr (time_of stamp) is)
outcome_sound tree cred (call.RmDir dir name) stamp is =
    settled_sound tree _ is (remove_dir_sound tree cred dir name (time_of stamp) is)
outcome_sound tree cred (call.ReadDir dir cookie count) stamp is =
    rw (read_keeps tree cred (call.ReadDir dir cookie count) stamp refl) is
outcome_sound tree cred (call.StatFs handle) stamp is =
    rw (read_keeps tree cred (call.StatFs handle) stamp refl) is

first_objects : (number : ℕ) → IsSoundObject (place first_tree number)
first_objects zero = tt
first_objects (suc zero) = (omega arith, no_slots_sound)
first_objects (suc (suc number)) = tt

first_entries : (number : ℕ) → IsNamed number (place first_tree number) (names_of first_tree number)
unfolding names_of
first_entries zero = refl
first_entries (suc zero) = refl
first_entries (suc (suc number)) = refl

first_reaches : (number : ℕ) → is_directory_at (place first_tree number) ≡ true
    → is_above (length first_tree) first_tree 1 number ≡ true
unfolding is_above
first_reaches zero d = absurd cc
first_reaches (suc zero) d = refl
first_reaches (suc (suc number)) d = absurd cc

pub first_sound : IsSound first_tree
first_sound = record {
  limits = IsWithinLimits-first;
  nothing_at_0 = refl;
  root = refl;
  objects = first_objects;
  entries = first_entries;
  reaches = first_reaches;
}

-- the tree after each list of entries is sound
pub folded_sound : (tree : Tree) (entries : List Entry) → IsSound tree
    → IsSound (fold tree_next tree entries)
folded_sound tree [] is = is
folded_sound tree (e ∷ entries) is =
    folded_sound (tree_next tree e) entries (outcome_sound tree e.cred e.call e.stamp is)

pub book_sound : (entries : List Entry) → IsSound (tree_after entries)
book_sound entries = folded_sound first_tree entries first_sound
