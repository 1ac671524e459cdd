-- A rename leaves a sound tree sound.
use Rattle.std.proofs.Common.{◌≡◌, ℕ, ◌==◌, ◌&&◌, false, not, List, length, Option, Some, None, Ok, refl, inl, inr}
use Rattle.std.proofs.lemmas.Bool.{cases_Bool, eqb-false, ne_eqb, not-false}
use Rattle.harp_types.specs.declared.attr.Time.{Time}
use Rattle.harp_types.specs.declared.cred.Cred.{Cred}
use Rattle.harp_types.specs.declared.reply.Status.TheVariants.{Perm, NoEnt, NotDir, IsDir, NotEmpty}
use Rattle.file_tree.specs.Tree.{Tree, Slots, place, slots_of, entry, is_directory_at}
use Rattle.file_tree.specs.Tries.{some_or, live, slots_in, is_dots, check_name, entry_name, room}
use Rattle.file_tree.specs.Permissions.{searching, writing, allowed}
use Rattle.file_tree.specs.Outcome.{has_no_entry}
use Rattle.file_tree.specs.Rename.{is_above, check_target, moved_in, moved_to, rename}
use Rattle.file_tree.specs.Sound.{IsSound}
use Rattle.file_tree.proofs.Kept.{live_place}
use Rattle.file_tree.proofs.SlotLaws.{IsFound, found, none_named}
use Rattle.file_tree.proofs.WaysUp.{IsBare, file_is_bare}
use Rattle.file_tree.proofs.SoundRename.{sound_moved_in, sound_moved_over}
use Rattle.file_tree.proofs.TryLaws.{Given, done, step, unless, refused_unless, either, given_at, slots_are, IsDirectoryOf, some_is, entry_name_from, room_is}
use Rattle.file_tree.proofs.SoundCalls.{LeavesSound, empty_is_bare}

-- a target that a rename accepts is the moved object, or nothing is in it
pub target_bare : (tree : Tree) (moved : ℕ) (y : ℕ × ℕ) → check_target tree moved (Some y) ≡ Ok tt
    → (y.1 ≡ moved → ⊥) → IsBare tree y.1
unfolding check_target
target_bare tree moved y e ne = elim (cases_Bool (is_directory_at (place tree y.1))) [
  | inr file ↦ file_is_bare tree y.1 file
  | inl directory ↦
      given_at (check_target tree moved (Some y)) (λ u. IsBare tree y.1) tt
      (unless NotDir (is_directory_at (place tree moved)
      && not (is_directory_at (place tree y.1))) _ (λ u. IsBare tree y.1) (λ a.
      unless IsDir (is_directory_at (place tree y.1) && not (is_directory_at (place tree moved))) _
      (λ u. IsBare tree y.1) (λ b.
      refused_unless NotEmpty (is_directory_at (place tree y.1) && not (y.1 == moved)
      && not (has_no_entry (slots_of (place tree y.1)))) (λ u. IsBare tree y.1) (λ full.
      let other : (y.1 == moved) ≡ false = ne_eqb y.1 moved ne in
      let empty : not (has_no_entry (slots_of (place tree y.1))) ≡ false =
      rw (directory, other) at full in
      empty_is_bare tree y.1 (not-false _ empty))))) e
]

-- a directory to move in, and one to move to
pub record IsMove (tree : Tree) (dir : ℕ) (slots : Slots) (name : List ℕ) (x : ℕ × ℕ) (to_dir : ℕ)
    (to_slots : Slots) (to_name : List ℕ) : Type 0 where
  pub from : IsDirectoryOf tree dir slots
  pub to : IsDirectoryOf tree to_dir to_slots
  pub found : IsFound slots name x
  pub right : entry_name to_name ≡ Ok tt
  pub apart : (is_directory_at (place tree x.1) && is_above (length tree) tree x.1 to_dir) ≡ false

moved_in_sound : (tree : Tree) (dir : ℕ) (slots : Slots) (name : List ℕ) (x : ℕ × ℕ) (to_dir : ℕ)
    (to_slots : Slots) (to_name : List ℕ) (now : Time) → IsSound tree
    → IsMove tree dir slots name x to_dir to_slots to_name → entry to_slots to_name ≡ None
    → Given (moved_in tree dir x to_dir to_slots to_name now) IsSound
unfolding moved_in
moved_in_sound tree dir slots name x to_dir to_slots to_name now is m new =
    step (room tree to_dir _) _ IsSound (λ u enough.
    done _ IsSound
    (sound_moved_in tree dir to_dir m.from.object m.to.object slots to_slots name to_name x now is
    m.from.at m.from.body m.to.at m.to.body m.found
    m.right (none_named to_slots to_name new) m.apart (room_is tree to_dir _ enough)))

moved_to_sound : (tree : Tree) (dir : ℕ) (slots : Slots) (name : List ℕ) (x : ℕ × ℕ) (to_dir : ℕ)
    (to_slots : Slots) (to_name : List ℕ) (target : Option (ℕ × ℕ)) (now : Time) → IsSound tree
    → IsMove tree dir slots name x to_dir to_slots to_name → entry to_slots to_name ≡ target
    → check_target tree x.1 target ≡ Ok tt
    → Given (moved_to tree dir x to_dir to_slots to_name target now) IsSound
moved_to_sound tree dir slots name x to_dir to_slots to_name None now is m e target =
    moved_in_sound tree dir slots name x to_dir to_slots to_name now is m e
moved_to_sound tree dir slots name x to_dir to_slots to_name (Some y) now is m e target =
    either (y.1 == x.1) _ _ IsSound
    (λ same. done tree IsSound is)
    (λ other. done _ IsSound
    (sound_moved_over tree dir to_dir m.from.object m.to.object slots to_slots name to_name x y now
    is m.from.at m.from.body m.to.at m.to.body m.found (found to_slots to_name y e)
    (eqb-false y.1 x.1 other) (target_bare tree x.1 y target (eqb-false y.1 x.1 other)) m.apart))

pub rename_sound : (tree : Tree) (cred : Cred) (dir : ℕ) (name : List ℕ) (to_dir : ℕ)
    (to_name : List ℕ) (now : Time) → IsSound tree
    → LeavesSound (rename tree cred dir name to_dir to_name now)
unfolding rename
rename_sound tree cred dir name to_dir to_name now is =
    step (live tree dir) _ (λ y. IsSound y.1) (λ d d_lives.
    step (live tree to_dir) _ (λ y. IsSound y.1) (λ e e_lives.
    step (slots_in d.body) _ (λ y. IsSound y.1) (λ slots d_slots.
    step (slots_in e.body) _ (λ y. IsSound y.1) (λ to_slots e_slots.
    step (allowed tree cred dir searching) _ (λ y. IsSound y.1) (λ a may_search.
    step (allowed tree cred to_dir searching) _ (λ y. IsSound y.1) (λ b may_search_to.
    unless Perm (is_dots name) _ (λ y. IsSound y.1) (λ dots.
    unless Perm (is_dots to_name) _ (λ y. IsSound y.1) (λ to_dots.
    step (check_name name) _ (λ y. IsSound y.1) (λ u checked.
    step (check_name to_name) _ (λ y. IsSound y.1) (λ v to_checked.
    step (some_or NoEnt (entry slots name)) _ (λ y. IsSound y.1) (λ x x_is.
    step (allowed tree cred dir writing) _ (λ y. IsSound y.1) (λ i may_write.
    step (allowed tree cred to_dir writing) _ (λ y. IsSound y.1) (λ j may_write_to.
    unless Perm (is_directory_at (place tree x.1) && is_above (length tree) tree x.1 to_dir) _
    (λ y. IsSound y.1) (λ apart.
    step (check_target tree x.1 (entry to_slots to_name)) _ (λ y. IsSound y.1) (λ w target.
    step (moved_to tree dir x to_dir to_slots to_name (entry to_slots to_name) now) _
    (λ y. IsSound y.1) (λ new g.
    done _ (λ y. IsSound y.1)
    (given_at (moved_to tree dir x to_dir to_slots to_name (entry to_slots to_name) now) IsSound new
    (moved_to_sound tree dir slots name x to_dir to_slots to_name (entry to_slots to_name) now is
    (record {
      from = record {
        object = d;
        at = live_place tree dir d d_lives;
        body = slots_are d.body slots d_slots;
      };
      to = record {
        object = e;
        at = live_place tree to_dir e e_lives;
        body = slots_are e.body to_slots e_slots;
      };
      found = found slots name x (some_is NoEnt (entry slots name) x x_is);
      right = entry_name_from to_name to_checked to_dots;
      apart = apart;
    })
    refl target) g)))))))))))))))))
