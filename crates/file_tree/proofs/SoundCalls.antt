-- Each call leaves a sound tree sound.
use Rattle.std.proofs.Common.{◌≡◌, ℕ, ◌+◌, ◌%◌, ◌<◌, ◌≤◌, ◌==◌, max, true, false, not, ltb, List, [], ◌∷◌, length, replicate, Option, Some, None, refl, sym, ap, subst, arith}
use Rattle.std.proofs.lemmas.Bool.{ltb-false, cond_both, not-false}
use Rattle.std.proofs.lemmas.List.{length-append, length-take, length-replicate}
use Rattle.std.proofs.lemmas.List.Sums.{sum_by-cons}
use Rattle.harp_types.specs.declared.attr.Time.{Time}
use Rattle.harp_types.specs.declared.attr.SetAttr.{SetAttr}
use Rattle.harp_types.specs.declared.cred.Cred.{Cred}
use Rattle.harp_types.specs.declared.reply.Status.TheVariants.{Perm, NotDir, Exist, IsDir, FBig, NameTooLong, NotEmpty}
use Rattle.file_tree.specs.declared.object.Body.{Body}
use Rattle.file_tree.specs.declared.object.Body.TheVariants.{Regular, Directory, Link}
use Rattle.file_tree.specs.declared.object.Object.{Object}
use Rattle.file_tree.specs.Tree.{Tree, Slots, place, slots_of, slots_within, names_in, blocks_of, blocks_at, used_blocks, is_directory, is_directory_at, entry}
use Rattle.file_tree.specs.Tries.{live, bytes_in, entry_name, room}
use Rattle.file_tree.specs.Permissions.{writing, allowed, searched, may_set, may_make, heeded}
use Rattle.harp_types.specs.Limits.{field_left, largest_file}
use Rattle.file_tree.specs.Outcome.{Outcome, given, given_mode, change, resized, written, rewritten, with_fields, with_size, set_fields, set_attr, write, has_entry, free_name, doomed, room_for, made, is_regular_at, create_again, create_new, create_at, create, make_dir, make_link, remove, remove_dir, has_no_entry, add_entry, link}
use Rattle.file_tree.specs.Sound.{IsSoundObject, IsSoundBody, IsSound}
use Rattle.file_tree.proofs.Kept.{live_place, place_within, IsWithinLimits-set, IsWithinLimits-same}
use Rattle.file_tree.proofs.FileBytes.{length-written}
use Rattle.file_tree.proofs.SlotLaws.{share, none_named, no_entry, no_slots_sound}
use Rattle.file_tree.proofs.Reslots.{change_is}
use Rattle.file_tree.proofs.WaysUp.{IsBare, file_is_bare}
use Rattle.file_tree.proofs.SoundChanges.{sound_set, sound_ctime}
use Rattle.file_tree.proofs.SoundMoves.{sound_removed}
use Rattle.file_tree.proofs.SoundMakes.{sound_made, sound_linked, IsSoundWith}
use Rattle.file_tree.proofs.TryLaws.{Given, done, step, unless, either, given_at, bytes_are, IsDirectoryOf, searched_is, IsFree, free_name_is, doomed_is, room_is, room_for_is}

-- a call that succeeds leaves a sound tree
abbrev pub LeavesSound : Outcome → Type 0
LeavesSound outcome = Given outcome (λ x. IsSound x.1)

object_of : (tree : Tree) (number : ℕ) (o : Object) → IsSound tree → place tree number ≡ Some o
    → IsSoundObject (Some o)
object_of tree number o is at = subst IsSoundObject at (is.objects number)

mode-lt : (new old : ℕ) → old < 4096 → given_mode new old < 4096
mode-lt new old lt =
    cond_both (new == field_left) old (new % 4096) (λ (x : ℕ). x < 4096) (λ e. lt)
    (λ e. omega arith)

-- ---- attributes

-- bytes that a size gives: those of a file, within the limits
abbrev IsSized : Tree → ℕ → Body → Option (List ℕ) → Type 0
IsSized tree number body None = Unit {0}
IsSized tree number body (Some bytes) =
    (old : List ℕ) × (body ≡ Regular old) × (length bytes ≤ largest_file)
    × (used_blocks tree + blocks_of (length bytes) ≤ 65536 + blocks_at (place tree number))

length-resized : (bytes : List ℕ) (size : ℕ) → length (resized bytes size) ≡ size
length-resized bytes size = simp (length-append, length-take, length-replicate) (omega arith)

sized : (tree : Tree) (cred : Cred) (number : ℕ) (body : Body) (size : ℕ)
    → Given (with_size tree cred number body size) (IsSized tree number body)
unfolding with_size
sized tree cred number body size =
    either (size == field_left) _ _ (IsSized tree number body)
    (λ e. done None (IsSized tree number body) tt)
    (λ e. step (bytes_in body) _ (IsSized tree number body) (λ old is.
    step (allowed tree cred number writing) _ (IsSized tree number body) (λ v may.
    unless FBig _ _ (IsSized tree number body) (λ small.
    step (room tree number size) _ (IsSized tree number body) (λ u enough.
    let long = length-resized old size in
    done (Some (resized old size)) (IsSized tree number body) (
      old,
      bytes_are body old is,
      rw long (ltb-false _ _ small),
      rw long (room_is tree number size enough),
    ))))))

fields_sound : (tree : Tree) (number : ℕ) (o : Object) (a : SetAttr) (bytes : Option (List ℕ))
    (now : Time) → IsSound tree → place tree number ≡ Some o → IsSized tree number o.body bytes
    → IsSound (change tree number (with_fields a bytes now))
fields_sound tree number o a None now is at fits =
    let new = with_fields a None now o in
    let old = object_of tree number o is at in
    rw (change_is tree number (with_fields a None now) o at)
    (sound_set tree number o new is at refl (λ k. refl) (mode-lt a.mode o.mode old.0, old.1)
    (IsWithinLimits-same tree number None (Some new) is.limits (place_within tree number o at)
    (ap blocks_at at)))
fields_sound tree number o a (Some bytes) now is at fits =
    let new = with_fields a (Some bytes) now o in
    let old = object_of tree number o is at in
    rw (change_is tree number (with_fields a (Some bytes) now) o at)
    (sound_set tree number o new is at (sym (ap is_directory fits.1))
    (λ k. sym (ap (λ (b : Body). names_in k (slots_within b)) fits.1))
    (mode-lt a.mode o.mode old.0, fits.2)
    (IsWithinLimits-set tree number (Some new) is.limits.few
    (place_within tree number o at) fits.3))

set_fields_sound : (tree : Tree) (cred : Cred) (number : ℕ) (a : SetAttr) (now : Time)
    → IsSound tree → Given (set_fields tree cred number a now) IsSound
unfolding set_fields
set_fields_sound tree cred number a now is =
    step (live tree number) _ IsSound (λ o lives.
    unless Perm (not (may_set cred a o.uid o.gid)) _ IsSound (λ may.
    step (with_size tree cred number o.body a.size) _ IsSound (λ bytes e.
    done _ IsSound (fields_sound tree number o a bytes now is (live_place tree number o lives)
    (given_at (with_size tree cred number o.body a.size) (IsSized tree number o.body) bytes
    (sized tree cred number o.body a.size) e)))))

pub set_attr_sound : (tree : Tree) (cred : Cred) (number : ℕ) (a : SetAttr) (now : Time)
    → IsSound tree → LeavesSound (set_attr tree cred number a now)
unfolding set_attr
set_attr_sound tree cred number a now is =
    step (set_fields tree cred number a now) _ (λ x. IsSound x.1) (λ new e.
    done _ (λ x. IsSound x.1) (given_at (set_fields tree cred number a now) IsSound new
    (set_fields_sound tree cred number a now is) e))

-- ---- bytes

write_done : (tree : Tree) (number offset : ℕ) (bytes old : List ℕ) (o : Object) (now : Time)
    → IsSound tree → place tree number ≡ Some o → o.body ≡ Regular old
    → offset + length bytes ≤ largest_file
    → used_blocks tree + blocks_of (max (length old) (offset + length bytes)) ≤ 65536 + blocks_at
    (place tree number)
    → IsSound (change tree number (rewritten now (written old offset bytes)))
write_done tree number offset bytes old o now is at body small enough =
    let new = rewritten now (written old offset bytes) o in
    let was = object_of tree number o is at in
    let old_size : length old ≤ largest_file = subst IsSoundBody body was.1 in
    let long = length-written old offset bytes in
    rw (change_is tree number (rewritten now (written old offset bytes)) o at)
    (sound_set tree number o new is at (sym (ap is_directory body))
    (λ k. sym (ap (λ (b : Body). names_in k (slots_within b)) body))
    (was.0, rw long (omega (arith, small, old_size)))
    (IsWithinLimits-set tree number (Some new) is.limits.few (place_within tree number o at)
    (rw long enough)))

pub write_sound : (tree : Tree) (cred : Cred) (number offset : ℕ) (bytes : List ℕ) (now : Time)
    → IsSound tree → LeavesSound (write tree cred number offset bytes now)
unfolding write
write_sound tree cred number offset bytes now is =
    step (live tree number) _ (λ x. IsSound x.1) (λ o lives.
    step (bytes_in o.body) _ (λ x. IsSound x.1) (λ old body.
    step (allowed tree cred number writing) _ (λ x. IsSound x.1) (λ v may.
    unless FBig _ _ (λ x. IsSound x.1) (λ small.
    either (length bytes == 0) _ _ (λ x. IsSound x.1)
    (λ e. done _ (λ x. IsSound x.1) is)
    (λ e. step (room tree number (max (length old) (offset + length bytes))) _ (λ x. IsSound x.1)
    (λ u enough.
    done _ (λ x. IsSound x.1)
    (write_done tree number offset bytes old o now is (live_place tree number o lives)
    (bytes_are o.body old body) (ltb-false _ _ small) (room_is tree number _ enough))))))))

-- ---- new objects

create_new_sound : (tree : Tree) (cred : Cred) (dir : ℕ) (slots : Slots) (name : List ℕ)
    (a : SetAttr) (now : Time) → IsSound tree → IsDirectoryOf tree dir slots → IsFree slots name
    → LeavesSound (create_new tree cred dir slots name a now)
unfolding create_new
create_new_sound tree cred dir slots name a now is d free =
    step (may_make tree cred dir a) _ (λ x. IsSound x.1) (λ v may.
    unless FBig (ltb largest_file (given a.size 0)) _ (λ x. IsSound x.1) (λ small.
    step (room_for tree dir slots name (given a.size 0)) _ (λ x. IsSound x.1) (λ full e.
    let r = room_for_is tree dir slots name (given a.size 0) full e in
    let body = Regular (replicate (given a.size 0) 0) in
    let long : length (replicate (given a.size 0) 0) ≡ given a.size 0 =
    length-replicate {A = ℕ} (given a.size 0) 0 in
    done _ (λ x. IsSound x.1) (rw r.slots_are
    (sound_made tree dir d.object slots name
    (made cred a body now) now is d.at d.body free.right free.new
    (mode-lt a.mode 0 (omega arith), rw long (ltb-false _ _ small)) (λ k. refl) r.few
    (rw long r.enough))))))

create_again_sound : (tree : Tree) (cred : Cred) (number : ℕ) (a : SetAttr) (now : Time)
    → IsSound tree → LeavesSound (create_again tree cred number a now)
unfolding create_again
create_again_sound tree cred number a now is =
    unless Exist (not (is_regular_at (place tree number))) _ (λ x. IsSound x.1) (λ regular.
    step (live tree number) _ (λ x. IsSound x.1) (λ o lives.
    let fields = heeded cred o.uid a in
    step (set_fields tree cred number fields now) _ (λ x. IsSound x.1) (λ new e.
    done _ (λ x. IsSound x.1) (given_at (set_fields tree cred number fields now) IsSound new
    (set_fields_sound tree cred number fields now is) e))))

create_at_sound : (tree : Tree) (cred : Cred) (dir : ℕ) (slots : Slots) (name : List ℕ)
    (x : Option (ℕ × ℕ)) (a : SetAttr) (now : Time) → IsSound tree → IsDirectoryOf tree dir slots
    → (x ≡ None → IsFree slots name) → LeavesSound (create_at tree cred dir slots name x a now)
create_at_sound tree cred dir slots name (Some x) a now is d free =
    create_again_sound tree cred x.1 a now is
create_at_sound tree cred dir slots name None a now is d free =
    create_new_sound tree cred dir slots name a now is d (free refl)

pub create_sound : (tree : Tree) (cred : Cred) (dir : ℕ) (name : List ℕ) (a : SetAttr) (now : Time)
    → IsSound tree → LeavesSound (create tree cred dir name a now)
unfolding create
create_sound tree cred dir name a now is =
    step (searched tree cred dir) _ (λ x. IsSound x.1) (λ slots d.
    step (entry_name name) _ (λ x. IsSound x.1) (λ u right.
    create_at_sound tree cred dir slots name (entry slots name) a now is
    (searched_is tree cred dir slots d)
    (λ e. record { right = right; new = none_named slots name e })))

pub make_dir_sound : (tree : Tree) (cred : Cred) (dir : ℕ) (name : List ℕ) (a : SetAttr)
    (now : Time) → IsSound tree → LeavesSound (make_dir tree cred dir name a now)
unfolding make_dir
make_dir_sound tree cred dir name a now is =
    step (searched tree cred dir) _ (λ x. IsSound x.1) (λ slots e.
    step (free_name slots name) _ (λ x. IsSound x.1) (λ u f.
    step (may_make tree cred dir a) _ (λ x. IsSound x.1) (λ v may.
    step (room_for tree dir slots name 0) _ (λ x. IsSound x.1) (λ full g.
    let d = searched_is tree cred dir slots e in
    let free = free_name_is slots name f in
    let r = room_for_is tree dir slots name 0 full g in
    done _ (λ x. IsSound x.1) (rw r.slots_are
    (sound_made tree dir d.object slots name
    (made cred a (Directory []) now) now is d.at d.body free.right free.new
    (mode-lt a.mode 0 (omega arith), no_slots_sound) (λ k. refl) r.few r.enough))))))

pub make_link_sound : (tree : Tree) (cred : Cred) (dir : ℕ) (name text : List ℕ) (a : SetAttr)
    (now : Time) → IsSound tree → LeavesSound (make_link tree cred dir name text a now)
unfolding make_link
make_link_sound tree cred dir name text a now is =
    step (searched tree cred dir) _ (λ x. IsSound x.1) (λ slots e.
    step (entry_name name) _ (λ x. IsSound x.1) (λ u right.
    unless NameTooLong (ltb 1024 (length text)) _ (λ x. IsSound x.1) (λ short.
    unless Exist (has_entry slots name) _ (λ x. IsSound x.1) (λ new.
    step (may_make tree cred dir a) _ (λ x. IsSound x.1) (λ v may.
    step (room_for tree dir slots name (length text)) _ (λ x. IsSound x.1) (λ full g.
    let d = searched_is tree cred dir slots e in
    let r = room_for_is tree dir slots name (length text) full g in
    done _ (λ x. IsSound x.1) (rw r.slots_are
    (sound_made tree dir d.object slots name (made cred a (Link text) now) now is d.at d.body right
    (no_entry slots name new)
    (mode-lt a.mode 0 (omega arith), ltb-false _ _ short) (λ k. refl) r.few r.enough))))))))

-- ---- entries that go, and links

pub remove_sound : (tree : Tree) (cred : Cred) (dir : ℕ) (name : List ℕ) (now : Time) → IsSound tree
    → LeavesSound (remove tree cred dir name now)
unfolding remove
remove_sound tree cred dir name now is =
    step (searched tree cred dir) _ (λ x. IsSound x.1) (λ slots e.
    step (doomed slots name) _ (λ x. IsSound x.1) (λ x f.
    step (allowed tree cred dir writing) _ (λ x. IsSound x.1) (λ v may.
    unless IsDir _ _ (λ x. IsSound x.1) (λ file.
    let d = searched_is tree cred dir slots e in
    done _ (λ x. IsSound x.1) (sound_removed tree dir d.object slots name x now is d.at d.body
    (doomed_is slots name x f) (file_is_bare tree x.1 file))))))

no_names_in : (slots : Slots) (k : ℕ) → has_no_entry slots ≡ true → names_in k slots ≡ 0
no_names_in [] k h = refl
no_names_in (None ∷ slots) k h =
    omega (arith, sum_by-cons (share k) None slots, no_names_in slots k h)
no_names_in (Some s ∷ slots) k h = absurd cc

pub empty_is_bare : (tree : Tree) (number : ℕ) → has_no_entry (slots_of (place tree number)) ≡ true
    → IsBare tree number
empty_is_bare tree number h k = no_names_in (slots_of (place tree number)) k h

pub remove_dir_sound : (tree : Tree) (cred : Cred) (dir : ℕ) (name : List ℕ) (now : Time)
    → IsSound tree → LeavesSound (remove_dir tree cred dir name now)
unfolding remove_dir
remove_dir_sound tree cred dir name now is =
    step (searched tree cred dir) _ (λ x. IsSound x.1) (λ slots e.
    step (doomed slots name) _ (λ x. IsSound x.1) (λ x f.
    step (allowed tree cred dir writing) _ (λ x. IsSound x.1) (λ v may.
    unless NotDir (not (is_directory_at (place tree x.1))) _ (λ x. IsSound x.1) (λ kind.
    unless NotEmpty (not (has_no_entry (slots_of (place tree x.1)))) _ (λ x. IsSound x.1) (λ empty.
    let d = searched_is tree cred dir slots e in
    done _ (λ x. IsSound x.1)
    (sound_removed tree dir d.object slots name x now is d.at d.body (doomed_is slots name x f)
    (empty_is_bare tree x.1 (not-false _ empty))))))))

add_entry_sound : (tree : Tree) (dir : ℕ) (slots : Slots) (name : List ℕ) (number : ℕ) (o : Object)
    (now : Time) → IsSound tree → IsDirectoryOf tree dir slots → IsFree slots name
    → place tree number ≡ Some o → is_directory o.body ≡ false
    → Given (add_entry tree dir slots (record { name = name; number = number }) now)
    (λ new. IsSoundWith new number)
unfolding add_entry
add_entry_sound tree dir slots name number o now is d free lives file =
    step (room tree dir _) _ (λ new. IsSoundWith new number) (λ u enough.
    done _ (λ new. IsSoundWith new number)
    (sound_linked tree dir d.object slots name number o now is d.at d.body free.right free.new lives
    file (room_is tree dir _ enough)))

pub link_sound : (tree : Tree) (cred : Cred) (number dir : ℕ) (name : List ℕ) (now : Time)
    → IsSound tree → LeavesSound (link tree cred number dir name now)
unfolding link
link_sound tree cred number dir name now is =
    step (live tree number) _ (λ x. IsSound x.1) (λ o lives.
    step (searched tree cred dir) _ (λ x. IsSound x.1) (λ slots e.
    unless Perm _ _ (λ x. IsSound x.1) (λ file.
    step (free_name slots name) _ (λ x. IsSound x.1) (λ u f.
    step (allowed tree cred dir writing) _ (λ x. IsSound x.1) (λ v may.
    step (add_entry tree dir slots (record { name = name; number = number }) now) _
    (λ x. IsSound x.1) (λ new g.
    let with_o =
    given_at (add_entry tree dir slots (record { name = name; number = number }) now)
    (λ new. IsSoundWith new number) new
    (add_entry_sound tree dir slots name number o now is (searched_is tree cred dir slots e)
    (free_name_is slots name f) (live_place tree number o lives) file) g in
    done _ (λ x. IsSound x.1) (sound_ctime new number with_o.object now with_o.sound
    with_o.at)))))))
