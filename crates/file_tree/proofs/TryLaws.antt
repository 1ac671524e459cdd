-- What follows where the steps of a call succeed.
use Rattle.std.proofs.Common.{◌≡◌, ℕ, ◌+◌, ◌*◌, ◌<◌, ◌≤◌, ◌==◌, ◌||◌, Bool, true, false, List, length, count_by, Option, Some, None, Ok, Err, refl, subst}
use Rattle.std.proofs.lemmas.Bool.{ltb-false, leb-false, cond_both}
use Rattle.harp_types.specs.declared.attr.SetAttr.{SetAttr}
use Rattle.harp_types.specs.declared.cred.Cred.{Cred}
use Rattle.harp_types.specs.declared.reply.Status.{Status}
use Rattle.harp_types.specs.declared.reply.Status.TheVariants.{NoSpc, NoEnt, Exist}
use Rattle.file_tree.specs.declared.object.Body.{Body}
use Rattle.file_tree.specs.declared.object.Body.TheVariants.{Regular, Directory, Link}
use Rattle.file_tree.specs.declared.object.Object.{Object}
use Rattle.file_tree.specs.Tree.{Tree, Slots, place, entry, with_entry, blocks_of, blocks_at, used_blocks}
use Rattle.file_tree.specs.Tries.{◌>>=◌, refuse, some_or, live, slots_in, bytes_in, directory, is_dots, check_name, entry_name, room, Tried}
use Rattle.file_tree.specs.Permissions.{searching, allowed, searched, size_alone, heeded}
use Rattle.file_tree.specs.Outcome.{has_entry, find, doomed, free_name, room_for}
use Rattle.file_tree.specs.Sound.{has_name}
use Rattle.file_tree.proofs.Kept.{live_place}
use Rattle.file_tree.proofs.SlotLaws.{IsFound, found, no_entry}

-- where a step succeeds, its value is as said
unfoldable pub Given : {A : Type 0} → Tried A → (A → Type 0) → Type 0
Given (Ok x) P = P x
Given (Err s) P = Unit {0}

pub done : {A : Type 0} (x : A) (P : A → Type 0) → P x → Given (Ok x) P
unfolding Given
done x P p = p

pub step : {A B : Type 0} (r : Tried A) (f : A → Tried B) (P : B → Type 0)
    → ((x : A) → r ≡ Ok x → Given (f x) P) → Given (r >>= f) P
unfolding Given
step (Ok x) f P h = h x refl
step (Err s) f P h = tt

pub unless : {B : Type 0} (s : Status) (b : Bool) (f : Unit {0} → Tried B) (P : B → Type 0)
    → (b ≡ false → Given (f tt) P) → Given (refuse s b >>= f) P
unfolding Given
unless s true f P h = tt
unless s false f P h = h refl

pub refused_unless : (s : Status) (b : Bool) (P : Unit {0} → Type 0) → (b ≡ false → P tt)
    → Given (refuse s b) P
unfolding Given
refused_unless s true P h = tt
refused_unless s false P h = h refl

pub either : {B : Type 0} (b : Bool) (x y : Tried B) (P : B → Type 0) → (b ≡ true → Given x P)
    → (b ≡ false → Given y P) → Given (elim b [ true ↦ x | false ↦ y ]) P
either true x y P h k = h refl
either false x y P h k = k refl

pub given_at : {A : Type 0} (r : Tried A) (P : A → Type 0) (x : A) → Given r P → r ≡ Ok x → P x
unfolding Given
given_at (Ok y) P x g e = let same : y ≡ x = cc in subst P same g
given_at (Err s) P x g e = absurd cc

pub slots_are : (b : Body) (slots : Slots) → slots_in b ≡ Ok slots → b ≡ Directory slots
slots_are (Directory slots) other e = cc
slots_are (Regular bytes) other e = absurd cc
slots_are (Link text) other e = absurd cc

pub bytes_are : (b : Body) (bytes : List ℕ) → bytes_in b ≡ Ok bytes → b ≡ Regular bytes
bytes_are (Regular bytes) other e = cc
bytes_are (Directory slots) other e = absurd cc
bytes_are (Link text) other e = absurd cc

-- a live directory with its slots
pub record IsDirectoryOf (tree : Tree) (dir : ℕ) (slots : Slots) : Type 0 where
  pub object : Object
  pub at : place tree dir ≡ Some object
  pub body : object.body ≡ Directory slots

in_body : (tree : Tree) (dir : ℕ) (o : Object) → live tree dir ≡ Ok o → (r : Tried Slots)
    → slots_in o.body ≡ r → Given r (IsDirectoryOf tree dir)
unfolding Given
in_body tree dir o is (Ok slots) e =
    record { object = o; at = live_place tree dir o is; body = slots_are o.body slots e }
in_body tree dir o is (Err s) e = tt

pub directory_is : (tree : Tree) (dir : ℕ) (slots : Slots) → directory tree dir ≡ Ok slots
    → IsDirectoryOf tree dir slots
directory_is tree dir slots e =
    given_at (directory tree dir) (IsDirectoryOf tree dir) slots
    (step (live tree dir) (λ o. slots_in o.body) (IsDirectoryOf tree dir)
    (λ o is. in_body tree dir o is (slots_in o.body) refl)) e

-- a directory that the caller may search is one
pub searched_slots : (tree : Tree) (cred : Cred) (dir : ℕ) (slots : Slots)
    → searched tree cred dir ≡ Ok slots → directory tree dir ≡ Ok slots
searched_slots tree cred dir slots e =
    given_at (searched tree cred dir) (λ ss. directory tree dir ≡ Ok ss) slots
    (step (directory tree dir) _ (λ ss. directory tree dir ≡ Ok ss) (λ found d.
    step (allowed tree cred dir searching) _ (λ ss. directory tree dir ≡ Ok ss)
    (λ u may. done found (λ ss. directory tree dir ≡ Ok ss) d))) e

pub searched_is : (tree : Tree) (cred : Cred) (dir : ℕ) (slots : Slots)
    → searched tree cred dir ≡ Ok slots → IsDirectoryOf tree dir slots
searched_is tree cred dir slots e =
    directory_is tree dir slots (searched_slots tree cred dir slots e)

-- the size that a CREATE gives counts for each caller
pub heeded_size : (cred : Cred) (uid : ℕ) (a : SetAttr) → (heeded cred uid a).size ≡ a.size
heeded_size cred uid a =
    cond_both ((cred.uid == 0) || (cred.uid == uid)) a (size_alone a)
    (λ (x : SetAttr). x.size ≡ a.size) (λ e. refl) (λ e. refl)

pub some_is : {A : Type 0} (s : Status) (x : Option A) (y : A) → some_or s x ≡ Ok y → x ≡ Some y
some_is s None y e = absurd cc
some_is s (Some x) y e = cc

pub entry_name_from : (name : List ℕ) → check_name name ≡ Ok tt → is_dots name ≡ false
    → entry_name name ≡ Ok tt
entry_name_from name checked dots = rw (checked, dots) refl

-- a name that is free in a directory
pub record IsFree (slots : Slots) (name : List ℕ) : Type 0 where
  pub right : entry_name name ≡ Ok tt
  pub new : count_by (has_name name) slots ≡ 0

pub free_name_is : (slots : Slots) (name : List ℕ) → free_name slots name ≡ Ok tt
    → IsFree slots name
free_name_is slots name e =
    given_at (free_name slots name) (λ u. IsFree slots name) tt
    (step (entry_name name) (λ u. refuse Exist (has_entry slots name)) (λ u. IsFree slots name)
    (λ u right. refused_unless Exist (has_entry slots name) (λ v. IsFree slots name)
    (λ new. record { right = right; new = no_entry slots name new }))) e

found_step : (slots : Slots) (name : List ℕ) (r : Tried (ℕ × ℕ))
    → some_or NoEnt (entry slots name) ≡ r → Given r (IsFound slots name)
unfolding Given
found_step slots name (Ok x) e = found slots name x (some_is NoEnt (entry slots name) x e)
found_step slots name (Err s) e = tt

pub doomed_is : (slots : Slots) (name : List ℕ) (x : ℕ × ℕ) → doomed slots name ≡ Ok x
    → IsFound slots name x
doomed_is slots name x e =
    given_at (doomed slots name) (IsFound slots name) x
    (unless _ (is_dots name) (λ u. find slots name) (IsFound slots name)
    (λ dots. step (check_name name) (λ u. some_or NoEnt (entry slots name)) (IsFound slots name)
    (λ u checked. found_step slots name (some_or NoEnt (entry slots name)) refl))) e

pub room_is : (tree : Tree) (number size : ℕ) → room tree number size ≡ Ok tt
    → used_blocks tree + blocks_of size ≤ 65536 + blocks_at (place tree number)
room_is tree number size e =
    given_at (room tree number size)
    (λ u. used_blocks tree + blocks_of size ≤ 65536 + blocks_at (place tree number)) tt
    (refused_unless NoSpc _ (λ u. used_blocks tree + blocks_of size ≤ 65536 + blocks_at
    (place tree number)) (λ b. ltb-false _ _ b)) e

-- the slots with an entry for the next object, where both have room
pub record HasRoom (tree : Tree) (dir : ℕ) (slots : Slots) (name : List ℕ) (size : ℕ)
    (full : Slots) : Type 0 where
  pub slots_are : full ≡ with_entry slots (record { name = name; number = length tree })
  pub few : length tree < 4294967295
  pub enough : used_blocks tree + blocks_of size + blocks_of
      (264 * length (with_entry slots (record { name = name; number = length tree }))) ≤ 65536
      + blocks_at (place tree dir)

pub room_for_is : (tree : Tree) (dir : ℕ) (slots : Slots) (name : List ℕ) (size : ℕ) (full : Slots)
    → room_for tree dir slots name size ≡ Ok full → HasRoom tree dir slots name size full
unfolding room_for
room_for_is tree dir slots name size full e =
    given_at (room_for tree dir slots name size) (HasRoom tree dir slots name size) full
    (unless NoSpc _ _ (HasRoom tree dir slots name size)
    (λ few. unless NoSpc _ _ (HasRoom tree dir slots name size)
    (λ enough. done _ (HasRoom tree dir slots name size)
    (record { slots_are = refl; few = leb-false _ _ few; enough = ltb-false _ _ enough })))) e
