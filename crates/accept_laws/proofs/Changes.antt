-- Changes of a tree keep its fields within their bounds.
use Rattle.std.proofs.Common.{◌≡◌, ℕ, ◌+◌, ◌-◌, ◌<◌, ◌^◌, ◌==◌, ◌||◌, List, [], ◌∷◌, ◌++◌, length, take, drop, set, replicate, Option, Some, None, Ok, subst, arith, inl, inr}
use Rattle.std.specs.List.{AllByRecursion}
use Rattle.std.proofs.lemmas.Bool.{cases_Bool, cond_both, eqb-false, ltb-false}
use Rattle.harp_base.specs.Attributes.{TimeFits}
use Rattle.harp_types.specs.Limits.{field_left}
use Rattle.harp_types.specs.declared.attr.SetAttr.{SetAttr}
use Rattle.harp_types.specs.declared.attr.Time.{Time}
use Rattle.harp_types.specs.declared.cred.Cred.{Cred}
use Rattle.harp_types.specs.declared.reply.Status.TheVariants.{Acces, Exist, NameTooLong}
use Rattle.file_tree.specs.declared.object.Slot.{Slot}
use Rattle.file_tree.specs.declared.object.Body.{Body}
use Rattle.file_tree.specs.declared.object.Body.TheVariants.{Regular, Directory, Link}
use Rattle.file_tree.specs.declared.object.Object.{Object}
use Rattle.file_tree.specs.Tree.{Tree, Slots, names_of, place, with_entry}
use Rattle.file_tree.specs.Tries.{check_name, entry_name, is_dots, is_odd}
use Rattle.file_tree.specs.Permissions.{heeded, size_alone}
use Rattle.file_tree.specs.Outcome.{body_with, change, changed_at, given, given_time, lost_entry, made, mtime_for_size, removed, resized, reslotted, rewritten, set_ctime, slot_changed, slot_replaced, with_fields, with_object, written}
use Rattle.file_tree.proofs.SlotLaws.{IsFound}
use Rattle.file_tree.proofs.TryLaws.{given_at, refused_unless, step, unless}
use Rattle.accept_laws.specs.Trees.{AreOctets, BodyFits, NameFits, ObjectFits, PlaceFits, SlotFits, TreeFits}
use Rattle.accept_laws.proofs.TreeLists.{all-append, all-at, all-drop, all-replicate, all-set, all-take}

-- ---- objects

abbrev pub Keeps : (Object → Object) → Type 0
Keeps f = (o : Object) → ObjectFits o → ObjectFits (f o)

changed : (f : Object → Object) (x : Option Object) → Keeps f → PlaceFits x
    → PlaceFits (changed_at f x)
changed f None k h = tt
changed f (Some o) k h = k o h

pub fits_change : (tree : Tree) (n : ℕ) (f : Object → Object) → Keeps f → TreeFits tree
    → TreeFits (change tree n f)
fits_change tree n f k h =
    all-set PlaceFits tree n (changed_at f (place tree n))
    (changed f (place tree n) k (all-at PlaceFits tree n None tt h)) h

pub keeps_ctime : (now : Time) → TimeFits now → Keeps (set_ctime now)
keeps_ctime now t o h = record {
  uid = h.uid;
  gid = h.gid;
  atime = h.atime;
  mtime = h.mtime;
  ctime = t;
  body = h.body;
}

pub keeps_reslotted : (now : Time) (slots : Slots) → TimeFits now → AllByRecursion SlotFits slots
    → Keeps (reslotted now slots)
keeps_reslotted now slots t s o h = record {
  uid = h.uid;
  gid = h.gid;
  atime = h.atime;
  mtime = t;
  ctime = t;
  body = s;
}

replaced : (b : Body) (i : ℕ) (s : Option Slot) → SlotFits s → BodyFits b
    → BodyFits (slot_replaced b i s)
replaced (Directory slots) i s f h = all-set SlotFits slots i s f h
replaced (Regular bytes) i s f h = h
replaced (Link text) i s f h = h

pub keeps_slot : (now : Time) (i : ℕ) (s : Option Slot) → TimeFits now → SlotFits s
    → Keeps (slot_changed now i s)
keeps_slot now i s t f o h = record {
  uid = h.uid;
  gid = h.gid;
  atime = h.atime;
  mtime = t;
  ctime = t;
  body = replaced o.body i s f h.body;
}

pub keeps_bytes : (now : Time) (bytes : List ℕ) → TimeFits now → AreOctets bytes
    → Keeps (rewritten now bytes)
keeps_bytes now bytes t b o h = record {
  uid = h.uid;
  gid = h.gid;
  atime = h.atime;
  mtime = t;
  ctime = t;
  body = b;
}

-- ---- fields that are set

pub record SetFits (a : SetAttr) : Type 0 where
  pub uid : a.uid < 2 ^ 32
  pub gid : a.gid < 2 ^ 32
  pub atime : TimeFits a.atime
  pub mtime : TimeFits a.mtime

given_fits : (new old : ℕ) → new < 2 ^ 32 → old < 2 ^ 32 → given new old < 2 ^ 32
given_fits new old n o =
    cond_both (new == field_left) old new (λ (x : ℕ). x < 2 ^ 32) (λ e. o) (λ e. n)

time_fits : (new old : Time) → TimeFits new → TimeFits old → TimeFits (given_time new old)
time_fits new old n o =
    cond_both (new.seconds == field_left) old new TimeFits (λ e. o) (λ e. n)

mtime_fits : (size : ℕ) (old now : Time) → TimeFits old → TimeFits now
    → TimeFits (mtime_for_size size old now)
mtime_fits size old now o n =
    cond_both (size == field_left) old now TimeFits (λ e. o) (λ e. n)

abbrev pub BytesFit : Option (List ℕ) → Type 0
BytesFit None = Unit {0}
BytesFit (Some bytes) = AreOctets bytes

with_fits : (b : Body) (bytes : Option (List ℕ)) → BodyFits b → BytesFit bytes
    → BodyFits (body_with b bytes)
with_fits b None h k = h
with_fits b (Some bytes) h k = k

pub keeps_fields : (a : SetAttr) (bytes : Option (List ℕ)) (now : Time) → SetFits a
    → BytesFit bytes → TimeFits now → Keeps (with_fields a bytes now)
keeps_fields a bytes now f b t o h = record {
  uid = given_fits a.uid o.uid f.uid h.uid;
  gid = given_fits a.gid o.gid f.gid h.gid;
  atime = time_fits a.atime o.atime f.atime h.atime;
  mtime = time_fits a.mtime _ f.mtime (mtime_fits a.size o.mtime now h.mtime t);
  ctime = t;
  body = with_fits o.body bytes h.body b;
}

pub fits_made : (cred : Cred) (a : SetAttr) (b : Body) (now : Time) → cred.uid < 2 ^ 32
    → cred.gid < 2 ^ 32 → SetFits a → BodyFits b → TimeFits now → ObjectFits (made cred a b now)
fits_made cred a b now u g f h t = record {
  uid = given_fits a.uid cred.uid f.uid u;
  gid = given_fits a.gid cred.gid f.gid g;
  atime = time_fits a.atime now f.atime t;
  mtime = time_fits a.mtime now f.mtime t;
  ctime = t;
  body = h;
}

pub fits_heeded : (cred : Cred) (uid : ℕ) (a : SetAttr) → SetFits a → SetFits (heeded cred uid a)
fits_heeded cred uid a f =
    cond_both ((cred.uid == 0) || (cred.uid == uid)) a (size_alone a) (λ (x : SetAttr). SetFits x)
    (λ e. f)
    (λ e. record {
      uid = omega arith;
      gid = omega arith;
      atime = (omega arith, omega arith);
      mtime = (omega arith, omega arith);
    })

-- ---- bytes

pub resized_fits : (old : List ℕ) (size : ℕ) → AreOctets old → AreOctets (resized old size)
resized_fits old size h =
    all-append (λ b. b < 256) (take size old) (replicate (size - length old) 0)
    (all-take (λ b. b < 256) size old h)
    (all-replicate (λ b. b < 256) (size - length old) 0 (omega arith))

pub written_fits : (old : List ℕ) (offset : ℕ) (bytes : List ℕ) → AreOctets old → AreOctets bytes
    → AreOctets (written old offset bytes)
written_fits old offset bytes h k =
    let P : ℕ → Type 0 = λ b. b < 256 in
    all-append P (resized old offset ++ bytes) (drop (offset + length bytes) old)
    (all-append P (resized old offset) bytes (resized_fits old offset h) k)
    (all-drop P (offset + length bytes) old h)

-- ---- names and slots

pub checked : (name : List ℕ) → check_name name ≡ Ok tt → NameFits name
checked name e =
    given_at (check_name name) (λ u. NameFits name) tt
    (unless NameTooLong _ _ (λ u. NameFits name)
    (λ b. refused_unless Acces (is_odd name) (λ u. NameFits name)
    (λ o. record {
      some = elim (cases_Bool (length name == 0)) [
        | inl t ↦ let o' = rw t at o in absurd cc
        | inr t ↦ let ne = eqb-false (length name) 0 t in omega (arith, ne)
      ];
      few = ltb-false 255 (length name) b;
    }))) e

pub entered : (name : List ℕ) → entry_name name ≡ Ok tt → NameFits name
entered name e =
    given_at (entry_name name) (λ u. NameFits name) tt
    (step (check_name name) _ (λ u. NameFits name)
    (λ u c. refused_unless Exist (is_dots name) (λ v. NameFits name) (λ d. checked name c))) e

pub with_entry_fits : (slots : Slots) (s : Slot) → SlotFits (Some s)
    → AllByRecursion SlotFits slots → AllByRecursion SlotFits (with_entry slots s)
unfolding with_entry
with_entry_fits [] s f h = (f, tt)
with_entry_fits (None ∷ slots) s f h = (f, h.1)
with_entry_fits (Some t ∷ slots) s f h = (h.0, with_entry_fits slots s f h.1)

-- the number of a slot that was found
pub found_number : (slots : Slots) (name : List ℕ) (x : ℕ × ℕ) → AllByRecursion SlotFits slots
    → IsFound slots name x → x.1 < 2 ^ 32
found_number slots name x h f =
    let slot : SlotFits (Some f.slot) =
    subst SlotFits f.at (all-at SlotFits slots x.0 None tt h) in
    let lt = slot.0 in omega (arith, lt, f.number)

-- ---- trees

pub fits_lost : (tree : Tree) (n : ℕ) (now : Time) → TimeFits now → TreeFits tree
    → TreeFits (lost_entry tree n now)
unfolding lost_entry
fits_lost tree n now t h =
    cond_both (names_of tree n == 0) (set tree n None) (change tree n (set_ctime now))
    (λ (x : Tree). TreeFits x) (λ e. all-set PlaceFits tree n None tt h)
    (λ e. fits_change tree n (set_ctime now) (keeps_ctime now t) h)

pub fits_removed : (tree : Tree) (dir : ℕ) (x : ℕ × ℕ) (now : Time) → TimeFits now → TreeFits tree
    → TreeFits (removed tree dir x now)
fits_removed tree dir x now t h =
    fits_lost (change tree dir (slot_changed now x.0 None)) x.1 now t
    (fits_change tree dir (slot_changed now x.0 None) (keeps_slot now x.0 None t tt) h)

pub fits_object : (tree : Tree) (dir : ℕ) (slots : Slots) (o : Object) (now : Time) → TimeFits now
    → AllByRecursion SlotFits slots → ObjectFits o → TreeFits tree
    → TreeFits (with_object tree dir slots o now)
fits_object tree dir slots o now t s f h =
    fits_change (tree ++ Some o ∷ []) dir (reslotted now slots) (keeps_reslotted now slots t s)
    (all-append PlaceFits tree (Some o ∷ []) h (f, tt))
