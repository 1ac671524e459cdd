-- What a change of a directory's slots leaves, and what a tree has before its entries are right
-- again.
use Rattle.std.proofs.Common.{◌≡◌, ℕ, ◌+◌, ◌*◌, ◌<◌, true, length, set, Option, Some, None, refl, sym, ap, ◌∙◌, subst, arith, inl, inr}
use Rattle.std.proofs.lemmas.Bool.{cases_eq}
use Rattle.std.proofs.lemmas.List.{length-set, get_or-set_same, get_or-set_other}
use Rattle.std.proofs.lemmas.List.Sums.{sum_by-set}
use Rattle.harp_types.specs.declared.attr.Time.{Time}
use Rattle.file_tree.specs.declared.object.Body.{Body}
use Rattle.file_tree.specs.declared.object.Body.TheVariants.{Regular, Directory, Link}
use Rattle.file_tree.specs.declared.object.Object.{Object}
use Rattle.file_tree.specs.Tree.{Tree, Slots, place, slots_within, size_of, blocks_of, blocks_at, used_blocks, names_in, names_at, names_of, is_directory, is_directory_at}
use Rattle.file_tree.specs.Within.{IsWithinLimits}
use Rattle.file_tree.specs.Outcome.{change, changed_at, reslotted, slot_changed, slot_replaced}
use Rattle.file_tree.specs.Sound.{IsSoundObject, AreSound, HasEntries, IsNamed, IsSound}
use Rattle.file_tree.proofs.Kept.{place_within}
use Rattle.file_tree.proofs.Holders.{IsDirectory, AreNamed}
use Rattle.file_tree.proofs.Climbs.{Climbs, climbs_reach}

-- a directory's slots were changed, and its times maybe
pub record Reslots (old new : Tree) (dir : ℕ) (slots after : Slots) : Type 0 where
  pub was : Object
  pub becomes : Object
  pub at : place old dir ≡ Some was
  pub body : was.body ≡ Directory slots
  pub body_after : becomes.body ≡ Directory after
  pub mode : becomes.mode ≡ was.mode
  pub set_to : new ≡ set old dir (Some becomes)

pub change_is : (tree : Tree) (dir : ℕ) (f : Object → Object) (o : Object) → place tree dir ≡ Some o
    → change tree dir f ≡ set tree dir (Some (f o))
change_is tree dir f o e = ap (λ (x : Option Object). set tree dir (changed_at f x)) e

pub reslots_reslotted : (tree : Tree) (dir : ℕ) (o : Object) (slots after : Slots) (now : Time)
    → place tree dir ≡ Some o → o.body ≡ Directory slots
    → Reslots tree (change tree dir (reslotted now after)) dir slots after
reslots_reslotted tree dir o slots after now at body = record {
  was = o;
  becomes = reslotted now after o;
  at = at;
  body = body;
  body_after = refl;
  mode = refl;
  set_to = change_is tree dir (reslotted now after) o at;
}

pub reslots_changed : (tree : Tree) (dir : ℕ) (o : Object) (slots : Slots) (i : ℕ) (s : _)
    (now : Time) → place tree dir ≡ Some o → o.body ≡ Directory slots
    → Reslots tree (change tree dir (slot_changed now i s)) dir slots (set slots i s)
reslots_changed tree dir o slots i s now at body = record {
  was = o;
  becomes = slot_changed now i s o;
  at = at;
  body = body;
  body_after = ap (λ (b : Body). slot_replaced b i s) body;
  mode = refl;
  set_to = change_is tree dir (slot_changed now i s) o at;
}

pub place_set : (tree : Tree) (number : ℕ) (o new : Object) → place tree number ≡ Some o
    → place (set tree number (Some new)) number ≡ Some new
place_set tree number o new at =
    get_or-set_same tree number (Some new) None (place_within tree number o at)

-- ---- what a change of slots leaves

pub length_reslots : (old new : Tree) (dir : ℕ) (slots after : Slots)
    → Reslots old new dir slots after → length new ≡ length old
length_reslots old new dir slots after r = ap length r.set_to ∙ length-set old dir (Some r.becomes)

pub other_place : (old new : Tree) (dir : ℕ) (slots after : Slots) → Reslots old new dir slots after
    → (k : ℕ) → (k ≡ dir → ⊥) → place new k ≡ place old k
other_place old new dir slots after r k ne = ap (λ (t : Tree). place t k) r.set_to
    ∙ get_or-set_other old dir k (Some r.becomes) None ne

pub own_place : (old new : Tree) (dir : ℕ) (slots after : Slots)
    (r : Reslots old new dir slots after) → place new dir ≡ Some r.becomes
own_place old new dir slots after r = ap (λ (t : Tree). place t dir) r.set_to
    ∙ place_set old dir r.was r.becomes r.at

pub own_names : (old new : Tree) (dir : ℕ) (slots after : Slots)
    (r : Reslots old new dir slots after) (k : ℕ) → names_at k (place old dir) ≡ names_in k slots
own_names old new dir slots after r k = ap (names_at k) r.at
    ∙ ap (λ (b : Body). names_in k (slots_within b)) r.body

pub own_names_after : (old new : Tree) (dir : ℕ) (slots after : Slots)
    (r : Reslots old new dir slots after) (k : ℕ) → names_at k (place new dir) ≡ names_in k after
own_names_after old new dir slots after r k =
    ap (names_at k) (own_place old new dir slots after r)
    ∙ ap (λ (b : Body). names_in k (slots_within b)) r.body_after

pub names_reslots : (old new : Tree) (dir : ℕ) (slots after : Slots)
    → Reslots old new dir slots after → (k : ℕ)
    → names_of new k + names_in k slots ≡ names_of old k + names_in k after
unfolding names_of
names_reslots old new dir slots after r k =
    let whole =
    sum_by-set (names_at k) old dir (Some r.becomes) None (place_within old dir r.was r.at) in
    let before = own_names old new dir slots after r k in
    let then : names_at k (Some r.becomes) ≡ names_in k after =
    ap (λ (b : Body). names_in k (slots_within b)) r.body_after in
    rw r.set_to (omega (arith, whole, before, then))

pub used_reslots : (old new : Tree) (dir : ℕ) (slots after : Slots)
    → Reslots old new dir slots after
    → used_blocks new + blocks_of (264 * length slots)
    ≡ used_blocks old + blocks_of (264 * length after)
unfolding used_blocks
used_reslots old new dir slots after r =
    let whole =
    sum_by-set blocks_at old dir (Some r.becomes) None (place_within old dir r.was r.at) in
    let before : blocks_at (place old dir) ≡ blocks_of (264 * length slots) = ap blocks_at r.at
    ∙ ap (λ (b : Body). blocks_of (size_of b)) r.body in
    let then : blocks_at (Some r.becomes) ≡ blocks_of (264 * length after) =
    ap (λ (b : Body). blocks_of (size_of b)) r.body_after in
    rw r.set_to (omega (arith, whole, before, then))

pub was_directory : (old new : Tree) (dir : ℕ) (slots after : Slots)
    → Reslots old new dir slots after → IsDirectory old dir
was_directory old new dir slots after r = ap is_directory_at r.at ∙ ap is_directory r.body

pub kinds_reslots : (old new : Tree) (dir : ℕ) (slots after : Slots)
    → Reslots old new dir slots after → (k : ℕ)
    → is_directory_at (place new k) ≡ is_directory_at (place old k)
kinds_reslots old new dir slots after r k = elim (cases_eq k dir) [
  | inl e ↦
      rw e (ap is_directory_at (own_place old new dir slots after r) ∙ ap is_directory r.body_after
      ∙ sym (was_directory old new dir slots after r))
  | inr ne ↦ ap is_directory_at (other_place old new dir slots after r k ne)
]

-- ---- trees whose entries are counted apart

-- all of a sound tree but the limits, the entries, which are as many as `entries` says, and the way
-- up
pub record IsNearly (tree : Tree) (entries : ℕ → ℕ) : Type 0 where
  pub nothing_at_0 : place tree 0 ≡ None
  pub root : is_directory_at (place tree 1) ≡ true
  pub objects : (number : ℕ) → IsSoundObject (place tree number)
  pub named : (number : ℕ) → IsNamed number (place tree number) (entries number)

pub nearly : (tree : Tree) → IsSound tree → IsNearly tree (names_of tree)
nearly tree is =
    record {
      nothing_at_0 = is.nothing_at_0;
      root = is.root;
      objects = is.objects;
      named = is.entries;
    }

some_within : (tree : Tree) (number : ℕ) (x : Option Object) → place tree number ≡ x
    → is_directory_at x ≡ true → number < length tree
some_within tree number None e d = absurd cc
some_within tree number (Some o) e d = place_within tree number o e

pub directory_within : (tree : Tree) (number : ℕ) → IsDirectory tree number → number < length tree
directory_within tree number d = some_within tree number (place tree number) refl d

pub root_within : (tree : Tree) → is_directory_at (place tree 1) ≡ true → 1 < length tree
root_within tree root = directory_within tree 1 root

same_entries : (number : ℕ) (a b : Body) (entries : ℕ) → is_directory a ≡ is_directory b
    → HasEntries number a entries → HasEntries number b entries
same_entries number (Directory slots) (Directory other) entries e h = h
same_entries number (Regular bytes) (Regular other) entries e h = h
same_entries number (Regular bytes) (Link other) entries e h = h
same_entries number (Link text) (Regular other) entries e h = h
same_entries number (Link text) (Link other) entries e h = h
same_entries number (Directory slots) (Regular other) entries e h = absurd cc
same_entries number (Directory slots) (Link other) entries e h = absurd cc
same_entries number (Regular bytes) (Directory other) entries e h = absurd cc
same_entries number (Link text) (Directory other) entries e h = absurd cc

-- an object that keeps its kind is changed to a sound one
pub nearly_set : (tree : Tree) (number : ℕ) (o new : Object) (entries : ℕ → ℕ)
    → IsNearly tree entries → place tree number ≡ Some o
    → is_directory new.body ≡ is_directory o.body → IsSoundObject (Some new)
    → IsNearly (set tree number (Some new)) entries
nearly_set tree number o new entries is at kind sound = record {
  nothing_at_0 =
      let ne : 0 ≡ number → ⊥ = λ (e : 0 ≡ number). let none : place tree number ≡ None =
      rw (sym e) is.nothing_at_0 in absurd cc in
      get_or-set_other tree number 0 (Some new) None ne ∙ is.nothing_at_0;
  root = elim (cases_eq 1 number) [
    | inl e ↦
        let d : is_directory_at (place tree number) ≡ true = rw (sym e) is.root in
        rw e (ap is_directory_at (place_set tree number o new at) ∙ kind
        ∙ sym (ap is_directory_at at) ∙ d)
    | inr ne ↦ ap is_directory_at (get_or-set_other tree number 1 (Some new) None ne) ∙ is.root
  ];
  objects = λ k. elim (cases_eq k number) [
    | inl e ↦
        subst IsSoundObject (sym (ap (λ (n : ℕ). place (set tree number (Some new)) n) e
        ∙ place_set tree number o new at)) sound
    | inr ne ↦
        subst IsSoundObject (sym (get_or-set_other tree number k (Some new) None ne)) (is.objects k)
  ];
  named = λ k. elim (cases_eq k number) [
    | inl e ↦
        let old : IsNamed k (Some o) (entries k) =
        subst (λ (x : Option Object). IsNamed k x (entries k))
        (ap (λ (n : ℕ). place tree n) e ∙ at) (is.named k) in
        subst (λ (x : Option Object). IsNamed k x (entries k))
        (sym (ap (λ (n : ℕ). place (set tree number (Some new)) n) e
        ∙ place_set tree number o new at))
        (same_entries k o.body new.body (entries k) (sym kind) old)
    | inr ne ↦
        subst (λ (x : Option Object). IsNamed k x (entries k))
        (sym (get_or-set_other tree number k (Some new) None ne)) (is.named k)
  ];
}

mode_of : (x : Option Object) (o : Object) → x ≡ Some o → IsSoundObject x → o.mode < 4096
mode_of None o e h = absurd cc
mode_of (Some p) o e h = let same : p ≡ o = cc in rw (sym same) h.0

-- a directory gets other sound slots
pub nearly_reslots : (old new : Tree) (dir : ℕ) (slots after : Slots) (entries : ℕ → ℕ)
    → Reslots old new dir slots after → IsNearly old entries → AreSound after
    → IsNearly new entries
nearly_reslots old new dir slots after entries r is sound =
    let kind : is_directory r.becomes.body ≡ is_directory r.was.body = ap is_directory r.body_after
    ∙ sym (ap is_directory r.body) in
    let mode : r.becomes.mode < 4096 =
    rw r.mode (mode_of (place old dir) r.was r.at (is.objects dir)) in
    rw r.set_to (nearly_set old dir r.was r.becomes entries is r.at kind
    (mode, rw r.body_after sound))

-- a tree is sound where its entries are as many as counted, its limits hold and its directories
-- climb
pub sound_from : (tree : Tree) (entries : ℕ → ℕ) → IsNearly tree entries
    → ((number : ℕ) → names_of tree number ≡ entries number) → IsWithinLimits tree
    → ((number : ℕ) → IsDirectory tree number → Climbs tree number) → IsSound tree
sound_from tree entries is same limits climbs =
    let named : AreNamed tree = λ (number : ℕ). rw (same number) (is.named number) in
    record {
      limits = limits;
      nothing_at_0 = is.nothing_at_0;
      root = is.root;
      objects = is.objects;
      entries = named;
      reaches = λ number d. climbs_reach tree number named (root_within tree is.root)
          (directory_within tree number d) d (climbs number d);
    }
