-- What a tree keeps where one place is set.
use Rattle.std.proofs.Common.{◌≡◌, ℕ, ◌+◌, ◌<◌, ◌≤◌, ◌==◌, true, false, length, set, Option, Some, None, refl, sym, ap, ◌∙◌, subst, arith, inl, inr}
use Rattle.std.proofs.lemmas.Bool.{cases_eq, ne_eqb}
use Rattle.std.proofs.lemmas.List.{length-set, get_or-set_same, get_or-set_other}
use Rattle.std.proofs.lemmas.List.Sums.{sum_by-set}
use Rattle.harp_types.specs.declared.attr.Time.{Time}
use Rattle.file_tree.specs.declared.object.Object.{Object}
use Rattle.file_tree.specs.Tree.{Tree, place, blocks_at, used_blocks, names_at, names_of, is_directory_at}
use Rattle.file_tree.specs.Outcome.{change, set_ctime, lost_entry}
use Rattle.file_tree.proofs.Kept.{place_within}
use Rattle.file_tree.proofs.Holders.{Holds}
use Rattle.file_tree.proofs.Reslots.{change_is}

-- a number's place had one object and got another
pub record IsSet (old new : Tree) (number : ℕ) (a b : Option Object) : Type 0 where
  pub within : number < length old
  pub was : place old number ≡ a
  pub set_to : new ≡ set old number b

pub place_at : {old new : Tree} {number : ℕ} {a b : Option Object} → IsSet old new number a b
    → place new number ≡ b
place_at {old} {new} {number} {a} {b} s = ap (λ (t : Tree). place t number) s.set_to
    ∙ get_or-set_same old number b None s.within

pub place_other : {old new : Tree} {number : ℕ} {a b : Option Object} → IsSet old new number a b
    → (k : ℕ) → (k ≡ number → ⊥) → place new k ≡ place old k
place_other {old} {new} {number} {a} {b} s k ne = ap (λ (t : Tree). place t k) s.set_to
    ∙ get_or-set_other old number k b None ne

pub length_on : {old new : Tree} {number : ℕ} {a b : Option Object} → IsSet old new number a b
    → length new ≡ length old
length_on {old} {new} {number} {a} {b} s = ap length s.set_to ∙ length-set old number b

pub names_on : {old new : Tree} {number : ℕ} {a b : Option Object} → IsSet old new number a b
    → (k : ℕ)
    → names_of new k + names_at k a ≡ names_of old k + names_at k b
unfolding names_of
names_on {old} {new} {number} {a} {b} s k =
    let whole = sum_by-set (names_at k) old number b None s.within in
    let before : names_at k (place old number) ≡ names_at k a = ap (names_at k) s.was in
    rw s.set_to (omega (arith, whole, before))

pub used_on : {old new : Tree} {number : ℕ} {a b : Option Object} → IsSet old new number a b
    → used_blocks new + blocks_at a ≡ used_blocks old + blocks_at b
unfolding used_blocks
used_on {old} {new} {number} {a} {b} s =
    let whole = sum_by-set blocks_at old number b None s.within in
    let before : blocks_at (place old number) ≡ blocks_at a = ap blocks_at s.was in
    rw s.set_to (omega (arith, whole, before))

-- entries of an object stay where the place has no fewer
pub holds_on : {old new : Tree} {number : ℕ} {a b : Option Object} → IsSet old new number a b
    → (m : ℕ) → names_at m a ≤ names_at m b
    → (d : ℕ) → Holds old d m → Holds new d m
holds_on {old} {new} {number} {a} {b} s m le d h = elim (cases_eq d number) [
  | inl e ↦
      let before : 1 ≤ names_at m (place old number) = subst (λ (n : ℕ). Holds old n m) e h in
      let here : Holds new number m =
      omega (arith, before, ap (names_at m) s.was, ap (names_at m) (place_at s), le) in
      subst (λ (n : ℕ). Holds new n m) (sym e) here
  | inr ne ↦ let same = ap (names_at m) (place_other s d ne) in omega (arith, h, same)
]

-- kinds stay where the place keeps its
pub kinds_on : {old new : Tree} {number : ℕ} {a b : Option Object} → IsSet old new number a b
    → is_directory_at b ≡ is_directory_at a
    → (k : ℕ) → is_directory_at (place new k) ≡ is_directory_at (place old k)
kinds_on {old} {new} {number} {a} {b} s same k = elim (cases_eq k number) [
  | inl e ↦ rw e (ap is_directory_at (place_at s) ∙ same ∙ sym (ap is_directory_at s.was))
  | inr ne ↦ ap is_directory_at (place_other s k ne)
]

pub set_by_change : (tree : Tree) (number : ℕ) (f : Object → Object) (o : Object)
    → place tree number ≡ Some o
    → IsSet tree (change tree number f) number (Some o) (Some (f o))
set_by_change tree number f o at =
    record {
      within = place_within tree number o at;
      was = at;
      set_to = change_is tree number f o at;
    }

-- an object that has no entry left goes
pub set_by_last : (tree : Tree) (number : ℕ) (o : Object) (now : Time) → place tree number ≡ Some o
    → names_of tree number ≡ 0
    → IsSet tree (lost_entry tree number now) number (Some o) None
unfolding lost_entry
set_by_last tree number o now at e =
    let t : (names_of tree number == 0) ≡ true = rw e refl in
    record { within = place_within tree number o at; was = at; set_to = rw t refl }

-- one that has some left stays
pub set_by_loss : (tree : Tree) (number : ℕ) (o : Object) (now : Time) → place tree number ≡ Some o
    → 1 ≤ names_of tree number
    → IsSet tree (lost_entry tree number now) number (Some o) (Some (set_ctime now o))
unfolding lost_entry
set_by_loss tree number o now at some =
    let t : (names_of tree number == 0) ≡ false =
    ne_eqb (names_of tree number) 0 (λ e. omega (arith, e, some)) in
    record {
      within = place_within tree number o at;
      was = at;
      set_to = rw t (change_is tree number (set_ctime now) o at);
    }
