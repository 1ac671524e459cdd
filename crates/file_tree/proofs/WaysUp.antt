-- Directories go on climbing where entries of other objects go, and where one directory moves.
use Rattle.std.proofs.Common.{◌≡◌, ℕ, ◌≤◌, ◌==◌, false, length, Option, Some, None, refl, sym, subst, arith, inl, inr}
use Rattle.std.proofs.lemmas.Bool.{cases_eq, or_parts, eqb-false}
use Rattle.file_tree.specs.declared.object.Body.{Body}
use Rattle.file_tree.specs.declared.object.Body.TheVariants.{Regular, Directory, Link}
use Rattle.file_tree.specs.declared.object.Object.{Object}
use Rattle.file_tree.specs.Tree.{Tree, place, slots_within, names_in, names_at, is_directory, is_directory_at, parent_of}
use Rattle.file_tree.specs.Sound.{IsSound}
use Rattle.file_tree.specs.Rename.{is_above}
use Rattle.file_tree.proofs.Holders.{Holds, IsDirectory}
use Rattle.file_tree.proofs.Climbs.{Climbs, up, climbs_on}

-- an object without an entry of its own
abbrev pub IsBare : Tree → ℕ → Type 0
IsBare tree number = (k : ℕ) → names_at k (place tree number) ≡ 0

not_bare : (tree : Tree) (number dir k : ℕ) → IsBare tree number → Holds tree dir k → dir ≡ number
    → ⊥
not_bare tree number dir k bare held e = let none = bare k in
    let h : 1 ≤ names_at k (place tree number) = subst (λ (n : ℕ). Holds tree n k) e held in
    omega (arith, none, h)

bare_body : (b : Body) (k : ℕ) → is_directory b ≡ false → names_in k (slots_within b) ≡ 0
bare_body (Directory slots) k d = absurd cc
bare_body (Regular bytes) k d = refl
bare_body (Link text) k d = refl

bare_at : (x : Option Object) (k : ℕ) → is_directory_at x ≡ false → names_at k x ≡ 0
bare_at None k d = refl
bare_at (Some o) k d = bare_body o.body k d

pub file_is_bare : (tree : Tree) (number : ℕ) → is_directory_at (place tree number) ≡ false
    → IsBare tree number
file_is_bare tree number d k = bare_at (place tree number) k d

-- directories other than two keep the entries that name them
abbrev pub KeepsHolders : Tree → Tree → ℕ → ℕ → Type 0
KeepsHolders old new x y = (dir number : ℕ) → IsDirectory old number → (number ≡ x → ⊥)
    → (number ≡ y → ⊥) → Holds old dir number → Holds new dir number

-- where the two are bare, the others climb
pub others_climb : (old new : Tree) (x y : ℕ) → IsSound old → IsBare old x → IsBare old y
    → KeepsHolders old new x y
    → (number : ℕ) → IsDirectory old number → (number ≡ x → ⊥) → (number ≡ y → ⊥)
    → Climbs new number
others_climb old new x y is no_x no_y keeps number d not_x not_y =
    climbs_on old new (λ levels m. (m ≡ x → ⊥) × (m ≡ y → ⊥)) is.entries
    (λ levels m dm ne held q. inr (
      keeps (parent_of old m) m dm q.0 q.1 held,
      (not_bare old x (parent_of old m) m no_x held, not_bare old y (parent_of old m) m no_y held),
    ))
    (length old) number (is.reaches number d) d (not_x, not_y)

below_another : (old new : Tree) (x y to : ℕ) → IsSound old → IsBare old y
    → KeepsHolders old new x y
    → is_above (length old) old x to ≡ false → IsDirectory old to → (to ≡ y → ⊥) → Climbs new to
unfolding is_above
below_another old new x y to is no_y keeps apart d not_y =
    climbs_on old new (λ levels m. (m ≡ y → ⊥) × (is_above levels old x m ≡ false)) is.entries
    (λ levels m dm ne held q.
    let parts = or_parts (m == x) _ q.1 in
    inr (
      keeps (parent_of old m) m dm (eqb-false m x parts.0) q.0 held,
      (not_bare old y (parent_of old m) m no_y held, parts.1),
    ))
    (length old) to (is.reaches to d) d (not_y, apart)

-- where x moves into a directory that isn't below it, and y is bare, the others climb
pub moved_climb : (old new : Tree) (x y to : ℕ) → IsSound old → IsBare old y
    → KeepsHolders old new x y
    → is_above (length old) old x to ≡ false → IsDirectory old to → (to ≡ y → ⊥) → Holds new to x
    → (number : ℕ) → IsDirectory old number → (number ≡ y → ⊥) → Climbs new number
moved_climb old new x y to is no_y keeps apart d not_y held number dn ny =
    let moved : Climbs new x =
    up to x held (below_another old new x y to is no_y keeps apart d not_y) in
    climbs_on old new (λ levels m. m ≡ y → ⊥) is.entries
    (λ levels m dm ne h q. elim (cases_eq m x) [
      | inl e ↦ inl (subst (Climbs new) (sym e) moved)
      | inr nx ↦
          inr (keeps (parent_of old m) m dm nx q h, not_bare old y (parent_of old m) m no_y h)
    ])
    (length old) number (is.reaches number dn) dn ny
