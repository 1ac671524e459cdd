-- What waits behind changes of cells.
use Rattle.std.proofs.Common.{◌≡◌, ℕ, Bool, true, false, cond, [], ◌∷◌, List, Option, Some, None, refl, sym, ap, subst, ◌∙◌}
use Rattle.std.specs.Map.{lookup}
use Rattle.std.specs.Ordering.{is_eq}
use Rattle.std.specs.Bool.{if◌then◌else◌}
use Rattle.harp_cells.specs.declared.cell.Cell.{Cell}
use Rattle.harp_cells.specs.declared.change.Change.{Change}
use Rattle.harp_cells.specs.declared.change.Change.TheVariants as change
use Rattle.harp_cells.specs.declared.value.Value.{Value}
use Rattle.harp_cells.specs.Effect.{key, is_key, is_cell}
use Rattle.harp_cells.proofs.KeyOrder.{key_cmp, tied}
use Rattle.store_journal.specs.Waiting.{Entries, change_in, made_by, single, waiting_after}

lookup_same : (p q : ℕ × ℕ × ℕ → Bool) → ((k : ℕ × ℕ × ℕ) → p k ≡ q k) → (entries : Entries)
    → lookup p entries ≡ lookup q entries
lookup_same p q h [] = refl
lookup_same p q h (e ∷ entries) =
    ap (λ (b : Bool). cond b (Some e.1) (lookup p entries)) (h e.0)
    ∙ ap (λ (o : Option Change). cond (q e.0) (Some e.1) o) (lookup_same p q h entries)

at_key : (entries : Entries) (c : Cell)
    → lookup (λ k. is_eq (key_cmp (key c) k)) entries ≡ change_in entries c
unfolding change_in
at_key entries c =
    lookup_same (λ k. is_eq (key_cmp (key c) k)) (is_key (key c)) (λ k. tied (key c) k) entries

-- what is found by the key of a cell
pub found_at : (entries : Entries) (c : Cell) (at : ℕ × ℕ × ℕ) → at ≡ key c
    → lookup (λ k. is_eq (key_cmp at k)) entries ≡ change_in entries c
found_at entries c at e = ap (λ (k : ℕ × ℕ × ℕ). lookup (λ l. is_eq (key_cmp k l)) entries) e
    ∙ at_key entries c

-- the changes after the one at the key of a cell was put or removed
pub change_after : (old new : Entries) (cell : Cell) (at : ℕ × ℕ × ℕ) (w : Option Change)
    → at ≡ key cell
    → ((k : ℕ × ℕ × ℕ) → lookup (λ l. is_eq (key_cmp k l)) new
    ≡ cond (is_eq (key_cmp at k)) w (lookup (λ l. is_eq (key_cmp k l)) old))
    → (c : Cell) → change_in new c ≡ (if is_cell cell c then w else change_in old c)
unfolding is_cell
change_after old new cell at w e h c =
    sym (at_key new c) ∙ h (key c) ∙ ap
    (λ (b : Bool). cond b w (lookup (λ l. is_eq (key_cmp (key c) l)) old)) (tied at (key c))
    ∙ ap (λ (k : ℕ × ℕ × ℕ). cond (is_key k (key c)) w
    (lookup (λ l. is_eq (key_cmp (key c) l)) old)) e
    ∙ ap (λ (o : Option Change). cond (is_key (key cell) (key c)) w o) (at_key old c)

made_if : (same : Bool) (w old : Option Change)
    → made_by (if same then w else old) ≡ (if same then made_by w else made_by old)
made_if true w old = refl
made_if false w old = refl

cell_is : (c d : Cell) → Some c ≡ Some d → c ≡ d
cell_is c d e = cc

none_some : (d : Cell) → None ≡ Some d → ⊥
none_some d e = absurd cc

added_if : (x : Change) (cell c : Cell) (old : Option Change) → single x ≡ Some cell
    → (if is_cell cell c then made_by (Some x) else made_by old) ≡ waiting_after c (made_by old) x
added_if (change.Put d value) cell c old e =
    ap (λ (a : Cell). if◌then◌else◌ (is_cell a c) (Some (Some value)) (made_by old)) (sym (cell_is d cell e))
added_if (change.Erase d) cell c old e =
    ap (λ (a : Cell). if◌then◌else◌ (is_cell a c) (Some None) (made_by old)) (sym (cell_is d cell e))
added_if (change.EraseFrom object first) cell c old e = absurd (none_some cell e)

-- what waits after a change was put at the key of its cell
pub added_waits : (old new : Entries) (x : Change) (cell : Cell) (at : ℕ × ℕ × ℕ)
    → single x ≡ Some cell → at ≡ key cell
    → ((k : ℕ × ℕ × ℕ) → lookup (λ l. is_eq (key_cmp k l)) new
    ≡ cond (is_eq (key_cmp at k)) (Some x) (lookup (λ l. is_eq (key_cmp k l)) old))
    → (c : Cell) → made_by (change_in new c) ≡ waiting_after c (made_by (change_in old c)) x
added_waits old new x cell at is e h c =
    ap made_by (change_after old new cell at (Some x) e h c)
    ∙ made_if (is_cell cell c) (Some x) (change_in old c)
    ∙ added_if x cell c (change_in old c) is

-- and after it was removed
pub settled_waits : (old new : Entries) (cell : Cell) (at : ℕ × ℕ × ℕ) → at ≡ key cell
    → ((k : ℕ × ℕ × ℕ) → lookup (λ l. is_eq (key_cmp k l)) new
    ≡ cond (is_eq (key_cmp at k)) None (lookup (λ l. is_eq (key_cmp k l)) old))
    → (c : Cell) → made_by (change_in new c) ≡ (if is_cell cell c then None else made_by (change_in old c))
settled_waits old new cell at e h c =
    ap made_by (change_after old new cell at None e h c)
    ∙ made_if (is_cell cell c) None (change_in old c)

unadded : (x : Change) (c : Cell) (made : Option (Option Value)) → single x ≡ None
    → made ≡ waiting_after c made x
unadded (change.Put d value) c made e = absurd cc
unadded (change.Erase d) c made e = absurd cc
unadded (change.EraseFrom object first) c made e = refl

-- a change of more cells than one doesn't wait
pub none_added : (entries : Entries) (x : Change) → single x ≡ None
    → (c : Cell) → made_by (change_in entries c) ≡ waiting_after c (made_by (change_in entries c)) x
none_added entries x e c = unadded x c (made_by (change_in entries c)) e
