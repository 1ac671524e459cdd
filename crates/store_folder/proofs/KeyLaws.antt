-- What maps by keys and by objects tell of cells.
use Rattle.std.proofs.Common.{◌≡◌, ℕ, Bool, true, false, cond, [], ◌∷◌, List, Option, Some, None, refl, sym, ap, subst, ◌∙◌}
use Rattle.std.specs.Prelude.{Contains, IfSome, is_some}
use Rattle.std.specs.Map.{lookup}
use Rattle.std.specs.Ordering.{is_eq}
use Rattle.std.specs.Bool.{if◌then◌else◌}
use Rattle.harp_cells.specs.declared.cell.Cell.{Cell}
use Rattle.harp_cells.specs.Effect.{key, is_key, is_cell}
use Rattle.std.proofs.lemmas.Map.Views.{Contains-from_lookup}
use Rattle.harp_cells.proofs.KeyOrder.{key_cmp, tied}
use Rattle.harp_cells.proofs.CellLemmas.{is_cell_true, same_key}
use Rattle.store_folder.specs.Unsynced.{IsKeyed, is_touched}

abbrev Entries : Type 0
Entries = List ((ℕ × ℕ × ℕ) × Cell)

-- two tests that agree find the same
lookup_same : (p q : ℕ × ℕ × ℕ → Bool) → ((k : ℕ × ℕ × ℕ) → p k ≡ q k) → (touched : Entries)
    → lookup p touched ≡ lookup q touched
lookup_same p q h [] = refl
lookup_same p q h (e ∷ touched) =
    ap (λ (b : Bool). cond b (Some e.1) (lookup p touched)) (h e.0)
    ∙ ap (λ (o : Option Cell). cond (q e.0) (Some e.1) o) (lookup_same p q h touched)

at_key : (touched : Entries) (c : Cell)
    → is_some (lookup (λ k. is_eq (key_cmp (key c) k)) touched) ≡ is_touched touched c
unfolding is_touched
at_key touched c =
    ap is_some
    (lookup_same (λ k. is_eq (key_cmp (key c) k)) (is_key (key c)) (λ k. tied (key c) k) touched)

-- what is found by the key of a cell
pub found_at : (touched : Entries) (c : Cell) (at : ℕ × ℕ × ℕ) → at ≡ key c
    → is_some (lookup (λ k. is_eq (key_cmp at k)) touched) ≡ is_touched touched c
found_at touched c at e =
    ap (λ (k : ℕ × ℕ × ℕ). is_some (lookup (λ l. is_eq (key_cmp k l)) touched)) e
    ∙ at_key touched c

some_if : (b : Bool) (w : Cell) (o : Option Cell)
    → is_some (cond b (Some w) o) ≡ (if b then true else is_some o)
some_if true w o = refl
some_if false w o = refl

-- which cells are touched after a cell was put in the map at its key
pub touched_after : (old new : Entries) (cell : Cell) (at : ℕ × ℕ × ℕ) (w : Cell) → at ≡ key cell
    → ((k : ℕ × ℕ × ℕ) → lookup (λ l. is_eq (key_cmp k l)) new
    ≡ cond (is_eq (key_cmp at k)) (Some w) (lookup (λ l. is_eq (key_cmp k l)) old))
    → (c : Cell)
    → is_touched new c ≡ (if is_cell cell c then true else is_touched old c)
unfolding is_cell
touched_after old new cell at w e h c =
    sym (at_key new c) ∙ ap is_some (h (key c))
    ∙ some_if (is_eq (key_cmp at (key c))) w (lookup (λ l. is_eq (key_cmp (key c) l)) old)
    ∙ ap (λ (b : Bool). if◌then◌else◌ b true
    (is_some (lookup (λ l. is_eq (key_cmp (key c) l)) old))) (tied at (key c))
    ∙ ap (λ (k : ℕ × ℕ × ℕ). if◌then◌else◌ (is_key k (key c)) true
    (is_some (lookup (λ l. is_eq (key_cmp (key c) l)) old))) e
    ∙ ap (λ (b : Bool). if◌then◌else◌ (is_key (key cell) (key c)) true b) (at_key old c)

keyed_if : (same : Bool) (cell c : Cell) (old : Option Cell) → is_cell cell c ≡ same
    → IfSome old (λ d. d ≡ c) → IfSome (if◌then◌else◌ same (Some cell) old) (λ d. d ≡ c)
keyed_if true cell c old e h = is_cell_true cell c e
keyed_if false cell c old e h = h

-- each cell still stands at its own key
pub keyed_after : (old new : Entries) (cell : Cell) (at : ℕ × ℕ × ℕ) → at ≡ key cell
    → ((k : ℕ × ℕ × ℕ) → lookup (λ l. is_eq (key_cmp k l)) new
    ≡ cond (is_eq (key_cmp at k)) (Some cell) (lookup (λ l. is_eq (key_cmp k l)) old))
    → IsKeyed old → IsKeyed new
unfolding is_cell
keyed_after old new cell at e h keyed c =
    let now : lookup (is_key (key c)) new
    ≡ (if is_cell cell c then Some cell else lookup (is_key (key c)) old) =
    sym (lookup_same (λ k. is_eq (key_cmp (key c) k)) (is_key (key c)) (λ k. tied (key c) k) new)
    ∙ h (key c)
    ∙ ap (λ (b : Bool). cond b (Some cell) (lookup (λ l. is_eq (key_cmp (key c) l)) old))
    (tied at (key c))
    ∙ ap (λ (k : ℕ × ℕ × ℕ). cond (is_key k (key c)) (Some cell)
    (lookup (λ l. is_eq (key_cmp (key c) l)) old)) e
    ∙ ap (λ (o : Option Cell). cond (is_key (key cell) (key c)) (Some cell) o)
    (lookup_same (λ k. is_eq (key_cmp (key c) k)) (is_key (key c)) (λ k. tied (key c) k) old) in
    subst (λ (o : Option Cell). IfSome o (λ d. d ≡ c)) (sym now)
    (keyed_if (is_cell cell c) cell c (lookup (is_key (key c)) old) refl (keyed c))

entry_in : (touched : Entries) (c : Cell) (o : Option Cell)
    → lookup (is_key (key c)) touched ≡ o → is_some o ≡ true → IfSome o (λ d. d ≡ c)
    → Contains touched (key c, c)
entry_in touched c None e there same = absurd cc
entry_in touched c (Some d) e there same =
    subst (λ (w : Cell). Contains touched (key c, w)) same
    (Contains-from_lookup same_key (key c) d touched e)

-- a cell that was put or erased is among the entries
pub touched_in : (touched : Entries) → IsKeyed touched → (c : Cell)
    → is_touched touched c ≡ true → Contains touched (key c, c)
unfolding is_touched
touched_in touched keyed c there =
    entry_in touched c (lookup (is_key (key c)) touched) refl there (keyed c)
