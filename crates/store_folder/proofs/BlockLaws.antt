-- Which blocks a set of pairs tells.
use Rattle.std.proofs.Common.{◌≡◌, ℕ, Bool, true, false, cond, [], ◌∷◌, List, refl, sym, ap, ◌∙◌, ◌==◌, ◌&&◌}
use Rattle.std.specs.Prelude.{◌||◌}
use Rattle.std.specs.List.{list_any}
use Rattle.std.specs.Bool.{if◌then◌else◌}
use Rattle.std.specs.Cmp.{unsigned_tied}
use Rattle.std.specs.Ordering.{nat_cmp, ordering_then, is_eq}
use Rattle.std.specs.declared.cmp.Ordering.{Ordering}
use Rattle.std.specs.declared.cmp.Ordering.TheVariants.{Less, Equal, Greater}
use Rattle.std.proofs.lemmas.Bool.{eqb-true, eqb-false, eq-eqb, ne_eqb}
use Rattle.harp_cells.specs.declared.cell.Cell.{Cell}
use Rattle.harp_cells.specs.declared.cell.Cell.TheVariants as cell
use Rattle.harp_cells.specs.Effect.{key, is_cell}
use Rattle.harp_cells.proofs.CellLemmas.{is_cell_true}
use Rattle.store_folder.specs.Unsynced.{is_stored}

abbrev pub Blocks : Type 0
Blocks = List (ℕ × ℕ)

-- what a set of pairs compares by
abbrev pub pair_cmp : ℕ × ℕ → ℕ × ℕ → Ordering
pair_cmp x y = ordering_then (nat_cmp x.0 y.0) (nat_cmp x.1 y.1)

abbrev pub is_pair : ℕ × ℕ → ℕ × ℕ → Bool
is_pair x y = (x.0 == y.0) && (x.1 == y.1)

tied_then : (a b : Ordering) → is_eq (ordering_then a b) ≡ (is_eq a && is_eq b)
tied_then Less b = refl
tied_then Equal b = refl
tied_then Greater b = refl

pub tied : (x y : ℕ × ℕ) → is_eq (pair_cmp x y) ≡ is_pair x y
tied x y =
    tied_then (nat_cmp x.0 y.0) (nat_cmp x.1 y.1)
    ∙ ap (λ (b : Bool). b && is_eq (nat_cmp x.1 y.1)) (unsigned_tied x.0 y.0)
    ∙ ap (λ (b : Bool). (x.0 == y.0) && b) (unsigned_tied x.1 y.1)

any_same : (p q : ℕ × ℕ → Bool) → ((x : ℕ × ℕ) → p x ≡ q x) → (blocks : Blocks)
    → list_any p blocks ≡ list_any q blocks
any_same p q h [] = refl
any_same p q h (x ∷ blocks) =
    ap (λ (b : Bool). b || list_any p blocks) (h x)
    ∙ ap (λ (b : Bool). q x || b) (any_same p q h blocks)

-- what is found by a pair
pub found_at : (blocks : Blocks) (x : ℕ × ℕ)
    → list_any (λ y. is_eq (pair_cmp x y)) blocks ≡ list_any (is_pair x) blocks
found_at blocks x = any_same (λ y. is_eq (pair_cmp x y)) (is_pair x) (tied x) blocks

eqb_by : (a b : ℕ) (same : Bool) → (b == a) ≡ same → (a == b) ≡ same
eqb_by a b true h = eq-eqb a b (sym (eqb-true b a h))
eqb_by a b false h = ne_eqb a b (λ e. eqb-false b a h (sym e))

and_assoc : (a b c : Bool) → ((a && b) && c) ≡ (a && (b && c))
and_assoc true b c = refl
and_assoc false b c = refl

stored_if : (kind same b old now : Bool) → now ≡ cond same b old
    → (kind && now) ≡ (if (kind && same) then b else (kind && old))
stored_if true same b old now e = e
stored_if false same b old now e = refl

-- which blocks are told after a pair was added or taken away
pub stored_after : (old new : Blocks) (object block : ℕ) (b : Bool)
    → ((x : ℕ × ℕ) → list_any (λ y. is_eq (pair_cmp x y)) new
    ≡ cond (is_eq (pair_cmp (object, block) x)) b (list_any (λ y. is_eq (pair_cmp x y)) old))
    → (c : Cell)
    → is_stored new c ≡ (if is_cell (cell.Block object block) c then b else is_stored old c)
unfolding is_stored is_cell
stored_after old new object block b h c =
    let k = key c in
    let x : ℕ × ℕ = (k.1, k.2) in
    let now : list_any (is_pair x) new
    ≡ cond (is_pair (object, block) x) b (list_any (is_pair x) old) =
    sym (found_at new x) ∙ h x
    ∙ ap (λ (same : Bool). cond same b (list_any (λ y. is_eq (pair_cmp x y)) old))
    (tied (object, block) x)
    ∙ ap (λ (was : Bool). cond (is_pair (object, block) x) b was) (found_at old x) in
    stored_if (k.0 == 3) (is_pair (object, block) x) b (list_any (is_pair x) old)
    (list_any (is_pair x) new) now
    ∙ ap (λ (same : Bool). if◌then◌else◌ same b ((k.0 == 3) && list_any (is_pair x) old))
    (ap (λ (kind : Bool). kind && is_pair (object, block) x) (sym (eqb_by 3 k.0 (k.0 == 3) refl))
    ∙ sym (and_assoc (3 == k.0) (object == k.1) (block == k.2)))

-- a cell that is no block isn't told
other_if : (same stored : Bool) → (same ≡ true → stored ≡ false)
    → stored ≡ (if same then false else stored)
other_if true stored h = h refl
other_if false stored h = refl

pub not_stored : (blocks : Blocks) (cell c : Cell) → ((key cell).0 == 3) ≡ false
    → is_stored blocks c ≡ (if is_cell cell c then false else is_stored blocks c)
unfolding is_stored
not_stored blocks cell c other =
    other_if (is_cell cell c) (is_stored blocks c) (λ same.
    ap (λ (d : Cell). is_stored blocks d) (sym (is_cell_true cell c same))
    ∙ ap (λ (b : Bool). b && list_any (λ y. ((key cell).1 == y.0) && ((key cell).2 == y.1)) blocks)
    other)

pub not_block : (c : Cell) → ((object block : ℕ) → c ≡ cell.Block object block → ⊥)
    → ((key c).0 == 3) ≡ false
not_block cell.Meta h = refl
not_block (cell.Object object) h = refl
not_block (cell.Block object block) h = absurd (h object block refl)
not_block (cell.Slot object slot) h = refl
not_block (cell.Client client) h = refl
not_block (cell.Saved place) h = refl
