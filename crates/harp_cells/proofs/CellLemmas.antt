-- When two cells are the same.
use Rattle.std.proofs.Common.{◌≡◌, ℕ, ◌≤◌, true, cond, refl, sym, ap, ◌∙◌, ◌==◌, ◌&&◌}
use Rattle.std.specs.Prelude.{nat_le}
use Rattle.std.proofs.lemmas.Bool.{and_parts, and_from, eqb-true, eq-eqb, leb-true}
use Rattle.harp_cells.specs.declared.cell.Cell.{Cell}
use Rattle.harp_cells.specs.declared.cell.Cell.TheVariants.{Meta, Object, Block, Slot, Client, Saved}
use Rattle.harp_cells.specs.Effect.{key, is_key, is_cell, is_block_key}

-- ---- the same cell

pub same_key : (k l : ℕ × ℕ × ℕ) → is_key k l ≡ true → k ≡ l
same_key (a, b, c) (x, y, z) h =
    let h1 = and_parts ((a == x) && (b == y)) (c == z) h in
    let h2 = and_parts (a == x) (b == y) h1.0 in
    ap (λ (n : ℕ). (n, b, c)) (eqb-true a x h2.0) ∙ ap (λ (n : ℕ). (x, n, c)) (eqb-true b y h2.1)
    ∙ ap (λ (n : ℕ). (x, y, n)) (eqb-true c z h1.1)

-- the cell of a key
cell_of : ℕ × ℕ × ℕ → Cell
cell_of (kind, first, second) =
    cond (kind == 1) Meta (cond (kind == 2) (Object first) (cond (kind == 3) (Block first second)
    (cond (kind == 4) (Slot first second) (cond (kind == 5) (Client first) (Saved first)))))

cell_of-key : (c : Cell) → cell_of (key c) ≡ c
unfolding cell_of
cell_of-key Meta = refl
cell_of-key (Object object) = refl
cell_of-key (Block object block) = refl
cell_of-key (Slot object slot) = refl
cell_of-key (Client client) = refl
cell_of-key (Saved place) = refl

pub is_cell_true : (a b : Cell) → is_cell a b ≡ true → a ≡ b
unfolding is_cell
is_cell_true a b h = sym (cell_of-key a) ∙ ap cell_of (same_key (key a) (key b) h) ∙ cell_of-key b

is_key_itself : (k : ℕ × ℕ × ℕ) → is_key k k ≡ true
is_key_itself (a, b, c) =
    and_from ((a == a) && (b == b)) (c == c)
    (and_from (a == a) (b == b) (eq-eqb a a refl) (eq-eqb b b refl)) (eq-eqb c c refl)

pub is_cell_itself : (a b : Cell) → a ≡ b → is_cell a b ≡ true
unfolding is_cell
is_cell_itself a b e = ap (λ (c : Cell). is_key (key a) (key c)) (sym e) ∙ is_key_itself (key a)

pub alike : (a b c : Cell) → is_cell a b ≡ true → is_cell a c ≡ is_cell b c
unfolding is_cell
alike a b c h = ap (λ (k : ℕ × ℕ × ℕ). is_key k (key c)) (same_key (key a) (key b) h)

-- ---- blocks of an object

pub is_block_key_parts : (object first : ℕ) (k : ℕ × ℕ × ℕ) → is_block_key object first k ≡ true
    → (k.0 ≡ 3) × (k.1 ≡ object) × (first ≤ k.2)
is_block_key_parts object first k h =
    let both = and_parts ((k.0 == 3) && (k.1 == object)) (nat_le first k.2) h in
    let same = and_parts (k.0 == 3) (k.1 == object) both.0 in
    (eqb-true k.0 3 same.0, eqb-true k.1 object same.1, leb-true first k.2 both.1)
