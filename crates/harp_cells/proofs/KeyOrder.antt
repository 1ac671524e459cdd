-- The order of keys, and what a map by keys holds of cells.
use Rattle.std.proofs.Common.{◌≡◌, ℕ, ◌<◌, ◌≤◌, Bool, true, false, cond, [], ◌∷◌, Option, Some, None, refl, sym, ap, ◌∙◌, subst, arith, ◌==◌, ◌&&◌}
use Rattle.std.specs.BTreeMap.{BTreeMap}
use Rattle.std.specs.BTreeMap.Range.{IsRangeOf}
use Rattle.std.specs.Prelude.{IsSome, nat_le}
use Rattle.std.specs.Bool.{if◌then◌else◌}
use Rattle.std.specs.Cmp.{ranks, unsigned_tied}
use Rattle.std.specs.Map.{lookup}
use Rattle.std.specs.Ordering.{nat_cmp, ordering_then, is_eq, is_gt, MatchOrdering}
use Rattle.std.specs.declared.cmp.Ordering.{Ordering}
use Rattle.std.specs.declared.cmp.Ordering.TheVariants.{Less, Equal, Greater}
use Rattle.std.specs.declared.ops.Bound.TheVariants.{Included, Unbounded}
use Rattle.std.proofs.lemmas.Bool.{and_from, eq-eqb, le-leb}
use Rattle.harp_cells.specs.declared.cell.Cell.{Cell}
use Rattle.harp_cells.specs.declared.cell.Cell.TheVariants.{Block}
use Rattle.harp_cells.specs.declared.value.Value.{Value}
use Rattle.harp_cells.specs.Effect.{key, is_key, is_cell, is_block_key, is_block_from}
use Rattle.harp_cells.specs.Memory.{Entries, cell_in}
use Rattle.harp_cells.proofs.CellLemmas.{is_cell_true, is_block_key_parts}

-- what a map of these keys compares by
abbrev pub key_cmp : ℕ × ℕ × ℕ → ℕ × ℕ × ℕ → Ordering
key_cmp x y = ordering_then (ordering_then (nat_cmp x.0 y.0) (nat_cmp x.1 y.1)) (nat_cmp x.2 y.2)

tied_then : (a b : Ordering) → is_eq (ordering_then a b) ≡ (is_eq a && is_eq b)
tied_then Less b = refl
tied_then Equal b = refl
tied_then Greater b = refl

-- keys are tied where they are the same
pub tied : (k l : ℕ × ℕ × ℕ) → is_eq (key_cmp k l) ≡ is_key k l
tied k l =
    tied_then (ordering_then (nat_cmp k.0 l.0) (nat_cmp k.1 l.1)) (nat_cmp k.2 l.2)
    ∙ ap (λ (b : Bool). b && is_eq (nat_cmp k.2 l.2))
    (tied_then (nat_cmp k.0 l.0) (nat_cmp k.1 l.1))
    ∙ ap (λ (b : Bool). (b && is_eq (nat_cmp k.1 l.1)) && is_eq (nat_cmp k.2 l.2))
    (unsigned_tied k.0 l.0)
    ∙ ap (λ (b : Bool). ((k.0 == l.0) && b) && is_eq (nat_cmp k.2 l.2)) (unsigned_tied k.1 l.1)
    ∙ ap (λ (b : Bool). ((k.0 == l.0) && (k.1 == l.1)) && b) (unsigned_tied k.2 l.2)

-- two tests that agree find the same value
pub lookup_same : (p q : ℕ × ℕ × ℕ → Bool) → ((k : ℕ × ℕ × ℕ) → p k ≡ q k) → (entries : Entries)
    → lookup p entries ≡ lookup q entries
lookup_same p q h [] = refl
lookup_same p q h (e ∷ entries) =
    ap (λ (b : Bool). cond b (Some e.1) (lookup p entries)) (h e.0)
    ∙ ap (λ (o : Option Value). cond (q e.0) (Some e.1) o) (lookup_same p q h entries)

-- a cell holds what the map has at its key
pub at_key : (entries : Entries) (c : Cell)
    → lookup (λ k. is_eq (key_cmp (key c) k)) entries ≡ cell_in entries c
unfolding cell_in
at_key entries c =
    lookup_same (λ k. is_eq (key_cmp (key c) k)) (is_key (key c)) (λ k. tied (key c) k) entries

-- what a cell holds after the value at the key of a cell changed
pub cell_after : (old new : Entries) (cell : Cell) (at : ℕ × ℕ × ℕ) (w : Option Value)
    → at ≡ key cell
    → ((k : ℕ × ℕ × ℕ) → lookup (λ l. is_eq (key_cmp k l)) new
    ≡ cond (is_eq (key_cmp at k)) w (lookup (λ l. is_eq (key_cmp k l)) old))
    → (c : Cell) → cell_in new c ≡ (if is_cell cell c then w else cell_in old c)
unfolding is_cell
cell_after old new cell at w e h c =
    sym (at_key new c) ∙ h (key c) ∙ ap
    (λ (b : Bool). cond b w (lookup (λ l. is_eq (key_cmp (key c) l)) old)) (tied at (key c))
    ∙ ap (λ (k : ℕ × ℕ × ℕ). cond (is_key k (key c)) w
    (lookup (λ l. is_eq (key_cmp (key c) l)) old)) e
    ∙ ap (λ (o : Option Value). cond (is_key (key cell) (key c)) w o) (at_key old c)

-- what is found by the key that was fetched
pub at_fetched : (entries : Entries) (c : Cell) (at : ℕ × ℕ × ℕ) → at ≡ key c
    → lookup (λ k. is_eq (key_cmp at k)) entries ≡ cell_in entries c
at_fetched entries c at e = ap (λ (k : ℕ × ℕ × ℕ). lookup (λ l. is_eq (key_cmp k l)) entries) e
    ∙ at_key entries c

-- ---- the blocks of an object

-- a key from a block of an object on that is no block of it stands after all of its blocks
past : (kind owner object : ℕ) (r0 r1 r2 s0 s1 s2 : Ordering)
    → MatchOrdering r0 (3 < kind) (3 ≡ kind) (kind < 3)
    → MatchOrdering r1 (object < owner) (object ≡ owner) (owner < object)
    → MatchOrdering s0 (kind < 3) (kind ≡ 3) (3 < kind)
    → MatchOrdering s1 (owner < object) (owner ≡ object) (object < owner)
    → (kind ≡ 3 → owner ≡ object → ⊥) → is_gt (ordering_then (ordering_then r0 r1) r2) ≡ false
    → is_gt (ordering_then (ordering_then s0 s1) s2) ≡ true
past kind owner object Less r1 r2 Less s1 s2 a b d e other from = absurd (omega (arith, a, d))
past kind owner object Less r1 r2 Equal s1 s2 a b d e other from = absurd (omega (arith, a, d))
past kind owner object Less r1 r2 Greater s1 s2 a b d e other from = refl
past kind owner object Equal Less r2 Less s1 s2 a b d e other from = absurd (omega (arith, a, d))
past kind owner object Equal Less r2 Equal Less s2 a b d e other from = absurd (omega (arith, b, e))
past kind owner object Equal Less r2 Equal Equal s2 a b d e other from =
    absurd (omega (arith, b, e))
past kind owner object Equal Less r2 Equal Greater s2 a b d e other from = refl
past kind owner object Equal Less r2 Greater s1 s2 a b d e other from = refl
past kind owner object Equal Equal r2 s0 s1 s2 a b d e other from = absurd (other (sym a) (sym b))
past kind owner object Equal Greater r2 s0 s1 s2 a b d e other from = absurd cc
past kind owner object Greater r1 r2 s0 s1 s2 a b d e other from = absurd cc

pub past_blocks : (object first : ℕ) (k q : ℕ × ℕ × ℕ)
    → is_gt (key_cmp (3, object, first) k) ≡ false → (k.0 ≡ 3 → k.1 ≡ object → ⊥)
    → is_block_key object first q ≡ true
    → is_gt (key_cmp k q) ≡ true
past_blocks object first (kind, owner, place) (a, b, block) from other is =
    let h : (a ≡ 3) × (b ≡ object) × (first ≤ block) =
    is_block_key_parts object first (a, b, block) is in
    subst (λ (x : ℕ). is_gt (key_cmp (kind, owner, place) (x, b, block)) ≡ true) (sym h.0)
    (subst (λ (y : ℕ). is_gt (key_cmp (kind, owner, place) (3, y, block)) ≡ true) (sym h.1)
    (past kind owner object (nat_cmp 3 kind) (nat_cmp object owner) (nat_cmp first place)
    (nat_cmp kind 3) (nat_cmp owner object) (nat_cmp place block)
    (ranks 3 kind) (ranks object owner) (ranks kind 3) (ranks owner object) other from))

not_before : (kind object first block : ℕ) (r0 r1 r2 : Ordering)
    → MatchOrdering r0 (kind < kind) (kind ≡ kind) (kind < kind)
    → MatchOrdering r1 (object < object) (object ≡ object) (object < object)
    → MatchOrdering r2 (first < block) (first ≡ block) (block < first) → first ≤ block
    → is_gt (ordering_then (ordering_then r0 r1) r2) ≡ false
not_before kind object first block Less r1 r2 a b d h = refl
not_before kind object first block Equal Less r2 a b d h = refl
not_before kind object first block Equal Equal Less a b d h = refl
not_before kind object first block Equal Equal Equal a b d h = refl
not_before kind object first block Equal Equal Greater a b d h = absurd (omega (arith, d, h))
not_before kind object first block Equal Greater r2 a b d h = absurd (omega (arith, b))
not_before kind object first block Greater r1 r2 a b d h = absurd (omega (arith, a))

-- a block from a number on doesn't stand before the block of this number
pub blocks_from : (object first : ℕ) (q : ℕ × ℕ × ℕ) → is_block_key object first q ≡ true
    → is_gt (key_cmp (3, object, first) q) ≡ false
blocks_from object first (a, b, block) is =
    let h : (a ≡ 3) × (b ≡ object) × (first ≤ block) =
    is_block_key_parts object first (a, b, block) is in
    subst (λ (x : ℕ). is_gt (key_cmp (3, object, first) (x, b, block)) ≡ false) (sym h.0)
    (subst (λ (y : ℕ). is_gt (key_cmp (3, object, first) (3, y, block)) ≡ false) (sym h.1)
    (not_before 3 object first block (nat_cmp 3 3) (nat_cmp object object) (nat_cmp first block)
    (ranks 3 3) (ranks object object) (ranks first block) h.2))

-- the values from a block of an object on, in order
abbrev pub AreFrom : ℕ → ℕ → BTreeMap (ℕ × ℕ × ℕ) Value → Entries → Type 0
AreFrom object first m from = IsRangeOf key_cmp (Included (3, object, first)) Unbounded m from

pub no_values : (object first : ℕ) (m : BTreeMap (ℕ × ℕ × ℕ) Value) (from : Entries)
    → AreFrom object first m from → from ≡ []
    → (c : Cell) → is_block_from object first c ≡ true → cell_in m.entries c ≡ None
unfolding is_block_from
no_values object first m from h e c is = sym (at_key m.entries c)
    ∙ h.5 e (key c) (blocks_from object first (key c) is, tt)

pub absent : (o : Option Value) → (IsSome o → ⊥) → o ≡ None
absent None h = refl
absent (Some v) h = absurd (h refl)

pub no_block : (object first : ℕ) (m : BTreeMap (ℕ × ℕ × ℕ) Value) (from rest : Entries)
    (k : ℕ × ℕ × ℕ) (v : Value) → AreFrom object first m from → from ≡ (k, v) ∷ rest
    → (k.0 ≡ 3 → k.1 ≡ object → ⊥) → (c : Cell) → is_block_from object first c ≡ true
    → cell_in m.entries c ≡ None
unfolding is_block_from
no_block object first m from rest k v h e other c is =
    let g = subst (λ (es : Entries). AreFrom object first m es) e h in
    let there : is_gt (key_cmp (3, object, first) k) ≡ false = g.1.0.0 in
    let wrong : is_gt (key_cmp k (key c)) ≡ true =
    past_blocks object first k (key c) there other is in
    sym (at_key m.entries c)
    ∙ absent (lookup (λ l. is_eq (key_cmp (key c) l)) m.entries)
    (λ s. let right : is_gt (key_cmp k (key c)) ≡ false =
    g.2 (key c) (blocks_from object first (key c) is, tt) s in absurd cc)

pub found_block : (object first : ℕ) (m : BTreeMap (ℕ × ℕ × ℕ) Value) (from rest : Entries)
    (k : ℕ × ℕ × ℕ) (v : Value) → AreFrom object first m from → from ≡ (k, v) ∷ rest
    → k.0 ≡ 3 → k.1 ≡ object → IsSome (cell_in m.entries (Block object k.2))
found_block object first m from rest (a, b, block) v h e kind owner =
    let g = subst (λ (es : Entries). AreFrom object first m es) e h in
    let there : lookup (λ l. is_eq (key_cmp (a, b, block) l)) m.entries ≡ Some v = g.1.1 in
    let same : cell_in m.entries (Block object block) ≡ Some v =
    sym (at_fetched m.entries (Block object block) (a, b, block)
    (ap (λ (x : ℕ). (x, b, block)) kind ∙ ap (λ (y : ℕ). (3, y, block)) owner)) ∙ there in
    subst IsSome (sym same) refl

is_block_itself : (object first block : ℕ) → first ≤ block
    → is_block_from object first (Block object block) ≡ true
unfolding is_block_from
is_block_itself object first block h =
    and_from ((3 == 3) && (object == object)) (nat_le first block) (eq-eqb object object refl)
    (le-leb first block h)

not_the_block : (object first block : ℕ) (c : Cell) (same : Bool)
    → same ≡ is_cell (Block object block) c → first ≤ block → is_block_from object first c ≡ false
    → same ≡ false
not_the_block object first block c false e h other = refl
not_the_block object first block c true e h other =
    let is : is_block_from object first c ≡ true =
    ap (λ (d : Cell). is_block_from object first d)
    (sym (is_cell_true (Block object block) c (sym e)))
    ∙ is_block_itself object first block h in
    absurd cc

-- what is no block of the object from a number on stays where such a block goes
pub others_stay : (object first block : ℕ) (c : Cell) (held after : Option Value) → first ≤ block
    → is_block_from object first c ≡ false
    → after ≡ (if is_cell (Block object block) c then None else held) → after ≡ held
others_stay object first block c held after h other e =
    let apart : is_cell (Block object block) c ≡ false =
    not_the_block object first block c (is_cell (Block object block) c) refl h other in
    rw apart at e
