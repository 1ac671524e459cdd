-- Which blocks are erased, and what their erasures make of each cell.
use Rattle.std.proofs.Common.{◌≡◌, ℕ, zero, suc, ◌+◌, ◌-◌, ◌^◌, ◌<◌, ◌≤◌, Bool, true, false, [], ◌∷◌, ◌++◌, List, length, map, replicate, take, Option, Some, None, is_some, refl, sym, ap, subst, ◌∙◌, arith, ◌==◌, ◌&&◌, append_assoc}
use Rattle.std.specs.Bool.{if◌then◌else◌}
use Rattle.std.specs.Prelude.{Any, IfSome, IfNone, nat_le, slice_index_or}
use Rattle.std.specs.Cmp.{ranks}
use Rattle.std.specs.Ordering.{nat_cmp, MatchOrdering}
use Rattle.std.specs.declared.cmp.Ordering.{Ordering}
use Rattle.std.specs.declared.cmp.Ordering.TheVariants.{Less, Equal, Greater}
use Rattle.std.proofs.lemmas.Bool.{eq-eqb, le-leb, ne_eqb, true≢false, false_from_ne_true}
use Rattle.std.proofs.lemmas.List.{take_more, map-append}
use Rattle.harp_cells.specs.declared.cell.Cell.{Cell}
use Rattle.harp_cells.specs.declared.cell.Cell.TheVariants as cell
use Rattle.harp_cells.specs.declared.value.Value.{Value}
use Rattle.harp_cells.specs.Effect.{Cells, is_cell, is_block_from}
use Rattle.harp_cells.proofs.CellLemmas.{is_block_key_parts, is_cell_true, is_cell_itself}
use Rattle.harp_store.specs.declared.layers.Unsynced.{Unsynced}
use Rattle.harp_store.specs.Disk.{Disk, block_numbers, blocks_there, erasures, reads, values_of}
use Rattle.harp_store.specs.Table.{Entries, find, value_held, value_in}
use Rattle.harp_store.proofs.Lists.{latest, values_append}

-- ---- the search for the blocks that are there

-- from a number on there is none
none_there : (n object b : ℕ) (cells : Cells)
    → ((x : ℕ) → b ≤ x → cells (cell.Block object x) ≡ None) → blocks_there n cells object b ≡ []
unfolding blocks_there
none_there zero object b cells h = refl
none_there (suc n) object b cells h =
    ap (λ (q : Bool). if q then b ∷ blocks_there n cells object (suc b) else blocks_there n cells
    object (suc b)) (ap is_some (h b (omega arith)))
    ∙ none_there n object (suc b) cells (λ x le. h x (omega (arith, le)))

-- numbers of blocks that aren't there are passed over
passed : (gap n m object b to : ℕ) (cells : Cells) → m ≡ gap + n → to ≡ b + gap
    → ((x : ℕ) → b ≤ x → x < to → cells (cell.Block object x) ≡ None)
    → blocks_there m cells object b ≡ blocks_there n cells object to
unfolding blocks_there
passed zero n m object b to cells e f h =
    let at : m ≡ n = omega (arith, e) in
    let from : b ≡ to = omega (arith, f) in
    ap (λ (k : ℕ). blocks_there k cells object b) at ∙ ap (blocks_there n cells object) from
passed (suc gap) n m object b to cells e f h =
    let at : m ≡ suc (gap + n) = omega (arith, e) in
    ap (λ (k : ℕ). blocks_there k cells object b) at
    ∙ ap (λ (q : Bool). if q then b ∷ blocks_there (gap + n) cells object (suc b)
    else blocks_there (gap + n) cells object (suc b)) (ap is_some (h b (omega arith) (omega
    (arith, f))))
    ∙ passed gap n (gap + n) object (suc b) to cells refl (omega (arith, f)) (λ x le lt. h x (omega
    (arith, le)) lt)

-- the blocks that are there from the next number on
abbrev pub rest_of : Option ℕ → Cells → ℕ → List ℕ
rest_of None cells object = []
rest_of (Some n) cells object = blocks_there (block_numbers - n) cells object n

-- a search for the next block misses none
pub rest_is : (object start : ℕ) (entries : Entries) (next : Option ℕ)
    → IfSome next (λ m. start ≤ m)
    → IfSome next (λ m. (b : ℕ) → start ≤ b → b < m → find entries (cell.Block object b) ≡ None)
    → IfNone next ((b : ℕ) → start ≤ b → find entries (cell.Block object b) ≡ None)
    → blocks_there (block_numbers - start) (value_in entries) object start
    ≡ rest_of next (value_in entries) object
unfolding blocks_there
rest_is object start entries None from least none =
    none_there (block_numbers - start) object start (value_in entries) (λ x le. ap value_held
    (none x le))
rest_is object start entries (Some m) from least none = go (nat_cmp m block_numbers) (ranks m
    block_numbers)
  where
    behind : block_numbers ≤ m → blocks_there (block_numbers - start) (value_in entries) object
        start ≡ blocks_there (block_numbers - m) (value_in entries) object m
    behind more =
        passed (block_numbers - start) 0 (block_numbers - start) object start
        (start + (block_numbers - start)) (value_in entries) (omega arith) refl
        (λ x le lt. ap value_held (least x le (omega (arith, le, lt, more))))
        ∙ sym (ap (λ (k : ℕ). blocks_there k (value_in entries) object m) (none_left more))
      where
        none_left : block_numbers ≤ m → block_numbers - m ≡ 0
        none_left more = omega (arith, more)

    go : (r : Ordering) → MatchOrdering r (m < block_numbers) (m ≡ block_numbers)
        (block_numbers < m) → blocks_there (block_numbers - start) (value_in entries) object start
        ≡ blocks_there (block_numbers - m) (value_in entries) object m
    go Less lt = passed (m - start) (block_numbers - m) (block_numbers - start) object start m
        (value_in entries) (omega (arith, from, lt)) (omega (arith, from))
        (λ x le less. ap value_held (least x le less))
    go Equal e = behind (omega (arith, e))
    go Greater lt = behind (omega (arith, lt))

-- no block has a number behind the last one
pub none_behind : (object start : ℕ) (entries : Entries) (next : Option ℕ)
    → start ≤ block_numbers
    → IfNone next ((b : ℕ) → start ≤ b → find entries (cell.Block object b) ≡ None)
    → IfNone next ((b : ℕ) → block_numbers ≤ b → find entries (cell.Block object b) ≡ None)
none_behind object start entries None fits none = λ b le. none b (omega (arith, le, fits))
none_behind object start entries (Some m) fits none = none

-- one block further
pub rest_on : (object n : ℕ) (cells : Cells) (blocks more rest whole : List ℕ)
    → n < block_numbers
    → blocks ++ blocks_there (block_numbers - n) cells object n ≡ whole
    → more ≡ (if is_some (cells (cell.Block object n)) then blocks ++ n ∷ [] else blocks)
    → blocks_there (block_numbers - suc n) cells object (suc n) ≡ rest
    → more ++ rest ≡ whole
unfolding blocks_there
rest_on object n cells blocks more rest whole lt h e f =
    let at : block_numbers - n ≡ suc (block_numbers - suc n) = omega (arith, lt) in
    ap (λ (bs : List ℕ). bs ++ rest) e ∙ ap (λ (bs : List ℕ). (if is_some
    (cells (cell.Block object n)) then blocks ++ n ∷ [] else blocks) ++ bs) (sym f)
    ∙ go (is_some (cells (cell.Block object n)))
    (blocks_there (block_numbers - suc n) cells object (suc n))
    ∙ ap (λ (k : ℕ). blocks ++ blocks_there k cells object n) (sym at) ∙ h
  where
    go : (q : Bool) (bs : List ℕ) → (if q then blocks ++ n ∷ [] else blocks) ++ bs
        ≡ blocks ++ (if q then n ∷ bs else bs)
    go true bs = append_assoc blocks (n ∷ []) bs
    go false bs = refl

pub in_numbers : (n : ℕ) → n < 2 ^ 32 → n < block_numbers
unfolding block_numbers
in_numbers n lt = lt

pub erasures_more : (object i : ℕ) (blocks : List ℕ) → i < length blocks
    → erasures object (take (i + 1) blocks)
    ≡ erasures object (take i blocks) ++ record {
      cell = cell.Block object
          (slice_index_or blocks i 0);
      value = None;
    } ∷ []
erasures_more object i blocks lt =
    ap (erasures object) (take_more blocks i 0 lt)
    ∙ map-append (λ block. record { cell = cell.Block object block; value = None })
    (take i blocks) (slice_index_or blocks i 0 ∷ [])

-- ---- blocks from a number on

block_is : (object first x : ℕ) → is_block_from object first (cell.Block object x)
    ≡ nat_le first x
unfolding is_block_from
block_is object first x = ap (λ (q : Bool). q && nat_le first x) (eq-eqb object object refl)

pub is_block : (object first : ℕ) (c : Cell) → is_block_from object first c ≡ true → (x : ℕ)
    × (c ≡ cell.Block object x) × (first ≤ x)
unfolding is_block_from
is_block object first cell.Meta h =
    let p = (is_block_key_parts object first (1, 0, 0) h).0 in absurd (omega (arith, p))
is_block object first (cell.Object o) h =
    let p = (is_block_key_parts object first (2, o, 0) h).0 in absurd (omega (arith, p))
is_block object first (cell.Slot o s) h =
    let p = (is_block_key_parts object first (4, o, s) h).0 in absurd (omega (arith, p))
is_block object first (cell.Client o) h =
    let p = (is_block_key_parts object first (5, o, 0) h).0 in absurd (omega (arith, p))
is_block object first (cell.Saved o) h =
    let p = (is_block_key_parts object first (6, o, 0) h).0 in absurd (omega (arith, p))
is_block object first (cell.Block o x) h =
    let p = is_block_key_parts object first (3, o, x) h in
    (x, ap (λ (m : ℕ). cell.Block m x) p.1, p.2)

-- a cell that is none of the blocks from one on
pub other_cell : (object b x : ℕ) (c : Cell) → is_block_from object b c ≡ false → b ≤ x
    → is_cell (cell.Block object x) c ≡ false
other_cell object b x c h le = false_from_ne_true (is_cell (cell.Block object x) c) (λ is.
    true≢false (sym (le-leb b x le) ∙ sym (block_is object b x)
    ∙ ap (is_block_from object b) (is_cell_true (cell.Block object x) c is) ∙ h))

pub later_none : (object b to : ℕ) (c : Cell) → b ≤ to → is_block_from object b c ≡ false
    → is_block_from object to c ≡ false
later_none object b to c le h = false_from_ne_true (is_block_from object to c) (λ is.
    let at = is_block object to c is in
    let more = at.2 in
    true≢false (sym (le-leb b at.0 (omega (arith, le, more))) ∙ sym (block_is object b at.0)
    ∙ ap (is_block_from object b) (sym at.1) ∙ h))

other_block : (object x y : ℕ) → (x ≡ y → ⊥) → is_cell (cell.Block object x)
    (cell.Block object y) ≡ false
unfolding is_cell
other_block object x y h =
    ap (λ (q : Bool). q && (x == y)) (eq-eqb object object refl) ∙ ne_eqb x y h

-- ---- what erasures make of each cell

-- a cell that is none of so many blocks from one on
apart : (n object b : ℕ) (cells : Cells) (c : Cell)
    → ((x : ℕ) → b ≤ x → x < b + n → is_cell (cell.Block object x) c ≡ false)
    → values_of c (erasures object (blocks_there n cells object b)) ≡ []
unfolding blocks_there values_of
apart zero object b cells c h = refl
apart (suc n) object b cells c h = go (is_some (cells (cell.Block object b)))
    (blocks_there n cells object (suc b))
    (apart n object (suc b) cells c (λ x le lt. h x (omega (arith, le)) (omega (arith, lt))))
  where
    go : (q : Bool) (bs : List ℕ) → values_of c (erasures object bs) ≡ []
        → values_of c (erasures object (if q then b ∷ bs else bs)) ≡ []
    go true bs rest = ap (λ (q : Bool). if q then None ∷ values_of c
        (erasures object bs) else values_of c (erasures object bs))
        (h b (omega arith) (omega arith)) ∙ rest
    go false bs rest = rest

-- one of them
among : (n object b y : ℕ) (cells : Cells) → b ≤ y → y < b + n
    → values_of (cell.Block object y) (erasures object (blocks_there n cells object b))
    ≡ (if is_some (cells (cell.Block object y)) then None ∷ [] else [])
unfolding blocks_there values_of
among zero object b y cells le lt = absurd (omega (arith, le, lt))
among (suc n) object b y cells le lt = go (nat_cmp b y) (ranks b y) (among n object (suc b) y cells)
  where
    bs : List ℕ
    bs = blocks_there n cells object (suc b)

    passed_by : (q : Bool) → (b ≡ y → ⊥) → values_of (cell.Block object y)
        (erasures object (if q then b ∷ bs else bs))
        ≡ values_of (cell.Block object y) (erasures object bs)
    passed_by true other = ap (λ (q : Bool). if q then None ∷ values_of (cell.Block object y)
        (erasures object bs) else values_of (cell.Block object y) (erasures object bs))
        (other_block object b y other)
    passed_by false other = refl

    alone : values_of (cell.Block object b) (erasures object bs) ≡ []
    alone = apart n object (suc b) cells (cell.Block object b) (λ x more less.
        other_block object x b (λ e. omega (arith, e, more)))

    at : (q : Bool) → values_of (cell.Block object b) (erasures object (if q then b ∷ bs else bs))
        ≡ (if q then None ∷ [] else [])
    at true = ap (λ (q : Bool). if q then None ∷ values_of (cell.Block object b) (erasures object
        bs) else values_of (cell.Block object b) (erasures object bs))
        (is_cell_itself (cell.Block object b) (cell.Block object b) refl)
        ∙ ap (λ (vs : List (Option Value)). None ∷ vs) alone
    at false = alone

    go : (r : Ordering) → MatchOrdering r (b < y) (b ≡ y) (y < b)
        → (suc b ≤ y → y < suc b + n → values_of (cell.Block object y) (erasures object bs)
        ≡ (if is_some (cells (cell.Block object y)) then None ∷ [] else []))
        → values_of (cell.Block object y) (erasures object (blocks_there (suc n) cells object b))
        ≡ (if is_some (cells (cell.Block object y)) then None ∷ [] else [])
    go Less less rest = passed_by (is_some (cells (cell.Block object b))) (λ e. omega (
      arith,
      e,
      less,
    )) ∙ rest (omega (arith, less)) (omega (arith, lt))
    go Equal e rest = subst (λ (z : ℕ). values_of (cell.Block object z) (erasures object
        (blocks_there (suc n) cells object b))
        ≡ (if is_some (cells (cell.Block object z)) then None ∷ [] else [])) e
        (at (is_some (cells (cell.Block object b))))
    go Greater less rest = absurd (omega (arith, le, less))

-- one way or the other
is_less : (x y : ℕ) → ((y ≤ x) → ⊥) → x < y
is_less x y = go (nat_cmp x y) (ranks x y)
  where
    go : (r : Ordering) → MatchOrdering r (x < y) (x ≡ y) (y < x) → ((y ≤ x) → ⊥) → x < y
    go Less lt h = lt
    go Equal e h = absurd (h (omega (arith, e)))
    go Greater lt h = absurd (h (omega (arith, lt)))

-- of a cell that isn't past the counted blocks
erased_values : (n object first to : ℕ) (cells : Cells) (c : Cell) → to ≡ first + n
    → is_block_from object to c ≡ false
    → values_of c (erasures object (blocks_there n cells object first))
    ≡ (if is_block_from object first c && is_some (cells c) then None ∷ [] else [])
erased_values n object first to cells c end past = go (is_block_from object first c) refl
  where
    go : (q : Bool) → is_block_from object first c ≡ q
        → values_of c (erasures object (blocks_there n cells object first))
        ≡ (if q && is_some (cells c) then None ∷ [] else [])
    go false e = apart n object first cells c (λ x le lt. other_cell object first x c e le)
    go true e =
        let at = is_block object first c e in
        let le = at.2 in
        let below : (to ≤ at.0) → ⊥ = λ more. true≢false (sym (le-leb to at.0 more)
        ∙ sym (block_is object to at.0) ∙ ap (is_block_from object to) (sym at.1) ∙ past) in
        let less = is_less at.0 to below in
        subst (λ (d : Cell). values_of d (erasures object (blocks_there n cells object first))
        ≡ (if is_some (cells d) then None ∷ [] else [])) (sym at.1)
        (among n object first at.0 cells le (omega (arith, less, end)))

-- ---- a disk as if no block had been there from one on

abbrev bare : ℕ → ℕ → List Unsynced → List Unsynced
bare object first us = map (λ u. record {
  cell = u.cell;
  value = if is_block_from object first u.cell then None else u.value;
}) us

-- the values of another cell stay
bare_others : (object first : ℕ) (c : Cell) (us : List Unsynced)
    → is_block_from object first c ≡ false
    → values_of c (bare object first us) ≡ values_of c us
unfolding values_of
bare_others object first c [] h = refl
bare_others object first c (u ∷ us) h = go (is_cell u.cell c) (λ is. ap (is_block_from object
    first) (is_cell_true u.cell c is) ∙ h) (bare_others object first c us h)
  where
    go : (q : Bool) → (q ≡ true → is_block_from object first u.cell ≡ false)
        → values_of c (bare object first us) ≡ values_of c us
        → (if q then (if is_block_from object first u.cell then None else u.value) ∷ values_of c
        (bare object first us) else values_of c (bare object first us))
        ≡ (if q then u.value ∷ values_of c us else values_of c us)
    go true other rest = ap (λ (b : Bool). (if b then None else u.value) ∷ values_of c
        (bare object first us)) (other refl) ∙ ap (λ (vs : List (Option Value)). u.value ∷ vs) rest
    go false other rest = rest

-- one of those blocks has no value at all
bare_blocks : (object first : ℕ) (c : Cell) (us : List Unsynced)
    → is_block_from object first c ≡ true → (k : ℕ) × (values_of c (bare object first us)
    ≡ replicate k None)
unfolding values_of
bare_blocks object first c [] h = (0, refl)
bare_blocks object first c (u ∷ us) h = go (is_cell u.cell c) (λ is. ap (is_block_from object
    first) (is_cell_true u.cell c is) ∙ h) (bare_blocks object first c us h)
  where
    go : (q : Bool) → (q ≡ true → is_block_from object first u.cell ≡ true)
        → (k : ℕ) × (values_of c (bare object first us) ≡ replicate k None)
        → (k : ℕ) × ((if q then (if is_block_from object first u.cell then None else u.value) ∷
        values_of c (bare object first us) else values_of c (bare object first us))
        ≡ replicate k None)
    go true one (k, rest) = (
      suc k,
      ap (λ (b : Bool). (if b then None else u.value) ∷ values_of c (bare object first us)) (one
          refl) ∙ ap (λ (vs : List (Option Value)). None ∷ vs) rest,
    )
    go false one (k, rest) = (k, rest)

-- ---- the erasure of blocks

-- of a cell that isn't past the counted blocks
pub erased_cell : (n object first to : ℕ) (d : Disk) (c : Cell) → to ≡ first + n
    → is_block_from object to c ≡ false
    → values_of c (bare object to d.unsynced ++ erasures object
    (blocks_there n (reads d) object first))
    ≡ (if is_block_from object first c
    && is_some (reads d c) then values_of c d.unsynced ++ None ∷ [] else values_of c d.unsynced)
erased_cell n object first to d c end past =
    values_append c (bare object to d.unsynced) (erasures object
    (blocks_there n (reads d) object first))
    ∙ ap (λ (vs : List (Option Value)). vs ++ values_of c (erasures object
    (blocks_there n (reads d) object first))) (bare_others object to c d.unsynced past)
    ∙ ap (λ (vs : List (Option Value)). values_of c d.unsynced ++ vs) (erased_values n object
    first to (reads d) c end past)
    ∙ one_or_none (values_of c d.unsynced) (is_block_from object first c && is_some (reads d c))
  where
    nil : (vs : List (Option Value)) → vs ++ [] ≡ vs
    nil [] = refl
    nil (v ∷ vs) = ap (λ (ws : List (Option Value)). v ∷ ws) (nil vs)

    one_or_none : (vs : List (Option Value)) (p : Bool) → vs ++ (if p then None ∷ [] else [])
        ≡ (if p then vs ++ None ∷ [] else vs)
    one_or_none vs true = refl
    one_or_none vs false = nil vs

-- of one that is
pub past_cell : (n object first to : ℕ) (d : Disk) (c : Cell) → to ≡ first + n
    → is_block_from object to c ≡ true
    → (k : ℕ) × (values_of c (bare object to d.unsynced ++ erasures object
    (blocks_there n (reads d) object first)) ≡ replicate k None)
past_cell n object first to d c end past =
    let at = is_block object to c past in
    let le = at.2 in
    let none : values_of c (erasures object (blocks_there n (reads d) object first)) ≡ [] =
    apart n object first (reads d) c (λ x more less.
    subst (λ (e : Cell). is_cell (cell.Block object x) e ≡ false) (sym at.1)
    (other_block object x at.0 (λ e. omega (arith, e, less, le, end)))) in
    let bared = bare_blocks object to c d.unsynced past in (
      bared.0,
      values_append c (bare object to d.unsynced) (erasures object
          (blocks_there n (reads d) object first))
          ∙ ap (λ (vs : List (Option Value)). values_of c (bare object to d.unsynced) ++ vs) none
          ∙ ap (λ (vs : List (Option Value)). vs ++ []) bared.1 ∙ none_more bared.0,
    )
  where
    none_more : (k : ℕ) → ◌≡◌ {A = List (Option Value)} (replicate k None ++ []) (replicate k None)
    none_more zero = refl
    none_more (suc k) = ap (λ (ws : List (Option Value)). None ∷ ws) (none_more k)

-- nothing among nothing
pub latest_none : (k : ℕ) → latest None (replicate k None) ≡ None
latest_none zero = refl
latest_none (suc k) = latest_none k

pub one_none : (value : Option Value) (k : ℕ) → Any (λ v. v ≡ value) (replicate k None)
    → value ≡ None
one_none value zero (i, x, lt, is, e) = absurd (omega (arith, lt))
one_none value (suc k) (zero, x, lt, is, e) = sym e ∙ sym is
one_none value (suc k) (suc i, x, lt, is, e) = one_none value k (i, x, omega (arith, lt), is, e)
