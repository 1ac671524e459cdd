-- Which blocks are cut after the blocks of an object from a first one on were erased.
use Rattle.std.proofs.Common.{◌≡◌, ℕ, ◌<◌, ◌≤◌, Bool, true, false, cond, [], ◌∷◌, List, Option, Some, None, refl, sym, ap, ◌∙◌, ◌==◌, ◌&&◌, arith, min}
use Rattle.std.specs.Prelude.{nat_le}
use Rattle.std.specs.Map.{lookup}
use Rattle.std.specs.Ordering.{nat_cmp, is_eq}
use Rattle.std.specs.Cmp.{unsigned_tied}
use Rattle.std.specs.Bool.{if◌then◌else◌}
use Rattle.std.proofs.lemmas.Bool.{eqb-true, eqb-false, eq-eqb, ne_eqb, le-leb, leb-true, leb-false, lt-leb}
use Rattle.harp_cells.specs.declared.cell.Cell.{Cell}
use Rattle.harp_cells.specs.Effect.{key, is_block_from}
use Rattle.store_folder.specs.Unsynced.{cut_of, earlier, is_from, is_cut}

-- a cut that is at or before each of two
at_or_before : (least block : ℕ) (b : Bool) → (b ≡ true → least ≤ block)
    → (b ≡ false → block < least) → nat_le least block ≡ b
at_or_before least block true before behind = le-leb least block (before refl)
at_or_before least block false before behind = lt-leb least block (behind refl)

from_min : (m first block : ℕ) (b : Bool) → nat_le first block ≡ b
    → nat_le (min m first) block ≡ (if b then true else nat_le m block)
from_min m first block true h =
    le-leb (min m first) block (omega (arith, leb-true first block h))
from_min m first block false h =
    at_or_before (min m first) block (nat_le m block)
    (λ e. omega (arith, leb-true m block e))
    (λ e. omega (arith, leb-false m block e, leb-false first block h))

if_true : (b : Bool) → b ≡ (if b then true else false)
if_true true = refl
if_true false = refl

from_earlier : (o : Option ℕ) (first block : ℕ)
    → is_from (Some (earlier o first)) block ≡ (if nat_le first block then true
    else is_from o block)
from_earlier None first block = if_true (nat_le first block)
from_earlier (Some m) first block = from_min m first block (nat_le first block) refl

abbrev some_number : ℕ → Option ℕ
some_number n = Some n

-- the entry of an object, by two tests that agree
lookup_same : (p q : ℕ → Bool) → ((k : ℕ) → p k ≡ q k) → (cuts : List (ℕ × ℕ))
    → lookup p cuts ≡ lookup q cuts
lookup_same p q h [] = refl
lookup_same p q h (e ∷ cuts) =
    ap (λ (b : Bool). cond b (Some e.1) (lookup p cuts)) (h e.0)
    ∙ ap (λ (o : Option ℕ). cond (q e.0) (Some e.1) o) (lookup_same p q h cuts)

at_object : (cuts : List (ℕ × ℕ)) (n : ℕ) → lookup (λ l. is_eq (nat_cmp n l)) cuts ≡ cut_of cuts n
at_object cuts n = lookup_same (λ l. is_eq (nat_cmp n l)) (λ l. n == l) (unsigned_tied n) cuts

key_after : (kind same : Bool) (object n first block : ℕ) (old now : Option ℕ)
    → (object == n) ≡ same → (n == object) ≡ same
    → now ≡ (if same then Some (earlier old first) else old)
    → (kind && is_from now block)
    ≡ (if (kind && (n == object) && nat_le first block) then true else (kind && is_from old block))
key_after false same object n first block old now e f h = refl
key_after true true object n first block old now e f h =
    ap (λ (o : Option ℕ). is_from o block) h ∙ from_earlier old first block
    ∙ ap (λ (b : Bool). if◌then◌else◌ (b && nat_le first block) true (is_from old block)) (sym f)
key_after true false object n first block old now e f h =
    ap (λ (o : Option ℕ). is_from o block) h
    ∙ ap (λ (b : Bool). if◌then◌else◌ (b && nat_le first block) true (is_from old block)) (sym f)

entry_after : (same : Bool) (object n first least : ℕ) (old : List (ℕ × ℕ)) (now : Option ℕ)
    → (object == n) ≡ same → least ≡ earlier (cut_of old object) first
    → now ≡ (if same then Some least else cut_of old n)
    → now ≡ (if same then Some (earlier (cut_of old n) first) else cut_of old n)
entry_after true object n first least old now e h is =
    is ∙ ap (λ (k : ℕ). some_number k) h
    ∙ ap (λ (k : ℕ). some_number (earlier (cut_of old k) first)) (eqb-true object n e)
entry_after false object n first least old now e h is = is

eqb_by : (a b : ℕ) (same : Bool) → (b == a) ≡ same → (a == b) ≡ same
eqb_by a b true h = eq-eqb a b (sym (eqb-true b a h))
eqb_by a b false h = ne_eqb a b (λ e. eqb-false b a h (sym e))

eqb_swap : (a b : ℕ) → (a == b) ≡ (b == a)
eqb_swap a b = eqb_by a b (b == a) refl

pub cut_after : (old new : List (ℕ × ℕ)) (object first least : ℕ)
    → least ≡ earlier (cut_of old object) first
    → ((n : ℕ) → lookup (λ l. is_eq (nat_cmp n l)) new
    ≡ cond (is_eq (nat_cmp object n)) (Some least) (lookup (λ l. is_eq (nat_cmp n l)) old))
    → (c : Cell) → is_cut new c ≡ (if is_block_from object first c then true else is_cut old c)
unfolding is_cut is_block_from
cut_after old new object first least e h c =
    let k = key c in
    let now : cut_of new k.1 ≡ (if (object == k.1) then Some least else cut_of old k.1) =
    sym (at_object new k.1) ∙ h k.1
    ∙ ap (λ (b : Bool). cond b (Some least) (lookup (λ l. is_eq (nat_cmp k.1 l)) old))
    (unsigned_tied object k.1)
    ∙ ap (λ (o : Option ℕ). cond (object == k.1) (Some least) o) (at_object old k.1) in
    key_after (k.0 == 3) (object == k.1) object k.1 first k.2 (cut_of old k.1) (cut_of new k.1) refl
    (eqb_swap k.1 object)
    (entry_after (object == k.1) object k.1 first least old (cut_of new k.1) refl e now)
