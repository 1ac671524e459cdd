-- One more turn of reading and writing.
use Rattle.std.proofs.Common.{◌≡◌, ℕ, ◌+◌, ◌-◌, ◌*◌, ◌/◌, ◌%◌, ◌<◌, ◌≤◌, min, Bool, List, [], ◌∷◌, ◌++◌, length, take, drop, map, get_or, Option, Some, refl, sym, ap, ◌∙◌, arith, inl, inr, subst, ◌==◌}
use Rattle.std.specs.Bool.{if◌then◌else◌}
use Rattle.std.specs.List.{range_with_len}
use Rattle.std.proofs.Math.Seq.{take-add}
use Rattle.std.proofs.lemmas.Bool.{cases_eq, eq-eqb, ne_eqb}
use Rattle.std.proofs.lemmas.List.{append_assoc, get_or-take, get_or-drop, length-append, length-map, length-take, length-drop, drop-drop, drop_at, take_all, take_min, take-append-le, ext_get_or}
use Rattle.std.proofs.lemmas.List.FromFn.{length-range_with_len, map-range_with_len_more}
use Rattle.file_tree.specs.Tree.{blocks_of}
use Rattle.file_tree.specs.Outcome.{resized, written}
use Rattle.harp_cells.specs.declared.cell.Cell.TheVariants as cell
use Rattle.harp_cells.specs.declared.value.Value.{Value}
use Rattle.harp_cells.specs.declared.value.Value.TheVariants as value
use Rattle.harp_cells.specs.declared.change.Change.{Change}
use Rattle.harp_cells.specs.Effect.{Cells}
use Rattle.inode_blocks.specs.Holds.{stored, HoldsBytes}
use Rattle.inode_blocks.specs.Changes.{BeginsWith, LeadTo, added, part_in, stored_in, block_written}
use Rattle.inode_blocks.proofs.Places.{length-resized, resized_at}
use Rattle.inode_blocks.proofs.PutLaws.{met_count}

pub stored_block : (v : Option Value) (bytes xs : List ℕ) → v ≡ Some (value.Block bytes)
    → xs ≡ bytes
    → length bytes ≤ 4096 → xs ≡ stored v
stored_block v bytes xs is same short = same ∙ sym (take_all 4096 bytes short) ∙ ap stored (sym is)

-- ---- reading

-- a piece of a block is a piece of the file
piece : (held : Cells) (object : ℕ) (old : List ℕ) (at count : ℕ) → HoldsBytes held object old
    → at % 4096 + count ≤ 4096 → at + count ≤ length old
    → resized (drop (at % 4096) (stored (held (cell.Block object (at / 4096))))) count
    ≡ take count (drop at old)
piece held object old at count holds fits inside = ext_get_or 0
    (resized (drop (at % 4096) (stored (held (cell.Block object (at / 4096))))) count)
    (take count (drop at old))
    (length-resized (drop (at % 4096) (stored (held (cell.Block object (at / 4096))))) count
    ∙ sym (length-take count (drop at old) ∙ (omega (arith, length-drop at old))))
    (λ i within. let short : i < count = omega (
      arith,
      length-resized (drop (at % 4096)
          (stored (held (cell.Block object (at / 4096))))) count,
    ) in
    resized_at (drop (at % 4096) (stored (held (cell.Block object (at / 4096))))) count i short
    ∙ get_or-drop (at % 4096) (stored (held (cell.Block object (at / 4096)))) i 0
    ∙ holds.byte (at / 4096) (at % 4096 + i) (omega arith)
    ∙ ap (λ (n : ℕ). get_or old n 0) (omega arith)
    ∙ sym (get_or-take count (drop at old) i 0 short ∙ get_or-drop at old i 0))

more_taken : (xs : List ℕ) (offset at count : ℕ) → offset ≤ at
    → take (at - offset) (drop offset xs) ++ take count (drop at xs)
    ≡ take (at + count - offset) (drop offset xs)
more_taken xs offset at count from =
    ap (λ (ys : List ℕ). take (at - offset) (drop offset xs) ++ take count ys)
    (ap (λ (n : ℕ). drop n xs) (omega arith) ∙ sym (drop-drop (at - offset) offset xs))
    ∙ sym (take-add (at - offset) count (drop offset xs))
    ∙ ap (λ (n : ℕ). take n (drop offset xs)) (omega arith)

pub read_more : (held : Cells) (object : ℕ) (old : List ℕ) (offset at within block count : ℕ)
    (bytes new : List ℕ)
    → HoldsBytes held object old
    → offset ≤ at → within ≡ at % 4096 → block ≡ at / 4096 → within + count ≤ 4096
    → at + count ≤ length old
    → bytes ≡ take (at - offset) (drop offset old)
    → new ≡ bytes ++ resized (drop within (stored (held (cell.Block object block)))) count
    → new ≡ take (at + count - offset) (drop offset old)
read_more held object old offset at within block count bytes new holds from is_within is_block fits
    inside so_far
    appended =
    appended
    ∙ ap (λ (xs : List ℕ). xs ++ resized
    (drop within (stored (held (cell.Block object block)))) count) so_far
    ∙ ap (λ (n : ℕ). take (at - offset) (drop offset old) ++ resized
    (drop n (stored (held (cell.Block object block)))) count) is_within
    ∙ ap (λ (b : ℕ). take (at - offset) (drop offset old) ++ resized
    (drop (at % 4096) (stored (held (cell.Block object b)))) count) is_block
    ∙ ap (λ (xs : List ℕ). take (at - offset) (drop offset old) ++ xs)
    (piece held object old at count holds (omega arith) inside)
    ∙ more_taken old offset at count from

-- ---- lists that grow

pub put_more : {X : Type 0} (f : ℕ → X) (old so_far new : List X) (first block : ℕ) (x : X)
    → so_far ≡ old ++ map f (range_with_len first (block - first)) → first ≤ block
    → x ≡ f block → new ≡ so_far ++ x ∷ []
    → new ≡ old ++ map f (range_with_len first (block + 1 - first))
put_more {X} f old so_far new first block x h from is pushed =
    pushed
    ∙ ap (λ (xs : List X). xs ++ x ∷ []) h
    ∙ append_assoc old (map f (range_with_len first (block - first))) (x ∷ [])
    ∙ ap (λ (y : X). old ++ (map f (range_with_len first (block - first)) ++ y ∷ [])) is
    ∙ ap (λ (xs : List X). old ++ xs)
    (sym (map-range_with_len_more f first (block - first) block (omega arith)))
    ∙ ap (λ (n : ℕ). old ++ map f (range_with_len first n)) (omega arith)

pub begins_more : (old so_far more new : List Change) → BeginsWith so_far old → new ≡ so_far ++ more
    → BeginsWith new old
begins_more old so_far more new begins is =
    ap (λ (xs : List Change). take (length old) xs) is
    ∙ take-append-le (length old) so_far more
    (omega (arith, ap length begins, length-take (length old) so_far))
    ∙ begins

pub lead_by : (old new changes : List Change) (cells : Cells) (object size : ℕ) (bytes : List ℕ)
    → new ≡ old ++ changes → LeadTo changes cells object size bytes
    → LeadTo (added old new) cells object size bytes
lead_by old new changes cells object size bytes is leads =
    subst (λ (xs : List Change). LeadTo xs cells object size bytes)
    (sym (ap (λ (xs : List Change). drop (length old) xs) is
    ∙ drop_at old changes (length old) refl)) leads

-- ---- writing

pub block_is : (held : Cells) (object size offset : ℕ) (bytes : List ℕ) (block within : ℕ)
    (part new : List ℕ)
    → within ≡ offset - 4096 * block → part ≡ part_in offset bytes block
    → new ≡ written (stored_in held object size block) within part
    → new ≡ block_written held object size offset bytes block
block_is held object size offset bytes block within part new is_within is_part is =
    is
    ∙ ap (λ (n : ℕ). written (stored_in held object size block) n part) is_within
    ∙ ap (λ (xs : List ℕ). written (stored_in held object size block)
    (offset - 4096 * block) xs) is_part

-- the number of blocks that are met, at the end of a loop over them
pub met_is : (offset count past block : ℕ)
    → past ≡ (if count == 0 then offset / 4096 else blocks_of (offset + count)) → past ≤ block
    → (offset / 4096 ≤ past → block ≤ past)
    → block - offset / 4096 ≡ met_count offset count
met_is offset count past block is from to = elim (cases_eq count 0) [
  | inl none ↦ let e = is
      ∙ ap (λ (t : Bool). if t then offset / 4096
      else blocks_of (offset + count)) (eq-eqb count 0 none) in
      let f = ap (λ (t : Bool). if t then 0
      else blocks_of (offset + count) - offset / 4096) (eq-eqb count 0 none) in
      let last = to (omega (arith, e)) in omega (arith, e, f, last)
  | inr some ↦ let e = is
      ∙ ap (λ (t : Bool). if t then offset / 4096
      else blocks_of (offset + count)) (ne_eqb count 0 some) in
      let f = ap (λ (t : Bool). if t then 0
      else blocks_of (offset + count) - offset / 4096) (ne_eqb count 0 some) in
      let last = to (omega (arith, e)) in omega (arith, e, f, last)
]

-- where no block is met, nothing is appended
pub nothing_added : {X : Type 0} (f : Change → X) (g : ℕ → X) (old new : List Change) (first n : ℕ)
    → map f new ≡ map f old ++ map g (range_with_len first n) → n ≡ 0
    → BeginsWith new old → new ≡ old
nothing_added f g old new first n same none begins =
    let e = ap length same in
    let short : length new ≤ length old = omega
    (arith, simp (length-map, length-append, length-range_with_len) at e) in
    sym (take_all (length old) new short) ∙ begins
