-- The Puts of a write lead to the bytes written.
use Rattle.std.proofs.Common.{◌≡◌, ℕ, ◌+◌, ◌-◌, ◌*◌, ◌/◌, ◌<◌, ◌≤◌, Bool, true, false, List, [], length, get_or, Option, Some, None, sym, ap, ◌∙◌, arith, inl, inr, subst, ◌==◌, ◌⊎◌}
use Rattle.std.specs.Bool.{if◌then◌else◌}
use Rattle.std.specs.Prelude.{nat_lt}
use Rattle.std.proofs.lemmas.Bool.{cases_lt, eq-eqb, lt-ltb, le-ltb, ne_eqb}
use Rattle.std.proofs.lemmas.List.{get_or-take, get_or_past, length-take}
use Rattle.file_tree.specs.Tree.{blocks_of}
use Rattle.file_tree.specs.Outcome.{written}
use Rattle.harp_cells.specs.declared.cell.Cell.TheVariants as cell
use Rattle.harp_cells.specs.declared.value.Value.{Value}
use Rattle.harp_cells.specs.declared.value.Value.TheVariants as value
use Rattle.harp_cells.specs.Effect.{Cells, after}
use Rattle.inode_blocks.specs.Holds.{stored, HoldsBytes, EndsAt}
use Rattle.inode_blocks.specs.Changes.{LeadTo, blocks_met, stored_in, block_written, puts}
use Rattle.inode_blocks.proofs.Places.{block_at, block_fits, length-written, written_before, written_after, written_nothing}
use Rattle.inode_blocks.proofs.BlockCells.{HoldsBlock, holds_along, puts_over, puts_before, puts_behind, puts_at, puts_apart}

-- ---- which blocks a range meets

-- how many
abbrev pub met_count : ℕ → ℕ → ℕ
met_count offset count = if count == 0 then 0 else blocks_of (offset + count) - offset / 4096

met_some : (offset count : ℕ) → 0 < count
    → met_count offset count ≡ blocks_of (offset + count) - offset / 4096
met_some offset count some = ap (λ (t : Bool). if t then 0
    else blocks_of (offset + count) - offset / 4096)
    (ne_eqb count 0 (λ e. omega arith))

pub met_none : (offset count : ℕ) → count ≡ 0 → met_count offset count ≡ 0
met_none offset count none = ap (λ (t : Bool). if t then 0
    else blocks_of (offset + count) - offset / 4096)
    (eq-eqb count 0 none)

record Meets (offset count block : ℕ) : Type 0 where
  from : offset < 4096 * block + 4096
  to : 4096 * block < offset + count

met : (offset count block : ℕ) → offset / 4096 ≤ block
    → block < offset / 4096 + met_count offset count
    → Meets offset count block
met offset count block from to = elim (cases_lt 0 count) [
  | inl some ↦ record { from = omega arith; to = omega (arith, met_some offset count some) }
  | inr none ↦ absurd (omega (arith, met_none offset count (omega arith)))
]

behind : (offset count block : ℕ) → offset / 4096 + met_count offset count ≤ block
    → (offset + count ≤ 4096 * block) ⊎ (count ≡ 0)
behind offset count block past = elim (cases_lt 0 count) [
  | inl some ↦ inl (omega (arith, met_some offset count some))
  | inr none ↦ inr (omega arith)
]

-- ---- what stands in a block

pub stored_fits : (v : Option Value) → length (stored v) ≤ 4096
stored_fits None = omega arith
stored_fits (Some (value.Block bytes)) = omega (arith, length-take 4096 bytes)
stored_fits (Some (value.Meta next used stamp)) = omega arith
stored_fits (Some (value.Object inode)) = omega arith
stored_fits (Some (value.Unformed inode)) = omega arith
stored_fits (Some (value.Slot object name)) = omega arith
stored_fits (Some (value.Client number index reply)) = omega arith
stored_fits (Some (value.Saved bytes)) = omega arith
stored_fits (Some (value.SavedCred bytes)) = omega arith

stored_in_cases : (b : Bool) (xs : List ℕ) → length xs ≤ 4096
    → length (if◌then◌else◌ {A = List ℕ} b xs []) ≤ 4096
stored_in_cases true xs fits = fits
stored_in_cases false xs fits = omega arith

pub stored_in_fits : (cells : Cells) (object size block : ℕ)
    → length (stored_in cells object size block) ≤ 4096
stored_in_fits cells object size block = stored_in_cases (nat_lt (4096 * block) size)
    (stored (cells (cell.Block object block))) (stored_fits (cells (cell.Block object block)))

-- each byte of the file stands at its place
stored_in_at : (cells : Cells) (object : ℕ) (old : List ℕ) (block at : ℕ)
    → HoldsBytes cells object old → at < 4096
    → get_or (stored_in cells object (length old) block) at 0 ≡ get_or old (4096 * block + at) 0
stored_in_at cells object old block at holds within = elim (cases_lt (4096 * block) (length old)) [
  | inl inside ↦ ap (λ (t : Bool). get_or
      (if◌then◌else◌ {A = List ℕ} t (stored (cells (cell.Block object block))) []) at 0)
      (lt-ltb (4096 * block) (length old) inside)
      ∙ holds.byte block at within
  | inr past ↦
      ap (λ (t : Bool). get_or (if◌then◌else◌ {A = List ℕ} t
      (stored (cells (cell.Block object block))) [])
      at 0) (le-ltb (4096 * block) (length old) past)
      ∙ sym (get_or_past old (4096 * block + at) 0 (omega arith))
]

-- ---- one block after the Puts

put_holds : (new bytes : List ℕ) (start : ℕ) → length new ≤ 4096
    → ((at : ℕ) → at < 4096 → get_or new at 0 ≡ get_or bytes (start + at) 0)
    → HoldsBlock (Some (value.Block new)) bytes start
put_holds new bytes start fits same = record
    { kind = fits; byte = λ at within. get_or-take 4096 new at 0 within ∙ same at within }

as_before : (cells : Cells) (object : ℕ) (old new : List ℕ) (block : ℕ)
    → HoldsBytes cells object old
    → ((at : ℕ) → at < 4096 → get_or new (4096 * block + at) 0 ≡ get_or old (4096 * block + at) 0)
    → HoldsBlock (cells (cell.Block object block)) new (4096 * block)
as_before cells object old new block holds same = record {
  kind = holds.blocks block;
  byte = λ at within. holds.byte block at within
      ∙ sym (same at within);
}

-- outside of the range nothing changes
behind_same : (old : List ℕ) (offset : ℕ) (bytes : List ℕ) (start i : ℕ)
    → (offset + length bytes ≤ start) ⊎ (length bytes ≡ 0) → start ≤ i
    → get_or (written old offset bytes) i 0 ≡ get_or old i 0
behind_same old offset bytes start i (inl past) from =
    written_after old offset bytes i (omega arith)
behind_same old offset bytes start i (inr none) from = written_nothing old offset bytes i none

one_block : (cells : Cells) (object : ℕ) (old : List ℕ) (offset : ℕ) (bytes : List ℕ) (block : ℕ)
    → HoldsBytes cells object old
    → HoldsBlock (after (puts cells object (length old) offset bytes) cells
    (cell.Block object block))
    (written old offset bytes) (4096 * block)
one_block cells object old offset bytes block holds =
    let new : ℕ → List ℕ = λ b. block_written cells object (length old) offset bytes b in
    let count : ℕ = met_count offset (length bytes) in
    let was = cells (cell.Block object block) in
    elim (cases_lt block (offset / 4096)) [
      | inl before ↦
          holds_along _ was _ _ (puts_before object new block was (offset / 4096) count before)
          (as_before cells object old _ block holds
          (λ at within. written_before old offset bytes (4096 * block + at) (omega arith)))
      | inr from ↦ elim (cases_lt block (offset / 4096 + count)) [
        | inl to ↦ let meets = met offset (length bytes) block from to in
            holds_along _ _ _ _ (puts_at object new block was (offset / 4096) count from to)
            (put_holds (new block) _ (4096 * block)
            (block_fits _ offset bytes (4096 * block)
            (stored_in_fits cells object (length old) block) meets.from)
            (λ at within. block_at _ old offset bytes (4096 * block) at
            within (stored_in_at cells object old block at holds within)))
        | inr past ↦
            holds_along _ was _ _ (puts_behind object new block was (offset / 4096) count past)
            (as_before cells object old _ block holds
            (λ at within. behind_same old offset bytes (4096 * block) (4096 * block + at)
            (behind offset (length bytes) block past) (omega arith)))
      ]
    ]

-- ---- all blocks

not_met : (cells : Cells) (object : ℕ) (new : ℕ → List ℕ) (offset count block : ℕ)
    → offset + count ≤ 4096 * block
    → after (puts_over object new (blocks_met offset count)) cells (cell.Block object block) ≡ cells
    (cell.Block object block)
not_met cells object new offset count block past = elim (cases_lt block (offset / 4096)) [
  | inl before ↦ puts_before object new block _ (offset / 4096) (met_count offset count) before
  | inr from ↦ elim (cases_lt block (offset / 4096 + met_count offset count)) [
    | inl to ↦ let meets = met offset count block from to in absurd (omega arith)
    | inr behind_it ↦
        puts_behind object new block _ (offset / 4096) (met_count offset count) behind_it
  ]
]

still_ends : (cells : Cells) (object : ℕ) (old : List ℕ) (offset : ℕ) (bytes : List ℕ) (new : ℕ
    → List ℕ)
    → EndsAt cells object (length old)
    → EndsAt (after (puts_over object new (blocks_met offset (length bytes))) cells) object
    (length (written old offset bytes))
still_ends cells object old offset bytes new ends block past =
    not_met cells object new offset (length bytes) block
    (omega (arith, length-written old offset bytes))
    ∙ ends block (omega (arith, length-written old offset bytes))

lead : (cells : Cells) (object : ℕ) (old : List ℕ) (offset : ℕ) (bytes : List ℕ)
    → HoldsBytes cells object old
    → LeadTo (puts cells object (length old) offset bytes) cells object (length old)
    (written old offset bytes)
lead cells object old offset bytes holds = record {
  holds = record {
    blocks = λ block. (one_block cells object old offset bytes block holds).kind;
    byte = λ block at within. (one_block cells object old offset bytes block holds).byte at within;
  };
  others = λ c beside. puts_apart object
      (λ b. block_written cells object (length old) offset bytes b) c (cells c)
      (offset / 4096) (met_count offset (length bytes)) beside;
  ends = λ ends. still_ends cells object old offset bytes
      (λ b. block_written cells object (length old) offset bytes b) ends;
}

pub puts_lead : (cells : Cells) (object size : ℕ) (old : List ℕ) (offset : ℕ) (bytes : List ℕ)
    → HoldsBytes cells object old → length old ≡ size
    → LeadTo (puts cells object size offset bytes) cells object size (written old offset bytes)
puts_lead cells object size old offset bytes holds is = subst
    (λ (n : ℕ). LeadTo (puts cells object n offset bytes) cells object n
    (written old offset bytes)) is
    (lead cells object old offset bytes holds)

-- past the end of the file nothing stands
pub past_written : (cells : Cells) (object size block within : ℕ) (bytes : List ℕ)
    → size ≤ 4096 * block
    → written [] within bytes ≡ written (stored_in cells object size block) within bytes
past_written cells object size block within bytes past =
    ap (λ (t : Bool). written (if◌then◌else◌ {A = List ℕ} t
    (stored (cells (cell.Block object block))) []) within bytes)
    (sym (le-ltb (4096 * block) size past))
