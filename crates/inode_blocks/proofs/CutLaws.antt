-- The changes of a cut lead to the bytes that are kept.
use Rattle.std.proofs.Common.{◌≡◌, ℕ, ◌+◌, ◌*◌, ◌/◌, ◌%◌, ◌<◌, ◌≤◌, Bool, true, false, List, [], ◌∷◌, ◌++◌, length, take, get_or, Option, Some, None, refl, sym, ap, ◌∙◌, arith, inl, inr, subst, ◌&&◌, ◌⊎◌}
use Rattle.std.specs.Bool.{if◌then◌else◌}
use Rattle.std.specs.Prelude.{nat_lt, fold}
use Rattle.std.proofs.lemmas.Bool.{cases_lt, cases_eq, lt-ltb, le-ltb}
use Rattle.std.proofs.lemmas.List.{get_or-take, get_or_past, length-take, append_assoc}
use Rattle.std.proofs.lemmas.List.Sums.{fold-append}
use Rattle.file_tree.specs.Tree.{blocks_of}
use Rattle.file_tree.specs.Outcome.{resized}
use Rattle.harp_cells.specs.declared.cell.Cell.{Cell}
use Rattle.harp_cells.specs.declared.cell.Cell.TheVariants as cell
use Rattle.harp_cells.specs.declared.value.Value.{Value}
use Rattle.harp_cells.specs.declared.value.Value.TheVariants as value
use Rattle.harp_cells.specs.declared.change.Change.{Change}
use Rattle.harp_cells.specs.declared.change.Change.TheVariants as change
use Rattle.harp_cells.specs.Effect.{Cells, changed, after}
use Rattle.inode_blocks.specs.Holds.{stored, IsBlock, HoldsBytes, EndsAt}
use Rattle.inode_blocks.specs.Changes.{LeadTo, is_block_of, kept_of, kept_in, put_kept, erasure, cuts}
use Rattle.inode_blocks.proofs.Places.{length-resized, resized_at, resized_past}
use Rattle.inode_blocks.proofs.BlockCells.{HoldsBlock, holds_along, put_here, put_elsewhere, put_apart, erased_from, erased_before, erased_apart}

-- ---- the Put

kept_none_at_start : (bytes : List ℕ) (within : ℕ) → within ≡ 0 → kept_of bytes within ≡ None
kept_none_at_start bytes within first =
    ap (λ (t : Bool). if◌then◌else◌ {A = Option (List ℕ)} (t && nat_lt within (length bytes))
    (Some (take within bytes)) None) (le-ltb 0 within (omega arith))

kept_none : (bytes : List ℕ) (within : ℕ) → 0 < within → length bytes ≤ within
    → kept_of bytes within ≡ None
kept_none bytes within some short =
    ap (λ (t : Bool). if◌then◌else◌ {A = Option (List ℕ)} (t && nat_lt within (length bytes))
    (Some (take within bytes)) None) (lt-ltb 0 within some)
    ∙ ap (λ (t : Bool). if◌then◌else◌ {A = Option (List ℕ)} t (Some (take within bytes)) None)
    (le-ltb within (length bytes) short)

kept_some : (bytes : List ℕ) (within : ℕ) → 0 < within → within < length bytes
    → kept_of bytes within ≡ Some (take within bytes)
kept_some bytes within some long =
    ap (λ (t : Bool). if◌then◌else◌ {A = Option (List ℕ)} (t && nat_lt within (length bytes))
    (Some (take within bytes)) None) (lt-ltb 0 within some)
    ∙ ap (λ (t : Bool). if◌then◌else◌ {A = Option (List ℕ)} t (Some (take within bytes)) None)
    (lt-ltb within (length bytes) long)

-- the cell of a block after the Put of a block, where there is one
abbrev after_put : ℕ → ℕ → Option (List ℕ) → ℕ → Option Value → Option Value
after_put object cut kept block was =
    fold (changed (cell.Block object block)) was (put_kept object cut kept)

other_block : (object cut : ℕ) (kept : Option (List ℕ)) (block : ℕ) (was : Option Value)
    → (cut ≡ block → ⊥)
    → after_put object cut kept block was ≡ was
other_block object cut None block was other = refl
other_block object cut (Some bytes) block was other = put_elsewhere object cut block bytes was other

-- a cell with what it had up to a place, and zeros from there on
record IsCutTo (v was : Option Value) (within : ℕ) : Type 0 where
  kind : IsBlock v
  front : (at : ℕ) → at < within → get_or (stored v) at 0 ≡ get_or (stored was) at 0
  back : (at : ℕ) → within ≤ at → at < 4096 → get_or (stored v) at 0 ≡ 0

cut_along : (v w was : Option Value) (within : ℕ) → v ≡ w → IsCutTo w was within
    → IsCutTo v was within
cut_along v w was within e h = subst (λ (u : Option Value). IsCutTo u was within) (sym e) h

put_cuts : (bytes : List ℕ) (was : Option Value) (within : ℕ) → bytes ≡ stored was → within < 4096
    → IsCutTo (Some (value.Block (take within bytes))) was within
put_cuts bytes was within is fits = record {
  kind = omega (arith, length-take within bytes);
  front = λ at before. get_or-take 4096 (take within bytes) at 0 (omega arith)
      ∙ get_or-take within bytes at 0 before ∙ ap (λ (xs : List ℕ). get_or xs at 0) is;
  back = λ at from to. get_or-take 4096 (take within bytes) at 0 to
      ∙ get_or_past (take within bytes) at 0 (omega (arith, length-take within bytes));
}

short_is_cut : (was : Option Value) (within : ℕ) → IsBlock was → length (stored was) ≤ within
    → IsCutTo was was within
short_is_cut was within kind short = record {
  kind = kind;
  front = λ at before. refl;
  back = λ at from to. get_or_past (stored was) at 0 (omega arith);
}

cut_block : (object cut within : ℕ) (was : Option Value) → IsBlock was → 0 < within → within < 4096
    → IsCutTo (after_put object cut (kept_of (stored was) within) cut was) was within
cut_block object cut within was kind some fits = elim (cases_lt within (length (stored was))) [
  | inl long ↦ cut_along _ _ was within
      (ap (λ (k : Option (List ℕ)). after_put object cut k cut was)
      (kept_some (stored was) within some long)
      ∙ put_here object cut (take within (stored was)) was)
      (put_cuts (stored was) was within refl fits)
  | inr short ↦ cut_along _ was was within
      (ap (λ (k : Option (List ℕ)). after_put object cut k cut was)
      (kept_none (stored was) within some short))
      (short_is_cut was within kind short)
]

-- ---- the erasure

abbrev after_erasure : ℕ → ℕ → ℕ → ℕ → Option Value → Option Value
after_erasure object size wanted block was =
    fold (changed (cell.Block object block)) was (erasure object size wanted)

abbrev erasure_if : Bool → ℕ → ℕ → List Change
erasure_if t object first = if t then change.EraseFrom object first ∷ [] else []

left_if : (t : Bool) (object first block : ℕ) (was : Option Value) → block < first
    → fold (changed (cell.Block object block)) was (erasure_if t object first) ≡ was
left_if true object first block was before = erased_before object first block was before
left_if false object first block was before = refl

is_left : (object size wanted block : ℕ) (was : Option Value) → block < blocks_of wanted
    → after_erasure object size wanted block was ≡ was
is_left object size wanted block was before = left_if (nat_lt (4096 * blocks_of wanted) size) object
    (blocks_of wanted) block was before

is_gone : (object size wanted block : ℕ) (was : Option Value) → blocks_of wanted ≤ block
    → 4096 * blocks_of wanted < size → after_erasure object size wanted block was ≡ None
is_gone object size wanted block was from some =
    ap (λ (t : Bool). fold (changed (cell.Block object block)) was
    (erasure_if t object (blocks_of wanted)))
    (lt-ltb (4096 * blocks_of wanted) size some)
    ∙ erased_from object (blocks_of wanted) block was from

none_goes : (object size wanted block : ℕ) (was : Option Value) → size ≤ 4096 * blocks_of wanted
    → after_erasure object size wanted block was ≡ was
none_goes object size wanted block was none =
    ap (λ (t : Bool). fold (changed (cell.Block object block)) was
    (erasure_if t object (blocks_of wanted)))
    (le-ltb (4096 * blocks_of wanted) size none)

apart_if : (t : Bool) (object first : ℕ) (c : Cell) (h : Option Value)
    → is_block_of object c ≡ false
    → fold (changed c) h (erasure_if t object first) ≡ h
apart_if true object first c h beside = erased_apart object first c h beside
apart_if false object first c h beside = refl

kept_apart : (object cut : ℕ) (kept : Option (List ℕ)) (c : Cell) (h : Option Value)
    → is_block_of object c ≡ false
    → fold (changed c) h (put_kept object cut kept) ≡ h
kept_apart object cut None c h beside = refl
kept_apart object cut (Some bytes) c h beside = put_apart object cut bytes c h beside

-- ---- one block after a cut

gone_holds : (old : List ℕ) (wanted start : ℕ) → wanted ≤ start
    → HoldsBlock None (resized old wanted) start
gone_holds old wanted start past = record
    { kind = tt; byte = λ at within. sym (resized_past old wanted (start + at) (omega arith)) }

-- a block with nothing that is cut away
same_holds : (cells : Cells) (object : ℕ) (old : List ℕ) (wanted block : ℕ)
    → HoldsBytes cells object old
    → ((at : ℕ) → at < 4096 → wanted ≤ 4096 * block + at → get_or old (4096 * block + at) 0 ≡ 0)
    → HoldsBlock (cells (cell.Block object block)) (resized old wanted) (4096 * block)
same_holds cells object old wanted block holds zeros = record {
  kind = holds.blocks block;
  byte = λ at within. elim (cases_lt (4096 * block + at) wanted) [
    | inl before ↦ holds.byte block at within
        ∙ sym (resized_at old wanted (4096 * block + at) before)
    | inr past ↦ holds.byte block at within ∙ zeros at within past
        ∙ sym (resized_past old wanted (4096 * block + at) past)
  ];
}

cut_holds : (cells : Cells) (object : ℕ) (old : List ℕ) (wanted block : ℕ) (v : Option Value)
    → HoldsBytes cells object old → block ≡ wanted / 4096
    → IsCutTo v (cells (cell.Block object block)) (wanted % 4096)
    → HoldsBlock v (resized old wanted) (4096 * block)
cut_holds cells object old wanted block v holds is cut = record {
  kind = cut.kind;
  byte = λ at within. elim (cases_lt at (wanted % 4096)) [
    | inl before ↦ cut.front at before ∙ holds.byte block at within
        ∙ sym (resized_at old wanted (4096 * block + at) (omega arith))
    | inr past ↦ cut.back at past within
        ∙ sym (resized_past old wanted (4096 * block + at) (omega arith))
  ];
}

-- the cell of a block after both changes
abbrev cut_cell : Cells → ℕ → ℕ → ℕ → ℕ → Option Value
cut_cell cells object size wanted block =
    after_erasure object size wanted block
    (after_put object (wanted / 4096) (kept_in cells object wanted) block
    (cells (cell.Block object block)))

-- a block that isn't cut is not put
not_put : (cells : Cells) (object wanted block : ℕ)
    → (wanted % 4096 ≡ 0) ⊎ (wanted / 4096 ≡ block → ⊥)
    → after_put object (wanted / 4096) (kept_in cells object wanted) block
    (cells (cell.Block object block)) ≡ cells
    (cell.Block object block)
not_put cells object wanted block (inl none) =
    ap (λ (k : Option (List ℕ)). after_put object (wanted / 4096) k block
    (cells (cell.Block object block)))
    (kept_none_at_start (stored (cells (cell.Block object (wanted / 4096)))) (wanted % 4096) none)
not_put cells object wanted block (inr other) =
    other_block object (wanted / 4096) (kept_in cells object wanted)
    block (cells (cell.Block object block)) other

behind_not_cut : (wanted block : ℕ) → blocks_of wanted ≤ block
    → (wanted % 4096 ≡ 0) ⊎ (wanted / 4096 ≡ block → ⊥)
behind_not_cut wanted block from = elim (cases_eq (wanted % 4096) 0) [
  | inl none ↦ inl none
  | inr some ↦ inr (λ e. omega (arith, some))
]

behind_block : (cells : Cells) (object : ℕ) (old : List ℕ) (wanted block : ℕ)
    → HoldsBytes cells object old
    → wanted < length old → blocks_of wanted ≤ block
    → HoldsBlock (cut_cell cells object (length old) wanted block) (resized old wanted)
    (4096 * block)
behind_block cells object old wanted block holds cut from =
    elim (cases_lt (4096 * blocks_of wanted) (length old)) [
      | inl some ↦ holds_along _ None _ _ (is_gone object (length old) wanted block _ from some)
          (gone_holds old wanted (4096 * block) (omega arith))
      | inr none ↦ holds_along _ (cells (cell.Block object block)) _ _
          (none_goes object (length old) wanted block _ none
          ∙ not_put cells object wanted block (behind_not_cut wanted block from))
          (same_holds cells object old wanted block holds
          (λ at within past. get_or_past old (4096 * block + at) 0 (omega arith)))
    ]

before_block : (cells : Cells) (object : ℕ) (old : List ℕ) (wanted block : ℕ)
    → HoldsBytes cells object old
    → block < blocks_of wanted
    → HoldsBlock (cut_cell cells object (length old) wanted block) (resized old wanted)
    (4096 * block)
before_block cells object old wanted block holds before = elim (cases_eq block (wanted / 4096)) [
  | inl here ↦ holds_along _ _ _ _ (is_left object (length old) wanted block _ before)
      (cut_holds cells object old wanted block _ holds here
      (subst (λ (b : ℕ). IsCutTo
      (after_put object b (kept_of (stored (cells (cell.Block object b))) (wanted % 4096)) block
      (cells (cell.Block object block))) (cells (cell.Block object block)) (wanted % 4096))
      here (cut_block object block (wanted % 4096) (cells (cell.Block object block))
      (holds.blocks block)
      (omega arith) (omega arith))))
  | inr other ↦ holds_along _ (cells (cell.Block object block)) _ _
      (is_left object (length old) wanted block _ before
      ∙ not_put cells object wanted block (inr (λ e. other (sym e))))
      (same_holds cells object old wanted block holds
      (λ at within past. absurd (omega (arith, other))))
]

one_block : (cells : Cells) (object : ℕ) (old : List ℕ) (wanted block : ℕ)
    → HoldsBytes cells object old
    → wanted < length old
    → HoldsBlock (cut_cell cells object (length old) wanted block) (resized old wanted)
    (4096 * block)
one_block cells object old wanted block holds cut = elim (cases_lt block (blocks_of wanted)) [
  | inl before ↦ before_block cells object old wanted block holds before
  | inr from ↦ behind_block cells object old wanted block holds cut from
]

-- ---- all blocks

abbrev both : Cells → ℕ → ℕ → ℕ → List Change
both cells object size wanted =
    put_kept object (wanted / 4096) (kept_in cells object wanted) ++ erasure object size
    wanted

both_cell : (cells : Cells) (object size wanted block : ℕ)
    → after (both cells object size wanted) cells (cell.Block object block)
    ≡ cut_cell cells object size wanted block
both_cell cells object size wanted block =
    fold-append (changed (cell.Block object block)) (cells (cell.Block object block))
    (put_kept object (wanted / 4096) (kept_in cells object wanted)) (erasure object size wanted)

cut_block_holds : (cells : Cells) (object : ℕ) (old : List ℕ) (wanted block : ℕ)
    → HoldsBytes cells object old
    → wanted < length old
    → HoldsBlock (after (both cells object (length old) wanted) cells (cell.Block object block))
    (resized old wanted) (4096 * block)
cut_block_holds cells object old wanted block holds cut =
    holds_along _ _ _ _ (both_cell cells object (length old) wanted block)
    (one_block cells object old wanted block holds cut)

cut_ends : (cells : Cells) (object size wanted block : ℕ) → EndsAt cells object size → wanted < size
    → wanted ≤ 4096 * block
    → cut_cell cells object size wanted block ≡ None
cut_ends cells object size wanted block ends cut past =
    elim (cases_lt (4096 * blocks_of wanted) size) [
      | inl some ↦ is_gone object size wanted block _ (omega arith) some
      | inr none ↦ none_goes object size wanted block _ none
          ∙ not_put cells object wanted block (behind_not_cut wanted block (omega arith))
          ∙ ends block (omega arith)
    ]

cut_lead : (cells : Cells) (object : ℕ) (old : List ℕ) (wanted : ℕ) → HoldsBytes cells object old
    → wanted < length old
    → LeadTo (both cells object (length old) wanted) cells object (length old) (resized old wanted)
cut_lead cells object old wanted holds cut = record {
  holds = record {
    blocks = λ block. (cut_block_holds cells object old wanted block holds cut).kind;
    byte = λ block at within. (cut_block_holds cells object old wanted block holds cut).byte at
        within;
  };
  others = λ c beside. fold-append (changed c) (cells c)
      (put_kept object (wanted / 4096) (kept_in cells object wanted))
      (erasure object (length old) wanted)
      ∙ apart_if (nat_lt (4096 * blocks_of wanted) (length old)) object
      (blocks_of wanted) c _ beside
      ∙ kept_apart object (wanted / 4096) (kept_in cells object wanted) c (cells c) beside;
  ends = λ ends block past. both_cell cells object (length old) wanted block
      ∙ cut_ends cells object (length old) wanted block ends cut
      (omega (arith, length-resized old wanted));
}

-- a file that is extended with zeros holds them already
pub extended : (cells : Cells) (object : ℕ) (old : List ℕ) (wanted : ℕ)
    → HoldsBytes cells object old
    → length old ≤ wanted → HoldsBytes cells object (resized old wanted)
extended cells object old wanted holds long = record {
  blocks = holds.blocks;
  byte = λ block at within.
      (same_holds cells object old wanted block holds
      (λ at within past. get_or_past old (4096 * block + at) 0 (omega arith))).byte at within;
}

extension_leads : (cells : Cells) (object : ℕ) (old : List ℕ) (wanted : ℕ)
    → HoldsBytes cells object old
    → length old ≤ wanted
    → LeadTo [] cells object (length old) (resized old wanted)
extension_leads cells object old wanted holds long = record {
  holds = extended cells object old wanted holds long;
  others = λ c beside. refl;
  ends = λ ends block past. ends block (omega (arith, length-resized old wanted));
}

lead : (cells : Cells) (object : ℕ) (old : List ℕ) (wanted : ℕ) → HoldsBytes cells object old
    → LeadTo (cuts object (length old) wanted (kept_in cells object wanted)) cells object
    (length old)
    (resized old wanted)
lead cells object old wanted holds = elim (cases_lt wanted (length old)) [
  | inl cut ↦ subst (λ (t : Bool). LeadTo
      (if◌then◌else◌ {A = List Change} t (both cells object (length old) wanted) []) cells object
      (length old)
      (resized old wanted))
      (sym (lt-ltb wanted (length old) cut)) (cut_lead cells object old wanted holds cut)
  | inr long ↦ subst (λ (t : Bool). LeadTo
      (if◌then◌else◌ {A = List Change} t (both cells object (length old) wanted) []) cells object
      (length old)
      (resized old wanted))
      (sym (le-ltb wanted (length old) long)) (extension_leads cells object old wanted holds long)
]

pub cuts_lead : (cells : Cells) (object size : ℕ) (old : List ℕ) (wanted : ℕ)
    → HoldsBytes cells object old
    → length old ≡ size
    → LeadTo (cuts object size wanted (kept_in cells object wanted)) cells object size
    (resized old wanted)
cuts_lead cells object size old wanted holds is = subst
    (λ (n : ℕ). LeadTo (cuts object n wanted (kept_in cells object wanted)) cells object n
    (resized old wanted)) is
    (lead cells object old wanted holds)

-- the Put and the erasure, one after the other
pub cut_joined : (old mid new : List Change) (object size wanted : ℕ) (kept : Option (List ℕ))
    → mid ≡ old ++ put_kept object (wanted / 4096) kept
    → new ≡ mid ++ erasure object size wanted → wanted < size
    → new ≡ old ++ cuts object size wanted kept
cut_joined old mid new object size wanted kept first second cut =
    second
    ∙ ap (λ (xs : List Change). xs ++ erasure object size wanted) first
    ∙ append_assoc old (put_kept object (wanted / 4096) kept) (erasure object size wanted)
    ∙ ap (λ (t : Bool). old ++ (if◌then◌else◌ {A = List Change} t
    (put_kept object (wanted / 4096) kept ++ erasure object size wanted) []))
    (sym (lt-ltb wanted size cut))
