-- Bytes by their places, where zeros stand for missing ones.
use Rattle.std.proofs.Common.{◌≡◌, ℕ, ◌+◌, ◌-◌, ◌<◌, ◌≤◌, min, max, List, [], ◌++◌, length, take, drop, replicate, get_or, refl, sym, ap, ◌∙◌, arith, inl, inr}
use Rattle.std.proofs.lemmas.Bool.{cases_lt}
use Rattle.std.proofs.lemmas.List.{length-append, length-take, length-drop, length-replicate, get_or-replicate, get_or_append_left, get_or-append_right, get_or-take, get_or-drop, get_or_past, drop_all}
use Rattle.file_tree.specs.Outcome.{resized, written}

pub zero_at : (n i : ℕ) → get_or {A = ℕ} (replicate n 0) i 0 ≡ 0
zero_at n i = elim (cases_lt i n) [
  | inl within ↦ get_or-replicate n i 0 0 within
  | inr past ↦ get_or_past (replicate n 0) i 0 (omega (arith, length-replicate {A = ℕ} n 0))
]

pub length-resized : (xs : List ℕ) (n : ℕ) → length (resized xs n) ≡ n
length-resized xs n = simp (length-append, length-take, length-replicate) (omega arith)

pub resized_at : (xs : List ℕ) (n i : ℕ) → i < n → get_or (resized xs n) i 0 ≡ get_or xs i 0
resized_at xs n i within = elim (cases_lt i (length xs)) [
  | inl there ↦
      get_or_append_left (take n xs) (replicate (n - length xs) 0) 0 i
      (omega (arith, length-take n xs))
      ∙ get_or-take n xs i 0 within
  | inr past ↦
      get_or-append_right (take n xs) (replicate (n - length xs) 0) (length (take n xs)) i 0 refl
      (omega (arith, length-take n xs))
      ∙ zero_at (n - length xs) (i - length (take n xs)) ∙ sym (get_or_past xs i 0 past)
]

pub resized_past : (xs : List ℕ) (n i : ℕ) → n ≤ i → get_or (resized xs n) i 0 ≡ 0
resized_past xs n i past = get_or_past (resized xs n) i 0 (omega (arith, length-resized xs n))

length_front : (old : List ℕ) (offset : ℕ) (bytes : List ℕ)
    → length (resized old offset ++ bytes) ≡ offset + length bytes
length_front old offset bytes = length-append (resized old offset) bytes
    ∙ ap (λ (n : ℕ). n + length bytes) (length-resized old offset)

pub length-written : (old : List ℕ) (offset : ℕ) (bytes : List ℕ)
    → length (written old offset bytes) ≡ max (length old) (offset + length bytes)
length-written old offset bytes =
    simp (length-append, length-take, length-replicate, length-drop) (omega arith)

pub written_before : (old : List ℕ) (offset : ℕ) (bytes : List ℕ) (i : ℕ) → i < offset
    → get_or (written old offset bytes) i 0 ≡ get_or old i 0
written_before old offset bytes i before =
    get_or_append_left (resized old offset ++ bytes) (drop (offset + length bytes) old) 0 i
    (omega (arith, length_front old offset bytes))
    ∙ get_or_append_left (resized old offset) bytes 0 i (omega (arith, length-resized old offset))
    ∙ resized_at old offset i before

pub written_in : (old : List ℕ) (offset : ℕ) (bytes : List ℕ) (i k : ℕ) → offset + k ≡ i
    → k < length bytes
    → get_or (written old offset bytes) i 0 ≡ get_or bytes k 0
written_in old offset bytes i k is within =
    get_or_append_left (resized old offset ++ bytes) (drop (offset + length bytes) old) 0 i
    (omega (arith, length_front old offset bytes))
    ∙ get_or-append_right (resized old offset) bytes offset i 0 (length-resized old offset)
    (omega arith)
    ∙ ap (λ (n : ℕ). get_or bytes n 0) (omega arith)

pub written_after : (old : List ℕ) (offset : ℕ) (bytes : List ℕ) (i : ℕ) → offset + length bytes ≤ i
    → get_or (written old offset bytes) i 0 ≡ get_or old i 0
written_after old offset bytes i past =
    get_or-append_right (resized old offset ++ bytes) (drop (offset + length bytes) old)
    (offset + length bytes) i 0
    (length_front old offset bytes) past
    ∙ get_or-drop (offset + length bytes) old (i - (offset + length bytes)) 0
    ∙ ap (λ (n : ℕ). get_or old n 0) (omega arith)

-- no bytes written leave each place as it is
pub written_nothing : (old : List ℕ) (offset : ℕ) (bytes : List ℕ) (i : ℕ) → length bytes ≡ 0
    → get_or (written old offset bytes) i 0 ≡ get_or old i 0
written_nothing old offset bytes i nothing = elim (cases_lt i offset) [
  | inl before ↦ written_before old offset bytes i before
  | inr past ↦ written_after old offset bytes i (omega arith)
]

length_part : (bytes : List ℕ) (room skip : ℕ)
    → length (take room (drop skip bytes)) ≡ min room (length bytes - skip)
length_part bytes room skip = length-take room (drop skip bytes)
    ∙ ap (λ (n : ℕ). min room n) (length-drop skip bytes)

part_at : (bytes : List ℕ) (room skip j k : ℕ) → j < room → skip + j ≡ k
    → get_or (take room (drop skip bytes)) j 0 ≡ get_or bytes k 0
part_at bytes room skip j k within is = get_or-take room (drop skip bytes) j 0 within
    ∙ get_or-drop skip bytes j 0
    ∙ ap (λ (n : ℕ). get_or bytes n 0) is

-- a block of a file that is written, where the block begins at a place of the file
pub block_at : (stood old : List ℕ) (offset : ℕ) (bytes : List ℕ) (start at : ℕ) → at < 4096
    → get_or stood at 0 ≡ get_or old (start + at) 0
    → get_or (written stood (offset - start)
    (take (4096 - (offset - start)) (drop (start - offset) bytes))) at
    0 ≡ get_or (written old offset bytes) (start + at) 0
block_at stood old offset bytes start at within same = elim (cases_lt (start + at) offset) [
  | inl before ↦ written_before stood (offset - start) _ at (omega arith) ∙ same
      ∙ sym (written_before old offset bytes (start + at) before)
  | inr from ↦ elim (cases_lt (start + at) (offset + length bytes)) [
    | inl in_it ↦ written_in stood (offset - start) _ at (at - (offset - start)) (omega arith)
        (omega (arith, length_part bytes (4096 - (offset - start)) (start - offset)))
        ∙ part_at bytes (4096 - (offset - start)) (start - offset) (at - (offset - start))
        (start + at - offset)
        (omega arith) (omega arith)
        ∙ sym (written_in old offset bytes (start + at) (start + at - offset) (omega arith)
        (omega arith))
    | inr past ↦ written_after stood (offset - start) _ at
        (omega (arith, length_part bytes (4096 - (offset - start)) (start - offset)))
        ∙ same ∙ sym (written_after old offset bytes (start + at) past)
  ]
]

-- which has at most 4096 bytes
pub block_fits : (stood : List ℕ) (offset : ℕ) (bytes : List ℕ) (start : ℕ) → length stood ≤ 4096
    → offset < start + 4096
    → length (written stood (offset - start)
    (take (4096 - (offset - start)) (drop (start - offset) bytes))) ≤ 4096
block_fits stood offset bytes start fits meets =
    omega (
      arith,
      length-written stood (offset - start)
          (take (4096 - (offset - start)) (drop (start - offset) bytes)),
      length_part bytes (4096 - (offset - start))
          (start - offset),
    )

no_bytes : (xs : List ℕ) (n : ℕ) → n ≡ 0 → resized xs n ≡ []
no_bytes xs n none = let e : n ≡ 0 = none in let f : 0 - length xs ≡ 0 = omega arith in
    rw (e, f) refl

-- a whole block is written as it is
pub whole_written : (stood : List ℕ) (within : ℕ) (bytes : List ℕ) → length stood ≤ 4096
    → within ≡ 0
    → length bytes ≡ 4096
    → written [] within bytes ≡ written stood within bytes
whole_written stood within bytes fits first whole =
    ap (λ (xs : List ℕ). resized [] within ++ bytes ++ xs)
    (drop_all (within + length bytes) [] (omega arith)
    ∙ sym (drop_all (within + length bytes) stood (omega arith)))
    ∙ ap (λ (xs : List ℕ). xs ++ bytes ++ drop (within + length bytes) stood)
    (no_bytes [] within first ∙ sym (no_bytes stood within first))
