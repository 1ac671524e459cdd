-- Changes made one after the other, and first parts of them.
use Rattle.std.proofs.Common.{◌≡◌, ℕ, zero, suc, append_assoc, ◌+◌, ◌-◌, ◌<◌, ◌≤◌, arith, length-drop, List, [], ◌∷◌, ◌++◌, length, take, drop, Option, refl, sym, ap, ◌∙◌}
use Rattle.std.specs.Prelude.{slice_index_or}
use Rattle.std.proofs.lemmas.List.{take_more, get_or-drop}
use Rattle.std.proofs.lemmas.Grind.{flat_map-append, common_steps}
use Rattle.std.specs.List.{flat_map}
use Rattle.harp_cells.specs.declared.change.Change.{Change}
use Rattle.harp_store.specs.Disk.{Moments}
pub use Rattle.harp_store.proofs.Runs.{after_both, all_is_part, crashes_of_part, item_made, item_part, moments_of_part, on_err}
use Rattle.applier.specs.Applied.{after_changes, AfterPart, changes_between, changes_at}

-- ---- records

-- the changes of one record more
one_list : (cs : List Change) → flat_map (λ (changes : List Change). changes) (cs ∷ []) ≡ cs
one_list cs = search common_steps

pub between_more : (base : ℕ) (records : List (List Change)) (from at : ℕ) → base ≤ from
    → from ≤ at → at < base + length records
    → changes_between base records from (at + 1)
    ≡ changes_between base records from at ++ changes_at base records (at + 1)
between_more base records from at le more lt =
    let m : at + 1 - from ≡ at - from + 1 = omega (arith, more) in
    let i : from - base + (at - from) ≡ at + 1 - (base + 1) = omega (arith, le, more) in
    let here : at - from < length (drop (from - base) records) = rw length-drop (omega
    (arith, le, more, lt)) in
    ap (λ (k : ℕ). flat_map (λ changes. changes) (take k (drop (from - base) records))) m
    ∙ ap (flat_map (λ changes. changes)) (take_more (drop (from - base) records)
    (at - from) [] here)
    ∙ flat_map-append (λ (changes : List Change). changes) (take (at - from) (drop
    (from - base) records)) (slice_index_or (drop (from - base) records) (at - from) [] ∷ [])
    ∙ ap (λ (cs : List Change). changes_between base records from at ++ cs)
    (one_list (slice_index_or (drop (from - base) records) (at - from) [])
    ∙ get_or-drop (from - base) records (at - from) []
    ∙ ap (λ (k : ℕ). slice_index_or records k []) i)

pub between_none : (base : ℕ) (records : List (List Change)) (from : ℕ) (told : Option Moments)
    → told ≡ after_changes (changes_between base records from from) told
unfolding after_changes
between_none base records from told =
    let none : from - from ≡ 0 = omega arith in
    ap (λ (k : ℕ). after_changes (flat_map (λ changes. changes) (take k (drop
    (from - base) records))) told) (sym none)

-- one record more is applied
pub record_made : (base : ℕ) (records : List (List Change)) (from at : ℕ)
    (old mid new : Option Moments) → base ≤ from → from ≤ at → at < base + length records
    → mid ≡ after_changes (changes_between base records from at) old → new
    ≡ after_changes (changes_at base records (at + 1)) mid
    → new ≡ after_changes (changes_between base records from (at + 1)) old
record_made base records from at old mid new le more lt e h =
    h ∙ ap (after_changes (changes_at base records (at + 1))) e
    ∙ sym (after_both (changes_between base records from at) (changes_at base records (at + 1)) old)
    ∙ ap (λ (cs : List Change). after_changes cs old) (sym
    (between_more base records from at le more lt))

with_none : (cs : List Change) → cs ≡ cs ++ []
with_none cs = search common_steps

-- the records up to one, and then more
between_some : (base : ℕ) (records : List (List Change)) (from at j : ℕ) → base ≤ from
    → from ≤ at → at + j ≤ base + length records
    → (more : List Change) × (changes_between base records from (at + j)
    ≡ changes_between base records from at ++ more)
between_some base records from at zero le up to =
    let n : at + 0 ≡ at = omega arith in (
      [],
      ap (changes_between base records from) n
          ∙ with_none (changes_between base records from at),
    )
between_some base records from at (suc j) le up to =
    let before = between_some base records from at j le up (omega (arith, to)) in
    let n : at + suc j ≡ at + j + 1 = omega arith in (
      before.0 ++ changes_at base records (at + j + 1),
      ap (changes_between base records from) n
          ∙ between_more base records from (at + j) le (omega (arith, up)) (omega (arith, to))
          ∙ ap (λ (cs : List Change). cs ++ changes_at base records (at + j + 1)) before.1
          ∙ append_assoc (changes_between base records from at) before.0 (changes_at base records
          (at + j + 1)),
    )

-- a first part of a list behind another one
part_behind : (xs ys zs : List Change) (n : ℕ) → (m : ℕ) × (xs ++ take n ys
    ≡ take m (xs ++ ys ++ zs))
part_behind [] [] zs zero = (0, refl)
part_behind [] [] zs (suc n) = (0, refl)
part_behind [] (y ∷ ys) zs zero = (0, refl)
part_behind [] (y ∷ ys) zs (suc n) = let rest = part_behind [] ys zs n in (
  suc rest.0,
  ap (λ
      (cs : List Change). y ∷ cs) rest.1,
)
part_behind (x ∷ xs) ys zs n = let rest = part_behind xs ys zs n in (
  suc rest.0,
  ap (λ
      (cs : List Change). x ∷ cs) rest.1,
)

-- records up to one, and of the next one a first part, are a first part of all
pub records_part : (base : ℕ) (records : List (List Change)) (from at to : ℕ)
    (old mid new : Option Moments) → base ≤ from → from ≤ at → at < to
    → to ≤ base + length records → mid ≡ after_changes (changes_between base records from at) old
    → AfterPart (changes_at base records (at + 1)) mid new
    → AfterPart (changes_between base records from to) old new
records_part base records from at to old mid new le up lt within e (n, h) =
    let next = between_some base records from (at + 1) (to - (at + 1)) le (omega (arith, up))
    (omega (arith, lt, within)) in
    let end : at + 1 + (to - (at + 1)) ≡ to = omega (arith, lt) in
    let whole : changes_between base records from at ++ changes_at base records
    (at + 1) ++ next.0 ≡ changes_between base records from to =
    ap (λ (cs : List Change). cs ++ next.0) (sym (between_more base records from at le up (omega
    (arith, lt, within))))
    ∙ sym next.1 ∙ ap (changes_between base records from) end in
    let part = part_behind (changes_between base records from at) (changes_at base records
    (at + 1)) next.0 n in (
      part.0,
      h ∙ ap (after_changes (take n (changes_at base records (at + 1)))) e
          ∙ sym (after_both (changes_between base records from at) (take n
          (changes_at base records (at + 1))) old)
          ∙ ap (λ (cs : List Change). after_changes cs old) (part.1 ∙ ap (take part.0) whole),
    )
