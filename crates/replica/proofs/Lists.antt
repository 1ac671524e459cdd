-- Records by their places.
use Rattle.std.proofs.Common.{◌≡◌, ℕ, zero, suc, ◌+◌, ◌-◌, ◌<◌, ◌≤◌, List, [], ◌∷◌, ◌++◌, length, take, drop, refl, sym, ap, ◌∙◌, arith, append_assoc, Some, true}
use Rattle.std.specs.Prelude.{map, nat_lt, slice_get}
use Rattle.std.proofs.lemmas.Bool.{lt-ltb}
use Rattle.std.proofs.lemmas.List.{drop-map, length-map}
use Rattle.std.proofs.lemmas.Option.{same_Some}
use Rattle.event_record.specs.Record.{entry_of}
use Rattle.event_record.specs.declared.record.RecordFields.{RecordFields}
use Rattle.replica.specs.Leading.{entries}
use Rattle.volatile_log.specs.Log.{LogValue, record_at, top}

-- after n of the items comes one, and then those after n + 1
pub drop_split : {E : Type 0} (items : List E) (n : ℕ) → n < length items
    → (e : E) × (drop n items ≡ e ∷ drop (n + 1) items)
drop_split [] n h = absurd (omega (arith, h))
drop_split (x ∷ xs) zero h = (x, refl)
drop_split (x ∷ xs) (suc n) h =
    let r = drop_split xs n (omega (arith, h)) in
    let next : suc (n + 1) ≡ suc n + 1 = omega arith in
    (r.0, r.1 ∙ ap (λ k. r.0 ∷ drop k (x ∷ xs)) next)

-- the record of a place
there : (rs : List RecordFields) (n : ℕ) (r : RecordFields) → slice_get rs n ≡ Some r → drop n rs
    ≡ r ∷ drop (n + 1) rs
there [] n r h = absurd (cc)
there (x ∷ rs) zero r h = ap (λ (y : RecordFields). y ∷ rs) (same_Some x r h)
there (x ∷ rs) (suc n) r h =
    let next : suc (n + 1) ≡ suc n + 1 = omega arith in
    there rs n r h ∙ ap (λ k. r ∷ drop k (x ∷ rs)) next

pub record_there : (log : LogValue) (n : ℕ) (r : RecordFields) → log.base ≤ n → Some r
    ≡ record_at log (n + 1)
    → drop (n - log.base) log.records ≡ r ∷ drop (n + 1 - log.base) log.records
record_there log n r from is =
    let above : nat_lt log.base (n + 1) ≡ true = lt-ltb log.base (n + 1) (omega (arith, from)) in
    let at : n + 1 - log.base - 1 ≡ n - log.base = omega (arith, from) in
    let found : record_at log (n + 1)
    ≡ slice_get log.records (n - log.base) = rw (above, at) refl in
    let after : n - log.base + 1 ≡ n + 1 - log.base = omega (arith, from) in
    there log.records (n - log.base) r (sym (is ∙ found))
    ∙ ap (λ k. r ∷ drop k log.records) after

-- and as an entry
pub record_next : (log : LogValue) (n : ℕ) (r : RecordFields) → log.base ≤ n → Some r
    ≡ record_at log (n + 1)
    → drop (n - log.base) (entries log) ≡ entry_of r ∷ drop (n + 1 - log.base) (entries log)
record_next log n r from is = drop-map entry_of (n - log.base) log.records
    ∙ ap (map entry_of) (record_there log n r from is)
    ∙ ap (λ es. entry_of r ∷ es) (sym (drop-map entry_of (n + 1 - log.base) log.records))

pub entries_length : (log : LogValue) → length (entries log) ≡ length log.records
entries_length log = length-map log.records entry_of

-- what a log without its first records has
pub entries_drop : (log : LogValue) (n : ℕ) → map entry_of (drop n log.records)
    ≡ drop n (entries log)
entries_drop log n = sym (drop-map entry_of n log.records)

-- the first of what is left, and so many of those behind it
take_split : {A : Type 0} (xs : List A) (k j m : ℕ) → k < length xs → m ≡ j + 1
    → take 1 (drop k xs) ++ take j (drop (k + 1) xs) ≡ take m (drop k xs)
take_split {A = A} xs k j m within is =
    let r = drop_split xs k within in
    let more : m ≡ suc j = omega (arith, is) in
    ap (λ (ys : List A). take 1 ys ++ take j (drop (k + 1) xs)) r.1
    ∙ ap (λ n. take n (r.0 ∷ drop (k + 1) xs)) (sym more)
    ∙ ap (λ (ys : List A). take m ys) (sym r.1)

-- one more of the records above an index
pub records_go_on : (log : LogValue) (first n : ℕ) (sent new all : List RecordFields)
    → log.base ≤ n → n < top log → n < first + 64
    → sent ++ take (first + 64 - n) (drop (n - log.base) log.records) ≡ all
    → new ≡ sent ++ take 1 (drop (n - log.base) log.records)
    → new ++ take (first + 64 - (n + 1)) (drop (n + 1 - log.base) log.records) ≡ all
records_go_on log first n sent new all from within few way next =
    let k = n - log.base in
    let j = first + 64 - (n + 1) in
    let at : n + 1 - log.base ≡ k + 1 = omega (arith, from) in
    ap (λ (xs : List RecordFields). xs ++ take j (drop (n + 1 - log.base) log.records)) next
    ∙ ap (λ i. (sent ++ take 1 (drop k log.records)) ++ take j (drop i log.records)) at
    ∙ append_assoc sent (take 1 (drop k log.records)) (take j (drop (k + 1) log.records))
    ∙ ap (λ (xs : List RecordFields). sent ++ xs)
    (take_split log.records k j (first + 64 - n) (omega (arith, from, within)) (omega
    (arith, few)))
    ∙ way
