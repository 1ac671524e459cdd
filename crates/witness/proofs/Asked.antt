-- The records that are asked for, one by one.
use Rattle.std.proofs.Common.{append-nil, append_assoc, nat_le, ◌≡◌, ℕ, zero, suc, ◌+◌, ◌-◌, ◌<◌, ◌≤◌, List, [], ◌∷◌, ◌++◌, take, drop, None, Some, Bool, true, false, nat_lt, refl, ap, sym, ◌∙◌, arith, if◌then◌else◌}
use Rattle.std.specs.List.{slice_get}
use Rattle.std.proofs.lemmas.Bool.{ltb-true, le-leb, lt-leb}
use Rattle.event_record.specs.declared.record.RecordFields.{RecordFields}
use Rattle.volatile_log.specs.Log.{LogValue, record_at}
use Rattle.witness.specs.Serving.{asked_for, front, most_bytes, one_or_more}

drop_there : (rs : List RecordFields) (n : ℕ) (r : RecordFields) → slice_get rs n ≡ Some r
    → drop n rs ≡ r ∷ drop (n + 1) rs
drop_there [] n r h = cc
drop_there (x ∷ rs) zero r h = let same : x ≡ r = cc in ap (λ y. y ∷ rs) same
drop_there (x ∷ rs) (suc n) r h = drop_there rs n r h
    ∙ ap (λ m. r ∷ drop m (x ∷ rs)) (let more : suc (n + 1) ≡ suc n + 1 = omega arith in more)

-- the record of an index, where the base is below it
at : (b : Bool) (log : LogValue) (index : ℕ) (r : RecordFields) → nat_lt log.base index ≡ b
    → (if b then slice_get log.records (index - log.base - 1) else None) ≡ Some r
    → (log.base < index) × (slice_get log.records (index - log.base - 1) ≡ Some r)
at true log index r low h = (ltb-true log.base index low, h)
at false log index r low h = cc

pub asked_next : (log : LogValue) (index last : ℕ) (r : RecordFields) → index ≤ last
    → record_at log index ≡ Some r
    → asked_for log index last ≡ r ∷ asked_for log (index + 1) last
asked_next log index last r to h =
    let is = at (nat_lt log.base index) log index r refl h in
    let one : last - (index - 1) ≡ suc (last - index) = omega (arith, is.0, to) in
    let here : index - 1 - log.base ≡ index - log.base - 1 = omega (arith, is.0) in
    let there : index - log.base - 1 + 1 ≡ index + 1 - 1 - log.base = omega (arith, is.0) in
    let left : last - index ≡ last - (index + 1 - 1) = omega arith in
    let parts : drop (index - 1 - log.base) log.records
    ≡ r ∷ drop (index + 1 - 1 - log.base) log.records =
    ap (λ n. drop n log.records) here ∙ drop_there log.records (index - log.base - 1) r is.1
    ∙ ap (λ n. r ∷ drop n log.records) there in
    ap (λ xs. take (last - (index - 1)) xs) parts
    ∙ ap (λ n. take n (r ∷ drop (index + 1 - 1 - log.base) log.records)) one
    ∙ ap (λ n. r ∷ take n (drop (index + 1 - 1 - log.base) log.records)) left

-- ---- giving them one after the other

pub begins : (size : RecordFields
    → ℕ) (log : LogValue) (first last : ℕ) (r : RecordFields) (items : List RecordFields)
    → first ≤ last → record_at log first ≡ Some r → items ≡ r ∷ []
    → items ++ front size (size r) (asked_for log (first + 1) last)
    ≡ one_or_more size (asked_for log first last)
begins size log first last r items to is one =
    ap (λ xs. xs ++ front size (size r) (asked_for log (first + 1) last)) one
    ∙ sym (ap (one_or_more size) (asked_next log first last r to is))

-- the next record isn't within the space, or it is
over : (size : RecordFields → ℕ) (used : ℕ) (r : RecordFields) (rs : List RecordFields)
    → most_bytes < used + size r → front size used (r ∷ rs) ≡ []
over size used r rs much = let no : nat_le (used + size r) most_bytes
    ≡ false = lt-leb (used + size r) most_bytes much in rw no refl

fits : (size : RecordFields → ℕ) (used : ℕ) (r : RecordFields) (rs : List RecordFields)
    → used + size r ≤ most_bytes → front size used (r ∷ rs) ≡ r ∷ front size (used + size r) rs
fits size used r rs few = let yes : nat_le (used + size r) most_bytes
    ≡ true = le-leb (used + size r) most_bytes few in rw yes refl

pub stops : (size : RecordFields
    → ℕ) (log : LogValue) (index last used : ℕ) (r : RecordFields) (items all : List RecordFields)
    → items ++ front size used (asked_for log index last) ≡ all → index ≤ last
    → record_at log index ≡ Some r → most_bytes < used + size r → items ≡ all
stops size log index last used r items all h to is much =
    sym (append-nil items)
    ∙ sym (ap (λ xs. items ++ xs) (ap (front size used) (asked_next log index last r to is)
    ∙ over size used r (asked_for log (index + 1) last) much)) ∙ h

pub goes_on : (size : RecordFields
    → ℕ) (log : LogValue) (index last used more : ℕ) (r : RecordFields)
    (items longer all : List RecordFields)
    → items ++ front size used (asked_for log index last) ≡ all → index ≤ last
    → record_at log index ≡ Some r → more ≡ used + size r → more ≤ most_bytes
    → longer ≡ items ++ r ∷ [] → longer ++ front size more (asked_for log (index + 1) last) ≡ all
goes_on size log index last used more r items longer all h to is sum few next =
    let few' : used + size r ≤ most_bytes = omega (arith, sum, few) in
    let rest = asked_for log (index + 1) last in
    ap (λ xs. xs ++ front size more rest) next
    ∙ ap (λ n. (items ++ r ∷ []) ++ front size n rest) sum
    ∙ append_assoc items (r ∷ []) (front size (used + size r) rest)
    ∙ sym (ap (λ xs. items ++ xs) (ap (front size used) (asked_next log index last r to is)
    ∙ fits size used r rest few')) ∙ h
