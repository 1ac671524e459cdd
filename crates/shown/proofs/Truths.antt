-- What is shown of a log is what its definition says, and true of its history.
use Rattle.std.proofs.Common.{◌≡◌, ℕ, suc, ◌+◌, ◌-◌, ◌<◌, ◌≤◌, ◌^◌, List, [], ◌∷◌, length, take, drop, min, Option, None, Some, Bool, true, false, refl, ap, sym, subst, ◌∙◌, arith, if◌then◌else◌}
use Rattle.std.specs.Prelude.{◌&&◌, ◌||◌, ◌==◌, IfSome, map, nat_le, nat_lt, option_map}
use Rattle.std.proofs.lemmas.List.{drop-drop, drop-map, drop-take, length-take, take-map, take-take}
use Rattle.event_record.specs.declared.record.RecordFields.{RecordFields}
use Rattle.fuzzy_cells.specs.History.{History}
use Rattle.group_rules.proofs.Tests.{by_if, if_is, le_is, lt_is, neither, not_le, not_lt}
use Rattle.harp_cells.specs.declared.change.Change.{Change}
use Rattle.shown.specs.Truth.{IsLowShown, IsShownOf}
use Rattle.shown.specs.declared.shown.Shown.{Shown}
use Rattle.shown.specs.declared.shown.Shown.TheVariants as shown
use Rattle.shown.specs.Records.{AreCommittedOf, records_from}
use Rattle.volatile_log.specs.Log.{IsLog, LogValue, top}
use Rattle.witness.specs.Serving.{asked_for, front, given, most_bytes, one_or_more, record_size}

-- ---- as many as there is space for

front_first : (size : RecordFields → ℕ) (used : ℕ) (rs : List RecordFields)
    → front size used rs ≡ take (length (front size used rs)) rs
front_first size used [] = refl
front_first size used (r ∷ rs) =
    by_if (λ (xs : List RecordFields). xs ≡ take (length xs) (r ∷ rs))
    (nat_le (used + size r) most_bytes) (r ∷ front size (used + size r) rs) []
    (λ within. ap (λ (xs : List RecordFields). r ∷ xs) (front_first size (used + size r) rs))
    (λ over. refl)

more_first : (size : RecordFields → ℕ) (rs : List RecordFields)
    → one_or_more size rs ≡ take (length (one_or_more size rs)) rs
more_first size [] = refl
more_first size (r ∷ rs) =
    ap (λ (xs : List RecordFields). r ∷ xs) (front_first size (size r) rs)

-- some first ones of a list are at most as many
at_most : (xs rs : List RecordFields) → xs ≡ take (length xs) rs → length xs ≤ length rs
at_most xs rs is =
    let all = ap length is in
    let few = length-take (length xs) rs in
    omega (arith, all, few)

-- ---- records of a history

cut : {A : Type 0} (k d n : ℕ) (xs : List A) → d + k ≤ n
    → take k (drop d (take n xs)) ≡ take k (drop d xs)
cut {A = A} k d n xs le =
    let m = n - d in
    let is : n ≡ d + m = omega (arith, le) in
    ap (λ (j : ℕ). take k (drop d (take j xs))) is
    ∙ ap (take k) (drop-take d m xs)
    ∙ take-take k m (drop d xs) (omega (arith, le))

changes : List RecordFields → History
changes rs = map (λ r. r.changes) rs

records_true : (log : LogValue) (first : ℕ) (history : History) → AreCommittedOf history log
    → log.base < first → first ≤ log.cp
    → IsShownOf history (shown.Records first (one_or_more record_size
    (asked_for log first log.cp)))
records_true log first history of above within =
    let n = log.cp - (first - 1) in
    let d = first - 1 - log.base in
    let asked = asked_for log first log.cp in
    let rs = one_or_more record_size asked in
    let k = length rs in
    let some = more_first record_size asked in
    let few = at_most rs asked some in
    let taken = length-take n (drop d log.records) in
    let all = of.within in
    let ch = λ (r : RecordFields). r.changes in
    let here : log.base + d ≡ first - 1 = omega (arith, above) in
    let is : map ch rs ≡ take k (drop d (map ch log.records)) =
    ap (map ch) (some ∙ take-take k n (drop d log.records) (omega (arith, few, taken)))
    ∙ sym (take-map ch k (drop d log.records))
    ∙ ap (take k) (sym (drop-map ch d log.records)) in
    let fits : d + k ≤ log.cp - log.base = omega (arith, few, taken, above, within) in (
      omega (arith, above),
      omega (arith, few, taken, above, within, all),
      is ∙ sym (cut k d (log.cp - log.base) (map ch log.records) fits)
          ∙ ap (λ (h : History). take k (drop d h)) of.are
          ∙ cut k d (log.cp - log.base) (drop log.base history) fits
          ∙ ap (take k) (drop-drop d log.base history)
          ∙ ap (λ (j : ℕ). take k (drop j history)) here,
    )

records_low : (log : LogValue) (first : ℕ) → IsLog log → log.base < first → first ≤ log.cp
    → first + length (one_or_more record_size (asked_for log first log.cp)) ≤ 2 ^ 62
records_low log first h above within =
    let n = log.cp - (first - 1) in
    let d = first - 1 - log.base in
    let asked = asked_for log first log.cp in
    let rs = one_or_more record_size asked in
    let few = at_most rs asked (more_first record_size asked) in
    let taken = length-take n (drop d log.records) in
    let high = h.top in
    let cp = h.cp in
    omega (arith, few, taken, above, within, high, cp)

-- what holds of records that are shown holds of what is shown
of_records : (log : LogValue) (first : ℕ) (P : Shown → Type 0) → P (shown.Gone log.base)
    → (log.base < first → first ≤ log.cp
    → P (shown.Records first (one_or_more record_size (asked_for log first log.cp))))
    → IfSome (records_from log first) P
of_records log first P gone records =
    by_if (λ (o : Option Shown). IfSome o P) (first == 0 || nat_lt log.cp first) None
    (if nat_le first log.base then Some (shown.Gone log.base) else Some (shown.Records first
    (one_or_more record_size (asked_for log first log.cp)))) (λ out. tt)
    (λ in'. by_if (λ (o : Option Shown). IfSome o P) (nat_le first log.base)
    (Some (shown.Gone log.base)) (Some (shown.Records first (one_or_more record_size
    (asked_for log first log.cp)))) (λ low. gone)
    (λ high. records (not_le first log.base high)
    (not_lt log.cp first (neither (first == 0) (nat_lt log.cp first) in').1)))

pub true_of : (log : LogValue) (first : ℕ) (history : History) → AreCommittedOf history log
    → IfSome (records_from log first) (IsShownOf history)
true_of log first history of =
    of_records log first (IsShownOf history) tt (records_true log first history of)

pub low_of : (log : LogValue) (first : ℕ) → IsLog log → IfSome (records_from log first) IsLowShown
low_of log first h = of_records log first IsLowShown tt (records_low log first h)

-- ---- what was found

given_is : (log : LogValue) (first : ℕ) → IsLog log → log.base < first → first ≤ log.cp
    → given record_size log first log.cp
    ≡ Some (one_or_more record_size (asked_for log first log.cp))
given_is log first h above within =
    let cp = h.cp in
    let least : min log.cp (top log) ≡ log.cp = omega (arith, cp) in
    let a = lt_is log.base first above in
    let b = le_is first (min log.cp (top log)) (omega (arith, least, within)) in
    let both : (nat_lt log.base first && nat_le first (min log.cp (top log))) ≡ true =
    rw (a, b) refl in
    if_is (nat_lt log.base first && nat_le first (min log.cp (top log))) _ None both
    ∙ ap (λ (n : ℕ). Some (one_or_more record_size (asked_for log first n))) least

some_map : {A : Type 0} (items : A → List RecordFields) (found : Option A) (first : ℕ)
    (rs : List RecordFields) → option_map items found ≡ Some rs
    → option_map (λ v. shown.Records first (items v)) found ≡ Some (shown.Records first rs)
some_map items None first rs is = cc
some_map items (Some v) first rs is =
    let same : items v ≡ rs = cc in
    ap (λ (xs : List RecordFields). Some (shown.Records first xs)) same

else_same : {A : Type 0} (b : Bool) (x y z : A) → (b ≡ false → y ≡ z)
    → (if b then x else y) ≡ (if b then x else z)
else_same true x y z same = refl
else_same false x y z same = same refl

pub shown_is : {A : Type 0} (items : A → List RecordFields) (found : Option A) (log : LogValue)
    (first : ℕ) → IsLog log → option_map items found ≡ given record_size log first log.cp
    → (if first == 0 || nat_lt log.cp first then None
    else (if nat_le first log.base then Some (shown.Gone log.base)
    else option_map (λ v. shown.Records first (items v)) found)) ≡ records_from log first
shown_is items found log first h is =
    let rs = one_or_more record_size (asked_for log first log.cp) in
    else_same (first == 0 || nat_lt log.cp first) None _ _ (λ in'.
    else_same (nat_le first log.base) (Some (shown.Gone log.base)) _ _ (λ high.
    some_map items found first rs (is ∙ given_is log first h (not_le first log.base high)
    (not_lt log.cp first (neither (first == 0) (nat_lt log.cp first) in').1))))

-- what is answered, by the log's numbers as they were read
pub answer_is : {A : Type 0} (items : A → List RecordFields) (found : Option A) (log : LogValue)
    (first base cp again : ℕ) (o : Option Shown) → IsLog log → base ≡ log.base → cp ≡ log.cp
    → again ≡ log.cp → option_map items found ≡ given record_size log first cp
    → o ≡ (if first == 0 || nat_lt again first then None
    else (if nat_le first base then Some (shown.Gone base)
    else option_map (λ v. shown.Records first (items v)) found))
    → o ≡ records_from log first
answer_is {A = A} items found log first base cp again o h base_is cp_is again_is found_is is =
    let F : ℕ → ℕ → Option Shown = λ b c. if first == 0 || nat_lt c first then None
    else (if nat_le first b then Some (shown.Gone b)
    else option_map (λ v. shown.Records first (items v)) found) in
    is ∙ ap (λ (b : ℕ). F b again) base_is ∙ ap (λ (c : ℕ). F log.base c) again_is
    ∙ shown_is items found log first h (found_is ∙ ap (given record_size log first) cp_is)

pub answers_truly : (o : Option Shown) (log : LogValue) (first : ℕ) → o ≡ records_from log first
    → (history : History) → AreCommittedOf history log → IfSome o (IsShownOf history)
answers_truly o log first is history of =
    subst (λ (x : Option Shown). IfSome x (IsShownOf history)) (sym is) (true_of log first history of)

pub answers_low : (o : Option Shown) (log : LogValue) (first : ℕ) → IsLog log
    → o ≡ records_from log first → IfSome o IsLowShown
answers_low o log first h is =
    subst (λ (x : Option Shown). IfSome x IsLowShown) (sym is) (low_of log first h)
