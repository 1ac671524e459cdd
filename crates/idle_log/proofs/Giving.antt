-- What is given, and the records of a Give one by one.
use Rattle.std.proofs.Common.{◌≡◌, ℕ, suc, ◌+◌, ◌-◌, ◌<◌, ◌≤◌, ◌^◌, List, [], ◌∷◌, length, take, drop, min, Option, None, Some, Bool, true, false, refl, ap, sym, subst, ◌∙◌, inl, inr, arith, if◌then◌else◌}
use Rattle.std.specs.Prelude.{◌&&◌, Contains, IfSome, map, nat_le, nat_lt, option_map}
use Rattle.std.proofs.lemmas.List.{length-drop, length-take, take-append-drop}
use Rattle.std.proofs.lemmas.List.Elements.{Contains-append_cases, Contains-append_left, Contains-append_right}
use Rattle.event_record.specs.Record.{entry_of}
use Rattle.event_record.specs.declared.record.RecordFields.{RecordFields}
use Rattle.file_tree.specs.Book.{Entry}
use Rattle.group_rules.proofs.Tests.{by_if, if_not, is_le, is_lt}
use Rattle.group_rules.specs.Moves.{Sending}
use Rattle.group_rules.specs.Places.{Place, all_of}
use Rattle.group_rules.specs.Serving.{asked_for as machine_asked, gives, held_tests, one_or_more as at_least_one}
use Rattle.group_rules.specs.State.{Give, Server}
use Rattle.idle_log.specs.Gives.{FoundIn, GivesFound, StandIn, given_moves}
use Rattle.idle_log.specs.Kept.{log_in, with_kept}
use Rattle.idle_log.specs.declared.kept.Kept.{Kept}
use Rattle.idle_log.specs.declared.kept.Kept.TheVariants as kept
use Rattle.volatile_log.specs.declared.bare.EmptyLog.{EmptyLog}
use Rattle.idle_log.proofs.Logs.{serves}
use Rattle.idle_log.specs.LogLaws.{with_log}
use Rattle.volatile_log.specs.Log.{IsLog, LogValue, room, top}
use Rattle.witness.specs.Serving.{asked_for, front, given, most_bytes, one_or_more, record_size}

-- ---- a fetch

some_is : {A : Type 0} (x y : A) → Some x ≡ Some y → x ≡ y
some_is x y is = let same : x ≡ y = cc in same

-- a choice by a test, sent
sent_if : (b : Bool) (es : List Entry) (to : Place) (v index : ℕ) (found : Option
    (List RecordFields))
    → option_map (map entry_of) found ≡ (if b then Some es else None)
    → given_moves to v index found ≡ (if b then Sending to (Give v index es) ∷ [] else [])
sent_if true es to v index (Some rs) is =
    ap (λ (xs : List Entry). Sending to (Give v index xs) ∷ []) (some_is (map entry_of rs) es is)
sent_if true es to v index None is = cc
sent_if false es to v index (Some rs) is = cc
sent_if false es to v index None is = refl

none_tested : (a b : Bool) → (a ≡ true → b ≡ true → ⊥) → all_of (a ∷ b ∷ []) ≡ false
unfolding all_of
none_tested true true never = absurd (never refl refl)
none_tested true false never = refl
none_tested false b never = refl

-- what a log gives is what the machine gives
found_if : (b : Bool) (s : Server Entry) (l : LogValue) (index last : ℕ) (found : Option
    (List RecordFields)) → nat_lt l.base index ≡ b
    → found ≡ given record_size l index last → GivesFound (with_log s l) l index last found
found_if true s l index last found at is size list to v within sized =
    sent_if (all_of (held_tests (with_log s l) index last))
    (at_least_one size (take (index - 1) list) (machine_asked
    (with_log s l) index last)) to v index found
    (ap (option_map (map entry_of)) is ∙ serves size record_size list s l index last within
    (sized (is_lt _ _ at)))
found_if false s l index last found at is size list to v within sized =
    ap (given_moves to v index) (is ∙ if_not (nat_lt l.base index
    && nat_le index (min last (top l))) _ None
    (ap (λ (b : Bool). b && nat_le index (min last (top l))) at))
    ∙ sym (if_not (all_of (held_tests (with_log s l) index last)) _ []
    (none_tested (nat_lt l.base index) (nat_le index last)
    (λ above below. let clash : true ≡ false = sym above ∙ at in cc)))

pub gives_found : (s : Server Entry) (l : LogValue) (index last : ℕ) (found : Option
    (List RecordFields))
    → found ≡ given record_size l index last → GivesFound (with_log s l) l index last found
gives_found s l index last found is = found_if (nat_lt l.base index) s l index last found refl is

-- without records nothing is given
pub gives_nothing : (s : Server Entry) (base : ℕ) → s.base ≡ base → (index last : ℕ) → last ≤ base
    → (size : List Entry → Entry → ℕ) (list : List Entry) (to : Place) (v : ℕ)
    → [] ≡ gives size list s to v index last
gives_nothing s base at index last within size list to v =
    sym (if_not (all_of (held_tests s index last)) _ [] (none_tested (nat_lt s.base index)
    (nat_le index last)
    (λ above below. omega (arith, is_lt _ _ above, is_le _ _ below, at, within))))

pub held_gives : (s : Server Entry) (k : Kept) (l : LogValue) (index last : ℕ) (found : Option
    (List RecordFields)) → k ≡ kept.Held l
    → found ≡ given record_size l index last
    → GivesFound (with_kept s k) (log_in k) index last found
held_gives s k l index last found is h =
    subst (λ (x : Kept). GivesFound (with_kept s x) (log_in x) index last found) (sym is)
    (gives_found s l index last found h)

pub lost_gives : (s : Server Entry) (k : Kept) (n index last : ℕ) → k ≡ kept.Lost n
    → GivesFound (with_kept s k) (log_in k) index last None
lost_gives s k n index last is =
    subst (λ (x : Kept). GivesFound (with_kept s x) (log_in x) index last None) (sym is)
    (λ size list to v within sized. gives_nothing (with_kept s (kept.Lost n)) n refl index last
    (omega (arith, within)) size list to v)

pub empty_gives : (s : Server Entry) (k : Kept) (e : EmptyLog) (index last : ℕ) → k ≡ kept.Empty e
    → GivesFound (with_kept s k) (log_in k) index last None
empty_gives s k e index last is =
    subst (λ (x : Kept). GivesFound (with_kept s x) (log_in x) index last None) (sym is)
    (λ size list to v within sized. gives_nothing (with_kept s (kept.Empty e)) 0 refl index last
    (omega (arith, within)) size list to v)

-- ---- how many are found

front_length : (size : RecordFields → ℕ) (used : ℕ) (rs : List RecordFields)
    → length (front size used rs) ≤ length rs
front_length size used [] = omega arith
front_length size used (r ∷ rs) = by_if (λ (xs : List RecordFields). length xs ≤ suc (length rs))
    (nat_le (used + size r) 48000) (r ∷ front size (used + size r) rs) []
    (λ within. omega (arith, front_length size (used + size r) rs)) (λ over. omega arith)

count : (size : RecordFields → ℕ) (rs : List RecordFields) → 1 ≤ length rs
    → (1 ≤ length (one_or_more size rs)) × (length (one_or_more size rs) ≤ length rs)
count size [] some = absurd (omega (arith, some))
count size (r ∷ rs) some = (omega arith, omega (arith, front_length size (size r) rs))

few : (l : LogValue) (index last : ℕ) → IsLog l → l.base < index → index ≤ min last (top l)
    → (1 ≤ length (asked_for l index (min last (top l)))) × (length (asked_for l index (min last
    (top l))) ≤ room)
few l index last h from to =
    let left = length-drop (index - 1 - l.base) l.records in
    let taken = length-take (min last (top l) - (index - 1)) (drop
    (index - 1 - l.base) l.records) in
    (omega (arith, left, taken, from, to), omega (arith, left, taken, h.few))

found_at : (a b : Bool) (rs : List RecordFields) (found : List RecordFields)
    → Some found ≡ (if a && b then Some rs else None)
    → (a ≡ true) × (b ≡ true) × (found ≡ rs)
found_at true true rs found is = (refl, refl, some_is found rs is)
found_at true false rs found is = cc
found_at false b rs found is = cc

found_few : (l : LogValue) (index last : ℕ) (found : List RecordFields) → IsLog l
    → Some found ≡ given record_size l index last
    → (1 ≤ length found) × (length found < 2 ^ 16)
found_few l index last found h is =
    let t = found_at (nat_lt l.base index) (nat_le index (min last (top l)))
    (one_or_more record_size (asked_for l index (min last (top l)))) found is in
    let n = few l index last h (is_lt _ _ t.0) (is_le _ _ t.1) in
    let k = count record_size (asked_for l index (min last (top l))) n.0 in
    rw t.2 (k.0, omega (arith, k.1, n.1))

pub fits_a_give : {A : Type 0} (items : A
    → List RecordFields) (found : Option A) (l : LogValue) (index last : ℕ) → IsLog l
    → option_map items found ≡ given record_size l index last
    → IfSome found (λ v. (1 ≤ length (items v)) × (length (items v) < 2 ^ 16))
fits_a_give items None l index last h is = tt
fits_a_give items (Some v) l index last h is = found_few l index last (items v) h is

-- ---- what is found is the log's

none_in : (r : RecordFields) → Contains [] r → ⊥
none_in r h = omega (arith, h.1)

pub first_or_more : (r : RecordFields) (xs ys : List RecordFields) → StandIn ys xs
    → StandIn (r ∷ ys) (r ∷ xs)
first_or_more r xs ys rest x h = elim (Contains-append_cases (r ∷ []) xs x h) [
  | inl first ↦ Contains-append_left (r ∷ []) ys x first
  | inr more ↦ Contains-append_right (r ∷ []) ys x (rest x more)
]

front_if : (b : Bool) (r : RecordFields) (xs ys : List RecordFields) → StandIn ys xs
    → StandIn (r ∷ ys) (if b then r ∷ xs else [])
front_if true r xs ys rest = first_or_more r xs ys rest
front_if false r xs ys rest = λ x h. absurd (none_in x h)

front_stands : (size : RecordFields → ℕ) (used : ℕ) (rs : List RecordFields)
    → StandIn rs (front size used rs)
front_stands size used [] = λ x h. h
front_stands size used (r ∷ rs) = front_if (nat_le (used + size r) most_bytes) r
    (front size (used + size r) rs) rs (front_stands size (used + size r) rs)

more_stand : (size : RecordFields → ℕ) (rs : List RecordFields)
    → StandIn rs (one_or_more size rs)
more_stand size [] = λ x h. h
more_stand size (r ∷ rs) = first_or_more r (front size (size r) rs) rs
    (front_stands size (size r) rs)

-- some of those behind the first ones
pub part_stands : (n m : ℕ) (rs : List RecordFields) → StandIn rs (take n (drop m rs))
part_stands n m rs x h =
    let behind = subst (λ (xs : List RecordFields). Contains xs x) (take-append-drop n (drop m rs))
    (Contains-append_left (take n (drop m rs)) (drop n (drop m rs)) x h) in
    subst (λ (xs : List RecordFields). Contains xs x) (take-append-drop m rs)
    (Contains-append_right (take m rs) (drop m rs) x behind)

given_if : (b : Bool) (all some : List RecordFields) (found : Option (List RecordFields))
    → StandIn all some → found ≡ (if b then Some some else None) → IfSome found (StandIn all)
given_if true all some found stands is =
    subst (λ (o : Option (List RecordFields)). IfSome o (StandIn all)) (sym is) stands
given_if false all some found stands is =
    subst (λ (o : Option (List RecordFields)). IfSome o (StandIn all)) (sym is) tt

pub found_own : (l : LogValue) (index last : ℕ) (found : Option (List RecordFields))
    → found ≡ given record_size l index last → FoundIn l found
found_own l index last found is =
    let to = min last (top l) in
    let asked = asked_for l index to in
    given_if (nat_lt l.base index && nat_le index to) l.records (one_or_more record_size asked)
    found (λ r h. part_stands (to - (index - 1)) (index - 1 - l.base) l.records r
    (more_stand record_size asked r h)) is

pub held_own : (k : Kept) (l : LogValue) (index last : ℕ) (found : Option (List RecordFields))
    → k ≡ kept.Held l → found ≡ given record_size l index last → FoundIn (log_in k) found
held_own k l index last found is h =
    subst (λ (x : Kept). FoundIn (log_in x) found) (sym is) (found_own l index last found h)
