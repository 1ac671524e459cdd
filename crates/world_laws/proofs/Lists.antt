-- Parts of lists, and of the histories of lists.
use Rattle.std.proofs.Common.{◌≡◌, ℕ, zero, suc, ◌+◌, ◌<◌, ◌≤◌, List, [], ◌∷◌, ◌++◌, length, map, take, drop, Some, slice_get, refl, sym, ap, ◌∙◌, arith}
use Rattle.std.proofs.lemmas.List.{drop-map, length-map, map-append, take-map}
use Rattle.event_record.specs.Record.{entry_of}
use Rattle.event_record.specs.declared.record.RecordFields.{RecordFields}
use Rattle.file_tree.specs.Book.{Entry}
use Rattle.group_safety.proofs.Lists.{get_take}
use Rattle.group_safety.specs.Words.{Agree, Part}
use Rattle.harp_cells.specs.declared.change.Change.{Change}
use Rattle.record_changes.proofs.Histories.{fronts}
use Rattle.record_changes.specs.Records.{history_of}
use Rattle.tree_log.specs.TreeLog.{changes_in}

pub take_agree : (n : ℕ) (xs ys : List Entry) → n ≤ length xs → n ≤ length ys → Agree n xs ys
    → take n xs ≡ take n ys
take_agree zero xs ys a b h = refl
take_agree (suc n) [] ys a b h = absurd (omega arith)
take_agree (suc n) (x ∷ xs) [] a b h = absurd (omega arith)
take_agree (suc n) (x ∷ xs) (y ∷ ys) a b h =
    let here : Some x ≡ Some y = h 0 (omega arith) in
    let same : x ≡ y = cc in
    rw same (ap (λ (l : List Entry). y ∷ l) (take_agree n xs ys (omega arith) (omega arith)
    (λ k l. h (suc k) (omega arith))))

-- lists with one front have histories with one front
pub agree_changes : (n : ℕ) (xs ys : List Entry) → n ≤ length xs → n ≤ length ys → Agree n xs ys
    → Agree n (history_of xs) (history_of ys)
agree_changes n xs ys a b h k l =
    sym (get_take n (history_of xs) k l)
    ∙ ap (λ z. slice_get z k) (fronts xs n ∙ ap history_of (take_agree n xs ys a b h)
    ∙ sym (fronts ys n))
    ∙ get_take n (history_of ys) k l

pub part_over : {E : Type 0} (n base : ℕ) (items xs ys : List E) → base + length items ≤ n
    → Agree n xs ys → Part base items xs → Part base items ys
part_over n base items xs ys le h p k l = p k l ∙ h (base + k) (omega arith)

-- changes of records are those of another list, where both have one front
pub changes_over : (n base : ℕ) (items : List (List Change)) (xs ys : List Entry)
    → base + length items ≤ n → n ≤ length xs → n ≤ length ys → Agree n xs ys
    → Part base items (history_of xs) → Part base items (history_of ys)
changes_over n base items xs ys le a b h p =
    part_over n base items (history_of xs) (history_of ys) le (agree_changes n xs ys a b h) p

pub no_part : {E : Type 0} (n : ℕ) (items xs : List E) → length items ≡ 0 → Part n items xs
no_part n items xs e k l = absurd (omega arith)

front_is : {E : Type 0} (items xs : List E) → length items ≤ length xs
    → ((k : ℕ) → k < length items → slice_get items k ≡ slice_get xs k)
    → items ≡ take (length items) xs
front_is [] xs le h = refl
front_is (i ∷ items) [] le h = absurd (omega arith)
front_is (i ∷ items) (x ∷ xs) le h =
    let here : Some i ≡ Some x = h 0 (omega arith) in
    let same : i ≡ x = cc in
    rw same (ap (λ (l : List _). x ∷ l) (front_is items xs (omega arith)
    (λ k l. h (suc k) (omega arith))))

-- what a part up to the end of a front is
pub part_is : {E : Type 0} (base : ℕ) (items xs : List E) → base + length items ≤ length xs
    → Part base items xs → items ≡ drop base (take (base + length items) xs)
part_is zero items xs le h =
    front_is items xs (omega arith)
    (λ k l. h k l ∙ ap (slice_get xs) (let e : zero + k ≡ k = omega arith in e))
    ∙ ap (λ n. take n xs) (let e : length items ≡ zero + length items = omega arith in e)
part_is (suc base) items [] le h = absurd (omega arith)
part_is (suc base) items (x ∷ xs) le h =
    let e : suc base + length items ≡ suc (base + length items) = omega arith in
    rw e (part_is base items xs (omega arith)
    (λ k l. h k l ∙ ap (slice_get (x ∷ xs)) (let f : suc base + k ≡ suc (base + k) = omega arith
    in f)))

pub as_many : (records : List RecordFields) → length (changes_in records)
    ≡ length (map entry_of records)
as_many records = length-map records (λ r. r.changes) ∙ sym (length-map records entry_of)

pub changes_both : (xs ys : List RecordFields) → changes_in (xs ++ ys) ≡
    changes_in xs ++ changes_in ys
changes_both xs ys = map-append (λ r. r.changes) xs ys

pub changes_behind : (n : ℕ) (xs : List RecordFields) → changes_in (drop n xs) ≡
    drop n (changes_in xs)
changes_behind n xs = sym (drop-map (λ r. r.changes) n xs)

pub changes_before : (n : ℕ) (xs : List RecordFields) → changes_in (take n xs) ≡
    take n (changes_in xs)
changes_before n xs = sym (take-map (λ r. r.changes) n xs)
