-- Messages that differ only in the views that their records are stamped with have as many bytes.
use Rattle.std.proofs.Common.{◌≡◌, ℕ, suc, ◌+◌, ◌<◌, List, [], ◌∷◌, ◌++◌, length, map, take, Some, slice_get, refl, sym, ap, ◌∙◌, arith, length-append}
use Rattle.std.specs.List.{flat_map}
use Rattle.event_record.specs.Bytes.{head_bytes, head_of, record_bytes, tail_bytes, tail_of}
use Rattle.event_record.specs.Record.{entry_of}
use Rattle.event_record.specs.declared.record.RecordFields.{RecordFields}
use Rattle.file_tree.specs.Book.{Entry}
use Rattle.group_rules.specs.Names.{id_of, place_of, view_of}
use Rattle.group_safety.specs.Words.{Part}
use Rattle.harp_base.specs.Fields.{many_bytes, u16_bytes, u32_bytes, u64_bytes}
use Rattle.harp_base.specs.Names.{cred_bytes, view_bytes}
use Rattle.harp_types.specs.View.{View}
use Rattle.harp_types.specs.declared.server.ServerId.{ServerId}
use Rattle.harp_types.specs.declared.server.ServerId.TheVariants as server
use Rattle.harp_types.specs.declared.state.Held.{Held as HeldTold}
use Rattle.harp_types.specs.declared.state.Held.TheVariants as held
use Rattle.harp_cells.specs.declared.change.Change.{Change}
use Rattle.world_rules.specs.Spellings.{held_told, plain_record, plain_records, storers_told}
use Rattle.tree_log.specs.Records.{cells_of}
use Rattle.node_outputs.specs.Messages.{held_heard, pair_heard}
use Rattle.record_changes.specs.Records.{history_of, record_changes}
use Rattle.world_laws.proofs.Sends.{history_at, some_is, take_next}
use Rattle.tree_log.specs.TreeLog.{changes_in}
use Rattle.wire.specs.Messages.{message_bytes}
use Rattle.wire.specs.Parts.{records_bytes}
use Rattle.wire.specs.declared.message.Message.TheVariants as wire
use Rattle.wire.specs.declared.storers.Storers.{Storers}
use Rattle.wire.specs.declared.storers.Storers.TheVariants as storers

-- ---- names that are heard and told again

pub held_back : (h : HeldTold) → held_told (held_heard h) ≡ h
held_back held.Empty = refl
held_back held.Held = refl
held_back held.Lost = refl

pub pair_back : (p : Storers) → storers_told (pair_heard p) ≡ p
pair_back storers.ZeroOne = refl
pair_back storers.ZeroTwo = refl
pair_back storers.OneTwo = refl

pub id_back : (s : ServerId) → id_of (place_of s) ≡ s
id_back server.Zero = refl
id_back server.One = refl
id_back server.Two = refl

-- ---- a record

len_head : (r : RecordFields) → length (head_bytes (head_of r)) ≡ 29
unfolding head_bytes view_bytes u64_bytes u32_bytes
len_head r = refl

len_record : (r : RecordFields) → length (record_bytes r)
    ≡ 29 + length (cred_bytes r.cred) + length (tail_bytes (tail_of r))
len_record r =
    let cred = cred_bytes r.cred in
    length-append (head_bytes (head_of r) ++ cred) (tail_bytes (tail_of r))
    ∙ ap (λ n. n + length (tail_bytes (tail_of r))) (length-append (head_bytes (head_of r)) cred
    ∙ ap (λ n. n + length cred) (len_head r))

-- with the changes that its entry has behind these
pub record_size_is : (before : List Entry) (r : RecordFields)
    → r.changes ≡ record_changes (cells_of before) before (entry_of r)
    → length (record_bytes r) ≡ length (record_bytes (plain_record before (entry_of r)))
record_size_is before r is =
    len_record r
    ∙ sym (len_record (record r { stamped = view_of 0 }))
    ∙ ap (λ (cs : List Change).
    length (record_bytes (record r { stamped = view_of 0; changes = cs }))) is

-- ---- records of a list

-- the first of records that stand in a list from a place on
pub first_entry : (xs : List Entry) (n : ℕ) (r : RecordFields) (rs : List RecordFields)
    → Part n (map entry_of (r ∷ rs)) xs → slice_get xs n ≡ Some (entry_of r)
first_entry xs n r rs part =
    ap (slice_get xs) (let e : n ≡ n + 0 = omega arith in e)
    ∙ sym (part 0 (let l : 0 < suc (length (map entry_of rs)) = omega arith in l))

pub first_changes : (xs : List Entry) (n : ℕ) (r : RecordFields) (rs : List RecordFields)
    → Part n (map entry_of (r ∷ rs)) xs → Part n (changes_in (r ∷ rs)) (history_of xs)
    → r.changes ≡ record_changes (cells_of (take n xs)) (take n xs) (entry_of r)
first_changes xs n r rs entries changes = some_is _ _
    (changes 0 (let l : 0 < suc (length (changes_in rs)) = omega arith in l)
    ∙ ap (slice_get (history_of xs)) (let e : n + 0 ≡ n = omega arith in e)
    ∙ history_at xs n (entry_of r) (first_entry xs n r rs entries))

rest_part : {A : Type 0} (n : ℕ) (x : A) (xs ys : List A) → Part n (x ∷ xs) ys
    → Part (suc n) xs ys
rest_part n x xs ys part k l =
    part (suc k) (let m : suc k < suc (length xs) = omega arith in m)
    ∙ ap (slice_get ys) (let e : n + suc k ≡ suc n + k = omega arith in e)

many_more : (r : RecordFields) (rs : List RecordFields)
    → length (many_bytes record_bytes (r ∷ rs))
    ≡ length (record_bytes r) + length (many_bytes record_bytes rs)
unfolding many_bytes
many_more r rs = length-append (record_bytes r) (flat_map record_bytes rs)

pub records_size_is : (xs : List Entry) (rs : List RecordFields) (n : ℕ)
    → Part n (map entry_of rs) xs → Part n (changes_in rs) (history_of xs)
    → length (many_bytes record_bytes rs)
    ≡ length (many_bytes record_bytes (plain_records (take n xs) (map entry_of rs)))
unfolding plain_records
records_size_is xs [] n entries changes = refl
records_size_is xs (r ∷ rs) n entries changes =
    let before = take n xs in
    let e = entry_of r in
    let next : take (suc n) xs ≡ before ++ e ∷ [] =
    take_next xs n e (first_entry xs n r rs entries) in
    many_more r rs
    ∙ ap (λ k. k + length (many_bytes record_bytes rs))
    (record_size_is before r (first_changes xs n r rs entries changes))
    ∙ ap (λ k. length (record_bytes (plain_record before e)) + k)
    (records_size_is xs rs (suc n) (rest_part n e (map entry_of rs) xs entries)
    (rest_part n r.changes (changes_in rs) (history_of xs) changes)
    ∙ ap (λ (es : List Entry).
    length (many_bytes record_bytes (plain_records es (map entry_of rs)))) next)
    ∙ sym (many_more (plain_record before e)
    (plain_records (before ++ e ∷ []) (map entry_of rs)))

pub as_many_records : (before es : List Entry) → length (plain_records before es) ≡ length es
unfolding plain_records
as_many_records before [] = refl
as_many_records before (e ∷ es) = ap (λ k. suc k) (as_many_records (before ++ e ∷ []) es)

-- ---- messages with records

pub event_size : (v : View) (cp base : ℕ) (r : RecordFields)
    → length (message_bytes (wire.Event v cp base r)) ≡ 26 + length (record_bytes r)
unfolding view_bytes u64_bytes
event_size v cp base r = omega arith

pub give_size : (v : View) (first : ℕ) (rs : List RecordFields)
    → length (message_bytes (wire.Give v first rs))
    ≡ 20 + length (many_bytes record_bytes rs)
unfolding view_bytes u64_bytes records_bytes u16_bytes
give_size v first rs = omega arith
