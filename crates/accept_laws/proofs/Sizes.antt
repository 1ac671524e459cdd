-- How long messages with records are.
use Rattle.std.proofs.Common.{◌≡◌, ◌≤◌, ◌+◌, ◌*◌, ◌⊎◌, ℕ, Bool, true, false, List, [], ◌∷◌, length, map, Some, None, refl, ap, subst, arith, length-append, inl, inr, if◌then◌else◌}
use Rattle.std.specs.Prelude.{min, nat_le, nat_lt, ◌&&◌}
use Rattle.std.specs.List.{flat_map}
use Rattle.std.proofs.lemmas.Bool.{leb-true}
use Rattle.std.proofs.lemmas.List.Sums.{sum_by-append}
use Rattle.std.proofs.lemmas.Option.{same_Some}
use Rattle.harp_base.specs.Fields.{many_bytes, u16_bytes, u64_bytes}
use Rattle.harp_base.specs.Names.{view_bytes}
use Rattle.harp_types.specs.View.{View}
use Rattle.event_record.specs.declared.record.RecordFields.{RecordFields}
use Rattle.event_record.specs.Bytes.{record_bytes}
use Rattle.volatile_log.specs.Log.{top}
use Rattle.wire.specs.declared.message.Message.{Message}
use Rattle.wire.specs.declared.message.Message.TheVariants as message
use Rattle.wire.specs.Messages.{message_bytes}
use Rattle.wire.specs.Parts.{records_bytes}
use Rattle.witness.specs.Serving.{asked_for, front, most_bytes, one_or_more, record_size}
use Rattle.accept_laws.specs.MessageLaws.{AreRecords, GivesAreShort, GivesAreWithin, TicksAreShort, bytes_of, size_of}

pub len_u64 : (n : ℕ) → length (u64_bytes n) ≡ 8
unfolding u64_bytes
len_u64 n = refl

pub len_view : (v : View) → length (view_bytes v) ≡ 9
unfolding view_bytes u64_bytes
len_view v = refl

len_records : (rs : List RecordFields) → length (records_bytes rs) ≡ 2 + size_of rs
unfolding records_bytes u16_bytes
len_records rs = omega arith

size_none : size_of [] ≡ 0
unfolding many_bytes
size_none = refl

size_next : (r : RecordFields) (rs : List RecordFields) → size_of (r ∷ rs) ≡
    record_size r + size_of rs
unfolding many_bytes
size_next r rs = length-append (record_bytes r) (flat_map record_bytes rs)

-- ---- what is given

IsFront : ℕ → List RecordFields → Type 0
IsFront used rs = (rs ≡ []) ⊎ (used + size_of rs ≤ most_bytes)

next_front : (used : ℕ) (r : RecordFields) (rest : List RecordFields) (fits : Bool)
    → nat_le (used + record_size r) most_bytes ≡ fits → IsFront (used + record_size r) rest
    → IsFront used (if fits then r ∷ rest else [])
unfolding IsFront
next_front used r rest true fits (inl none) = inr (omega (
  arith,
  leb-true (used + record_size r) most_bytes fits,
  size_next r rest,
  ap size_of none,
  size_none,
))
next_front used r rest true fits (inr few) = inr (omega (arith, few, size_next r rest))
next_front used r rest false fits h = inl refl

fronts : (used : ℕ) (rs : List RecordFields) → IsFront used (front record_size used rs)
unfolding IsFront
fronts used [] = inl refl
fronts used (r ∷ rs) = next_front used r (front record_size (used + record_size r) rs)
    (nat_le (used + record_size r) most_bytes) refl (fronts (used + record_size r) rs)

IsGiven : List RecordFields → Type 0
IsGiven records = (length records ≡ 1) ⊎ (size_of records ≤ most_bytes)

first_front : (r : RecordFields) (rest : List RecordFields) → IsFront (record_size r) rest
    → IsGiven (r ∷ rest)
unfolding IsFront IsGiven
first_front r rest (inl none) = inl (ap (λ (rs : List RecordFields). length (r ∷ rs)) none)
first_front r rest (inr few) = inr (omega (arith, few, size_next r rest))

ones : (rs : List RecordFields) → IsGiven (one_or_more record_size rs)
unfolding IsGiven
ones [] = inr (omega (arith, size_none))
ones (r ∷ rs) = first_front r (front record_size (record_size r) rs) (fronts (record_size r) rs)

where_given : (there : Bool) (all records : List RecordFields) → IsGiven all
    → (if there then Some all else None) ≡ Some records → IsGiven records
where_given true all records h is = subst IsGiven (same_Some all records is) h
where_given false all records h is = absurd cc

pub within : GivesAreWithin
unfolding IsGiven
within log index last records is =
    where_given (nat_lt log.base index && nat_le index (min last (top log)))
    (one_or_more record_size (asked_for log index (min last (top log)))) records
    (ones (asked_for log index (min last (top log)))) is

one_alone : (records : List RecordFields) → AreRecords records → length records ≡ 1
    → size_of records ≤ 60008
one_alone [] all one = absurd (omega (arith, one))
one_alone (r ∷ []) all one = omega (arith, all.0, size_next r [], size_none)
one_alone (r ∷ s ∷ rs) all one = absurd (omega (arith, one))

few_bytes : (records : List RecordFields) → AreRecords records → IsGiven records
    → size_of records ≤ 60008
unfolding IsGiven
few_bytes records all (inl one) = one_alone records all one
few_bytes records all (inr few) = omega (arith, few)

pub gives_short : GivesAreShort
unfolding IsGiven
gives_short view first log index last records is all =
    let few = few_bytes records all (within log index last records is) in
    simp (length-append, len_view, len_u64, len_records) (omega (arith, few))

-- ---- what a tick sends

event_size : (view : View) (cp base : ℕ) (r : RecordFields)
    → length (message_bytes (message.Event view cp base r)) ≡ 26 + record_size r
event_size view cp base r = simp (length-append, len_view, len_u64) (omega arith)

beat_size : (view : View) (cp base : ℕ)
    → length (message_bytes (message.Beat view cp base)) ≡ 26
beat_size view cp base = simp (length-append, len_view, len_u64) (omega arith)

events_size : (view : View) (cp base : ℕ) (records : List RecordFields) → AreRecords records
    → bytes_of (map (λ (r : RecordFields). message.Event view cp base r) records)
    ≤ 60034 * length records
events_size view cp base [] all = omega arith
events_size view cp base (r ∷ rs) all =
    let sent = λ (r : RecordFields). message.Event view cp base r in
    omega (
      arith,
      sum_by-append (λ (m : Message). length (message_bytes m)) (sent r ∷ []) (map sent rs),
      event_size view cp base r,
      all.0,
      events_size view cp base rs all.1,
    )

pub ticks_short : TicksAreShort
ticks_short view cp base records few all =
    omega (arith, few, beat_size view cp base, events_size view cp base records all)
