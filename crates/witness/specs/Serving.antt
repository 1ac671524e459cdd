-- What a fetch of a server is given.
use Rattle.std.specs.Prelude.{ℕ, ◌+◌, ◌-◌, ◌&&◌, List, [], ◌∷◌, length, take, drop, Option, None, Some, min, nat_le, nat_lt, if◌then◌else◌}
use Rattle.event_record.specs.Bytes.{record_bytes}
use Rattle.event_record.specs.declared.record.RecordFields.{RecordFields}
use Rattle.volatile_log.specs.Log.{LogValue, top}

-- the most bytes of records that are given at once
abbrev pub most_bytes : ℕ
most_bytes = 48000

-- the bytes that a record takes
abbrev pub record_size : RecordFields → ℕ
record_size r = length (record_bytes r)

-- the longest front of records that take at most so many bytes together with those used before
abbrev pub front : (RecordFields → ℕ) → ℕ → List RecordFields → List RecordFields
front size used [] = []
front size used (r ∷ rs) = if nat_le (used + size r) most_bytes then r ∷ front size
    (used + size r) rs else []

-- at least one record
abbrev pub one_or_more : (RecordFields → ℕ) → List RecordFields → List RecordFields
one_or_more size [] = []
one_or_more size (r ∷ rs) = r ∷ front size (size r) rs

-- the records from the one with this index on, up to `last`
abbrev pub asked_for : LogValue → ℕ → ℕ → List RecordFields
asked_for log index last = take (last - (index - 1)) (drop (index - 1 - log.base) log.records)

-- What a fetch from this index on is given up to `last`: nothing where the log doesn't hold the
-- record, or where it comes after `last`
abbrev pub given : (RecordFields → ℕ) → LogValue → ℕ → ℕ → Option (List RecordFields)
given size log index last =
    if nat_lt log.base index && nat_le index (min last (top log))
    then Some (one_or_more size (asked_for log index (min last (top log))))
    else None
