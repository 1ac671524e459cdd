-- What a call does to the bytes of a source or a sink, where it tells them, and to its count of
-- faults.
use Rattle.std.specs.Prelude.{◌≡◌, ℕ, ◌+◌, ◌-◌, ◌^◌, ◌<◌, ◌≤◌, min, List, length, take, Option}
use Rattle.std.specs.Io.KnownBytes.{Consumes, Appends, IsAtEnd}

-- a count of faults rose, as far as a u64 goes: at 2^64 - 1 it stands still
abbrev pub Rose : ℕ → ℕ → Type 0
Rose before after = min (before + 1) (2 ^ 64 - 1) ≤ after

-- n of the bytes left stand at the front of the piece and are left no more; none only at the end,
-- or where the piece is empty
abbrev pub Taken : Option (List ℕ) → Option (List ℕ) → List ℕ → ℕ → Type 0
Taken left after piece n =
    Consumes left after (take n piece) × (n ≡ 0 → 0 < length piece → IsAtEnd left)

-- the bytes written grew by the first n bytes of the piece; by none only where the piece is empty
abbrev pub Given : Option (List ℕ) → Option (List ℕ) → List ℕ → ℕ → Type 0
Given written after piece n =
    Appends written after (take n piece) × (n ≤ length piece) × (0 < length piece → 0 < n)

-- the bytes written grew by a first part of these
abbrev pub GrewByPart : Option (List ℕ) → Option (List ℕ) → List ℕ → Type 0
GrewByPart written after bytes = (n : ℕ) × Appends written after (take n bytes)
