-- Numbers by key.
use Rattle.std.specs.Prelude.{◌≡◌, ◌↔◌, ◌≤◌, ◌⊎◌, ℕ, Bool, ◌&&◌, ◌==◌, List, ◌∷◌, Option, Some, None, if◌then◌else◌}
use Rattle.std.specs.Map.{lookup}

abbrev pub Key : Type 0
Key = ℕ × ℕ × ℕ × ℕ

abbrev pub Entries : Type 0
Entries = List (Key × ℕ)

-- one of them stands before the others
abbrev pub marks_of : Option (Key × ℕ) → Entries → Entries
marks_of None others = others
marks_of (Some last) others = last ∷ others

-- whether two keys are the same
abbrev pub is_key : Key → Key → Bool
is_key k l = (k.0 == l.0) && (k.1 == l.1) && (k.2 == l.2) && (k.3 == l.3)

-- the number of a key
unfoldable pub mark_at : Entries → Key → Option ℕ
mark_at marks key = lookup (is_key key) marks

abbrev pub IsWithin : ℕ → Option ℕ → Type 0
IsWithin n None = ⊥
IsWithin n (Some most) = n ≤ most

-- a key has this number or a greater one
abbrev pub Reaches : Entries → Key → ℕ → Type 0
Reaches marks key n = IsWithin n (mark_at marks key)

-- the number of one key is this one, the others stay
abbrev pub IsSet : Key → ℕ → Entries → Entries → Type 0
IsSet key n old new = (k : Key) → mark_at new k
    ≡ (if is_key key k then Some n else mark_at old k)

-- one key reaches this number too, and nothing else changes
abbrev pub IsRaised : Key → ℕ → Entries → Entries → Type 0
IsRaised key n old new = (k : Key) (m : ℕ)
    → Reaches new k m ↔ (Reaches old k m ⊎ ((k ≡ key) × (m ≤ n)))

abbrev pub or_else : Option ℕ → Option ℕ → Option ℕ
or_else None other = other
or_else (Some n) other = Some n

-- one key that had no number has this one, and nothing else changes
abbrev pub IsNoted : Key → ℕ → Entries → Entries → Type 0
IsNoted key n old new = (k : Key)
    → mark_at new k ≡ or_else (mark_at old k) (if is_key key k then Some n else None)
