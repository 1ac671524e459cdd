-- Reading names and bounded numbers from left to right, with the place where none goes on.
use Rattle.std.specs.Prelude.{ℕ, ◌+◌, ◌==◌, nat_eq, nat_le, nat_lt, List, [], ◌∷◌, length, Option, Some, None, Ok, Err, if◌then◌else◌}
use Rattle.std.specs.List.{common_prefix_len}
use Rattle.schedule_text.specs.declared.fault.TextFault.TheVariants.{Grammar}
use Rattle.schedule_text.specs.Fields.{Reader, ◌>>=◌, word_at, number_at, hex_at}

-- how far a word goes along with a name, where it went so far along with others
unfoldable pub farther : List ℕ → List ℕ → ℕ → ℕ
farther name word reached =
    if nat_lt reached (common_prefix_len nat_eq name word) then common_prefix_len nat_eq name word
    else reached

-- how far a word goes along with any of the names
abbrev pub farthest : List (List ℕ) → List ℕ → ℕ → ℕ
farthest [] word reached = reached
farthest (name ∷ names) word reached = farthest names word (farther name word reached)

-- a word of these names; where it is none, the fault is at its first byte with which none goes on
abbrev pub named_at : {A : Type 0} → List (List ℕ) → (List ℕ → Option A) → Reader A
named_at names meaning line at =
    elim (meaning (word_at line at)) [
      | None ↦ Err (Grammar (at + farthest names (word_at line at) 0))
      | Some x ↦ Ok (x, at + length (word_at line at))
    ]

-- a number with a least value, not 0: the digits of a smaller one could go on
unfoldable pub ranged_at : ℕ → ℕ → Reader ℕ
ranged_at least most line at = do
  n ← number_at 10 most line at
  if nat_le least n.0 then Ok n else Err (Grammar (if n.0 == 0 then at else n.1))

-- as many bytes as stand here, or a dash for none
abbrev pub all_hex_at : Reader (List ℕ)
all_hex_at line at = hex_at (length line) line at
