-- The lines of a text.
use Rattle.std.specs.Prelude.{◌≡◌, ℕ, ◌==◌, false, List, [], ◌∷◌, Option, Some, None, if◌then◌else◌}
use Rattle.std.specs.List.{AllByRecursion}
use Rattle.std.specs.Io.KnownBytes.{IsAtEnd}

-- bytes without a line feed
abbrev pub Feedless : List ℕ → Type 0
Feedless bytes = AllByRecursion (λ b. (b == 10) ≡ false) bytes

-- lines of which the first one begins with a byte
abbrev pub begun_with : ℕ → List (List ℕ) → List (List ℕ)
begun_with b [] = (b ∷ []) ∷ []
begun_with b (line ∷ lines) = (b ∷ line) ∷ lines

-- the parts of a text that are ended by a line feed, and a last one that isn't empty and lacks it
unfoldable pub lines_of : List ℕ → List (List ℕ)
lines_of [] = []
lines_of (b ∷ bytes) = if b == 10 then [] ∷ lines_of bytes else begun_with b (lines_of bytes)

-- the next byte stands at the front of what is at hand now; there is none where nothing was at hand or left
abbrev pub Peeked : List ℕ → Option (List ℕ) → List ℕ → Option ℕ → Type 0
Peeked ahead left ahead' None = (ahead ≡ []) × IsAtEnd left × (ahead' ≡ [])
Peeked ahead left ahead' (Some b) = (rest : List ℕ) × (ahead' ≡ b ∷ rest)
