-- What a reader of lines gives of a text.
use Rattle.std.specs.Prelude.{◌≡◌, ℕ, ◌<◌, ◌≤◌, List, [], ◌∷◌, ◌++◌, length, Option, Some, None, ⊤}
use Rattle.std.specs.Io.KnownBytes.{prepend_known}
use Rattle.harp_types.specs.Limits.{longest_line}
use Rattle.line_reader.specs.declared.reader.Next.{Next}
use Rattle.line_reader.specs.declared.reader.Next.TheVariants.{Line, TooLong, End}
use Rattle.line_reader.specs.Lines.{lines_of}

-- the text that isn't given yet, where the source tells what it has left
abbrev pub text_left : List ℕ → Option (List ℕ) → Option (List ℕ)
text_left held left = prepend_known held left

-- the first line of a text is longer than 20,000 bytes
abbrev pub BeginsLong : List ℕ → Type 0
BeginsLong text = (line : List ℕ) × (lines : List (List ℕ)) × (lines_of text ≡ line ∷ lines) × (longest_line < length line)

-- of a text the first line is given, and the others are left, which are its last bytes; a line that is too long
-- stays
abbrev pub GivesNext : List ℕ → List ℕ → Next → Type 0
GivesNext text after (Line line) = (lines_of text ≡ line.items ∷ lines_of after) × (length line.items ≤ longest_line)
    × (taken : List ℕ) × (text ≡ taken ++ after)
GivesNext text after TooLong = (after ≡ text) × BeginsLong text
GivesNext text after End = (text ≡ []) × (after ≡ [])

abbrev pub GivesKnown : Option (List ℕ) → Option (List ℕ) → Next → Type 0
GivesKnown None after next = ⊤
GivesKnown (Some text) None next = ⊥
GivesKnown (Some text) (Some after) next = GivesNext text after next

-- a line that is given has at most 20,000 bytes
abbrev pub IsShort : Next → Type 0
IsShort (Line line) = length line.items ≤ longest_line
IsShort TooLong = ⊤
IsShort End = ⊤
