-- What the program writes, and how that ends.
use Rattle.std.specs.Prelude.{ℕ, List, [], ◌∷◌, ◌++◌, codes, decimal, Option}
use Rattle.std.specs.Io.KnownBytes.{Appends}
use Rattle.harp_types.specs.Server.{number_of}
use Rattle.harp_types.specs.Streams.{GrewByPart}
use Rattle.node_loop.specs.declared.counts.Stayed.{Stayed}
use Rattle.node_loop.specs.declared.watcher.Sight.{Sight}
use Rattle.text_spelling.specs.Lines.{state_text}
use Rattle.text_spelling.specs.Text.{spaced}
use Rattle.harpd.specs.declared.exit.Exit.{Exit}
use Rattle.harpd.specs.declared.exit.Exit.TheVariants as exit

-- how the program is called, a line for each form
unfoldable pub usage_text : List ℕ
usage_text =
    codes "usage: harpd server S PORT DIR\nusage: harpd server S PORT DIR DELTA\n"
    ++ codes "usage: harpd serve PORT DOOR CLIENT\nusage: harpd serve PORT DOOR CLIENT U G\n"
    ++ codes "usage: harpd init DIR\nusage: harpd help\nusage: harpd version\n"

unfoldable pub version_text : List ℕ
version_text = codes "harpd 0.1\n"

-- what a server did that stayed up, with the line feed
unfoldable pub stopped_line : Stayed → List ℕ
stopped_line s =
    codes "stopped turns" ++ spaced (decimal s.turns) ++ codes " taken" ++ spaced (decimal s.taken)
    ++ codes " sent" ++ spaced (decimal s.sent) ++ codes " dropped" ++ spaced (decimal s.dropped)
    ++ codes " unsent" ++ spaced (decimal s.unsent) ++ 10 ∷ []

-- what a server shows at a reading of its clock, with the line feed: that reading, and its state as
-- in a trace
unfoldable pub sight_line : Sight → List ℕ
sight_line s =
    decimal s.millis ++ codes " state" ++ spaced (decimal (number_of s.place))
    ++ spaced (state_text s.state) ++ 10 ∷ []

-- a text is written whole, or a first part of it
abbrev pub Writes : List ℕ → Option (List ℕ) → Option (List ℕ) → Exit → Type 0
Writes text before after exit.Done = Appends before after text
Writes text before after exit.SinkFailed = GrewByPart before after text
Writes text before after exit.NoMemory = GrewByPart before after text
Writes text before after exit.RefusedWords = ⊥
Writes text before after exit.DiskFailed = ⊥
Writes text before after exit.LinkFailed = ⊥

-- some text is
abbrev pub WritesSome : Option (List ℕ) → Option (List ℕ) → Exit → Type 0
WritesSome before after e = (text : List ℕ) × Writes text before after e

-- on words of no form it is how the program is called
abbrev pub UsageEnds : Option (List ℕ) → Option (List ℕ) → Exit → Type 0
UsageEnds before after exit.RefusedWords = Appends before after usage_text
UsageEnds before after exit.SinkFailed = GrewByPart before after usage_text
UsageEnds before after exit.NoMemory = GrewByPart before after usage_text
UsageEnds before after exit.Done = ⊥
UsageEnds before after exit.DiskFailed = ⊥
UsageEnds before after exit.LinkFailed = ⊥
