-- The words of a command.
use Rattle.std.specs.Prelude.{◌≡◌, ◌≢◌, ◌⊎◌, ℕ, ◌<◌, ◌≤◌, ◌^◌, List, [], ◌∷◌, ◌++◌, map}
use Rattle.std.specs.Prelude.{codes, decimal, String, string_bytes, Option, Some, None}
use Rattle.std.specs.Global.{Global}
use Rattle.std.specs.Io.KnownBytes.{Appends}
use Rattle.harp_types.specs.Limits.{first_promise}
use Rattle.harp_types.specs.Server.{number_of}
use Rattle.harp_types.specs.Streams.{GrewByPart}
use Rattle.harp_types.specs.declared.server.ServerId.{ServerId}
use Rattle.node_link.specs.Traffic.{last_port}
use Rattle.promise.specs.Promise.{IsDelta}
use Rattle.harp_cli.specs.declared.door_words.Doorway.{Doorway}
use Rattle.play_commands.specs.declared.exit.Exit.{Exit}
use Rattle.play_commands.specs.declared.exit.Exit.TheVariants as exit
use Rattle.harp_cli.specs.declared.loop_words.Loop.{Loop}
use Rattle.harp_cli.specs.declared.words.Command.{Command}
use Rattle.harp_cli.specs.declared.words.Command.TheVariants as command

-- the bytes of each word
abbrev pub texts : List (String Global) → List (List ℕ)
texts words = map (λ w. string_bytes w) words

-- the words are `play` alone
abbrev pub IsPlay : List (String Global) → Type 0
IsPlay words = texts words ≡ codes "play" ∷ []

-- the words are `check` alone
abbrev pub IsCheck : List (String Global) → Type 0
IsCheck words = texts words ≡ codes "check" ∷ []

-- the words are `observe` alone
abbrev pub IsObserve : List (String Global) → Type 0
IsObserve words = texts words ≡ codes "observe" ∷ []

-- the words are `gen`, a seed below 10^18 and a number of lines up to 40,000, both in decimal
-- without leading zeros
abbrev pub IsGen : ℕ → ℕ → List (String Global) → Type 0
IsGen seed lines words =
    (texts words ≡ codes "gen" ∷ decimal seed ∷ decimal lines ∷ [])
    × (seed < 10 ^ 18) × (lines ≤ 40000)

-- the words are `sweep`, a seed below 10^18, a number of runs from 1 to 10,000 and a number of lines
-- up to 40,000, in decimal without leading zeros
abbrev pub IsSweep : ℕ → ℕ → ℕ → List (String Global) → Type 0
IsSweep seed runs lines words =
    (texts words ≡ codes "sweep" ∷ decimal seed ∷ decimal runs ∷ decimal lines ∷ [])
    × (seed < 10 ^ 18) × (1 ≤ runs) × (runs ≤ 10000) × (lines ≤ 40000)

-- ---- how servers are run

-- how long promises last, 2000 where it isn't told
abbrev pub delta_of : Option ℕ → ℕ
delta_of None = first_promise
delta_of (Some delta) = delta

-- the ports are from 1024 on, the turns from 1 to 10^9, and a length of promises that is told is
-- from 500 to 100,000
pub record AreWithin (runs : Loop) : Type 0 where
  pub low : 1024 ≤ runs.port
  pub high : runs.port ≤ last_port
  pub some : 1 ≤ runs.turns
  pub most : runs.turns ≤ 10 ^ 9
  pub delta : IsDelta (delta_of runs.delta)

abbrev pub delta_words : Option ℕ → List (List ℕ)
delta_words None = []
delta_words (Some delta) = decimal delta ∷ []

-- the words are a port, the name of a folder, a number of turns, and the length of promises where
-- it is told, the numbers in decimal without leading zeros
pub record LoopWords (runs : Loop) (words : List (List ℕ)) : Type 0 where
  pub folder : List ℕ
  pub are : words
      ≡ decimal runs.port ∷ folder ∷ decimal runs.turns ∷ delta_words runs.delta
  pub named : folder ≢ []
  pub within : AreWithin runs

-- the words are a server's number, and how it is run
pub record NodeWords (place : ServerId) (runs : Loop) (words : List (List ℕ)) : Type 0 where
  pub rest : List (List ℕ)
  pub are : words ≡ decimal (number_of place) ∷ rest
  pub loop_words : LoopWords runs rest

-- the words are `node`, a server's number, and how it is run
pub record IsNode (place : ServerId) (runs : Loop) (words : List (String Global)) : Type 0 where
  pub rest : List (List ℕ)
  pub are : texts words ≡ codes "node" ∷ rest
  pub node_words : NodeWords place runs rest

-- the words are `group`, and how its servers are run
pub record IsGroup (runs : Loop) (words : List (String Global)) : Type 0 where
  pub rest : List (List ℕ)
  pub are : texts words ≡ codes "group" ∷ rest
  pub loop_words : LoopWords runs rest

-- ---- how a folder is audited

-- the words are the name of a folder
pub record AuditWords (words : List (List ℕ)) : Type 0 where
  pub folder : List ℕ
  pub are : words ≡ folder ∷ []
  pub named : folder ≢ []

-- the words are `audit`, and the name of a folder
pub record IsAudit (words : List (String Global)) : Type 0 where
  pub rest : List (List ℕ)
  pub are : texts words ≡ codes "audit" ∷ rest
  pub audit_words : AuditWords rest

-- ---- for whom a door is

-- the words are `play`, a user and a group below 2^32, in decimal without leading zeros
abbrev pub PlayWords : ℕ → ℕ → List (List ℕ) → Type 0
PlayWords uid gid words =
    (words ≡ codes "play" ∷ decimal uid ∷ decimal gid ∷ []) × (uid < 2 ^ 32) × (gid < 2 ^ 32)

-- the words are `door`, and those
abbrev pub IsDoorPlay : ℕ → ℕ → List (String Global) → Type 0
IsDoorPlay uid gid words =
    (texts words ≡ codes "door" ∷ codes "play" ∷ decimal uid ∷ decimal gid ∷ [])
    × (uid < 2 ^ 32) × (gid < 2 ^ 32)

-- the user and group are below 2^32, the client is from 0 to 4095, the ports are from 1024 on, and
-- the turns from 1 to 10^9
pub record IsWithin (door : Doorway) : Type 0 where
  pub uid : door.caller.cred.uid < 2 ^ 32
  pub gid : door.caller.cred.gid < 2 ^ 32
  pub client : door.caller.client ≤ 4095
  pub low : 1024 ≤ door.port
  pub high : door.port ≤ last_port
  pub some : 1 ≤ door.caller.turns
  pub most : door.caller.turns ≤ 10 ^ 9

-- the words are a user, a group, a client, a port, the name of a folder and a number of turns, the
-- numbers in decimal without leading zeros
pub record DoorWords (door : Doorway) (words : List (List ℕ)) : Type 0 where
  pub folder : List ℕ
  pub are : words
      ≡ decimal door.caller.cred.uid ∷ decimal door.caller.cred.gid ∷ decimal door.caller.client
      ∷ decimal door.port ∷ folder ∷ decimal door.caller.turns ∷ []
  pub named : folder ≢ []
  pub within : IsWithin door

-- the words are `door`, who makes its calls, and where its servers are
pub record IsDoor (door : Doorway) (words : List (String Global)) : Type 0 where
  pub rest : List (List ℕ)
  pub are : texts words ≡ codes "door" ∷ rest
  pub door_words : DoorWords door rest

-- ---- all forms

-- the words ask for this
abbrev pub AsksFor : List (String Global) → Command → Type 0
AsksFor words command.Play = IsPlay words
AsksFor words command.Check = IsCheck words
AsksFor words command.Observe = IsObserve words
AsksFor words (command.Gen seed lines) = IsGen seed lines words
AsksFor words (command.Sweep seed runs lines) = IsSweep seed runs lines words
AsksFor words (command.Node place runs) = IsNode place runs words
AsksFor words (command.Group runs) = IsGroup runs words
AsksFor words command.Audit = IsAudit words
AsksFor words (command.DoorPlay uid gid) = IsDoorPlay uid gid words
AsksFor words (command.Door door) = IsDoor door words

-- the words are one of these forms
abbrev pub IsForm : List (String Global) → Type 0
IsForm words = (command : Command) × AsksFor words command

-- the words ask that servers run
abbrev pub Serves : List (String Global) → Type 0
Serves words =
    ((place : ServerId) × (runs : Loop) × IsNode place runs words)
    ⊎ ((runs : Loop) × IsGroup runs words) ⊎ ((door : Doorway) × IsDoor door words)

-- ---- the first word, and those behind it

abbrev pub name_of : Command → List ℕ
name_of command.Play = codes "play"
name_of command.Check = codes "check"
name_of command.Observe = codes "observe"
name_of (command.Gen seed lines) = codes "gen"
name_of (command.Sweep seed runs lines) = codes "sweep"
name_of (command.Node place runs) = codes "node"
name_of (command.Group runs) = codes "group"
name_of command.Audit = codes "audit"
name_of (command.DoorPlay uid gid) = codes "door"
name_of (command.Door door) = codes "door"

abbrev pub Behind : List (List ℕ) → Command → Type 0
Behind rest command.Play = rest ≡ []
Behind rest command.Check = rest ≡ []
Behind rest command.Observe = rest ≡ []
Behind rest (command.Gen seed lines) =
    (rest ≡ decimal seed ∷ decimal lines ∷ []) × (seed < 10 ^ 18) × (lines ≤ 40000)
Behind rest (command.Sweep seed runs lines) =
    (rest ≡ decimal seed ∷ decimal runs ∷ decimal lines ∷ [])
    × (seed < 10 ^ 18) × (1 ≤ runs) × (runs ≤ 10000) × (lines ≤ 40000)
Behind rest (command.Node place runs) = NodeWords place runs rest
Behind rest (command.Group runs) = LoopWords runs rest
Behind rest command.Audit = AuditWords rest
Behind rest (command.DoorPlay uid gid) = PlayWords uid gid rest
Behind rest (command.Door door) = DoorWords door rest

-- a command with this name asks for the words behind it
abbrev pub Named : List ℕ → List (List ℕ) → Command → Type 0
Named name rest c = (name_of c ≡ name) × Behind rest c

-- ---- other words

-- how the program is called, a line for each form
unfoldable pub usage_text : List ℕ
usage_text =
    codes "usage: harp play\nusage: harp check\nusage: harp gen SEED LINES\n"
    ++ codes "usage: harp sweep SEED RUNS LINES\n"
    ++ codes "usage: harp node S PORT DIR TURNS\nusage: harp group PORT DIR TURNS\n"
    ++ codes "usage: harp node S PORT DIR TURNS DELTA\nusage: harp group PORT DIR TURNS DELTA\n"
    ++ codes "usage: harp door play U G\nusage: harp door U G CLIENT PORT DIR TURNS\n"
    ++ codes "usage: harp observe\nusage: harp audit DIR\n"

-- on other words the usage text is written, or a first part of it
abbrev pub UsageEnds : Option (List ℕ) → Option (List ℕ) → Exit → Type 0
UsageEnds before after exit.RefusedWords = Appends before after usage_text
UsageEnds before after exit.SinkFailed = GrewByPart before after usage_text
UsageEnds before after exit.NoMemory = GrewByPart before after usage_text
UsageEnds before after exit.Done = ⊥
UsageEnds before after exit.SaysNo = ⊥
UsageEnds before after exit.RefusedLine = ⊥
UsageEnds before after exit.RefusedRecord = ⊥
UsageEnds before after exit.NetFull = ⊥
UsageEnds before after exit.CallSpent = ⊥
UsageEnds before after exit.SourceFailed = ⊥
UsageEnds before after exit.DiskFailed = ⊥
UsageEnds before after exit.LinkFailed = ⊥
