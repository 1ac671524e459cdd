-- What the words of the program are.
use Rattle.std.specs.Prelude.{◌≡◌, ◌≢◌, ℕ, ◌≤◌, ◌<◌, ◌^◌, List, [], ◌∷◌, map, IfSome}
use Rattle.std.specs.Prelude.{codes, decimal, String, string_bytes, Option, Some, None, get_or}
use Rattle.std.specs.Global.{Global}
use Rattle.harp_types.specs.Limits.{first_promise}
use Rattle.harp_types.specs.Server.{number_of}
use Rattle.harp_types.specs.declared.cred.Cred.{Cred}
use Rattle.harp_types.specs.declared.server.ServerId.{ServerId}
use Rattle.node_link.specs.Traffic.{last_port}
use Rattle.promise.specs.Promise.{IsDelta}
use Rattle.harpd.specs.declared.words.Loop.{Loop}
use Rattle.harpd.specs.declared.words.Serving.{Serving}
use Rattle.harpd.specs.declared.words.Command.{Command}
use Rattle.harpd.specs.declared.words.Command.TheVariants as command

-- the bytes of each word
abbrev pub texts : List (String Global) → List (List ℕ)
texts words = map (λ w. string_bytes w) words

-- the one at a place, from 0; an empty one where there is none
abbrev pub word_at : List (List ℕ) → ℕ → List ℕ
word_at words place = get_or words place []

-- ---- how a server is run

-- how long promises last, 2000 where it isn't told
abbrev pub delta_of : Option ℕ → ℕ
delta_of None = first_promise
delta_of (Some delta) = delta

-- the ports are from 1024 on, and a length of promises that is told is from 500 to 100,000
pub record AreWithin (runs : Loop) : Type 0 where
  pub low : 1024 ≤ runs.port
  pub high : runs.port ≤ last_port
  pub delta : IsDelta (delta_of runs.delta)

abbrev pub delta_words : Option ℕ → List (List ℕ)
delta_words None = []
delta_words (Some delta) = decimal delta ∷ []

-- the words are a port, the name of a folder, and the length of promises where it is told, the
-- numbers in decimal without leading zeros
pub record LoopWords (runs : Loop) (words : List (List ℕ)) : Type 0 where
  pub folder : List ℕ
  pub are : words ≡ decimal runs.port ∷ folder ∷ delta_words runs.delta
  pub named : folder ≢ []
  pub within : AreWithin runs

-- the words are a server's number, and how it is run
pub record ServerWords (place : ServerId) (runs : Loop) (words : List (List ℕ)) : Type 0 where
  pub rest : List (List ℕ)
  pub are : words ≡ decimal (number_of place) ∷ rest
  pub loop_words : LoopWords runs rest

-- the words are `server`, a server's number, and how it is run
pub record IsServer (place : ServerId) (runs : Loop) (words : List (String Global)) : Type 0 where
  pub rest : List (List ℕ)
  pub are : texts words ≡ codes "server" ∷ rest
  pub server_words : ServerWords place runs rest

-- ---- how connections are served

abbrev pub IsCred : Cred → Type 0
IsCred cred = (cred.uid < 2 ^ 32) × (cred.gid < 2 ^ 32)

-- the ports are from 1024 on, a user and a group that are told are below 2^32, and the sixteen
-- clients from this one on are below 4096
pub record AreServed (serves : Serving) : Type 0 where
  pub low : 1024 ≤ serves.port
  pub high : serves.port ≤ last_port
  pub door_low : 1024 ≤ serves.door
  pub door_high : serves.door ≤ 65535
  pub client : serves.client ≤ 4080
  pub everyone : IfSome serves.everyone IsCred

abbrev pub cred_words : Option Cred → List (List ℕ)
cred_words None = []
cred_words (Some cred) = decimal cred.uid ∷ decimal cred.gid ∷ []

-- the words are the servers' port, the door's, a client, and a user and a group where they are
-- told, in decimal without leading zeros
pub record DoorWords (serves : Serving) (words : List (List ℕ)) : Type 0 where
  pub are : words
      ≡ decimal serves.port ∷ decimal serves.door ∷ decimal serves.client
      ∷ cred_words serves.everyone
  pub within : AreServed serves

-- the words are `serve`, and those
pub record IsDoor (serves : Serving) (words : List (String Global)) : Type 0 where
  pub rest : List (List ℕ)
  pub are : texts words ≡ codes "serve" ∷ rest
  pub door_words : DoorWords serves rest

-- ---- the other forms

-- the words are the name of a folder
pub record FolderWords (words : List (List ℕ)) : Type 0 where
  pub folder : List ℕ
  pub are : words ≡ folder ∷ []
  pub named : folder ≢ []

-- the words are `init`, and the name of a folder
pub record IsInit (words : List (String Global)) : Type 0 where
  pub rest : List (List ℕ)
  pub are : texts words ≡ codes "init" ∷ rest
  pub folder_words : FolderWords rest

-- the words are `help` alone
abbrev pub IsHelp : List (String Global) → Type 0
IsHelp words = texts words ≡ codes "help" ∷ []

-- the words are `version` alone
abbrev pub IsVersion : List (String Global) → Type 0
IsVersion words = texts words ≡ codes "version" ∷ []

-- the words ask for this
abbrev pub AsksFor : List (String Global) → Command → Type 0
AsksFor words (command.Server place runs) = IsServer place runs words
AsksFor words (command.Door serves) = IsDoor serves words
AsksFor words command.Init = IsInit words
AsksFor words command.Help = IsHelp words
AsksFor words command.Version = IsVersion words

-- the words are one of these forms
abbrev pub IsForm : List (String Global) → Type 0
IsForm words = (command : Command) × AsksFor words command

-- the words ask for a server
abbrev pub AskForServer : List (String Global) → Type 0
AskForServer words = (place : ServerId) × (runs : Loop) × IsServer place runs words

-- they ask that connections be served
abbrev pub AskForDoor : List (String Global) → Type 0
AskForDoor words = (serves : Serving) × IsDoor serves words

-- ---- the first word, and those behind it

abbrev pub name_of : Command → List ℕ
name_of (command.Server place runs) = codes "server"
name_of (command.Door serves) = codes "serve"
name_of command.Init = codes "init"
name_of command.Help = codes "help"
name_of command.Version = codes "version"

abbrev pub Behind : List (List ℕ) → Command → Type 0
Behind rest (command.Server place runs) = ServerWords place runs rest
Behind rest (command.Door serves) = DoorWords serves rest
Behind rest command.Init = FolderWords rest
Behind rest command.Help = rest ≡ []
Behind rest command.Version = rest ≡ []

-- a command with this name asks for the words behind it
abbrev pub Named : List ℕ → List (List ℕ) → Command → Type 0
Named name rest c = (name_of c ≡ name) × Behind rest c
