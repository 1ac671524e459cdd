-- What a fetch is given, and the records of a Give.
use Rattle.std.specs.Prelude.{◌≡◌, ℕ, ◌-◌, ◌<◌, ◌≤◌, List, [], ◌∷◌, Contains, IfSome, map, take, Option, None, Some}
use Rattle.event_record.specs.Record.{entry_of}
use Rattle.event_record.specs.declared.record.RecordFields.{RecordFields}
use Rattle.file_tree.specs.Book.{Entry}
use Rattle.group_rules.specs.Moves.{Move, Sending}
use Rattle.group_rules.specs.Places.{Place}
use Rattle.group_rules.specs.Serving.{gives}
use Rattle.group_rules.specs.State.{Give, Server}
use Rattle.idle_log.specs.LogLaws.{Sized}
use Rattle.volatile_log.specs.Log.{LogValue, top}
use Rattle.witness.specs.Serving.{asked_for, record_size}

-- what is sent where these records were found
abbrev pub given_moves : Place → ℕ → ℕ → Option (List RecordFields) → List (Move Entry)
given_moves to v index None = []
given_moves to v index (Some rs) = Sending to (Give v index (map entry_of rs)) ∷ []

-- A server with this log gives the found records: whoever fetches from this index on, it is what
-- the machine gives
-- up to `last`, where the records, if any, take as many bytes as their entries do in the list
abbrev pub GivesFound : Server Entry → LogValue → ℕ → ℕ → Option (List RecordFields) → Type 0
GivesFound s log index last found =
    (size : List Entry → Entry → ℕ) (list : List Entry) (to : Place) (v : ℕ) → last ≤ top log
    → (log.base < index → Sized size record_size (take (index - 1) list)
    (asked_for log index last))
    → given_moves to v index found ≡ gives size list s to v index last

-- each of these records stands among those
abbrev pub StandIn : (all some : List RecordFields) → Type 0
StandIn all some = (r : RecordFields) → Contains some r → Contains all r

-- the found records, if any, are the log's
abbrev pub FoundIn : LogValue → Option (List RecordFields) → Type 0
FoundIn log found = IfSome found (StandIn log.records)
