-- What a server gives to another that fetches records.
use Rattle.std.specs.Prelude.{◌≡◌, ◌<◌, ◌≤◌, ℕ, ◌-◌, List, Option, None, Some, take, drop, if◌then◌else◌, ⊤}
use Rattle.event_record.specs.declared.record.RecordFields.{RecordFields}
use Rattle.file_tree.specs.Book.{Entry}
use Rattle.group_rules.specs.Names.{view_of}
use Rattle.group_rules.specs.Places.{Place, all_of}
use Rattle.group_rules.specs.Serving.{gives, serving_accepted, serving_joined}
use Rattle.group_rules.specs.State.{Server, top}
use Rattle.idle_log.specs.Gives.{given_moves}
use Rattle.idle_log.specs.LogLaws.{Sized}
use Rattle.tree_log.specs.Records.{record_of}
use Rattle.node.specs.Node.{NodeValue, server}
use Rattle.witness.specs.Serving.{record_size}

-- the index up to which a server gives records of a view, where it gives any
abbrev pub last_served : Server Entry → ℕ → Option ℕ
last_served s v = if all_of (serving_joined s v) then Some (top s)
    else (if all_of (serving_accepted s v) then Some s.served else None)

-- the records of its log from this index on, up to `last`
abbrev pub asked_of : NodeValue → ℕ → ℕ → List RecordFields
asked_of n index last = take (last - (index - 1)) (drop (index - 1 - n.plain.base) n.records)

-- where the log has the first one, they take as many bytes as their entries do in this list
abbrev pub AreSized : (List Entry → Entry → ℕ) → List Entry → NodeValue → ℕ → ℕ → Type 0
AreSized size list n index last = n.plain.base < index
    → Sized size record_size (take (index - 1) list) (asked_of n index last)

-- so do those that a fetch of this view is given
abbrev pub AreSizedTo : (List Entry → Entry → ℕ) → List Entry → NodeValue → ℕ → Option ℕ → Type 0
AreSizedTo size list n index None = ⊤
AreSizedTo size list n index (Some last) = AreSized size list n index last

abbrev pub IsSized : (List Entry → Entry → ℕ) → List Entry → NodeValue → ℕ → ℕ → Type 0
IsSized size list n v index = AreSizedTo size list n index (last_served n.plain v)

-- the found records are those that the machine gives, whoever fetches them
abbrev pub FindsGiven : NodeValue → List Entry → ℕ → ℕ → Option (List RecordFields) → Type 0
FindsGiven n items index last found =
    (size : List Entry → Entry → ℕ) (list : List Entry) (to : Place) (v : ℕ)
    → last ≤ top n.plain → AreSized size list n index last
    → given_moves to v index found ≡ gives size list (server n items) to v index last

-- the bytes that the record of an entry takes which follows these entries, whatever the view that
-- it is stamped with
abbrev pub entry_size : List Entry → Entry → ℕ
entry_size before e = record_size (record_of (view_of 0) before e)
