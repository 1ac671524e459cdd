-- What a running server shows: its state, where that is another one but for its numbers.
use Rattle.std.specs.Prelude.{◌≡◌, ℕ, Bool, if◌then◌else◌, List, [], ◌∷◌, ◌++◌, Option, None, Some}
use Rattle.group_rules.specs.Shown.{state_of}
use Rattle.harp_types.specs.Memory.{raised}
use Rattle.harp_types.specs.declared.server.ServerId.{ServerId}
use Rattle.harp_types.specs.declared.state.StateLine.{StateLine}
use Rattle.node.specs.Node.{NodeValue, server}
use Rattle.node_loop.specs.declared.watcher.Sight.{Sight}

-- these sights came last, where they are told; who tells none any more never tells again
abbrev pub Showed : List Sight → Option (List Sight) → Option (List Sight) → Type 0
Showed sights told None = Unit {0}
Showed sights None (Some new) = ⊥
Showed sights (Some old) (Some new) = new ≡ old ++ sights

-- what a node shows
abbrev pub state_shown : NodeValue → StateLine
state_shown n = state_of (server n [])

-- the node of a place shows itself, at a reading of its clock
abbrev pub sight : ServerId → ℕ → NodeValue → Sight
sight place millis n = record { place = place; millis = millis; state = state_shown n }

-- a state but for its numbers
abbrev pub without_numbers : StateLine → StateLine
without_numbers s = record s { base = 0; lb = 0; ap = 0; cp = 0; top = 0 }

-- the two are one state, but for their numbers
abbrev pub AreAlike : StateLine → StateLine → Type 0
AreAlike s t = without_numbers s ≡ without_numbers t

-- WHAT A SERVER SHOWS behind a turn to this reading, which led from one state to another: its state
-- then, where that is another one but for its numbers, and else nothing
pub record ShowsNew (place : ServerId) (millis : ℕ) (before now : StateLine)
    (sights : List Sight) : Type 0 where
  pub alike : AreAlike before now → sights ≡ []
  pub other : (AreAlike before now → ⊥)
      → sights ≡ record { place = place; millis = millis; state = now } ∷ []

-- so many datagrams were dropped, where one more was, or none
abbrev pub dropped_after : Bool → ℕ → ℕ
dropped_after dropped n = if dropped then raised n else n

-- so it was, and that came last
abbrev pub ShowsBehind : ServerId → ℕ → StateLine → StateLine → Option (List Sight)
    → Option (List Sight) → Type 0
ShowsBehind place millis before now old new =
    (sights : List Sight) × ShowsNew place millis before now sights × Showed sights old new
