-- One turn at a place: what it gives to the server, of the readings of the clock and the datagram
-- that came.
use Rattle.std.specs.Prelude.{◌≡◌, ◌⊎◌, ℕ, Bool, true, false, List, [], ◌∷◌, ◌++◌, ◌==◌, length, Option, Some, None}
use Rattle.harp_types.specs.declared.server.ServerId.{ServerId}
use Rattle.node_link.specs.Readings.{MayTell}
use Rattle.node_link.specs.Traffic.{Traffic, TakesNext}
use Rattle.node_link.specs.declared.link.Datagram.{Datagram}
use Rattle.node_link.specs.declared.clock.Reading.{Reading}
use Rattle.node.specs.declared.input.Input.{Input}
use Rattle.node_loop.specs.declared.look.Look.{Look}
use Rattle.node_loop.specs.declared.turned.Turned.{Turned}
use Rattle.node_loop.specs.Arriving.{Arrives}
use Rattle.node_loop.specs.Turns.{Pacing, after_due, after_input, due_inputs, is_due}

abbrev pub inputs_of : Option Input → List Input
inputs_of None = []
inputs_of (Some input) = input ∷ []

abbrev pub after_arrival : Look → ℕ → Option Input → Pacing → Pacing
after_arrival look now None p = p
after_arrival look now (Some input) p = after_input look now input p

-- a datagram that came by this reading gives these inputs, and the server hears who sent it
abbrev pub Comes : Look → ℕ → Datagram → List Input → Pacing → Pacing → Type 0
Comes look now d inputs p q = (input : Option Input) × Arrives d input × (inputs ≡ inputs_of input)
    × (q ≡ after_arrival look now input p)

-- the turn ticks or nudges
pub record IsTimed (me : ServerId) (look : Look) (p q : Pacing) (t : Turned) : Type 0 where
  pub inputs : t.inputs.items ≡ due_inputs me look t.began p
  pub taken : t.taken ≡ None
  pub now : t.now ≡ t.began
  pub pace : q ≡ after_due me look t.began p

-- nothing came
pub record IsQuiet (p q : Pacing) (t : Turned) : Type 0 where
  pub inputs : t.inputs.items ≡ []
  pub now : t.now ≡ t.began
  pub pace : q ≡ p

abbrev pub IsReceive : Look → Pacing → Pacing → Turned → Option Datagram → Type 0
IsReceive look p q t None = IsQuiet p q t
IsReceive look p q t (Some d) = Comes look t.now d t.inputs.items p q

abbrev pub IsTurnBy : Bool → ServerId → Look → Pacing → Pacing → Turned → Type 0
IsTurnBy true me look p q t = IsTimed me look p q t
IsTurnBy false me look p q t = IsReceive look p q t t.taken

-- THE TURN: it ticks where its reading has reached the time of the next tick, nudges where it has
-- that of the next nudge, and otherwise gives what came
abbrev pub IsTurn : ServerId → Look → Pacing → Pacing → Turned → Type 0
IsTurn me look p q t = IsTurnBy (is_due look t.began p) me look p q t

-- a datagram was taken, and gave nothing
abbrev pub is_dropped : Option Datagram → List Input → Bool
is_dropped None inputs = false
is_dropped (Some d) inputs = length inputs == 0

-- ---- what the link and the clock tell

abbrev pub LinkTurnsBy : Bool → ServerId → Turned → Option Traffic → Option Traffic → Type 0
LinkTurnsBy true place t old new = new ≡ old
LinkTurnsBy false place t old new = TakesNext place t.taken old new

-- a turn that ticks or nudges takes nothing, and another one the next datagram of the place
abbrev pub LinkTurns : ServerId → Look → Pacing → Turned → Option Traffic → Option Traffic → Type 0
LinkTurns place look p t old new = LinkTurnsBy (is_due look t.began p) place t old new

-- the clock was read again where a datagram came
abbrev pub second_of : ServerId → ℕ → Option Datagram → List Reading
second_of place now None = []
second_of place now (Some d) = (record { place = place; millis = now }) ∷ []

-- the readings of the turn
abbrev pub readings_of : ServerId → Turned → List Reading
readings_of place t = (record { place = place; millis = t.began }) ∷ second_of place t.now t.taken

-- a clock tells these readings too, or none any more
abbrev pub MayTellAll : List Reading → Option (List Reading) → Option (List Reading) → Type 0
MayTellAll readings told None = Unit {0}
MayTellAll readings None (Some new) = ⊥
MayTellAll readings (Some old) (Some new) = new ≡ old ++ readings

-- ---- what a turn leaves of both that is cut off before it gives anything

-- the clock was read, and nothing was taken
pub record TakesNothing (place : ServerId) (old new : Option Traffic)
    (before after : Option (List Reading)) : Type 0 where
  pub began : ℕ
  pub link : new ≡ old
  pub clock : MayTell (record { place = place; millis = began }) before after

-- or nothing was due, the next datagram was taken, and the clock was read again
pub record TakesAlone (place : ServerId) (look : Look) (p : Pacing) (old new : Option Traffic)
    (before after : Option (List Reading)) : Type 0 where
  pub began : ℕ
  pub now : ℕ
  pub datagram : Datagram
  pub quiet : is_due look began p ≡ false
  pub link : TakesNext place (Some datagram) old new
  pub clock : MayTellAll
      (record { place = place; millis = began } ∷ second_of place now (Some datagram))
      before after

abbrev pub FailsTurn : ServerId → Look → Pacing → (old new : Option Traffic)
    → (before after : Option (List Reading)) → Type 0
FailsTurn place look p old new before after =
    TakesNothing place old new before after ⊎ TakesAlone place look p old new before after
