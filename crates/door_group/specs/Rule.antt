-- HOW A CALL IS ASKED until it ends: where, and when again.
use Rattle.std.specs.Prelude.{◌≡◌, ◌⊎◌, ℕ, zero, suc, ◌+◌, ◌==◌, ◌&&◌, Bool, true, List, [], ◌∷◌, ◌++◌, fold, Some, None, ⊤, if◌then◌else◌}
use Rattle.harp_types.specs.declared.call.Call.{Call}
use Rattle.harp_types.specs.declared.cred.Cred.{Cred}
use Rattle.harp_types.specs.declared.reply.Reply.{Reply}
use Rattle.harp_types.specs.declared.server.ServerId.{ServerId}
use Rattle.harp_types.specs.declared.server.ServerId.TheVariants.{Zero, One, Two}
use Rattle.harp_types.specs.Memory.{raised}
use Rattle.harp_types.specs.Streams.{Rose}
use Rattle.rpc_door.specs.declared.group.Exchange.{Exchange}
use Rattle.rpc_door.specs.declared.group.GroupFault.{GroupFault}
use Rattle.rpc_door.specs.declared.group.GroupFault.TheVariants as group
use Rattle.rpc_door.specs.Results.{is_reply_to}
use Rattle.harp_types.specs.declared.cause.Cause.{Cause}
use Rattle.harp_types.specs.declared.cause.Cause.TheVariants as cause
use Rattle.door_group.specs.declared.asker.Ticket.{Ticket}
use Rattle.door_group.specs.declared.brought.Brought.{Brought}
use Rattle.door_group.specs.declared.brought.Brought.TheVariants.{Nothing, Refused, Ended}
use Rattle.door_group.specs.declared.brought.Next.{Next}
use Rattle.door_group.specs.declared.brought.Next.TheVariants.{Ends, AsksAt, WaitsOn}
use Rattle.node_loop.specs.Run.{Asked}
use Rattle.node_loop.specs.declared.heard.Heard.{Heard}
use Rattle.node_loop.specs.declared.heard.Heard.TheVariants.{Answer, CannotServe}

-- ---- servers

-- a call under a ticket
abbrev pub asked : Ticket → Call → Asked
asked t c = record { client = t.client; number = t.number; cred = t.cred; call = c }

-- a move leads on to where they stand now, and what is heard by it comes behind what was heard
abbrev pub LeadsOn : {W : Type 0} → (W → List Heard → W → Type 0) → (W → Type 0) → List Heard
    → List Heard → W → Type 0
LeadsOn {W = W} moves stands old new w =
    (said : List Heard) × (v : W) × moves w said v × stands v × (new ≡ old ++ said)

-- they can be asked, and all that they said was looked at
abbrev pub AreReady : {S : Type 0} → (S → Type 0) → (S → List Heard) → S → Type 0
AreReady runs said s = runs s × (said s ≡ [])

-- they show that something failed, and a count of faults rose
abbrev pub Fails : Type 0 → ℕ → ℕ → Type 0
Fails failed old new = failed × Rose old new

-- ---- what is heard

-- it is of the call of this client with this number
abbrev pub is_of : ℕ → ℕ → ℕ → ℕ → Bool
is_of client number c n = (c == client) && (n == number)

-- what one thing says of a call: nothing where it is of another one, or no reply to this one
abbrev pub news : ℕ → ℕ → Call → Heard → Brought
news client number call (Answer c n index reply) =
    if is_of client number c n && is_reply_to call reply then Ended reply else Nothing
news client number call (CannotServe c n cause) =
    if is_of client number c n then Refused cause else Nothing

-- what was heard, and then this: an answer stays, and else what says something counts
abbrev pub later : Brought → Brought → Brought
later (Ended reply) b = Ended reply
later Nothing b = b
later (Refused last) Nothing = Refused last
later (Refused last) (Refused cause) = Refused cause
later (Refused last) (Ended reply) = Ended reply

abbrev pub hear : ℕ → ℕ → Call → Brought → Heard → Brought
hear client number call b h = later b (news client number call h)

-- THE FIRST ANSWER ENDS A CALL, and before it the last refusal counts
abbrev pub brings : ℕ → ℕ → Call → List Heard → Brought
brings client number call hs = fold (hear client number call) Nothing hs

-- where this ends a call, it is by a reply to it
abbrev pub EndsRightly : Call → Brought → Type 0
EndsRightly call (Ended reply) = is_reply_to call reply ≡ true
EndsRightly call Nothing = ⊤
EndsRightly call (Refused cause) = ⊤

-- a turn from this scene leads to one at which they stand, and by then this is heard of a call
abbrev pub TurnBrings : {W : Type 0} → (W → List Heard → W → Type 0) → (W → Type 0) → ℕ → ℕ → Call
    → List Heard → Brought → W → Type 0
TurnBrings {W = W} turns stands client number call before b w =
    (said : List Heard) × (v : W) × turns w said v × stands v
    × (b ≡ brings client number call (before ++ said))

-- ---- where

abbrev pub next_place : ServerId → ServerId
next_place Zero = One
next_place One = Two
next_place Two = Zero

-- to the leader where it is told, round where it isn't, and else again at the same place
abbrev pub place_after : ServerId → Cause → ServerId
place_after place (cause.NotLeader (Some hint)) = hint
place_after place (cause.NotLeader None) = next_place place
place_after place cause.BadClient = place
place_after place cause.NotYetOpen = place
place_after place cause.NoPromise = place
place_after place cause.LogFull = place
place_after place cause.Old = place

-- what follows a turn that brought this, where so many before it brought nothing: a call that was
-- refused is asked again at once, and one of which nothing is heard after 50 turns
abbrev pub follow : ServerId → ℕ → Brought → Next
follow place quiet (Ended reply) = Ends reply
follow place quiet (Refused cause) = AsksAt (place_after place cause)
follow place quiet Nothing = if quiet + 1 == 50 then AsksAt (next_place place) else WaitsOn

-- ---- a call

-- What becomes of it: it is answered, and its answer came from here and left the servers so; or the
-- turns that it has are over, and left them so; or a turn or an ask of it failed, with this trail
pub data Outcome (W T : Type 0) : Type 0 where
  Done : Reply → ServerId → W → Outcome W T
  Spent : W → Outcome W T
  Broken : T → Outcome W T

-- what becomes of one that is given up for this reason, where the servers stand so and show this
abbrev pub GivesUp : {W T : Type 0} → (W → Type 0) → T → (Outcome W T → Type 0) → GroupFault
    → Type 0
GivesUp stands trail becomes group.Failed = becomes (Broken trail)
GivesUp {W = W} stands trail becomes group.Spent = (v : W) × becomes (Spent v) × stands v
GivesUp stands trail becomes group.NoMemory = becomes (Broken trail)

module _ {W T : Type 0} (turns : W → List Heard → W → Type 0)
    (asks : ServerId → Asked → W → List Heard → W → Type 0) (turn_breaks : W → T → Type 0)
    (ask_breaks : ServerId → Asked → W → T → Type 0) where
  -- it is asked at a place, and what follows is told by what was heard; or the ask fails
  abbrev pub Asks : (List Heard → ServerId → W → Type 0) → Asked → Outcome W T → ServerId → W
      → Type 0
  Asks after q o place w =
      ((said : List Heard) × (v : W) × asks place q w said v × after said place v)
      ⊎ ((trail : T) × (o ≡ Broken trail) × ask_breaks place q w trail)

  -- so it is again, unless no turns are left
  abbrev pub AsksAgain : ℕ → (List Heard → ServerId → W → Type 0) → Asked → Outcome W T → ServerId
      → W → Type 0
  AsksAgain zero after q o place w = o ≡ Spent w
  AsksAgain (suc left) after q o place w = Asks after q o place w

  -- after a turn, where so many are left and so many before it brought nothing
  abbrev pub Follows : ℕ → ℕ → (ℕ → List Heard → ServerId → W → Type 0) → Asked → Outcome W T
      → Next → ServerId → W → Type 0
  Follows left quiet waits q o (Ends reply) place w = o ≡ Done reply place w
  Follows left quiet waits q o (AsksAt next) place w = AsksAgain left (waits 0) q o next w
  Follows left quiet waits q o WaitsOn place w = waits (quiet + 1) [] place w

  -- THE TURNS OF A CALL, at most so many, until it ends or one fails. So many since its last ask
  -- brought nothing, and this was heard since the last turn
  abbrev pub Waits : ℕ → Asked → Outcome W T → ℕ → List Heard → ServerId → W → Type 0
  Waits zero q o quiet before place w = o ≡ Spent w
  Waits (suc left) q o quiet before place w =
      ((said : List Heard) × (v : W) × turns w said v
      × Follows left quiet (Waits left q o) q o
      (follow place quiet (brings q.client q.number q.call (before ++ said))) place v)
      ⊎ ((trail : T) × (o ≡ Broken trail) × turn_breaks w trail)

  -- A CALL IS MADE: it is asked at a place, and then has so many turns
  abbrev pub IsMade : ℕ → Asked → Outcome W T → ServerId → W → Type 0
  IsMade most q o place w = Asks (Waits most q o 0) q o place w

-- ---- the calls of a client

-- before a call: its number, where it is asked, and what the servers are
pub record Before (W : Type 0) : Type 0 where
  pub number : ℕ
  pub place : ServerId
  pub scene : W

-- Whose calls they are, how many turns each has, and what the servers run on
pub record Standing (B : Type 0) : Type 0 where
  pub client : ℕ
  pub turns : ℕ
  pub basis : B

module _ {W T : Type 0} (turns : W → List Heard → W → Type 0)
    (asks : ServerId → Asked → W → List Heard → W → Type 0) (turn_breaks : W → T → Type 0)
    (ask_breaks : ServerId → Asked → W → T → Type 0) (client most : ℕ) where
  -- these calls are made one after the other, each where the one before was answered
  abbrev pub AreMade : List Exchange → Before W → Before W → Type 0
  AreMade [] a c = c ≡ a
  AreMade (x ∷ xs) a c =
      (b : Before W) × (b.number ≡ raised a.number)
      × IsMade turns asks turn_breaks ask_breaks most
      (record { client = client; number = a.number; cred = x.cred; call = x.call })
      (Done x.reply b.place b.scene) a.place a.scene
      × AreMade xs b c

  -- one more was given up, for some reason, where the servers stand so and show this
  abbrev pub GaveUpOne : (W → Type 0) → T → Before W → Type 0
  GaveUpOne stands trail c =
      (why : GroupFault) × (cred : Cred) × (call : Call)
      × GivesUp stands trail (λ o. IsMade turns asks turn_breaks ask_breaks most
      (record { client = client; number = c.number; cred = cred; call = call })
      o c.place c.scene) why
