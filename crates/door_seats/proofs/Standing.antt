-- What stands at a seat behind events, and how it stands with all of them.
use Rattle.std.proofs.Common.{◌≡◌, ◌-◌, ◌^◌, ◌+◌, ◌<◌, ℕ, List, [], ◌∷◌, ◌++◌, Option, Some, None, slice_get, ⊎_elim}
use Rattle.std.specs.Prelude.{⊤}
use Rattle.rpc_door.specs.Marks.{Whole, front}
use Rattle.nfs_door.specs.declared.step.Errand.{Errand}
use Rattle.nfs_door.specs.declared.step.Step.TheVariants as step
use Rattle.group_client.specs.Rule.{Asked}
use Rattle.door_seats.specs.Answers.{AreNumbered, Asks, IsAskedIn, IsRead, IsServed, came, went}
use Rattle.door_seats.specs.Events.{Event, Seating}
use Rattle.door_seats.specs.declared.rule.Rule.{Rule}
use Rattle.door_seats.specs.declared.seat.Line.{Line}
use Rattle.door_seats.specs.declared.seat.Line.TheVariants.{Free, Open, Over, Done, Lost}
use Rattle.door_seats.specs.declared.seat.Seat.{Seat}
use Rattle.door_seats.specs.declared.seat.Visit.{Visit}
use Rattle.door_seats.proofs.Coming.{HasComeTo, come_later}
use Rattle.door_seats.proofs.Keeping.{AreKept}
use Rattle.door_seats.proofs.Later.{all_answered_later, asked_before, asked_later}

-- ---- definitions

-- what came over it and isn't read, and what it is still to get, stand at its seat
abbrev pub IsHeld : Line → Type 0
IsHeld Free = ⊥
IsHeld Open = ⊤
IsHeld Over = ⊤
IsHeld Done = ⊤
IsHeld Lost = ⊥

-- a call of its seat may be on its way
abbrev pub MayAsk : Line → Type 0
MayAsk Free = ⊥
MayAsk Open = ⊤
MayAsk Over = ⊤
MayAsk Done = ⊥
MayAsk Lost = ⊤

abbrev pub call_as : Rule → ℕ → Errand → ℕ → Asked
call_as rule client e number = record {
  port = rule.port;
  client = client;
  number = number;
  cred = e.cred;
  call = e.call;
}

-- where no call is on its way, all that isn't read is unread; where one is, its record comes first,
-- all answers before it went, and the call was asked
abbrev pub Stands : Rule → List Event → Seat → (pending extra : List ℕ) → Option Visit → Type 0
Stands rule es s pending extra None =
    IsHeld s.line → (pending ≡ s.unread) × (extra ≡ [])
Stands rule es s pending extra (Some v) =
    MayAsk s.line × (s.unsent ≡ []) × (extra ≡ [])
    × (rest : List ℕ) × (front pending ≡ Whole v.request rest)
    × (IsHeld s.line → rest ≡ s.unread)
    × HasComeTo rule es v.request (step.Call v.errand)
    × IsAskedIn es (call_as rule s.client v.errand v.number)

-- the greatest number of a call
abbrev pub last_number : ℕ
last_number = 2 ^ 64 - 1

-- what a client asked has numbers below its next one
abbrev pub IsBelow : List Event → (client next : ℕ) → Type 0
IsBelow es client next =
    (q : Asked) → IsAskedIn es q → q.client ≡ client → next < last_number → q.number < next

-- WHAT STANDS AT A SEAT
pub record IsSeated (rule : Rule) (first : ℕ) (es : List Event) (n : ℕ) (s : Seat) : Type 0 where
  pub served : IsServed rule es n
  pub extra : List ℕ
  pub ungone : served.ungone ≡ s.unsent ++ extra
  pub stands : Stands rule es s served.unread extra s.visit
  pub client : s.client ≡ first + n
  pub below : IsBelow es s.client s.next

abbrev pub IsSeatedIf : Rule → ℕ → List Event → ℕ → Option Seat → Type 0
IsSeatedIf rule first es n None = IsServed rule es n
IsSeatedIf rule first es n (Some s) = IsSeated rule first es n s

-- WHAT STANDS behind events
pub record AllStand (rule : Rule) (first : ℕ) (es : List Event) (now : ℕ) (g : Seating)
    : Type 0 where
  pub seats : (n : ℕ) → IsSeatedIf rule first es n (slice_get g.seats n)
  pub kept : AreKept rule es g.kept
  pub numbered : AreNumbered es
  pub read : IsRead now es

-- ---- where one more event has happened

pub stands_later : (rule : Rule) (e : Event) (es : List Event) (s : Seat) (pending extra : List ℕ)
    (o : Option Visit) → Stands rule es s pending extra o → Stands rule (e ∷ es) s pending extra o
stands_later rule e es s pending extra None h = h
stands_later rule e es s pending extra (Some v) h = (
  h.0,
  h.1,
  h.2,
  h.3,
  h.4,
  h.5,
  come_later rule e es v.request (step.Call v.errand) h.6,
  asked_later e es (call_as rule s.client v.errand v.number) h.7,
)

pub below_later : (e : Event) (es : List Event) (client next : ℕ) → IsBelow es client next
    → ((q : Asked) → Asks e q → q.client ≡ client → next < last_number → q.number < next)
    → IsBelow (e ∷ es) client next
below_later e es client next below new q asked is within =
    ⊎_elim (λ (now : Asks e q). new q now is within)
    (λ (before : IsAskedIn es q). below q before is within) (asked_before e es q asked)

-- nothing came or went over the connection of a seat
abbrev pub served_later : (rule : Rule) (e : Event) (es : List Event) (n : ℕ)
    → came n (e ∷ es) ≡ came n es → went n (e ∷ es) ≡ went n es → IsServed rule es n
    → IsServed rule (e ∷ es) n
served_later rule e es n same_came same_went i = record {
  records = i.records;
  unread = i.unread;
  answers = i.answers;
  ungone = i.ungone;
  read = rw same_came i.read;
  answered = all_answered_later rule e es i.records i.answers i.answered;
  front = rw same_went i.front;
}
