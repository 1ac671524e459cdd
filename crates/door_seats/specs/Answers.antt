-- WHAT A DOOR'S EVENTS MEAN for those who are connected: each record is answered, in their order,
-- by what a server replied to its calls.
use Rattle.std.specs.Prelude.{◌≡◌, ◌⊎◌, ◌-◌, ◌<◌, ◌^◌, ℕ, ◌==◌, List, [], ◌∷◌, ◌++◌, All, Contains, Option, Some, if◌then◌else◌}
use Rattle.harp_types.specs.declared.server.ServerId.{ServerId}
use Rattle.node_link.specs.declared.link.Datagram.{Datagram}
use Rattle.rpc_door.specs.Serving.{AreRecords}
use Rattle.rpc_door.specs.declared.group.Exchange.{Exchange}
use Rattle.nfs_door.specs.Steps.{LeadsTo, begun}
use Rattle.group_client.specs.Rule.{Asked, news}
use Rattle.group_client.specs.declared.news.News.TheVariants.{Answered}
use Rattle.door_seats.specs.Events.{Event, Wakes, Arrives, Comes, Ends, Begins, Reminds, Hears, Passes, Goes, Breaks, Leaves}
use Rattle.door_seats.specs.Seats.{Sent, time_at}
use Rattle.door_seats.specs.declared.rule.Rule.{Rule}

-- ---- what came and went

-- behind an event, the bytes that came over the connection that took the seat last
abbrev pub came_by : ℕ → Event → List ℕ → List ℕ
came_by n (Wakes now) before = before
came_by n (Arrives m) before = if m == n then [] else before
came_by n (Comes m bytes) before = if m == n then before ++ bytes else before
came_by n (Ends m) before = before
came_by n (Begins m sent) before = before
came_by n (Reminds m sent) before = before
came_by n (Hears m d sent) before = before
came_by n (Passes d) before = before
came_by n (Goes m bytes) before = before
came_by n (Breaks m) before = before
came_by n (Leaves m) before = before

abbrev pub came : ℕ → List Event → List ℕ
came n [] = []
came n (e ∷ es) = came_by n e (came n es)

-- and those that it took
abbrev pub went_by : ℕ → Event → List ℕ → List ℕ
went_by n (Wakes now) before = before
went_by n (Arrives m) before = if m == n then [] else before
went_by n (Comes m bytes) before = before
went_by n (Ends m) before = before
went_by n (Begins m sent) before = before
went_by n (Reminds m sent) before = before
went_by n (Hears m d sent) before = before
went_by n (Passes d) before = before
went_by n (Goes m bytes) before = if m == n then before ++ bytes else before
went_by n (Breaks m) before = before
went_by n (Leaves m) before = before

abbrev pub went : ℕ → List Event → List ℕ
went n [] = []
went n (e ∷ es) = went_by n e (went n es)

-- ---- calls

-- an event asks this call of a server
abbrev pub Asks : Event → Asked → Type 0
Asks (Wakes now) q = ⊥
Asks (Arrives n) q = ⊥
Asks (Comes n bytes) q = ⊥
Asks (Ends n) q = ⊥
Asks (Begins n sent) q = (to : ServerId) × (sent ≡ Some (record { asked = q; to = to }))
Asks (Reminds n sent) q = (to : ServerId) × (sent ≡ Some (record { asked = q; to = to }))
Asks (Hears n d sent) q = (to : ServerId) × (sent ≡ Some (record { asked = q; to = to }))
Asks (Passes d) q = ⊥
Asks (Goes n bytes) q = ⊥
Asks (Breaks n) q = ⊥
Asks (Leaves n) q = ⊥

-- a call was asked
abbrev pub IsAskedIn : List Event → Asked → Type 0
IsAskedIn es q = (later earlier : List Event) × (e : Event) × (es ≡ later ++ e ∷ earlier) × Asks e q

-- A SERVER REPLIED TO A CALL: the call was asked, under one number, and behind that a datagram came
-- from the address of a server, with this reply for that client and number
pub record IsExchange (rule : Rule) (es : List Event) (x : Exchange) : Type 0 where
  pub asked : Asked
  pub heard : Datagram
  pub by : ServerId
  pub seat : ℕ
  pub sent : Option Sent
  pub later : List Event
  pub earlier : List Event
  pub port : asked.port ≡ rule.port
  pub cred : asked.cred ≡ x.cred
  pub call : asked.call ≡ x.call
  pub says : news asked heard ≡ Answered (record { by = by; reply = x.reply })
  pub order : es ≡ later ++ Hears seat heard sent ∷ earlier
  pub was_asked : IsAskedIn earlier asked

-- ---- answers

-- a reading of the clock, or the 0 before the first one
abbrev pub IsRead : ℕ → List Event → Type 0
IsRead now es = (now ≡ 0) ⊎ Contains es (Wakes now)

-- A RECORD IS ANSWERED SO, by what servers replied to its calls; the time now of its arguments is a
-- reading of the clock
pub record IsAnswered (rule : Rule) (es : List Event) (request answer : List ℕ) : Type 0 where
  pub now : ℕ
  pub made : List Exchange
  pub leads : LeadsTo (begun rule.everyone (time_at now) request) made answer
  pub replied : All (IsExchange rule es) made
  pub read : IsRead now es

-- records are answered so, one after the other
abbrev pub AreAnswered : Rule → List Event → List (List ℕ) → List ℕ → Type 0
AreAnswered rule es [] bytes = bytes ≡ []
AreAnswered rule es (r ∷ rs) bytes =
    (first rest : List ℕ) × IsAnswered rule es r first × AreAnswered rule es rs rest
    × (bytes ≡ first ++ rest)

-- WHAT A CONNECTION GOT: what went is a front of the answers to the records at the front of what
-- came, in their order
pub record IsServed (rule : Rule) (es : List Event) (n : ℕ) : Type 0 where
  pub records : List (List ℕ)
  pub unread : List ℕ
  pub answers : List ℕ
  pub ungone : List ℕ
  pub read : AreRecords (came n es) records unread
  pub answered : AreAnswered rule es records answers
  pub front : answers ≡ went n es ++ ungone

-- NO NUMBER HAS TWO CALLS: what a client asked under one number is one call
abbrev pub AreNumbered : List Event → Type 0
AreNumbered es =
    (q p : Asked) → IsAskedIn es q → IsAskedIn es p → q.client ≡ p.client → q.number ≡ p.number
    → q.number < 2 ^ 64 - 1 → q ≡ p

-- what holds of the events of a door
pub record AreRight (rule : Rule) (es : List Event) : Type 0 where
  pub served : (n : ℕ) → IsServed rule es n
  pub numbered : AreNumbered es
