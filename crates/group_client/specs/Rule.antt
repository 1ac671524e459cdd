-- HOW A CALL IS ASKED of three servers elsewhere, over a link, until one of them answers it.
use Rattle.std.specs.Prelude.{◌≡◌, ◌⊎◌, ℕ, zero, suc, ◌<◌, ◌≤◌, ◌==◌, ◌&&◌, List, [], ◌∷◌, Bool, true, Option, Some, None, Result, Ok, Err, ⊤, if◌then◌else◌}
use Rattle.harp_types.specs.Memory.{raised}
use Rattle.harp_types.specs.declared.call.Call.{Call}
use Rattle.harp_types.specs.declared.cause.Cause.{Cause}
use Rattle.harp_types.specs.declared.cred.Cred.{Cred}
use Rattle.harp_types.specs.declared.reply.Reply.{Reply}
use Rattle.harp_types.specs.declared.server.ServerId.{ServerId}
use Rattle.harp_types.specs.declared.server.ServerId.TheVariants.{Zero}
use Rattle.node_link.specs.Readings.{MayTell}
use Rattle.node_link.specs.Traffic.{TakesNext, Traffic, with_sent_told}
use Rattle.node_link.specs.declared.clock.Reading.{Reading}
use Rattle.node_link.specs.declared.link.Datagram.{Datagram}
use Rattle.node_link.specs.declared.link.SentDatagram.{SentDatagram}
use Rattle.rpc_door.specs.Results.{is_reply_to}
use Rattle.rpc_door.specs.declared.group.Exchange.{Exchange}
use Rattle.rpc_door.specs.declared.group.GroupFault.{GroupFault}
use Rattle.rpc_door.specs.declared.group.GroupFault.TheVariants as group
use Rattle.wire.specs.Messages.{decoded, message_bytes}
use Rattle.wire.specs.declared.decoding.DecodeFault.{DecodeFault}
use Rattle.wire.specs.declared.message.Message.{Message}
use Rattle.wire.specs.declared.message.Message.TheVariants as message
use Rattle.client_calls.specs.Servers.{peer_of, server_of}
use Rattle.client_calls.specs.Waits.{asked_again, first_wait, hinted, longest_pause}
use Rattle.client_calls.specs.declared.ticket.Ticket.{Ticket}
use Rattle.client_calls.specs.declared.wait.Wait.{Wait}
use Rattle.group_client.specs.declared.news.News.{News}
use Rattle.group_client.specs.declared.news.News.TheVariants.{Nothing, Refused, Answered}
use Rattle.group_client.specs.declared.news.Replied.{Replied}
use Rattle.group_client.specs.declared.making.Next.{Next}
use Rattle.group_client.specs.declared.making.Next.TheVariants.{Ends, Waits}

-- ---- messages

-- a call, of which servers it is asked, by the port of the first, for which client, and under which
-- number
pub record Asked : Type 0 where
  pub port : ℕ
  pub client : ℕ
  pub number : ℕ
  pub cred : Cred
  pub call : Call

abbrev pub asked : Ticket → Call → Asked
asked t c = record {
  port = t.port;
  client = t.client;
  number = t.number;
  cred = t.cred;
  call = c;
}

abbrev pub ask_message : Asked → Message
ask_message q = message.Ask q.client q.number q.cred q.call

-- the datagram that asks it of a server
abbrev pub ask_datagram : Asked → ServerId → SentDatagram
ask_datagram q s = record {
  place = Zero;
  to = peer_of q.port s;
  bytes = message_bytes (ask_message q);
}

-- ---- what is heard

-- a client's call with a number is this one
abbrev pub is_of : Asked → ℕ → ℕ → Bool
is_of q client number = (client == q.client) && (number == q.number)

-- what an answer of a server says of it: nothing where it is of another one, or no reply to it
abbrev pub answer_said : ServerId → Asked → ℕ → ℕ → Reply → News
answer_said s q client number reply =
    if is_of q client number && is_reply_to q.call reply
    then Answered (record { by = s; reply = reply }) else Nothing

abbrev pub refusal_said : ServerId → Ticket → ℕ → ℕ → Cause → News
refusal_said s t client number cause =
    if (client == t.client) && (number == t.number) then Refused s cause else Nothing

-- what a message of a server says of it
abbrev pub said : ServerId → Asked → Message → News
said s q (message.Answer client number index reply) = answer_said s q client number reply
said s q (message.CannotServe client number cause) =
    if is_of q client number then Refused s cause else Nothing
said s q (message.Invite view) = Nothing
said s q (message.Join view has accepted base lb cp top horizon) = Nothing
said s q (message.Form view storers source base cp start horizon) = Nothing
said s q (message.Fetch view first) = Nothing
said s q (message.Give view first records) = Nothing
said s q (message.Formed view lb) = Nothing
said s q (message.Event view cp base event) = Nothing
said s q (message.Beat view cp base) = Nothing
said s q (message.Ack view top lb until) = Nothing
said s q (message.Demote view) = Nothing
said s q (message.Ask client number cred call) = Nothing

abbrev pub said_if : ServerId → Asked → Result Message DecodeFault → News
said_if s q (Ok m) = said s q m
said_if s q (Err e) = Nothing

abbrev pub news_from : Asked → List ℕ → Option ServerId → News
news_from q bytes None = Nothing
news_from q bytes (Some s) = said_if s q (decoded bytes)

-- WHAT A DATAGRAM SAYS OF A CALL: only what comes from a server counts
abbrev pub news : Asked → Datagram → News
news q d = news_from q d.bytes (server_of q.port d.from)

-- what becomes of one that waits so by what is heard
abbrev pub next_by : Wait → News → Next
next_by w Nothing = Waits w
next_by w (Refused by cause) = Waits (hinted by cause w)
next_by w (Answered replied) = Ends replied

abbrev pub next_after : Asked → Wait → Option Datagram → Next
next_after q w None = Waits w
next_after q w (Some d) = next_by w (news q d)

-- ---- a step

-- what lies outside a client: what its link and its clock tell
pub record Scene : Type 0 where
  pub link : Option Traffic
  pub clock : Option (List Reading)

-- the clock was read
abbrev pub Reads : ℕ → Scene → Scene → Type 0
Reads now a c = MayTell (record { place = Zero; millis = now }) a.clock c.clock

-- a call is asked of a server, at a reading of the clock
abbrev pub IsAsked : Asked → ServerId → ℕ → Scene → Scene → Type 0
IsAsked q s now a c = Reads now a c × (c.link ≡ with_sent_told (ask_datagram q s) a.link)

-- A STEP of a call that waits so: once its pause is over it is asked again, and before that the
-- next datagram is taken, where one comes
pub record IsStep (q : Asked) (w : Wait) (next : Next) (a c : Scene) : Type 0 where
  pub now : ℕ
  pub reads : Reads now a c
  pub asks : w.due ≤ now
      → (c.link ≡ with_sent_told (ask_datagram q w.place) a.link) × (next ≡ Waits (asked_again now w))
  pub hears : now < w.due
      → (d : Option Datagram) × TakesNext Zero d a.link c.link × (next ≡ next_after q w d)

-- one that is cut off has read the clock and taken a datagram, at most, and sent none
pub record IsCut (a c : Scene) : Type 0 where
  pub clock : (c.clock ≡ a.clock) ⊎ ((now : ℕ) × Reads now a c)
  pub link : (c.link ≡ a.link) ⊎ ((d : Option Datagram) × TakesNext Zero d a.link c.link)

-- ---- a call

-- What becomes of it, and what is outside then: a server answered it, its steps are over, or one
-- of them was cut off
pub data Outcome : Type 0 where
  Done : Replied → Scene → Outcome
  Spent : Scene → Outcome
  Broken : Scene → Outcome

abbrev pub outcome_of : Result Replied GroupFault → Scene → Outcome
outcome_of (Ok replied) c = Done replied c
outcome_of (Err group.Failed) c = Broken c
outcome_of (Err group.Spent) c = Spent c
outcome_of (Err group.NoMemory) c = Broken c

-- where something is cut off, the call ends so
abbrev pub EndsCut : Outcome → Scene → Type 0
EndsCut o a = (c : Scene) × IsCut a c × (o ≡ Broken c)

abbrev pub Follows : (Wait → Scene → Type 0) → Outcome → Next → Scene → Type 0
Follows waits o (Waits w) c = waits w c
Follows waits o (Ends replied) c = o ≡ Done replied c

-- THE STEPS OF A CALL that waits so, at most so many, until it ends
abbrev pub Goes : ℕ → Asked → Outcome → Wait → Scene → Type 0
Goes zero q o w a = o ≡ Spent a
Goes (suc left) q o w a =
    ((next : Next) × (c : Scene) × IsStep q w next a c × Follows (Goes left q o) o next c)
    ⊎ EndsCut o a

-- A CALL IS MADE: it is asked at a place, and then has so many steps
abbrev pub IsMade : ℕ → Asked → Outcome → ServerId → Scene → Type 0
IsMade most q o place a =
    ((now : ℕ) × (c : Scene) × IsAsked q place now a c × Goes most q o (first_wait place now) c)
    ⊎ EndsCut o a

-- what answers it is a reply to it
abbrev pub AnswersRightly : Call → News → Type 0
AnswersRightly call Nothing = ⊤
AnswersRightly call (Refused by cause) = ⊤
AnswersRightly call (Answered replied) = is_reply_to call replied.reply ≡ true

-- and it waits no longer than it may
abbrev pub EndsRightly : Call → Next → Type 0
EndsRightly call (Waits w) = w.pause ≤ longest_pause
EndsRightly call (Ends replied) = is_reply_to call replied.reply ≡ true

-- ---- the calls of a client

-- Who asks: its number, the port of the first server, and the most steps of a call
pub record Caller : Type 0 where
  pub client : ℕ
  pub port : ℕ
  pub steps : ℕ

-- before a call: its number, where it is asked first, and what is outside
pub record Before : Type 0 where
  pub number : ℕ
  pub place : ServerId
  pub scene : Scene

-- a call that this client asks now
abbrev pub asked_by : Caller → Before → Cred → Call → Asked
asked_by caller b cred call = record {
  port = caller.port;
  client = caller.client;
  number = b.number;
  cred = cred;
  call = call;
}

-- THESE CALLS ARE MADE one after the other: each under the next number, and first at the server
-- that answered the one before
abbrev pub AreMade : Caller → List Exchange → Before → Before → Type 0
AreMade caller [] a c = c ≡ a
AreMade caller (x ∷ xs) a c =
    (b : Before) × (b.number ≡ raised a.number)
    × IsMade caller.steps (asked_by caller a x.cred x.call)
    (Done (record { by = b.place; reply = x.reply }) b.scene) a.place a.scene
    × AreMade caller xs b c

-- one more was given up, for this reason
abbrev pub GivesUp : Caller → GroupFault → Cred → Call → Before → Scene → Type 0
GivesUp caller why cred call b c =
    IsMade caller.steps (asked_by caller b cred call) (outcome_of (Err why) c) b.place b.scene

-- for some reason
abbrev pub GaveUpOne : Caller → Before → Scene → Type 0
GaveUpOne caller b c =
    (why : GroupFault) × (cred : Cred) × (call : Call) × GivesUp caller why cred call b c

-- ---- what it runs on

-- Who asks, and how many calls of the link failed before
pub record Basis : Type 0 where
  pub caller : Caller
  pub faults : ℕ
