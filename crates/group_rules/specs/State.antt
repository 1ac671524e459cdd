-- What a group is: servers with their durable marks, messages, the pages of its views, the book and the clocks.
use Rattle.std.specs.Prelude.{ℕ, ◌+◌, Bool, List, length, Option, None, Some}
use Rattle.harp_types.specs.Limits.{first_promise}
use Rattle.group_rules.specs.Places.{Zero, Pair, Place, S01, Trio}

-- a log, nothing though it was a storer, or nothing because it stands outside
pub data Held : Type 0 where
  Log : Held
  Lost : Held
  Empty : Held

-- What a Join reports of its sender
pub record Report : Type 0 where
  pub held : Held
  pub accepted : ℕ
  pub base : ℕ
  pub lb : ℕ
  pub cp : ℕ
  pub top : ℕ
  pub horizon : ℕ

-- one join that was made, a coordinator's own too
pub record JoinMade : Type 0 where
  pub from : Place
  pub view : ℕ
  pub report : Report

-- what a choice says and a Form carries
pub record Plan : Type 0 where
  pub storers : Pair
  pub source : Place
  pub base : ℕ
  pub cp : ℕ
  pub start : ℕ
  pub horizon : ℕ

-- The page of a view: the choice, the view that it starts from, and its whole list of entries. The fields from
-- leader_in on are history, which no server reads: which storers accepted it, whether it was opened, how many entries
-- are held twice, and the greatest promise in an Ack of it.
pub record Page (E : Type 0) : Type 0 where
  pub formed : Bool
  pub plan : Plan
  pub from : ℕ
  pub list : List E
  pub leader_in : Bool
  pub partner_in : Bool
  pub opened : Bool
  pub held_twice : ℕ
  pub until : ℕ

-- What a server that is up does in its promised view: nothing (it booted, or was demoted), it joined, it pulls
-- records, it accepted and waits, it leads an open view, or it follows its leader's Events and Beats
pub data Mode : Type 0 where
  Rests : Mode
  Joins : Mode
  Pulls : Mode
  Waits : Mode
  Open : Mode
  Live : Mode

-- the part in the accepted view
pub data Role : Type 0 where
  Leads : Place → Role
  Follows : Place → Role
  Outside : Role

-- a saved log: the records base + 1 to base + length items, and how many of them are committed
pub record Saved (E : Type 0) : Type 0 where
  pub base : ℕ
  pub cp : ℕ
  pub items : List E

-- a coordinator's part: none, it collects joins, or it chose
pub data Duty : Type 0 where
  NoDuty : Duty
  Collects : Trio (Option Report) → Duty
  Chose : (view : ℕ) → Plan → Duty

-- The mark: all durable control data
pub record Mark (E : Type 0) : Type 0 where
  pub promised : ℕ
  pub accepted : ℕ
  pub role : Role
  pub lb : ℕ
  pub saved : Option (Saved E)
  -- the greatest length of promises that this disk ever saw; an old mark has none
  pub longest : Option ℕ

-- A server. The fields up to `longest` beside `up` are its mark, the others its memory. A field that has no meaning in
-- the server's mode has one fixed value, so that nothing stale is remembered.
pub record Server (E : Type 0) : Type 0 where
  pub up : Bool
  pub promised : ℕ
  pub accepted : ℕ
  pub role : Role
  pub lb : ℕ
  pub saved : Option (Saved E)
  pub longest : Option ℕ
  -- the log: records base + 1 to base + length items, applied up to AP and committed up to CP
  pub held : Held
  pub base : ℕ
  pub ap : ℕ
  pub cp : ℕ
  pub items : List E
  pub mode : Mode
  -- what its Join reported, while it joins or pulls
  pub report : Report
  -- the choice, from pulling or accepting on
  pub plan : Plan
  -- a puller: how many records it wanted none of, and the staged ones after them
  pub wanted_from : ℕ
  pub staged : List E
  -- the LB of the last Formed of each sender, from joining to opening
  pub heard : Trio (Option ℕ)
  -- an open leader: what its partner's Acks told
  pub told_top : ℕ
  pub told_lb : ℕ
  pub grant : ℕ
  -- how many entries of its accepted view it serves
  pub served : ℕ
  pub duty : Duty
  -- how long the promises of this boot last, and up to when this server's promises may run
  pub delta : ℕ
  pub horizon : ℕ

-- the number of the last record
abbrev pub top : {E : Type 0} → Server E → ℕ
top s = s.base + length s.items

abbrev pub mark_of : {E : Type 0} → Server E → Mark E
mark_of s = record {
  promised = s.promised;
  accepted = s.accepted;
  role = s.role;
  lb = s.lb;
  saved = s.saved;
  longest = s.longest;
}

-- the longest promise of a mark's disk: before marks had the field each was a first one
abbrev pub longest_of : Option ℕ → ℕ
longest_of None = first_promise
longest_of (Some n) = n

-- The messages among servers. An index is a record's number, from 1
pub data Message (E : Type 0) : Type 0 where
  Invite : (view : ℕ) → Message E
  Join : (view : ℕ) → Report → Message E
  Form : (view : ℕ) → Plan → Message E
  Fetch : (view index : ℕ) → Message E
  Give : (view index : ℕ) → List E → Message E
  Formed : (view lb : ℕ) → Message E
  Event : (view index cp base : ℕ) → E → Message E
  Beat : (view cp base : ℕ) → Message E
  Ack : (view top lb until : ℕ) → Message E
  Demote : (view : ℕ) → Message E

pub record Packet (E : Type 0) : Type 0 where
  pub from : Place
  pub to : Place
  pub body : Message E

-- why an ask is refused; NotLeader hints at the leader of the server's accepted view
pub data Cause : Type 0 where
  BadClient : Cause
  NotLeader : Option Place → Cause
  NotYetOpen : Cause
  NoPromise : Cause
  Old : Cause
  LogFull : Cause

-- what a server says beside its messages: an update's answer to its client, a refusal, the listing of the tree at CP
pub data Say (E : Type 0) : Type 0 where
  Answers : (index : ℕ) → E → Say E
  Refuses : (client number : ℕ) → Cause → Say E
  Lists : (cp : ℕ) → Say E

-- an update's answer that was given in a view
pub record Answered (E : Type 0) : Type 0 where
  pub view : ℕ
  pub index : ℕ
  pub entry : E

-- A group. Its committed updates are those of the book, which has the reads that were answered beside.
-- The joins, the answers and the pages stand beside the servers, and no server reads them. Delta is how long the
-- promises of later boots last.
pub record Group (E : Type 0) : Type 0 where
  pub server : Place → Server E
  pub page : ℕ → Page E
  pub joins : List JoinMade
  pub packets : List (Packet E)
  pub committed : List E
  pub book : List E
  pub answered : List (Answered E)
  pub clock : Place → ℕ
  pub delta : ℕ

-- the values of fields that have no meaning
abbrev pub no_plan : Plan
no_plan = record { storers = S01; source = Zero; base = 0; cp = 0; start = 0; horizon = 0 }

abbrev pub no_report : Report
no_report = record { held = Empty; accepted = 0; base = 0; lb = 0; cp = 0; top = 0; horizon = 0 }
