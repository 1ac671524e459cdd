-- WHAT A DOOR DOES: the records of its input are answered, one after the other.
use Rattle.std.specs.Prelude.{◌≡◌, ◌≢◌, ◌⊎◌, ℕ, ◌+◌, ◌<◌, ◌≤◌, true, List, [], ◌∷◌, ◌++◌, length, take, Option, Some, Result, Ok, Err, ⊤}
use Rattle.std.specs.Io.KnownBytes.{Appends}
use Rattle.harp_types.specs.Streams.{Rose}
use Rattle.harp_types.specs.declared.call.Call.{Call}
use Rattle.harp_types.specs.declared.cred.Cred.{Cred}
use Rattle.harp_types.specs.declared.reply.Reply.{Reply}
use Rattle.harp_types.specs.declared.streams.SinkFault.{SinkFault}
use Rattle.harp_types.specs.declared.streams.SinkFault.TheVariants as sink
use Rattle.harp_base.specs.Fields.{u32_bytes}
use Rattle.rpc_door.specs.declared.fault.DoorFault.{DoorFault}
use Rattle.rpc_door.specs.declared.fault.DoorFault.TheVariants as door
use Rattle.rpc_door.specs.declared.fault.ReadFault.{ReadFault}
use Rattle.rpc_door.specs.declared.fault.ReadFault.TheVariants as read
use Rattle.rpc_door.specs.declared.group.Exchange.{Exchange}
use Rattle.rpc_door.specs.declared.group.GroupFault.{GroupFault}
use Rattle.rpc_door.specs.declared.group.GroupFault.TheVariants as group
use Rattle.rpc_door.specs.declared.meaning.RpcIn.{RpcIn}
use Rattle.rpc_door.specs.declared.meaning.RpcIn.TheVariants.{Silent, Fixed, Ask}
use Rattle.rpc_door.specs.declared.serving.Turn.{Turn}
use Rattle.rpc_door.specs.declared.serving.Turn.TheVariants as turn
use Rattle.rpc_door.specs.Group.{Counts, IsCounted, LeavesUnanswered, NoneFell, Tells, TellsMore, Unanswered, answered_by}
use Rattle.rpc_door.specs.Marks.{IsBroken, Short, Whole, front}
use Rattle.rpc_door.specs.Meaning.{meaning_of}
use Rattle.rpc_door.specs.Results.{answer_bytes, is_reply_to}

-- ---- answers

-- an answer as it is sent: a record of one fragment
unfoldable pub sent : List ℕ → List ℕ
sent answer = u32_bytes (2147483648 + length answer) ++ answer

-- A RECORD THAT MEANS THIS IS ANSWERED: nothing is written for one that means nothing; a fixed
-- answer needs no call; and a call is made once, and its reply is written
abbrev pub IsAnsweredBy : Cred → RpcIn → List Exchange → List ℕ → Type 0
IsAnsweredBy cred Silent made written = (made ≡ []) × (written ≡ [])
IsAnsweredBy cred (Fixed answer) made written = (made ≡ []) × (written ≡ sent answer)
IsAnsweredBy cred (Ask xid c) made written =
    (r : Reply) × (is_reply_to c r ≡ true) × (made ≡ answered_by cred c (Ok r))
    × (written ≡ sent (answer_bytes xid c r))

abbrev pub IsAnswered : Cred → List ℕ → List Exchange → List ℕ → Type 0
IsAnswered cred bytes made written = IsAnsweredBy cred (meaning_of bytes) made written

-- RECORDS ARE ANSWERED, one after the other: these calls are made, in their order, each once, and
-- these bytes are written
abbrev pub AreAnswered : Cred → List (List ℕ) → List Exchange → List ℕ → Type 0
AreAnswered cred [] made written = (made ≡ []) × (written ≡ [])
AreAnswered cred (r ∷ rs) made written =
    (first rest : List Exchange) × (front_ back : List ℕ) × IsAnswered cred r first front_
    × AreAnswered cred rs rest back × (made ≡ first ++ rest) × (written ≡ front_ ++ back)

-- ---- records

-- these records stand at the front of bytes, one after the other, and this is behind them
abbrev pub AreRecords : List ℕ → List (List ℕ) → List ℕ → Type 0
AreRecords bytes [] rest = rest ≡ bytes
AreRecords bytes (r ∷ rs) rest =
    (more : List ℕ) × (front bytes ≡ Whole r more) × AreRecords more rs rest

-- the most records of an input
unfoldable pub most_records : ℕ
most_records = 1048575

-- ---- on the way

-- what a group tells, and what a sink has got
pub record Side (S : Type 0) : Type 1 where
  pub told : Tells S
  pub unanswered : Unanswered S
  pub written : Option (List ℕ)

abbrev pub side : {S : Type 0} → Tells S → Unanswered S → Option (List ℕ) → Side S
side told unanswered written = record { told = told; unanswered = unanswered; written = written }

-- before a door was opened there was no call
abbrev pub closed : Option (List ℕ) → Side ⊤
closed written = side (λ start made. made ≡ []) (λ why start made by call. ⊥) written

-- ---- one record

-- These calls were made for a record that means this, and this is its answer as it is sent
pub record MakesBy {S : Type 0} (cred : Cred) (means : RpcIn) (old new : Tells S)
    (written : List ℕ) : Type 0 where
  pub made : List Exchange
  pub told : TellsMore old new made
  pub answered : IsAnsweredBy cred means made written

-- the record asks a call, which got no reply
pub record MakesNone {S : Type 0} (cred : Cred) (means : RpcIn) (old new : Tells S)
    (unanswered : Unanswered S) (why : GroupFault) : Type 0 where
  pub xid : ℕ
  pub call : Call
  pub asks : means ≡ Ask xid call
  pub kept : TellsMore old new []
  pub left : LeavesUnanswered old unanswered why cred call

-- what stands where the group fails at it; without memory its call may have been made
abbrev pub AnswersInPartBy : {S : Type 0} → Cred → RpcIn → Tells S → Tells S → Unanswered S
    → GroupFault → Type 0
AnswersInPartBy cred means old new unanswered group.Failed =
    MakesNone cred means old new unanswered group.Failed
AnswersInPartBy cred means old new unanswered group.Spent =
    MakesNone cred means old new unanswered group.Spent
AnswersInPartBy cred means old new unanswered group.NoMemory =
    TellsMore old new [] ⊎ ((written : List ℕ) × MakesBy cred means old new written)

-- The first records of an input, no more than it may have, were read and answered, and this is left
pub record HaveServed {S : Type 0} (cred : Cred) (input : List ℕ) (old new : Side S)
    (records : List (List ℕ)) (rest : List ℕ) : Type 0 where
  pub made : List Exchange
  pub bytes : List ℕ
  pub few : length records ≤ most_records
  pub read : AreRecords input records rest
  pub answered : AreAnswered cred records made bytes
  pub told : TellsMore old.told new.told made
  pub wrote : Appends old.written new.written bytes

-- So were all but the last of those that were read; of that one's answer a first part was written,
-- and its call was made, where it is one
pub record HaveServedInPart {S : Type 0} (cred : Cred) (input : List ℕ) (old new : Side S)
    : Type 0 where
  pub records : List (List ℕ)
  pub last : List ℕ
  pub rest : List ℕ
  pub made : List Exchange
  pub bytes : List ℕ
  pub made_last : List Exchange
  pub bytes_last : List ℕ
  pub count : ℕ
  pub few : length records ≤ most_records
  pub read : AreRecords input (records ++ last ∷ []) rest
  pub answered : AreAnswered cred records made bytes
  pub answered_last : IsAnswered cred last made_last bytes_last
  pub told : TellsMore old.told new.told (made ++ made_last)
  pub wrote : Appends old.written new.written (bytes ++ take count bytes_last)

-- ---- the ends

-- all records were answered, and the source is read to its end
pub record EndsWell {S : Type 0} (cred : Cred) (input : List ℕ) (source : Option (List ℕ))
    (old new : Side S) (number : ℕ) : Type 0 where
  pub records : List (List ℕ)
  pub served : HaveServed cred input old new records []
  pub number_is : number ≡ length records
  pub few : number ≤ most_records
  pub source_is : source ≡ Some []

-- the source failed: what was begun of a record, and what the source has left, stand behind those
-- that were answered
pub record EndsAmid {S : Type 0} (cred : Cred) (input : List ℕ) (source : Option (List ℕ))
    (old new : Side S) : Type 0 where
  pub records : List (List ℕ)
  pub begun : List ℕ
  pub rest : List ℕ
  pub served : HaveServed cred input old new records (begun ++ rest)
  pub part : front begun ≡ Short
  pub source_is : source ≡ Some rest

-- the record with this number is none, or one too many
pub record EndsBadly {S : Type 0} (cred : Cred) (input : List ℕ) (old new : Side S) (number : ℕ)
    : Type 0 where
  pub records : List (List ℕ)
  pub rest : List ℕ
  pub served : HaveServed cred input old new records rest
  pub number_is : number ≡ length records + 1
  pub bad : IsBroken rest ⊎ ((length records ≡ most_records) × (rest ≢ []))

-- the group didn't answer the call of the next record, for this reason
pub record EndsUnanswered {S : Type 0} (cred : Cred) (input : List ℕ) (old new : Side S)
    (why : GroupFault) : Type 0 where
  pub records : List (List ℕ)
  pub next : List ℕ
  pub rest : List ℕ
  pub more : List ℕ
  pub xid : ℕ
  pub call : Call
  pub served : HaveServed cred input old new records rest
  pub is_next : front rest ≡ Whole next more
  pub asks : meaning_of next ≡ Ask xid call
  pub left : (start : S) (before : List Exchange) → old.told start before
      → new.unanswered why start (before ++ served.made) cred call

-- without memory the last record that was read may be answered in part
abbrev pub EndsAnywhere : {S : Type 0} → Cred → List ℕ → Side S → Side S → Type 0
EndsAnywhere cred input old new =
    ((records : List (List ℕ)) × (rest : List ℕ) × HaveServed cred input old new records rest)
    ⊎ HaveServedInPart cred input old new

-- HOW A DOOR ENDS, with the number of records or for this reason
abbrev pub DoorEnds : {S : Type 0} → Cred → List ℕ → Option (List ℕ) → Side S → Side S
    → Result ℕ DoorFault → Type 0
DoorEnds cred input source old new (Ok number) = EndsWell cred input source old new number
DoorEnds cred input source old new (Err door.ReadFault) = EndsAmid cred input source old new
DoorEnds cred input source old new (Err door.WriteFault) = HaveServedInPart cred input old new
DoorEnds cred input source old new (Err (door.BadRecord number)) =
    EndsBadly cred input old new number
DoorEnds cred input source old new (Err door.GroupFailed) =
    EndsUnanswered cred input old new group.Failed
DoorEnds cred input source old new (Err door.GroupSpent) =
    EndsUnanswered cred input old new group.Spent
DoorEnds cred input source old new (Err door.NoMemory) = EndsAnywhere cred input old new

-- ---- turns

-- the records before the one with this number were read and answered, and these bytes are left
pub record GoesOn {S : Type 0} (cred : Cred) (input : List ℕ) (number : ℕ) (left : Option (List ℕ))
    (old new : Side S) : Type 0 where
  pub records : List (List ℕ)
  pub rest : List ℕ
  pub left_is : left ≡ Some rest
  pub number_is : number ≡ length records + 1
  pub served : HaveServed cred input old new records rest

-- nothing was told or written
pub record DoesNothing {S : Type 0} (old new : Side S) : Type 0 where
  pub told : TellsMore old.told new.told []
  pub wrote : Appends old.written new.written []

-- the record at the front of the bytes was answered, and the rest is left
pub record AnswersOne {S : Type 0} (cred : Cred) (bytes : List ℕ) (left : Option (List ℕ))
    (old new : Side S) : Type 0 where
  pub next : List ℕ
  pub rest : List ℕ
  pub made : List Exchange
  pub answer : List ℕ
  pub is_next : front bytes ≡ Whole next rest
  pub left_is : left ≡ Some rest
  pub answered : IsAnswered cred next made answer
  pub told : TellsMore old.told new.told made
  pub wrote : Appends old.written new.written answer

-- what a turn led to, where these bytes were left before
abbrev pub TurnGives : {S : Type 0} → Cred → List ℕ → Option (List ℕ) → Option (List ℕ) → Side S
    → Side S → Turn → Type 0
TurnGives cred bytes left source old new turn.GoesOn = AnswersOne cred bytes left old new
TurnGives cred bytes left source old new turn.Ended =
    (bytes ≡ []) × (source ≡ Some []) × DoesNothing old new

-- the source failed behind a part of the record
pub record StopsAmid (bytes : List ℕ) (source : Option (List ℕ)) : Type 0 where
  pub begun : List ℕ
  pub rest : List ℕ
  pub bytes_are : bytes ≡ begun ++ rest
  pub part : front begun ≡ Short
  pub source_is : source ≡ Some rest

-- a first part of the record's answer was written
pub record StopsInAnswer {S : Type 0} (cred : Cred) (bytes : List ℕ) (old new : Side S)
    : Type 0 where
  pub next : List ℕ
  pub rest : List ℕ
  pub made : List Exchange
  pub answer : List ℕ
  pub count : ℕ
  pub is_next : front bytes ≡ Whole next rest
  pub answered : IsAnswered cred next made answer
  pub told : TellsMore old.told new.told made
  pub wrote : Appends old.written new.written (take count answer)

-- the record asks a call that got no reply
pub record StopsAtCall {S : Type 0} (cred : Cred) (bytes : List ℕ) (old new : Side S)
    (why : GroupFault) : Type 0 where
  pub next : List ℕ
  pub rest : List ℕ
  pub xid : ℕ
  pub call : Call
  pub is_next : front bytes ≡ Whole next rest
  pub asks : meaning_of next ≡ Ask xid call
  pub left : LeavesUnanswered old.told new.unanswered why cred call

-- why the turn of the record with this number stopped
abbrev pub TurnStops : {S : Type 0} → Cred → List ℕ → ℕ → Option (List ℕ) → Side S → Side S
    → DoorFault → Type 0
TurnStops cred bytes number source old new door.ReadFault =
    StopsAmid bytes source × DoesNothing old new
TurnStops cred bytes number source old new door.WriteFault = StopsInAnswer cred bytes old new
TurnStops cred bytes number source old new (door.BadRecord n) =
    (n ≡ number) × (IsBroken bytes ⊎ ((most_records < number) × (bytes ≢ [])))
    × DoesNothing old new
TurnStops cred bytes number source old new door.GroupFailed =
    StopsAtCall cred bytes old new group.Failed × DoesNothing old new
TurnStops cred bytes number source old new door.GroupSpent =
    StopsAtCall cred bytes old new group.Spent × DoesNothing old new
TurnStops cred bytes number source old new door.NoMemory =
    DoesNothing old new ⊎ StopsInAnswer cred bytes old new

-- ---- faults

-- how many reads of the source, writes to the sink and calls of the group failed so far
pub record Faults : Type 0 where
  pub reads : ℕ
  pub writes : ℕ
  pub calls : Counts

abbrev pub faults : ℕ → ℕ → Counts → Faults
faults reads writes calls = record { reads = reads; writes = writes; calls = calls }

-- none of the counts is less than before
abbrev pub FaultsStay : Faults → Faults → Type 0
FaultsStay old new =
    (old.reads ≤ new.reads) × (old.writes ≤ new.writes) × NoneFell old.calls new.calls

-- where a source, a sink or a group ended a door, the fault was counted there
abbrev pub IsCaused : DoorFault → Faults → Faults → Type 0
IsCaused door.ReadFault old new = Rose old.reads new.reads
IsCaused door.WriteFault old new = Rose old.writes new.writes
IsCaused (door.BadRecord number) old new = ⊤
IsCaused door.GroupFailed old new = IsCounted group.Failed old.calls new.calls
IsCaused door.GroupSpent old new = IsCounted group.Spent old.calls new.calls
IsCaused door.NoMemory old new = ⊤

-- the group still answers calls, unless it was shut for want of memory or by the group
abbrev pub RunsAfter : Type 0 → DoorFault → Type 0
RunsAfter runs door.ReadFault = runs
RunsAfter runs door.WriteFault = runs
RunsAfter runs (door.BadRecord number) = runs
RunsAfter runs door.GroupFailed = ⊤
RunsAfter runs door.GroupSpent = ⊤
RunsAfter runs door.NoMemory = ⊤

abbrev pub of_read : ReadFault → DoorFault
of_read read.Failed = door.ReadFault
of_read read.NoMemory = door.NoMemory

abbrev pub of_sink : SinkFault → DoorFault
of_sink sink.Failed = door.WriteFault
of_sink sink.NoMemory = door.NoMemory

abbrev pub of_group : GroupFault → DoorFault
of_group group.Failed = door.GroupFailed
of_group group.Spent = door.GroupSpent
of_group group.NoMemory = door.NoMemory
