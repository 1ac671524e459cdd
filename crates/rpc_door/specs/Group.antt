-- What a group tells.
use Rattle.std.specs.Prelude.{ℕ, ◌≤◌, List, [], ◌∷◌, ◌++◌, Result, Ok, Err, ⊤}
use Rattle.harp_types.specs.Streams.{Rose}
use Rattle.harp_types.specs.declared.call.Call.{Call}
use Rattle.harp_types.specs.declared.cred.Cred.{Cred}
use Rattle.harp_types.specs.declared.reply.Reply.{Reply}
use Rattle.rpc_door.specs.declared.group.Exchange.{Exchange}
use Rattle.rpc_door.specs.declared.group.GroupFault.{GroupFault}
use Rattle.rpc_door.specs.declared.group.GroupFault.TheVariants as group

-- ---- calls

-- which calls were answered since a start
abbrev pub Tells : Type 0 → Type 1
Tells S = S → List Exchange → Type 0

-- after which calls since a start another one wasn't answered, why, and by whom it was made
abbrev pub Unanswered : Type 0 → Type 1
Unanswered S = GroupFault → S → List Exchange → Cred → Call → Type 0

-- from each start on these calls more were answered
abbrev pub TellsMore : {S : Type 0} → Tells S → Tells S → List Exchange → Type 0
TellsMore {S = S} old new made =
    (start : S) (before : List Exchange) → old start before → new start (before ++ made)

-- after all calls that were answered before, this one wasn't
abbrev pub LeavesUnanswered : {S : Type 0} → Tells S → Unanswered S → GroupFault → Cred → Call
    → Type 0
LeavesUnanswered {S = S} old new why cred c =
    (start : S) (before : List Exchange) → old start before → new why start before cred c

-- the calls that are answered where one comes to this: that one, or none
abbrev pub answered_by : Cred → Call → Result Reply GroupFault → List Exchange
answered_by cred c (Ok reply) = record { cred = cred; call = c; reply = reply } ∷ []
answered_by cred c (Err why) = []

-- ---- counts

-- how many calls failed, and how many were given up
pub record Counts : Type 0 where
  pub failed : ℕ
  pub spent : ℕ

-- neither is less than before
abbrev pub NoneFell : Counts → Counts → Type 0
NoneFell old new = (old.failed ≤ new.failed) × (old.spent ≤ new.spent)

-- a call that failed or was given up is counted
abbrev pub IsCounted : GroupFault → Counts → Counts → Type 0
IsCounted group.Failed old new = Rose old.failed new.failed
IsCounted group.Spent old new = Rose old.spent new.spent
IsCounted group.NoMemory old new = ⊤
