-- WHAT IS DONE FOR A RECORD of a client, step by step: calls are made, one after the other, and
-- then it is answered. The door's rule stands but for what is said here.
use Rattle.std.specs.Prelude.{◌≡◌, ℕ, ◌==◌, true, List, [], ◌∷◌, Option, Some, None, if◌then◌else◌}
use Rattle.harp_types.specs.declared.attr.Time.{Time}
use Rattle.harp_types.specs.declared.call.Call.{Call}
use Rattle.harp_types.specs.declared.cred.Cred.{Cred}
use Rattle.harp_types.specs.declared.reply.Reply.{Reply}
use Rattle.harp_types.specs.declared.reply.Reply.TheVariants as reply
use Rattle.harp_types.specs.declared.reply.Status.TheVariants as status
use Rattle.rpc_door.specs.declared.group.Exchange.{Exchange}
use Rattle.rpc_door.specs.declared.meaning.RpcIn.{RpcIn}
use Rattle.rpc_door.specs.declared.meaning.RpcIn.TheVariants as means
use Rattle.rpc_door.specs.Meaning.{accepted, meaning_of, no_arguments}
use Rattle.rpc_door.specs.Results.{answer_bytes, is_reply_to}
use Rattle.rpc_door.specs.Serving.{sent}
use Rattle.rpc_door.specs.Xdr.{words}
use Rattle.nfs_door.specs.declared.claim.Claim.{Claim}
use Rattle.nfs_door.specs.declared.credential.Caller.{Caller}
use Rattle.nfs_door.specs.declared.front.Front.{Front}
use Rattle.nfs_door.specs.declared.step.Errand.{Errand}
use Rattle.nfs_door.specs.declared.step.Step.{Step}
use Rattle.nfs_door.specs.declared.step.Step.TheVariants.{Silent, Answer}
use Rattle.nfs_door.specs.declared.step.Step.TheVariants as step
use Rattle.nfs_door.specs.declared.step.Then.{Then}
use Rattle.nfs_door.specs.declared.step.Then.TheVariants.{Replies, Looks, Mounts}
use Rattle.nfs_door.specs.Allowances.{claim_of, looked, made_as, replied}
use Rattle.nfs_door.specs.Changes.{call_meant, makes_special}
use Rattle.nfs_door.specs.Credentials.{alone, nobody, speaks_as}
use Rattle.nfs_door.specs.Fronts.{front_of}
use Rattle.nfs_door.specs.Mounts.{mount_called, mounts_on}

-- ---- calls of NFS

-- the call is made by a caller who may claim this; but no special file is made
abbrev pub asks_for : Cred → ℕ → Option Claim → Call → Step
asks_for who xid claim c =
    if makes_special c then Answer (answer_bytes xid c (reply.Refused status.Perm))
    else made_as who xid claim c

abbrev pub asks_if_some : Cred → ℕ → Option Claim → Option Call → Step
asks_if_some who xid claim (Some c) = asks_for who xid claim c
asks_if_some who xid claim None = Answer (accepted xid no_arguments)

-- what is done where the door's rule gives a record this meaning
abbrev pub nfs_called : Caller → Time → RpcIn → Step
nfs_called who now means.Silent = Silent
nfs_called who now (means.Fixed answer) = Answer answer
nfs_called who now (means.Ask xid c) =
    asks_if_some who.cred xid (claim_of who c) (call_meant now c)

-- ---- the first step

-- the call is denied: its credential is bad (RFC 1057, section 9.1)
abbrev pub bad_credential : ℕ → List ℕ
bad_credential xid = words (xid ∷ 1 ∷ 1 ∷ 1 ∷ 1 ∷ [])

-- a call by a caller: MOUNT is program 100005
abbrev pub called_by : Caller → Time → List ℕ → Front → ℕ → Step
called_by who now bytes f at =
    if f.program == 100005 then mount_called who.cred f bytes at
    else nfs_called who now (meaning_of bytes)

-- all calls are made as everyone, where one is named, and otherwise as each one's own caller
abbrev pub caller_for : Option Cred → Caller → Caller
caller_for None own = own
caller_for (Some who) own = alone who

abbrev pub called_as : Option Cred → Time → List ℕ → Front → ℕ → Option Caller → Step
called_as everyone now bytes f at (Some own) = called_by (caller_for everyone own) now bytes f at
called_as everyone now bytes f at None = Answer (bad_credential f.xid)

-- a record that is no call of RPC version 2 asks for none
abbrev pub begun_with : Option Cred → Time → List ℕ → Option (Front × ℕ) → Step
begun_with everyone now bytes (Some x) =
    called_as everyone now bytes x.0 x.1 (speaks_as x.0.credential)
begun_with everyone now bytes None = nfs_called nobody now (meaning_of bytes)

-- THE FIRST STEP for a record
abbrev pub begun : Option Cred → Time → List ℕ → Step
begun everyone now bytes = begun_with everyone now bytes (front_of bytes)

-- ---- the next steps

abbrev pub after_then : Errand → Then → Reply → Step
after_then e (Replies xid claim) r = replied e.cred xid claim e.call r
after_then e (Looks denied) r = looked e.cred denied r
after_then e (Mounts xid names) r = mounts_on e.cred xid names r

-- THE STEP AFTER a call with this reply
abbrev pub after : Errand → Reply → Step
after e r = after_then e e.then r

-- ---- all steps

-- A STEP LEADS TO AN ANSWER, which is written, by these exchanges, one after the other
abbrev pub LeadsTo : Step → List Exchange → List ℕ → Type 0
LeadsTo Silent made written = (made ≡ []) × (written ≡ [])
LeadsTo (Answer bytes) made written = (made ≡ []) × (written ≡ sent bytes)
LeadsTo (step.Call e) [] written = ⊥
LeadsTo (step.Call e) (x ∷ xs) written =
    (x.cred ≡ e.cred) × (x.call ≡ e.call) × (is_reply_to x.call x.reply ≡ true)
    × LeadsTo (after e x.reply) xs written
