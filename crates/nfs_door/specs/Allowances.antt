-- AS WHOM A CALL THAT IS REFUSED MAY BE MADE YET. The tree goes by the mode at each call, and by
-- one group. A server whose clients open their files for themselves allows more (RFC 1094, section
-- 3.3): a file's owner reads and writes it whatever its mode is, who may execute it reads it, and
-- all groups of a caller count.
use Rattle.std.specs.Prelude.{ℕ, ◌/◌, ◌%◌, ◌==◌, ◌&&◌, ◌||◌, not, Bool, true, false, List, length, is_some, Option, Some, None, if◌then◌else◌}
use Rattle.std.specs.List.{list_any}
use Rattle.harp_types.specs.Limits.{field_left}
use Rattle.harp_types.specs.declared.attr.Attr.{Attr}
use Rattle.harp_types.specs.declared.attr.SetAttr.{SetAttr}
use Rattle.harp_types.specs.declared.attr.Time.{Time}
use Rattle.harp_types.specs.declared.call.Call.{Call}
use Rattle.harp_types.specs.declared.call.Call.TheVariants as call
use Rattle.harp_types.specs.declared.cred.Cred.{Cred}
use Rattle.harp_types.specs.declared.cred.TheConstants.{SUPERUSER}
use Rattle.harp_types.specs.declared.reply.Reply.{Reply}
use Rattle.harp_types.specs.declared.reply.Reply.TheVariants as reply
use Rattle.harp_types.specs.declared.reply.Status.{Status}
use Rattle.harp_types.specs.declared.reply.Status.TheVariants as status
use Rattle.file_tree.specs.Permissions.{may, searching, writing}
use Rattle.rpc_door.specs.Results.{answer_bytes}
use Rattle.nfs_door.specs.declared.claim.Claim.{Claim}
use Rattle.nfs_door.specs.declared.claim.Denied.{Denied}
use Rattle.nfs_door.specs.declared.credential.Caller.{Caller}
use Rattle.nfs_door.specs.declared.step.Step.{Step}
use Rattle.nfs_door.specs.declared.step.Step.TheVariants as step
use Rattle.nfs_door.specs.declared.step.Then.TheVariants.{Replies, Looks}
use Rattle.nfs_door.specs.Changes.{left_time, reply_told}

-- ---- what a call may claim

abbrev pub is_left : ℕ → Bool
is_left field = field == field_left

abbrev pub is_left_or_now : Time → Bool
is_left_or_now t = is_left t.seconds || t.micros == 1000000

-- it sets no more than a write does: the size, and times to now
abbrev pub sets_as_write : SetAttr → Bool
sets_as_write a =
    (is_left a.mode && (is_left a.uid && is_left a.gid))
    && (is_left_or_now a.atime && is_left_or_now a.mtime)

-- the bit of a mode that is enough for a call on a file, beside those that the tree asks for
abbrev pub enough_for : Call → Option ℕ
enough_for (call.Read h offset count) = Some searching
enough_for (call.Write h offset bytes) = Some writing
enough_for (call.SetAttr h a) = if sets_as_write a then Some writing else None
enough_for c = None

-- the object whose mode counts for a call, which for a name is its directory
abbrev pub object_of : Call → Option ℕ
object_of (call.SetAttr h a) = Some h
object_of (call.Lookup dir name) = Some dir
object_of (call.Read h offset count) = Some h
object_of (call.Write h offset bytes) = Some h
object_of (call.Create dir name a) = Some dir
object_of (call.Remove dir name) = Some dir
object_of (call.Rename dir name to_dir to_name) = Some dir
object_of (call.Link h dir name) = Some dir
object_of (call.SymLink dir name text a) = Some dir
object_of (call.MkDir dir name a) = Some dir
object_of (call.RmDir dir name) = Some dir
object_of (call.ReadDir dir cookie count) = Some dir
object_of c = None

-- and the other one, where there are two
abbrev pub other_of : Call → Option ℕ
other_of (call.Rename dir name to_dir to_name) = Some to_dir
other_of c = None

-- what a caller may claim for a call: nothing where he is user 0, who may do all, or where nothing
-- could come of it
abbrev pub claim_of : Caller → Call → Option Claim
claim_of who c =
    if (who.cred.uid == 0) || ((length who.groups == 0) && not (is_some (enough_for c)))
    then None
    else Some (record {
      groups = who.groups;
      enough = enough_for c;
      object = object_of c;
      other = other_of c;
    })

-- ---- replies

abbrev pub answered : ℕ → Call → Reply → Step
answered xid c r = step.Answer (answer_bytes xid c (reply_told r))

-- a call is made, and its reply is the answer unless more may be claimed
abbrev pub made_as : Cred → ℕ → Option Claim → Call → Step
made_as who xid claim c =
    step.Call (record { cred = who; call = c; then = Replies xid claim })

-- the next object is looked at; where there is none, the refusal is the answer
abbrev pub next_looked_at : Cred → Denied → Option ℕ → Step
next_looked_at who d None = answered d.xid d.call (reply.Refused d.status)
next_looked_at who d (Some object) = step.Call (record {
  cred = who;
  call = call.GetAttr object;
  then = Looks (record d { claim = record d.claim { object = d.claim.other; other = None } });
})

abbrev pub looks_on : Cred → Denied → Step
looks_on who d = next_looked_at who d d.claim.object

-- it was refused for want of a permission
abbrev pub is_denial : Status → Bool
is_denial status.Perm = true
is_denial status.Acces = true
is_denial s = false

abbrev pub mode_alone : ℕ → SetAttr
mode_alone mode = record {
  mode = mode;
  uid = field_left;
  gid = field_left;
  size = field_left;
  atime = left_time;
  mtime = left_time;
}

-- a write by a user takes set-user-id and set-group-id from the mode (octal 6000)
abbrev pub wrote : ℕ → Call → Attr → Step
wrote xid (call.Write h offset bytes) a =
    if a.mode / 1024 % 4 == 0 then answered xid (call.Write h offset bytes) (reply.Attr a)
    else made_as SUPERUSER xid None (call.SetAttr h (mode_alone (a.mode % 1024)))
wrote xid c a = answered xid c (reply.Attr a)

-- THE STEP AFTER A USER'S CALL that may claim this
abbrev pub replied_to : Cred → ℕ → Claim → Call → Reply → Step
replied_to who xid claim c (reply.Refused s) =
    if is_denial s
    then looks_on who (record { xid = xid; claim = claim; call = c; status = s })
    else answered xid c (reply.Refused s)
replied_to who xid claim c (reply.Attr a) = wrote xid c a
replied_to who xid claim c r = answered xid c r

-- where nothing may be claimed, the reply is the answer
abbrev pub replied : Cred → ℕ → Option Claim → Call → Reply → Step
replied who xid None c r = answered xid c r
replied who xid (Some claim) c r = replied_to who xid claim c r

-- ---- attributes that were looked at

abbrev pub is_in : List ℕ → ℕ → Bool
is_in groups gid = list_any (λ g. g == gid) groups

-- a caller by another of his groups
abbrev pub member : Cred → ℕ → Cred
member who gid = record { uid = who.uid; gid = gid }

abbrev pub member_if_in : Cred → List ℕ → ℕ → Cred
member_if_in who groups gid = if is_in groups gid then member who gid else who

-- the group that counts for a call: the one that the object is to get, or the one that it has
abbrev pub group_for : Call → ℕ → ℕ
group_for (call.SetAttr h a) gid = if is_left a.gid then gid else a.gid
group_for c gid = gid

-- an object's owner is let in, and who has the bit that is enough
abbrev pub lets_in : Attr → Cred → Option ℕ → Bool
lets_in a who None = false
lets_in a who (Some bit) = (who.uid == a.uid) || may who a.mode a.uid a.gid bit

-- the call is made again: as user 0 for who is let in, or else by the group that counts, for who is
-- in it
abbrev pub made_again : Cred → Denied → Attr → ℕ → Step
made_again who d a gid =
    if lets_in a (member_if_in who d.claim.groups gid) d.claim.enough
    then made_as SUPERUSER d.xid (Some d.claim) d.call
    else (if is_in d.claim.groups gid
    then made_as (member who gid) d.xid (Some d.claim) d.call
    else looks_on who d)

-- THE STEP AFTER A LOOK at an object for which a call may have been refused
abbrev pub looked : Cred → Denied → Reply → Step
looked who d (reply.Attr a) = made_again who d a (group_for d.call a.gid)
looked who d r = looks_on who d
