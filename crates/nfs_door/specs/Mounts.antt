-- THE MOUNT PROTOCOL, version 1 (RFC 1094, appendix A), beside the door.
use Rattle.std.specs.Prelude.{ℕ, ◌==◌, List, [], ◌∷◌, ◌++◌, Option, Some, None, Ok, Err, if◌then◌else◌}
use Rattle.harp_types.specs.declared.attr.Kind.{Kind}
use Rattle.harp_types.specs.declared.attr.Kind.TheVariants as kind
use Rattle.harp_types.specs.declared.call.Call.TheVariants as call
use Rattle.harp_types.specs.declared.cred.Cred.{Cred}
use Rattle.harp_types.specs.declared.reply.Reply.{Reply}
use Rattle.harp_types.specs.declared.reply.Reply.TheVariants as reply
use Rattle.harp_types.specs.declared.reply.Status.{Status}
use Rattle.harp_types.specs.declared.reply.Status.TheVariants as status
use Rattle.harp_base.specs.Fields.{Read}
use Rattle.harp_types.specs.Limits.{longest_path}
use Rattle.harp_types.specs.Numbered.{value_with_number}
use Rattle.rpc_door.specs.Meaning.{accepted, no_arguments, no_procedure}
use Rattle.rpc_door.specs.Xdr.{handle_bytes, opaque_at}
use Rattle.nfs_door.specs.declared.front.Front.{Front}
use Rattle.nfs_door.specs.declared.mount.MountProcedure.{MountProcedure}
use Rattle.nfs_door.specs.declared.mount.MountProcedure.TheVariants as procedure
use Rattle.nfs_door.specs.declared.step.Step.{Step}
use Rattle.nfs_door.specs.declared.step.Step.TheVariants as step
use Rattle.nfs_door.specs.declared.step.Then.TheVariants.{Mounts}
use Rattle.nfs_door.specs.Paths.{is_absolute, names_in}

-- ---- answers

-- a reply that is accepted, with these words behind
abbrev pub answers : ℕ → List ℕ → Step
answers xid state = step.Answer (accepted xid state)

-- only version 1 is served
abbrev pub no_version : List ℕ
no_version = 2 ∷ 1 ∷ 1 ∷ []

-- the directory that was mounted (`fhstatus`)
abbrev pub handle_answer : ℕ → ℕ → List ℕ
handle_answer xid dir = accepted xid (0 ∷ 0 ∷ []) ++ handle_bytes dir

abbrev pub gives_handle : ℕ → ℕ → Step
gives_handle xid dir = step.Answer (handle_answer xid dir)

-- it isn't mounted, with this status
abbrev pub refuses : ℕ → ℕ → Step
refuses xid number = answers xid (0 ∷ number ∷ [])

-- no entry (`mountlist`)
abbrev pub no_mounts : List ℕ
no_mounts = 0 ∷ 0 ∷ []

-- one entry, the path `/` and no groups, and no other one (`exportlist`)
abbrev pub exports : List ℕ
exports = 0 ∷ 1 ∷ 1 ∷ 788529152 ∷ 0 ∷ 0 ∷ []

-- ---- the way to a directory

-- these names are looked up, one after the other, from a directory on
abbrev pub looks_up : Cred → ℕ → ℕ → List (List ℕ) → Step
looks_up who xid dir [] = gives_handle xid dir
looks_up who xid dir (name ∷ names) =
    step.Call (record { cred = who; call = call.Lookup dir name; then = Mounts xid names })

-- an object was found, and these names are left: the last one has to be a directory
abbrev pub reaches : Cred → ℕ → List (List ℕ) → ℕ → Kind → Step
reaches who xid [] object kind.Directory = gives_handle xid object
reaches who xid [] object kind.Regular = refuses xid 20
reaches who xid [] object kind.Link = refuses xid 20
reaches who xid (name ∷ names) object k = looks_up who xid object (name ∷ names)

-- no directory, no permission, or else no such entry
abbrev pub refusal : Status → ℕ
refusal status.NotDir = 20
refusal status.Acces = 13
refusal s = 2

-- a look-up was replied to
abbrev pub mounts_on : Cred → ℕ → List (List ℕ) → Reply → Step
mounts_on who xid names (reply.Node handle attr) = reaches who xid names handle attr.kind
mounts_on who xid names (reply.Refused s) = refuses xid (refusal s)
mounts_on who xid names r = refuses xid 2

-- a path is mounted: from the root on, object 1
abbrev pub mounts : Cred → ℕ → List ℕ → Step
mounts who xid path =
    if is_absolute path then looks_up who xid 1 (names_in path) else refuses xid 2

-- ---- calls

abbrev pub procedure_number : MountProcedure → ℕ
procedure_number procedure.Null = 0
procedure_number procedure.Mnt = 1
procedure_number procedure.Dump = 2
procedure_number procedure.Umnt = 3
procedure_number procedure.UmntAll = 4
procedure_number procedure.Export = 5

abbrev pub procedures : List MountProcedure
procedures =
    procedure.Null ∷ procedure.Mnt ∷ procedure.Dump ∷ procedure.Umnt ∷ procedure.UmntAll
    ∷ procedure.Export ∷ []

-- the path of MNT and UMNT (`dirpath`), where it can be read
abbrev pub path_read : Read (List ℕ) → Option (List ℕ)
path_read (Ok x) = Some x.0
path_read (Err e) = None

abbrev pub path_at : List ℕ → ℕ → Option (List ℕ)
path_at bytes at = path_read (opaque_at longest_path bytes at)

abbrev pub mounts_if_some : Cred → ℕ → Option (List ℕ) → Step
mounts_if_some who xid (Some path) = mounts who xid path
mounts_if_some who xid None = answers xid no_arguments

-- to unmount changes nothing
abbrev pub unmounts_if_some : ℕ → Option (List ℕ) → Step
unmounts_if_some xid (Some path) = answers xid (0 ∷ [])
unmounts_if_some xid None = answers xid no_arguments

abbrev pub procedure_called : Cred → ℕ → Option MountProcedure → List ℕ → ℕ → Step
procedure_called who xid None bytes at = answers xid no_procedure
procedure_called who xid (Some procedure.Null) bytes at = answers xid (0 ∷ [])
procedure_called who xid (Some procedure.Mnt) bytes at = mounts_if_some who xid (path_at bytes at)
procedure_called who xid (Some procedure.Dump) bytes at = answers xid no_mounts
procedure_called who xid (Some procedure.Umnt) bytes at = unmounts_if_some xid (path_at bytes at)
procedure_called who xid (Some procedure.UmntAll) bytes at = answers xid (0 ∷ [])
procedure_called who xid (Some procedure.Export) bytes at = answers xid exports

-- A CALL OF MOUNT by a caller
abbrev pub mount_called : Cred → Front → List ℕ → ℕ → Step
mount_called who f bytes at =
    if f.version == 1 then procedure_called who f.xid
    (value_with_number procedure_number procedures f.procedure) bytes at
    else answers f.xid no_version
