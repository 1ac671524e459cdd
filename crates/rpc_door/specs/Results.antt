-- THE ANSWER to a call: its reply in the words of RFC 1094 (sections 2.2 and 2.3).
use Rattle.std.specs.Prelude.{ℕ, ◌+◌, ◌%◌, ◌==◌, Bool, true, false, List, [], ◌∷◌, ◌++◌}
use Rattle.std.specs.List.{flat_map}
use Rattle.harp_types.specs.declared.attr.Attr.{Attr}
use Rattle.harp_types.specs.declared.attr.Kind.{Kind}
use Rattle.harp_types.specs.declared.attr.Kind.TheVariants.{Regular, Directory, Link}
use Rattle.harp_types.specs.declared.call.Call.{Call}
use Rattle.harp_types.specs.declared.procedure.Procedure.{Procedure}
use Rattle.harp_types.specs.declared.procedure.Procedure.TheVariants as procedure
use Rattle.harp_types.specs.declared.reply.DirEntry.{DirEntry}
use Rattle.harp_types.specs.declared.reply.Reply.{Reply}
use Rattle.harp_types.specs.declared.reply.Reply.TheVariants as reply
use Rattle.harp_base.specs.Attributes.{time_bytes}
use Rattle.harp_types.specs.Kinds.{kind_number}
use Rattle.harp_types.specs.Procedures.{procedure_of}
use Rattle.harp_base.specs.Fields.{u32_bytes}
use Rattle.harp_base.specs.Replies.{flag_number}
use Rattle.harp_types.specs.Statuses.{status_number}
use Rattle.rpc_door.specs.Meaning.{accepted}
use Rattle.rpc_door.specs.Xdr.{handle_bytes, opaque_bytes, words}

-- ---- which replies are for which calls

-- a NULL is never refused
abbrev pub can_be_refused : Procedure → Bool
can_be_refused procedure.Null = false
can_be_refused procedure.GetAttr = true
can_be_refused procedure.SetAttr = true
can_be_refused procedure.Lookup = true
can_be_refused procedure.ReadLink = true
can_be_refused procedure.Read = true
can_be_refused procedure.Write = true
can_be_refused procedure.Create = true
can_be_refused procedure.Remove = true
can_be_refused procedure.Rename = true
can_be_refused procedure.Link = true
can_be_refused procedure.SymLink = true
can_be_refused procedure.MkDir = true
can_be_refused procedure.RmDir = true
can_be_refused procedure.ReadDir = true
can_be_refused procedure.StatFs = true

-- the number of the form of the reply that a call gets where it isn't refused
abbrev pub form_for : Procedure → ℕ
form_for procedure.Null = 1
form_for procedure.GetAttr = 2
form_for procedure.SetAttr = 2
form_for procedure.Lookup = 3
form_for procedure.ReadLink = 4
form_for procedure.Read = 5
form_for procedure.Write = 2
form_for procedure.Create = 3
form_for procedure.Remove = 1
form_for procedure.Rename = 1
form_for procedure.Link = 1
form_for procedure.SymLink = 1
form_for procedure.MkDir = 3
form_for procedure.RmDir = 1
form_for procedure.ReadDir = 6
form_for procedure.StatFs = 7

-- a call can get a reply of this form
abbrev pub is_reply_to : Call → Reply → Bool
is_reply_to c (reply.Refused status) = can_be_refused (procedure_of c)
is_reply_to c reply.Done = form_for (procedure_of c) == 1
is_reply_to c (reply.Attr attr) = form_for (procedure_of c) == 2
is_reply_to c (reply.Node handle attr) = form_for (procedure_of c) == 3
is_reply_to c (reply.Path text) = form_for (procedure_of c) == 4
is_reply_to c (reply.Bytes attr bytes) = form_for (procedure_of c) == 5
is_reply_to c (reply.Page entries eof) = form_for (procedure_of c) == 6
is_reply_to c (reply.Space transfer block blocks free available) =
    form_for (procedure_of c) == 7

-- ---- attributes (`fattr`, section 2.3.5)

-- the bits of a mode that tell the kind: octal 100000, 40000 and 120000
abbrev pub type_bits : Kind → ℕ
type_bits Regular = 32768
type_bits Directory = 16384
type_bits Link = 40960

-- blocks have 4096 bytes, there is one file system, and no file is a device
unfoldable pub fattr_bytes : Attr → List ℕ
fattr_bytes a =
    words (kind_number a.kind ∷ (type_bits a.kind + a.mode % 4096) ∷ a.links ∷ a.uid ∷ a.gid ∷ [])
    ++ words (a.size ∷ 4096 ∷ 0 ∷ a.blocks ∷ 1 ∷ a.fileid ∷ [])
    ++ time_bytes a.atime ++ time_bytes a.mtime ++ time_bytes a.ctime

-- ---- results

-- an entry of a page, behind a word that says that one follows (section 2.2.17)
unfoldable pub entry_bytes : DirEntry → List ℕ
entry_bytes e = words (1 ∷ e.fileid ∷ []) ++ opaque_bytes e.name ++ u32_bytes e.cookie

-- the status, and what the call gives where it is done
abbrev pub result_of : Reply → List ℕ
result_of (reply.Refused status) = u32_bytes (status_number status)
result_of reply.Done = u32_bytes 0
result_of (reply.Attr attr) = u32_bytes 0 ++ fattr_bytes attr
result_of (reply.Node handle attr) = u32_bytes 0 ++ handle_bytes handle ++ fattr_bytes attr
result_of (reply.Path text) = u32_bytes 0 ++ opaque_bytes text
result_of (reply.Bytes attr bytes) = u32_bytes 0 ++ fattr_bytes attr ++ opaque_bytes bytes
result_of (reply.Page entries eof) =
    u32_bytes 0 ++ flat_map entry_bytes entries ++ words (0 ∷ flag_number eof ∷ [])
result_of (reply.Space transfer block blocks free available) =
    u32_bytes 0 ++ words (transfer ∷ block ∷ blocks ∷ free ∷ available ∷ [])

-- a NULL gives nothing, not even a status
abbrev pub result_to : Procedure → Reply → List ℕ
result_to procedure.Null r = []
result_to procedure.GetAttr r = result_of r
result_to procedure.SetAttr r = result_of r
result_to procedure.Lookup r = result_of r
result_to procedure.ReadLink r = result_of r
result_to procedure.Read r = result_of r
result_to procedure.Write r = result_of r
result_to procedure.Create r = result_of r
result_to procedure.Remove r = result_of r
result_to procedure.Rename r = result_of r
result_to procedure.Link r = result_of r
result_to procedure.SymLink r = result_of r
result_to procedure.MkDir r = result_of r
result_to procedure.RmDir r = result_of r
result_to procedure.ReadDir r = result_of r
result_to procedure.StatFs r = result_of r

-- the answer with this xid: accepted, with success and the result
unfoldable pub answer_bytes : ℕ → Call → Reply → List ℕ
answer_bytes xid c r = accepted xid (0 ∷ []) ++ result_to (procedure_of c) r
