-- The one spelling of each call and reply, and of what steps tell beside them.
use Rattle.std.specs.Prelude.{ℕ, ◌==◌, Bool, ◌&&◌, ◌||◌, not, true, false, List, [], ◌∷◌, ◌++◌, codes, decimal, Option, Some, None, if◌then◌else◌}
use Rattle.std.specs.List.{flat_map}
use Rattle.std.specs.Fmt.{digits}
use Rattle.hex.specs.Hex.{encode_lower}
use Rattle.harp_types.specs.Procedures.{procedure_of, procedure_name}
use Rattle.harp_types.specs.Server.{number_of}
use Rattle.harp_types.specs.declared.server.ServerId.{ServerId}
use Rattle.harp_types.specs.declared.attr.Time.{Time}
use Rattle.harp_types.specs.declared.attr.SetAttr.{SetAttr}
use Rattle.harp_types.specs.declared.attr.Attr.{Attr}
use Rattle.harp_types.specs.declared.attr.Kind.{Kind}
use Rattle.harp_types.specs.declared.attr.Kind.TheVariants as kind
use Rattle.harp_types.specs.declared.call.Call.{Call}
use Rattle.harp_types.specs.declared.call.Call.TheVariants as call
use Rattle.harp_types.specs.declared.cred.Cred.{Cred}
use Rattle.harp_types.specs.declared.reply.DirEntry.{DirEntry}
use Rattle.harp_types.specs.declared.reply.Status.{Status}
use Rattle.harp_types.specs.declared.reply.Status.TheVariants as status
use Rattle.harp_types.specs.declared.reply.Reply.{Reply}
use Rattle.harp_types.specs.declared.reply.Reply.TheVariants as reply

-- a word behind a space
abbrev pub spaced : List ℕ → List ℕ
spaced word = 32 ∷ word

-- a field behind a comma
abbrev pub comma : List ℕ → List ℕ
comma field = 44 ∷ field

-- two lower-case digits for each byte, or a dash for none
unfoldable pub hex_text : List ℕ → List ℕ
hex_text [] = codes "-"
hex_text (b ∷ bytes) = encode_lower (b ∷ bytes)

unfoldable pub octal : ℕ → List ℕ
octal n = digits 8 false n

unfoldable pub time_text : Time → List ℕ
time_text t = decimal t.seconds ++ 58 ∷ decimal t.micros

-- ---- the fields of SETATTR

-- the value that leaves a field, 2^32 - 1
abbrev pub left : ℕ
left = 4294967295

abbrev pub is_left_time : Time → Bool
is_left_time t = (t.seconds == left) && (t.micros == left)

unfoldable pub number_field : ℕ → List ℕ
number_field n = if n == left then codes "-" else decimal n

unfoldable pub mode_field : ℕ → List ℕ
mode_field n = if n == left then codes "-" else octal n

unfoldable pub time_field : Time → List ℕ
time_field t = if is_left_time t then codes "-" else time_text t

-- whether this field or a later one is given
abbrev pub mtime_on : SetAttr → Bool
mtime_on a = not (is_left_time a.mtime)

abbrev pub atime_on : SetAttr → Bool
atime_on a = not (is_left_time a.atime) || mtime_on a

abbrev pub size_on : SetAttr → Bool
size_on a = not (a.size == left) || atime_on a

abbrev pub gid_on : SetAttr → Bool
gid_on a = not (a.gid == left) || size_on a

abbrev pub uid_on : SetAttr → Bool
uid_on a = not (a.uid == left) || gid_on a

-- a field behind the first one
unfoldable pub later : Bool → List ℕ → List ℕ
later given field = if given then comma field else []

-- six fields, up to the last one that isn't left
unfoldable pub set_attr_text : SetAttr → List ℕ
set_attr_text a =
    mode_field a.mode ++ later (uid_on a) (number_field a.uid)
    ++ later (gid_on a) (number_field a.gid) ++ later (size_on a) (number_field a.size)
    ++ later (atime_on a) (time_field a.atime) ++ later (mtime_on a) (time_field a.mtime)

-- ---- calls

-- the fields of a call, in the order of its variant
abbrev pub fields_text : Call → List ℕ
fields_text call.Null = []
fields_text (call.GetAttr handle) = spaced (decimal handle)
fields_text (call.SetAttr handle attr) = spaced (decimal handle) ++ spaced (set_attr_text attr)
fields_text (call.Lookup dir name) = spaced (decimal dir) ++ spaced (hex_text name)
fields_text (call.ReadLink handle) = spaced (decimal handle)
fields_text (call.Read handle offset count) =
    spaced (decimal handle) ++ spaced (decimal offset) ++ spaced (decimal count)
fields_text (call.Write handle offset bytes) =
    spaced (decimal handle) ++ spaced (decimal offset) ++ spaced (hex_text bytes)
fields_text (call.Create dir name attr) =
    spaced (decimal dir) ++ spaced (hex_text name) ++ spaced (set_attr_text attr)
fields_text (call.Remove dir name) = spaced (decimal dir) ++ spaced (hex_text name)
fields_text (call.Rename dir name to_dir to_name) =
    spaced (decimal dir) ++ spaced (hex_text name) ++ spaced (decimal to_dir)
    ++ spaced (hex_text to_name)
fields_text (call.Link handle dir name) =
    spaced (decimal handle) ++ spaced (decimal dir) ++ spaced (hex_text name)
fields_text (call.SymLink dir name text attr) =
    spaced (decimal dir) ++ spaced (hex_text name) ++ spaced (hex_text text)
    ++ spaced (set_attr_text attr)
fields_text (call.MkDir dir name attr) =
    spaced (decimal dir) ++ spaced (hex_text name) ++ spaced (set_attr_text attr)
fields_text (call.RmDir dir name) = spaced (decimal dir) ++ spaced (hex_text name)
fields_text (call.ReadDir dir cookie count) =
    spaced (decimal dir) ++ spaced (decimal cookie) ++ spaced (decimal count)
fields_text (call.StatFs handle) = spaced (decimal handle)

-- the name of a call's procedure, and the fields
unfoldable pub call_text : Call → List ℕ
call_text c = procedure_name (procedure_of c) ++ fields_text c

-- ---- credentials

-- whether a call that tells no credential is made under this one: user 0 and group 0
abbrev pub is_implied : Cred → Bool
is_implied cred = (cred.uid == 0) && (cred.gid == 0)

-- the user and the group
abbrev pub told_text : Cred → List ℕ
told_text cred = codes " as" ++ spaced (decimal cred.uid) ++ spaced (decimal cred.gid)

-- what stands before the space and the call
unfoldable pub cred_text : Cred → List ℕ
cred_text cred = if is_implied cred then [] else told_text cred

-- ---- replies

abbrev pub kind_number : Kind → ℕ
kind_number kind.Regular = 1
kind_number kind.Directory = 2
kind_number kind.Link = 5

-- the numbers of RFC 1094, section 2.3.1
abbrev pub status_number : Status → ℕ
status_number status.Perm = 1
status_number status.NoEnt = 2
status_number status.Io = 5
status_number status.NxIo = 6
status_number status.Acces = 13
status_number status.Exist = 17
status_number status.NotDir = 20
status_number status.IsDir = 21
status_number status.FBig = 27
status_number status.NoSpc = 28
status_number status.NameTooLong = 63
status_number status.NotEmpty = 66
status_number status.Stale = 70

-- kind, mode, links and owners
unfoldable pub attr_owner : Attr → List ℕ
attr_owner a =
    decimal (kind_number a.kind) ++ comma (octal a.mode) ++ comma (decimal a.links)
    ++ comma (decimal a.uid) ++ comma (decimal a.gid)

unfoldable pub attr_extent : Attr → List ℕ
attr_extent a = comma (decimal a.size) ++ comma (decimal a.blocks) ++ comma (decimal a.fileid)

unfoldable pub attr_times : Attr → List ℕ
attr_times a = comma (time_text a.atime) ++ comma (time_text a.mtime) ++ comma (time_text a.ctime)

unfoldable pub attr_text : Attr → List ℕ
attr_text a = attr_owner a ++ attr_extent a ++ attr_times a

-- an entry of a directory
unfoldable pub entry_text : DirEntry → List ℕ
entry_text e = decimal e.fileid ++ 58 ∷ hex_text e.name ++ 58 ∷ decimal e.cookie

abbrev pub page_end : Bool → List ℕ
page_end true = codes "eof"
page_end false = codes "more"

unfoldable pub reply_text : Reply → List ℕ
reply_text (reply.Refused status) = codes "no" ++ spaced (decimal (status_number status))
reply_text reply.Done = codes "done"
reply_text (reply.Attr attr) = codes "attr" ++ spaced (attr_text attr)
reply_text (reply.Node handle attr) =
    codes "node" ++ spaced (decimal handle) ++ spaced (attr_text attr)
reply_text (reply.Path text) = codes "path" ++ spaced (hex_text text)
reply_text (reply.Bytes attr bytes) =
    codes "data" ++ spaced (attr_text attr) ++ spaced (hex_text bytes)
reply_text (reply.Page entries eof) =
    codes "dir" ++ flat_map (λ e. spaced (entry_text e)) entries ++ spaced (page_end eof)
reply_text (reply.Space transfer block blocks free available) =
    codes "fs" ++ spaced (decimal transfer) ++ spaced (decimal block) ++ spaced (decimal blocks)
    ++ spaced (decimal free) ++ spaced (decimal available)

-- ---- parts of steps

-- `ask`, the server, the client and its number
unfoldable pub ask_head : ServerId → ℕ → ℕ → List ℕ
ask_head server client number =
    codes "ask" ++ spaced (decimal (number_of server)) ++ spaced (decimal client)
    ++ spaced (decimal number)

-- two servers as two digits
abbrev pub pair_text : ServerId × ServerId → List ℕ
pair_text pair = decimal (number_of pair.0) ++ decimal (number_of pair.1)

-- the servers between which packets are delivered, where they are told
unfoldable pub among_text : Option (ServerId × ServerId) → List ℕ
among_text None = []
among_text (Some pair) = spaced (pair_text pair)
