-- The procedures of calls, their numbers and their names.
use Rattle.std.specs.Prelude.{ℕ, List, [], ◌∷◌, find, codes, Option}
use Rattle.std.specs.Str.{bytes_eq}
use Rattle.harp_types.specs.declared.call.Call.{Call}
use Rattle.harp_types.specs.declared.call.Call.TheVariants as call
use Rattle.harp_types.specs.declared.procedure.Procedure.{Procedure}
use Rattle.harp_types.specs.declared.procedure.Procedure.TheVariants as procedure

abbrev pub procedure_of : Call → Procedure
procedure_of call.Null = procedure.Null
procedure_of (call.GetAttr handle) = procedure.GetAttr
procedure_of (call.SetAttr handle attr) = procedure.SetAttr
procedure_of (call.Lookup dir name) = procedure.Lookup
procedure_of (call.ReadLink handle) = procedure.ReadLink
procedure_of (call.Read handle offset count) = procedure.Read
procedure_of (call.Write handle offset bytes) = procedure.Write
procedure_of (call.Create dir name attr) = procedure.Create
procedure_of (call.Remove dir name) = procedure.Remove
procedure_of (call.Rename dir name to_dir to_name) = procedure.Rename
procedure_of (call.Link handle dir name) = procedure.Link
procedure_of (call.SymLink dir name text attr) = procedure.SymLink
procedure_of (call.MkDir dir name attr) = procedure.MkDir
procedure_of (call.RmDir dir name) = procedure.RmDir
procedure_of (call.ReadDir dir cookie count) = procedure.ReadDir
procedure_of (call.StatFs handle) = procedure.StatFs

-- the procedure numbers of NFS version 2
abbrev pub procedure_number : Procedure → ℕ
procedure_number procedure.Null = 0
procedure_number procedure.GetAttr = 1
procedure_number procedure.SetAttr = 2
procedure_number procedure.Lookup = 4
procedure_number procedure.ReadLink = 5
procedure_number procedure.Read = 6
procedure_number procedure.Write = 8
procedure_number procedure.Create = 9
procedure_number procedure.Remove = 10
procedure_number procedure.Rename = 11
procedure_number procedure.Link = 12
procedure_number procedure.SymLink = 13
procedure_number procedure.MkDir = 14
procedure_number procedure.RmDir = 15
procedure_number procedure.ReadDir = 16
procedure_number procedure.StatFs = 17

abbrev pub procedures : List Procedure
procedures =
    procedure.Null ∷ procedure.GetAttr ∷ procedure.SetAttr ∷ procedure.Lookup ∷ procedure.ReadLink
    ∷ procedure.Read
    ∷ procedure.Write ∷ procedure.Create ∷ procedure.Remove ∷ procedure.Rename ∷ procedure.Link
    ∷ procedure.SymLink
    ∷ procedure.MkDir ∷ procedure.RmDir ∷ procedure.ReadDir ∷ procedure.StatFs ∷ []

-- a procedure's name in small letters
abbrev pub procedure_name : Procedure → List ℕ
procedure_name procedure.Null = codes "null"
procedure_name procedure.GetAttr = codes "getattr"
procedure_name procedure.SetAttr = codes "setattr"
procedure_name procedure.Lookup = codes "lookup"
procedure_name procedure.ReadLink = codes "readlink"
procedure_name procedure.Read = codes "read"
procedure_name procedure.Write = codes "write"
procedure_name procedure.Create = codes "create"
procedure_name procedure.Remove = codes "remove"
procedure_name procedure.Rename = codes "rename"
procedure_name procedure.Link = codes "link"
procedure_name procedure.SymLink = codes "symlink"
procedure_name procedure.MkDir = codes "mkdir"
procedure_name procedure.RmDir = codes "rmdir"
procedure_name procedure.ReadDir = codes "readdir"
procedure_name procedure.StatFs = codes "statfs"

-- the procedure of a name
abbrev pub procedure_named : List ℕ → Option Procedure
procedure_named word = find (λ p. bytes_eq word (procedure_name p)) procedures
