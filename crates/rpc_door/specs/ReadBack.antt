-- HOW A CLIENT READS THE RESULTS of calls, in the order in which RFC 1094 has them (section 2.2).
use Rattle.std.specs.Prelude.{ℕ, zero, suc, ◌+◌, ◌-◌, ◌==◌, ◌<◌, List, [], ◌∷◌, length, slice_index, Option, Some, None, Ok, Err, if◌then◌else◌}
use Rattle.harp_types.specs.declared.attr.Attr.{Attr}
use Rattle.harp_types.specs.declared.attr.Kind.{Kind}
use Rattle.harp_types.specs.declared.attr.Time.{Time}
use Rattle.harp_base.specs.declared.field.Misread.TheVariants.{Ends, BadTag}
use Rattle.harp_types.specs.declared.procedure.Procedure.{Procedure}
use Rattle.harp_types.specs.declared.procedure.Procedure.TheVariants as procedure
use Rattle.harp_types.specs.declared.reply.DirEntry.{DirEntry}
use Rattle.harp_types.specs.declared.reply.Reply.{Reply}
use Rattle.harp_types.specs.declared.reply.Reply.TheVariants as reply
use Rattle.harp_base.specs.Attributes.{time_at}
use Rattle.harp_types.specs.Kinds.{kind_number, kinds}
use Rattle.harp_base.specs.Fields.{Read, Reader, ◌>>=◌, ◌⊗◌, field_as, many_at, u32_at, value_or_bad_tag}
use Rattle.harp_types.specs.Numbered.{value_with_number}
use Rattle.harp_types.specs.Limits.{longest_name, longest_path, longest_transfer}
use Rattle.harp_base.specs.Replies.{flag_number, flags}
use Rattle.harp_types.specs.Statuses.{status_number}
use Rattle.harp_types.specs.Statuses.{statuses}
use Rattle.rpc_door.specs.Results.{form_for, type_bits}
use Rattle.rpc_door.specs.Xdr.{handle_at, opaque_at}

-- a word that is the number of one of these values
abbrev pub number_of_at : {A : Type 0} → (A → ℕ) → List A → Reader A
number_of_at number all bytes at = do
  n ← u32_at bytes at
  value_or_bad_tag at (value_with_number number all n.0) n.1

-- ---- attributes

-- their first five words, the other six, and three times
abbrev pub Parts : Type 0
Parts = (((List ℕ × List ℕ) × Time) × Time) × Time

abbrev pub parts_at : Reader Parts
parts_at = many_at u32_at 5 ⊗ many_at u32_at 6 ⊗ time_at ⊗ time_at ⊗ time_at

abbrev pub attr_of : Kind → Parts → Attr
attr_of kind x = record {
  kind = kind;
  mode = slice_index x.0.0.0.0 1 - type_bits kind;
  links = slice_index x.0.0.0.0 2;
  uid = slice_index x.0.0.0.0 3;
  gid = slice_index x.0.0.0.0 4;
  size = slice_index x.0.0.0.1 0;
  blocks = slice_index x.0.0.0.1 3;
  fileid = slice_index x.0.0.0.1 5;
  atime = x.0.0.1;
  mtime = x.0.1;
  ctime = x.1;
}

abbrev pub attr_with : ℕ → Option Kind → Parts × ℕ → Read Attr
attr_with at None x = Err (BadTag at)
attr_with at (Some kind) x = Ok (attr_of kind x.0, x.1)

unfoldable pub fattr_at : Reader Attr
fattr_at bytes at = do
  x ← parts_at bytes at
  attr_with at (value_with_number kind_number kinds (slice_index x.0.0.0.0.0 0)) x

-- ---- pages

unfoldable pub entry_at : Reader DirEntry
entry_at =
    field_as (λ x. record { fileid = x.0.0; name = x.0.1; cookie = x.1 })
    (u32_at ⊗ opaque_at longest_name ⊗ u32_at)

-- entries, each behind a word that isn't 0, and fewer than so many; then the word 0
unfoldable pub entries_at : ℕ → Reader (List DirEntry)
entries_at zero bytes at = Err (Ends at at)
entries_at (suc n) bytes at = do
  more ← u32_at bytes at
  if more.0 == 0 then Ok ([], more.1) else (entry_at bytes more.1 >>= λ e.
      entries_at n bytes e.1 >>= λ rest. Ok (e.0 ∷ rest.0, rest.1))

-- an entry has bytes
abbrev pub page_at : Reader Reply
page_at bytes at =
    field_as (λ x. reply.Page x.0 x.1)
    (entries_at (length bytes + 1) ⊗ number_of_at flag_number flags) bytes at

-- ---- results

-- what is given where a call is done
abbrev pub done_at : ℕ → Reader Reply
done_at form bytes at =
    if form == 1 then Ok (reply.Done, at)
    else (if form == 2 then field_as reply.Attr fattr_at bytes at
    else (if form == 3 then field_as (λ x. reply.Node x.0 x.1) (handle_at ⊗ fattr_at) bytes at
    else (if form == 4 then field_as reply.Path (opaque_at longest_path) bytes at
    else (if form == 5 then
    field_as (λ x. reply.Bytes x.0 x.1) (fattr_at ⊗ opaque_at longest_transfer) bytes at
    else (if form == 6 then page_at bytes at
    else field_as (λ x. reply.Space (slice_index x 0) (slice_index x 1) (slice_index x 2)
    (slice_index x 3) (slice_index x 4)) (many_at u32_at 5) bytes at)))))

-- the status first
abbrev pub status_then : Reader Reply → Reader Reply
status_then done bytes at = do
  n ← u32_at bytes at
  if n.0 == 0 then done bytes n.1
      else field_as reply.Refused (number_of_at status_number statuses) bytes at

-- THE RESULT of a call of this procedure
abbrev pub result_at : Procedure → Reader Reply
result_at procedure.Null bytes at = Ok (reply.Done, at)
result_at p bytes at = status_then (done_at (form_for p)) bytes at

-- modes of 12 bits, as all have in a file service
abbrev pub ModesFit : Reply → Type 0
ModesFit (reply.Attr attr) = attr.mode < 4096
ModesFit (reply.Node handle attr) = attr.mode < 4096
ModesFit (reply.Bytes attr bytes) = attr.mode < 4096
ModesFit r = Unit {0}
