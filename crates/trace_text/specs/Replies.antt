-- Reading replies and the causes of refusals from left to right, with the place where none goes on.
use Rattle.std.specs.Prelude.{ℕ, zero, suc, ◌+◌, ◌==◌, Bool, true, false, List, [], ◌∷◌, codes, slice_index, Option, Some, None, Ok, if◌then◌else◌}
use Rattle.harp_types.specs.Statuses.{statuses}
use Rattle.harp_types.specs.declared.server.ServerId.{ServerId}
use Rattle.harp_types.specs.declared.reply.Status.{Status}
use Rattle.harp_types.specs.declared.reply.Status.TheVariants as status
use Rattle.harp_types.specs.declared.reply.DirEntry.{DirEntry}
use Rattle.harp_types.specs.declared.reply.Reply.{Reply}
use Rattle.harp_types.specs.declared.reply.Reply.TheVariants as reply
use Rattle.harp_types.specs.declared.cause.Cause.{Cause}
use Rattle.harp_types.specs.declared.cause.Cause.TheVariants as cause
use Rattle.text_spelling.specs.Text.{page_end}
use Rattle.schedule_text.specs.Fields.{Reader, ◌>>=◌, spaced_at, u32_at, server_at, hex_at}
use Rattle.schedule_text.specs.Reading.{made_at, is_digit_at, spaced_u32_at}
use Rattle.trace_text.specs.declared.reply_form.ReplyForm.{ReplyForm}
use Rattle.trace_text.specs.declared.reply_form.ReplyForm.TheVariants as form
use Rattle.trace_text.specs.declared.cause_form.CauseForm.{CauseForm}
use Rattle.trace_text.specs.declared.cause_form.CauseForm.TheVariants as causes
use Rattle.trace_text.specs.Fields.{◌⊗◌, mark_at, colon_at, name_at, by_name_at, spaced_attr_at}

-- ---- statuses

-- the number of a status, in digits
abbrev pub status_word : Status → List ℕ
status_word status.Perm = codes "1"
status_word status.NoEnt = codes "2"
status_word status.Io = codes "5"
status_word status.NxIo = codes "6"
status_word status.Acces = codes "13"
status_word status.Exist = codes "17"
status_word status.NotDir = codes "20"
status_word status.IsDir = codes "21"
status_word status.FBig = codes "27"
status_word status.NoSpc = codes "28"
status_word status.NameTooLong = codes "63"
status_word status.NotEmpty = codes "66"
status_word status.Stale = codes "70"

abbrev pub status_at : Reader Status
status_at = name_at status_word statuses

-- ---- pages

abbrev pub entry_of : (ℕ × List ℕ) × ℕ → DirEntry
entry_of x = record { fileid = x.0.0; name = x.0.1; cookie = x.1 }

-- an object's number, its name and its cookie
unfoldable pub entry_at : Reader DirEntry
entry_at = made_at (u32_at ⊗ colon_at (hex_at 255) ⊗ colon_at u32_at) entry_of

-- words that begin with a digit, at most so many
unfoldable pub entries_at : ℕ → Reader (List DirEntry)
entries_at zero line at = Ok ([], at)
entries_at (suc room) line at =
    elim (is_digit_at line (at + 1)) [
      | false ↦ Ok ([], at)
      | true ↦ do
        entry ← spaced_at entry_at line at
        rest ← entries_at room line entry.1
        Ok (entry.0 ∷ rest.0, rest.1)
    ]

abbrev pub page_ends : List Bool
page_ends = true ∷ false ∷ []

abbrev pub page_end_at : Reader Bool
page_end_at = name_at page_end page_ends

-- ---- replies

abbrev pub reply_name : ReplyForm → List ℕ
reply_name form.Refused = codes "no"
reply_name form.Done = codes "done"
reply_name form.Attr = codes "attr"
reply_name form.Node = codes "node"
reply_name form.Path = codes "path"
reply_name form.Bytes = codes "data"
reply_name form.Page = codes "dir"
reply_name form.Space = codes "fs"

abbrev pub reply_forms : List ReplyForm
reply_forms =
    form.Refused ∷ form.Done ∷ form.Attr ∷ form.Node ∷ form.Path ∷ form.Bytes ∷ form.Page
    ∷ form.Space ∷ []

-- the fields of a reply of a form
unfoldable pub reply_fields_at : ReplyForm → Reader Reply
reply_fields_at form.Refused line at = made_at (spaced_at status_at) reply.Refused line at
reply_fields_at form.Done line at = Ok (reply.Done, at)
reply_fields_at form.Attr line at = made_at spaced_attr_at reply.Attr line at
reply_fields_at form.Node line at =
    made_at (spaced_u32_at ⊗ spaced_attr_at) (λ x. reply.Node x.0 x.1) line at
reply_fields_at form.Path line at = made_at (spaced_at (hex_at 1024)) reply.Path line at
reply_fields_at form.Bytes line at =
    made_at (spaced_attr_at ⊗ spaced_at (hex_at 8192)) (λ x. reply.Bytes x.0 x.1) line at
reply_fields_at form.Page line at =
    made_at (entries_at 65535 ⊗ spaced_at page_end_at) (λ x. reply.Page x.0 x.1) line at
reply_fields_at form.Space line at =
    made_at (spaced_u32_at ⊗ spaced_u32_at ⊗ spaced_u32_at ⊗ spaced_u32_at ⊗ spaced_u32_at)
    (λ x. reply.Space x.0.0.0.0 x.0.0.0.1 x.0.0.1 x.0.1 x.1) line at

unfoldable pub reply_at : Reader Reply
reply_at = by_name_at (name_at reply_name reply_forms) reply_fields_at

-- ---- causes

-- a dash for none, or the server that leads
unfoldable pub hint_at : Reader (Option ServerId)
hint_at line at =
    if slice_index line at == 45 then made_at (mark_at 45) (λ u. None) line at
    else made_at server_at Some line at

abbrev pub cause_name : CauseForm → List ℕ
cause_name causes.BadClient = codes "bad-client"
cause_name causes.NotLeader = codes "not-leader"
cause_name causes.NotYetOpen = codes "not-yet-open"
cause_name causes.NoPromise = codes "no-promise"
cause_name causes.LogFull = codes "log-full"
cause_name causes.Old = codes "old"

abbrev pub cause_forms : List CauseForm
cause_forms =
    causes.BadClient ∷ causes.NotLeader ∷ causes.NotYetOpen ∷ causes.NoPromise ∷ causes.LogFull
    ∷ causes.Old ∷ []

unfoldable pub cause_fields_at : CauseForm → Reader Cause
cause_fields_at causes.BadClient line at = Ok (cause.BadClient, at)
cause_fields_at causes.NotLeader line at = made_at (spaced_at hint_at) cause.NotLeader line at
cause_fields_at causes.NotYetOpen line at = Ok (cause.NotYetOpen, at)
cause_fields_at causes.NoPromise line at = Ok (cause.NoPromise, at)
cause_fields_at causes.LogFull line at = Ok (cause.LogFull, at)
cause_fields_at causes.Old line at = Ok (cause.Old, at)

unfoldable pub cause_at : Reader Cause
cause_at = by_name_at (name_at cause_name cause_forms) cause_fields_at
