-- Reading a line of a trace from left to right, with the place where no line goes on.
use Rattle.std.specs.Prelude.{ℕ, List, [], ◌∷◌, codes, Option, Some, None, Result, Ok, if◌then◌else◌}
use Rattle.std.specs.Str.{bytes_eq}
use Rattle.harp_types.specs.View.{View}
use Rattle.harp_types.specs.declared.server.ServerId.{ServerId}
use Rattle.harp_types.specs.declared.call.Call.{Call}
use Rattle.harp_types.specs.declared.cred.Cred.{Cred}
use Rattle.harp_types.specs.declared.reply.Reply.{Reply}
use Rattle.harp_types.specs.declared.state.Mode.{Mode}
use Rattle.harp_types.specs.declared.state.Mode.TheVariants as mode
use Rattle.harp_types.specs.declared.state.Role.{Role}
use Rattle.harp_types.specs.declared.state.Role.TheVariants as role
use Rattle.harp_types.specs.declared.state.Held.{Held}
use Rattle.harp_types.specs.declared.state.StateLine.{StateLine}
use Rattle.trace_types.specs.declared.step.Step.{Step}
use Rattle.harp_types.specs.declared.book.BookEntry.{BookEntry}
use Rattle.trace_types.specs.declared.line.LineFault.{LineFault}
use Rattle.trace_types.specs.declared.line.LineFault.TheVariants as fault
use Rattle.trace_types.specs.declared.line.Line.{Line}
use Rattle.trace_types.specs.declared.line.Line.TheVariants as lines
use Rattle.text_spelling.specs.Lines.{mode_text}
use Rattle.text_spelling.specs.TraceLines.{fault_text}
use Rattle.schedule_text.specs.declared.fault.TextFault.{TextFault}
use Rattle.schedule_text.specs.Fields.{Reader, ◌>>=◌, spaced_at, hex_at}
use Rattle.schedule_text.specs.Words.{named_at}
use Rattle.schedule_text.specs.Reading as steps
use Rattle.schedule_text.specs.Reading.{made_at, end_at, asker_at, asked_at, spaced_server_at, spaced_count_at, spaced_u32_at}
use Rattle.schedule_text.specs.declared.form.Form.{Form as StepForm}
use Rattle.trace_text.specs.declared.form.LineForm.{LineForm}
use Rattle.trace_text.specs.declared.form.LineForm.TheVariants as form
use Rattle.trace_text.specs.declared.state.RoleForm.{RoleForm}
use Rattle.trace_text.specs.declared.state.RoleForm.TheVariants as roles
use Rattle.trace_text.specs.Fields.{◌⊗◌, mark_at, name_at, by_name_at, spaced_view_at, held_at, some_hex_at, spaced_attr_at}
use Rattle.trace_text.specs.Replies.{reply_at, cause_at}
use Rattle.trace_text.specs.Messages.{three_at, message_at}

-- ---- steps

-- the names of the forms of steps, but for the pump: a trace has its deliveries
abbrev pub elementary_names : List (List ℕ)
elementary_names =
    codes "ask" ∷ codes "deliver" ∷ codes "tick" ∷ codes "suspect" ∷ codes "apply" ∷ codes "flush"
    ∷ codes "list" ∷ codes "boot" ∷ codes "power" ∷ codes "crash" ∷ codes "stop" ∷ codes "noise"
    ∷ codes "clock" ∷ codes "advance" ∷ codes "delta" ∷ []

abbrev pub elementary_named : List ℕ → Option StepForm
elementary_named word = if bytes_eq word (codes "pump") then None else steps.form_named word

unfoldable pub elementary_at : Reader Step
elementary_at = by_name_at (named_at elementary_names elementary_named) steps.form_at

-- ---- states

-- a mode, or none for a server that is down
abbrev pub mode_word : Option Mode → List ℕ
mode_word None = codes "down"
mode_word (Some m) = mode_text m

abbrev pub modes : List (Option Mode)
modes =
    None ∷ Some mode.Rests ∷ Some mode.Calls ∷ Some mode.Joined ∷ Some mode.Pulls
    ∷ Some mode.Waits ∷ Some mode.Open ∷ Some mode.Live ∷ []

abbrev pub mode_at : Reader (Option Mode)
mode_at = name_at mode_word modes

abbrev pub role_name : RoleForm → List ℕ
role_name roles.Leads = codes "leads"
role_name roles.Follows = codes "follows"
role_name roles.Outside = codes "outside"

abbrev pub role_forms : List RoleForm
role_forms = roles.Leads ∷ roles.Follows ∷ roles.Outside ∷ []

-- the other storer of the view, or a dash
unfoldable pub role_fields_at : RoleForm → Reader Role
role_fields_at roles.Leads line at = made_at spaced_server_at role.Leads line at
role_fields_at roles.Follows line at = made_at spaced_server_at role.Follows line at
role_fields_at roles.Outside line at =
    made_at (spaced_at (mark_at 45)) (λ u. role.Outside) line at

unfoldable pub role_at : Reader Role
role_at = by_name_at (name_at role_name role_forms) role_fields_at

-- the views, the role and what is held, and then the five numbers
abbrev pub Parts : Type 0
Parts = (((View × View) × Role) × Held) × ((((ℕ × ℕ) × ℕ) × ℕ) × ℕ)

unfoldable pub parts_at : Reader Parts
parts_at =
    spaced_view_at ⊗ spaced_view_at ⊗ spaced_at role_at ⊗ spaced_at held_at
    ⊗ (three_at ⊗ spaced_count_at ⊗ spaced_count_at)

abbrev pub state_of : Mode → Parts → StateLine
state_of m ((((promised, accepted), role), held), ((((base, lb), ap), cp), top)) = record {
  mode = m;
  promised = promised;
  accepted = accepted;
  role = role;
  held = held;
  base = base;
  lb = lb;
  ap = ap;
  cp = cp;
  top = top;
}

-- what a server's mode calls for
abbrev pub state_in : ServerId → Option Mode → Reader Line
state_in server None line at = Ok (lines.Down server, at)
state_in server (Some m) line at = made_at parts_at (λ x. lines.State server (state_of m x)) line at

unfoldable pub state_at : Reader Line
state_at line at = do
  shown ← (spaced_server_at ⊗ spaced_at mode_at) line at
  state_in shown.0.0 shown.0.1 line shown.1

-- ---- entries of the book

abbrev pub entry_of : ((((ℕ × ℕ) × ℕ) × ℕ) × (Cred × Call)) × (Unit {0} × Reply) → BookEntry
entry_of (((((index, client), number), stamp), (cred, call)), (sign, reply)) = record {
  index = index;
  client = client;
  number = number;
  cred = cred;
  stamp = stamp;
  call = call;
  reply = reply;
}

-- a reply behind a sign of its own
abbrev pub replied_at : Reader (Unit {0} × Reply)
replied_at = spaced_at (mark_at 61) ⊗ spaced_at reply_at

unfoldable pub entry_at : Reader BookEntry
entry_at =
    made_at (spaced_count_at ⊗ spaced_u32_at ⊗ spaced_count_at ⊗ spaced_count_at ⊗ asked_at
    ⊗ replied_at) entry_of

-- ---- faults

abbrev pub faults : List LineFault
faults =
    fault.Grammar ∷ fault.TooLong ∷ fault.TooMany ∷ fault.NoPacket ∷ fault.ServerDown
    ∷ fault.ServerUp ∷ fault.ClockBack ∷ fault.ClockApart ∷ fault.NoiseIsMessage ∷ fault.NetFull
    ∷ []

abbrev pub fault_at : Reader LineFault
fault_at = name_at fault_text faults

-- ---- lines

abbrev pub form_name : LineForm → List ℕ
form_name form.Event = codes ">"
form_name form.Entered = codes "entered"
form_name form.Answered = codes "answered"
form_name form.Refused = codes "refused"
form_name form.Sent = codes "send"
form_name form.State = codes "state"
form_name form.Listed = codes "listed"
form_name form.Unlisted = codes "unlisted"
form_name form.Object = codes "object"
form_name form.Slot = codes "slot"
form_name form.Block = codes "block"
form_name form.Text = codes "text"
form_name form.Bad = codes "bad"
form_name form.End = codes "end"

abbrev pub forms : List LineForm
forms =
    form.Event ∷ form.Entered ∷ form.Answered ∷ form.Refused ∷ form.Sent ∷ form.State
    ∷ form.Listed ∷ form.Unlisted ∷ form.Object ∷ form.Slot ∷ form.Block ∷ form.Text ∷ form.Bad
    ∷ form.End ∷ []

-- a line of a form, behind its name
unfoldable pub form_at : LineForm → Reader Line
form_at form.Event line at = made_at (spaced_at elementary_at) lines.Event line at
form_at form.Entered line at =
    made_at (spaced_count_at ⊗ entry_at) (λ x. lines.Entered x.0 x.1) line at
form_at form.Answered line at =
    made_at (asker_at ⊗ spaced_count_at ⊗ spaced_at reply_at)
    (λ x. lines.Answered x.0.0.0.0 x.0.0.0.1 x.0.0.1 x.0.1 x.1) line at
form_at form.Refused line at =
    made_at (asker_at ⊗ spaced_at cause_at) (λ x. lines.Refused x.0.0.0 x.0.0.1 x.0.1 x.1) line at
form_at form.Sent line at =
    made_at (spaced_count_at ⊗ spaced_server_at ⊗ spaced_server_at ⊗ spaced_at message_at)
    (λ x. lines.Sent x.0.0.0 x.0.0.1 x.0.1 x.1) line at
form_at form.State line at = state_at line at
form_at form.Listed line at =
    made_at (spaced_server_at ⊗ spaced_count_at ⊗ spaced_count_at)
    (λ x. lines.Listed x.0.0 x.0.1 x.1) line at
form_at form.Unlisted line at = made_at spaced_server_at lines.Unlisted line at
form_at form.Object line at = made_at spaced_attr_at lines.Object line at
form_at form.Slot line at =
    made_at (spaced_u32_at ⊗ spaced_u32_at ⊗ spaced_u32_at ⊗ spaced_at (some_hex_at 255))
    (λ x. lines.Slot x.0.0.0 x.0.0.1 x.0.1 x.1) line at
form_at form.Block line at =
    made_at (spaced_u32_at ⊗ spaced_u32_at ⊗ spaced_at (some_hex_at 4096))
    (λ x. lines.Block x.0.0 x.0.1 x.1) line at
form_at form.Text line at =
    made_at (spaced_u32_at ⊗ spaced_at (hex_at 1024)) (λ x. lines.Text x.0 x.1) line at
form_at form.Bad line at =
    made_at (spaced_count_at ⊗ spaced_at fault_at) (λ x. lines.Bad x.0 x.1) line at
form_at form.End line at = made_at spaced_count_at lines.End line at

-- what a line means: a line of a trace, or a fault
unfoldable pub meaning_of : List ℕ → Result Line TextFault
meaning_of line = do
  l ← by_name_at (name_at form_name forms) form_at line 0
  end_at l.0 line l.1
