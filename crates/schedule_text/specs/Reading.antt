-- Reading a step of a schedule from left to right, with the place where no step goes on.
use Rattle.std.specs.Prelude.{ℕ, zero, suc, ◌+◌, ◌==◌, Bool, true, false, ◌||◌, ◌&&◌, nat_eq, nat_le, nat_lt, List, [], ◌∷◌, length, map, drop, slice_index, codes, Option, Some, None, Result, Ok, Err, if◌then◌else◌}
use Rattle.std.specs.List.{starts_with}
use Rattle.std.specs.Str.{bytes_eq}
use Rattle.harp_types.specs.Procedures.{procedure_name, procedure_named, procedures}
use Rattle.harp_types.specs.Server.{number_of}
use Rattle.harp_types.specs.declared.server.ServerId.{ServerId}
use Rattle.harp_types.specs.declared.attr.SetAttr.{SetAttr}
use Rattle.harp_types.specs.declared.call.Call.{Call}
use Rattle.harp_types.specs.declared.call.Call.TheVariants as call
use Rattle.harp_types.specs.declared.cred.Cred.{Cred}
use Rattle.harp_types.specs.declared.cred.TheConstants.{SUPERUSER}
use Rattle.harp_types.specs.declared.procedure.Procedure.{Procedure}
use Rattle.harp_types.specs.declared.procedure.Procedure.TheVariants as procedure
use Rattle.harp_types.specs.declared.pick.Pick.{Pick}
use Rattle.harp_types.specs.declared.pick.Pick.TheVariants as pick
use Rattle.trace_types.specs.declared.step.Step.{Step}
use Rattle.trace_types.specs.declared.step.Step.TheVariants as step
use Rattle.text_spelling.specs.Text.{is_implied}
use Rattle.schedule_text.specs.declared.fault.TextFault.{TextFault}
use Rattle.schedule_text.specs.declared.fault.TextFault.TheVariants.{Grammar}
use Rattle.schedule_text.specs.Fields.{Reader, ◌>>=◌, space_at, spaced_at, number_at, u32_at, count_at, server_at, hex_at, set_attr_at}
use Rattle.schedule_text.specs.Words.{named_at, ranged_at, all_hex_at}
use Rattle.schedule_text.specs.declared.form.Form.{Form}
use Rattle.schedule_text.specs.declared.form.Form.TheVariants as form

-- a field and one behind it
abbrev pub both_at : {A B : Type 0} → Reader A → Reader B → Reader (A × B)
both_at r s line at = do
  x ← r line at
  y ← s line x.1
  Ok ((x.0, y.0), y.1)

-- what is made of a field
abbrev pub made_at : {A B : Type 0} → Reader A → (A → B) → Reader B
made_at r made line at = do
  x ← r line at
  Ok (made x.0, x.1)

-- ---- calls

-- a handle, a directory, an offset, a cookie or a count
abbrev pub spaced_u32_at : Reader ℕ
spaced_u32_at = spaced_at u32_at

-- a name in a directory, or the text of a link
abbrev pub spaced_name_at : Reader (List ℕ)
spaced_name_at = spaced_at (hex_at 4096)

-- the bytes of a write
abbrev pub spaced_bytes_at : Reader (List ℕ)
spaced_bytes_at = spaced_at (hex_at 8192)

abbrev pub spaced_attr_at : Reader SetAttr
spaced_attr_at = spaced_at set_attr_at

-- two numbers
abbrev pub numbers_at : Reader (ℕ × ℕ)
numbers_at = both_at spaced_u32_at spaced_u32_at

-- a directory and a name in it
abbrev pub entry_at : Reader (ℕ × List ℕ)
entry_at = both_at spaced_u32_at spaced_name_at

-- the fields of a call, in the order of its variant
unfoldable pub fields_at : Procedure → Reader Call
fields_at procedure.Null line at = Ok (call.Null, at)
fields_at procedure.GetAttr line at = made_at spaced_u32_at call.GetAttr line at
fields_at procedure.SetAttr line at =
    made_at (both_at spaced_u32_at spaced_attr_at) (λ x. call.SetAttr x.0 x.1) line at
fields_at procedure.Lookup line at = made_at entry_at (λ x. call.Lookup x.0 x.1) line at
fields_at procedure.ReadLink line at = made_at spaced_u32_at call.ReadLink line at
fields_at procedure.Read line at =
    made_at (both_at numbers_at spaced_u32_at) (λ x. call.Read x.0.0 x.0.1 x.1) line at
fields_at procedure.Write line at =
    made_at (both_at numbers_at spaced_bytes_at) (λ x. call.Write x.0.0 x.0.1 x.1) line at
fields_at procedure.Create line at =
    made_at (both_at entry_at spaced_attr_at) (λ x. call.Create x.0.0 x.0.1 x.1) line at
fields_at procedure.Remove line at = made_at entry_at (λ x. call.Remove x.0 x.1) line at
fields_at procedure.Rename line at =
    made_at (both_at (both_at entry_at spaced_u32_at) spaced_name_at)
    (λ x. call.Rename x.0.0.0 x.0.0.1 x.0.1 x.1) line at
fields_at procedure.Link line at =
    made_at (both_at numbers_at spaced_name_at) (λ x. call.Link x.0.0 x.0.1 x.1) line at
fields_at procedure.SymLink line at =
    made_at (both_at (both_at entry_at spaced_name_at) spaced_attr_at)
    (λ x. call.SymLink x.0.0.0 x.0.0.1 x.0.1 x.1) line at
fields_at procedure.MkDir line at =
    made_at (both_at entry_at spaced_attr_at) (λ x. call.MkDir x.0.0 x.0.1 x.1) line at
fields_at procedure.RmDir line at = made_at entry_at (λ x. call.RmDir x.0 x.1) line at
fields_at procedure.ReadDir line at =
    made_at (both_at numbers_at spaced_u32_at) (λ x. call.ReadDir x.0.0 x.0.1 x.1) line at
fields_at procedure.StatFs line at = made_at spaced_u32_at call.StatFs line at

-- the names of the procedures
abbrev pub call_names : List (List ℕ)
call_names = map procedure_name procedures

-- a call's name, or `as` where no credential is told yet
abbrev pub asked_names : Bool → List (List ℕ)
asked_names told = if told then call_names else codes "as" ∷ call_names

unfoldable pub call_at : Bool → Reader Call
call_at told line at = do
  name ← named_at (asked_names told) procedure_named line at
  fields_at name.0 line name.1

-- ---- credentials

-- whether a credential is told here; no call's name begins so
abbrev pub is_told_at : List ℕ → ℕ → Bool
is_told_at line at = starts_with nat_eq (drop at line) (codes " as")

abbrev pub cred_of : ℕ → ℕ → Cred
cred_of uid gid = record { uid = uid; gid = gid }

-- the user and the group behind ` as`, not both 0: where they are, the group's 0 is the fault
unfoldable pub told_at : Reader Cred
told_at line at = do
  uid ← spaced_u32_at line at
  from ← space_at line uid.1
  gid ← u32_at line from
  if is_implied (cred_of uid.0 gid.0)
      then Err (Grammar from)
      else Ok (cred_of uid.0 gid.0, gid.1)

-- a call and the credential that is told before it
abbrev pub told_call_at : Reader (Cred × Call)
told_call_at = both_at told_at (spaced_at (call_at true))

-- a call for which no credential is told
abbrev pub untold_call_at : Reader (Cred × Call)
untold_call_at = made_at (spaced_at (call_at false)) (λ c. (SUPERUSER, c))

unfoldable pub asked_at : Reader (Cred × Call)
asked_at line at =
    if is_told_at line at then told_call_at line (at + 3) else untold_call_at line at

-- ---- fields of steps

abbrev pub spaced_server_at : Reader ServerId
spaced_server_at = spaced_at server_at

abbrev pub spaced_count_at : Reader ℕ
spaced_count_at = spaced_at count_at

-- the server, the client and its number
abbrev pub asker_at : Reader ((ServerId × ℕ) × ℕ)
asker_at = both_at (both_at spaced_server_at spaced_u32_at) spaced_count_at

-- two servers in the order of their numbers
unfoldable pub pair_at : Reader (ServerId × ServerId)
pair_at line at = do
  first ← server_at line at
  if nat_lt (number_of first.0) 2
      then (do
        second ← server_at line first.1
        if nat_lt (number_of first.0) (number_of second.0)
            then Ok ((first.0, second.0), second.1)
            else Err (Grammar first.1))
      else Err (Grammar at)

-- nothing, or two servers
unfoldable pub pump_at : Reader Step
pump_at line at =
    if at == length line then Ok (step.Pump None, at)
    else made_at (spaced_at pair_at) (λ pair. step.Pump (Some pair)) line at

-- the bit of a digit 0 or 1
abbrev pub bit_of : ℕ → Option Bool
bit_of b = if b == 48 then Some false else (if b == 49 then Some true else None)

-- bits from a place on, at most so many, and the place after them
unfoldable pub bits_from : ℕ → List ℕ → ℕ → List Bool × ℕ
bits_from zero line at = ([], at)
bits_from (suc room) line at =
    elim (bit_of (slice_index line at)) [
      | None ↦ ([], at)
      | Some bit ↦
          (bit ∷ (bits_from room line (at + 1)).0, (bits_from room line (at + 1)).1)
    ]

abbrev pub pick_named : List ℕ → Option Pick
pick_named word =
    if bytes_eq word (codes "all") then Some pick.All
    else (if bytes_eq word (codes "none") then Some pick.None else None)

-- a word, or 1 to 64 bits
unfoldable pub pick_at : Reader Pick
pick_at line at =
    let bits = bits_from 64 line at in
    if bits.1 == at then named_at (codes "all" ∷ codes "none" ∷ []) pick_named line at
    else Ok (pick.Bits bits.0, bits.1)

abbrev pub spaced_pick_at : Reader Pick
spaced_pick_at = spaced_at pick_at

-- a server, a number of calls up to a bound, and a pick
abbrev pub cut_at : ℕ → Reader ((ServerId × ℕ) × Pick)
cut_at most = both_at (both_at spaced_server_at (spaced_at (number_at 10 most))) spaced_pick_at

-- whether a digit stands here
abbrev pub is_digit_at : List ℕ → ℕ → Bool
is_digit_at line at = nat_le 48 (slice_index line at) && nat_le (slice_index line at) 57

abbrev pub all_named : List ℕ → Option (Unit {0})
all_named word = if bytes_eq word (codes "all") then Some tt else None

-- a server, and `all` for the whole save
abbrev pub whole_save_at : Reader ServerId
whole_save_at =
    made_at (both_at spaced_server_at (spaced_at (named_at (codes "all" ∷ []) all_named)))
    (λ x. x.0)

-- a save that is whole, or the calls of it that pass and the pick of a crash
unfoldable pub power_at : Reader Step
power_at line at = do
  server ← spaced_server_at line at
  if is_digit_at line (server.1 + 1)
      then made_at (cut_at 999999999999999999) (λ x. step.PowerCut x.0.0 x.0.1 x.1) line at
      else made_at whole_save_at step.Power line at

-- ---- steps

-- the names of the forms of steps
abbrev pub form_names : List (List ℕ)
form_names =
    codes "ask" ∷ codes "deliver" ∷ codes "pump" ∷ codes "tick" ∷ codes "suspect" ∷ codes "apply"
    ∷ codes "flush" ∷ codes "list" ∷ codes "boot" ∷ codes "power" ∷ codes "crash" ∷ codes "stop"
    ∷ codes "noise" ∷ codes "clock" ∷ codes "advance" ∷ codes "delta" ∷ []

abbrev pub form_named : List ℕ → Option Form
form_named word =
    if bytes_eq word (codes "ask") then Some form.Ask
    else (if bytes_eq word (codes "deliver") then Some form.Deliver
    else (if bytes_eq word (codes "pump") then Some form.Pump
    else (if bytes_eq word (codes "tick") then Some form.Tick
    else (if bytes_eq word (codes "suspect") then Some form.Suspect
    else (if bytes_eq word (codes "apply") then Some form.Apply
    else (if bytes_eq word (codes "flush") then Some form.Flush
    else (if bytes_eq word (codes "list") then Some form.List
    else (if bytes_eq word (codes "boot") then Some form.Boot
    else (if bytes_eq word (codes "power") then Some form.Power
    else (if bytes_eq word (codes "crash") then Some form.Crash
    else (if bytes_eq word (codes "stop") then Some form.Stop
    else (if bytes_eq word (codes "noise") then Some form.Noise
    else (if bytes_eq word (codes "clock") then Some form.Clock
    else (if bytes_eq word (codes "advance") then Some form.Advance
    else (if bytes_eq word (codes "delta") then Some form.Delta else None)))))))))))))))

-- a step of a form, behind its name
unfoldable pub form_at : Form → Reader Step
form_at form.Ask line at =
    made_at (both_at asker_at asked_at) (λ x. step.Ask x.0.0.0 x.0.0.1 x.0.1 x.1.0 x.1.1) line at
form_at form.Deliver line at = made_at spaced_count_at step.Deliver line at
form_at form.Pump line at = pump_at line at
form_at form.Tick line at = made_at spaced_server_at step.Tick line at
form_at form.Suspect line at = made_at spaced_server_at step.Suspect line at
form_at form.Apply line at =
    made_at (both_at spaced_server_at (spaced_at (ranged_at 1 100000)))
    (λ x. step.Apply x.0 x.1) line at
form_at form.Flush line at = made_at spaced_server_at step.Flush line at
form_at form.List line at = made_at spaced_server_at step.List line at
form_at form.Boot line at = made_at spaced_server_at step.Boot line at
form_at form.Power line at = power_at line at
form_at form.Crash line at =
    made_at (both_at spaced_server_at spaced_pick_at) (λ x. step.Crash x.0 x.1) line at
form_at form.Stop line at =
    made_at (cut_at 100000) (λ x. step.Stop x.0.0 x.0.1 x.1) line at
form_at form.Noise line at =
    made_at (both_at spaced_server_at (spaced_at all_hex_at)) (λ x. step.Noise x.0 x.1) line at
form_at form.Clock line at =
    made_at (both_at spaced_server_at spaced_count_at) (λ x. step.Clock x.0 x.1) line at
form_at form.Advance line at = made_at (spaced_at (number_at 10 1000000000)) step.Advance line at
form_at form.Delta line at = made_at (spaced_at (ranged_at 500 100000)) step.Delta line at

-- nothing follows
abbrev pub end_at : {A : Type 0} → A → List ℕ → ℕ → Result A TextFault
end_at x line at = if at == length line then Ok x else Err (Grammar at)

-- a step from a place on, and the end
unfoldable pub step_at : List ℕ → ℕ → Result Step TextFault
step_at line at = do
  name ← named_at form_names form_named line at
  s ← form_at name.0 line name.1
  end_at s.0 line s.1

abbrev pub is_blank : List ℕ → Bool
is_blank line = (length line == 0) || (slice_index line 0 == 35)

-- what a line means: no step, a step, or a fault
unfoldable pub meaning_of : List ℕ → Result (Option Step) TextFault
meaning_of line =
    if is_blank line then Ok None
    else (do
      s ← step_at line 0
      Ok (Some s))
