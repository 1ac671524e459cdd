-- Reading a step of an observed schedule, with the place where no step goes on.
use Rattle.std.specs.Prelude.{ℕ, ◌+◌, Bool, true, List, [], ◌∷◌, ◌++◌, map, find, length, codes, Option, Some, None, is_some, Result, Ok, Err, if◌then◌else◌}
use Rattle.std.specs.Str.{bytes_eq}
use Rattle.harp_types.specs.Procedures.{procedure_name}
use Rattle.harp_types.specs.declared.call.Call.{Call}
use Rattle.harp_types.specs.declared.procedure.Procedure.{Procedure}
use Rattle.harp_types.specs.declared.procedure.Procedure.TheVariants as procedure
use Rattle.schedule_text.specs.declared.fault.TextFault.{TextFault}
use Rattle.schedule_text.specs.declared.fault.TextFault.TheVariants.{Grammar}
use Rattle.schedule_text.specs.Fields.{Reader, ◌>>=◌, word_at, spaced_at}
use Rattle.schedule_text.specs.Words.{farthest, ranged_at}
use Rattle.schedule_text.specs.Reading.{both_at, made_at, form_names, form_named, call_at, spaced_server_at, spaced_count_at, end_at, step_at, is_blank}
use Rattle.observed_text.specs.declared.form.ActForm.{ActForm}
use Rattle.observed_text.specs.declared.form.ActForm.TheVariants as form
use Rattle.observed_text.specs.declared.step.Act.{Act}
use Rattle.observed_text.specs.declared.step.Act.TheVariants as act
use Rattle.observed_text.specs.declared.step.ObservedStep.{ObservedStep}
use Rattle.observed_text.specs.declared.step.ObservedStep.TheVariants as observed

-- ---- calls that are peeked

-- the procedures that read
abbrev pub reads : List Procedure
reads =
    procedure.Null ∷ procedure.GetAttr ∷ procedure.Lookup ∷ procedure.ReadLink ∷ procedure.Read
    ∷ procedure.ReadDir ∷ procedure.StatFs ∷ []

abbrev pub read_names : List (List ℕ)
read_names = map procedure_name reads

-- whether a procedure that reads has this name
abbrev pub is_read_name : List ℕ → Bool
is_read_name word = is_some (find (λ p. bytes_eq word (procedure_name p)) reads)

-- a call of a procedure that reads; no credential is told before it
unfoldable pub read_at : Reader Call
read_at line at =
    if is_read_name (word_at line at) then call_at true line at
    else Err (Grammar (at + farthest read_names (word_at line at) 0))

-- ---- acts

-- the names of the acts
abbrev pub act_names : List (List ℕ)
act_names =
    codes "copy" ∷ codes "want" ∷ codes "take" ∷ codes "drain" ∷ codes "peek" ∷ []

abbrev pub act_named : List ℕ → Option ActForm
act_named word =
    if bytes_eq word (codes "copy") then Some form.Copy
    else (if bytes_eq word (codes "want") then Some form.Want
    else (if bytes_eq word (codes "take") then Some form.Take
    else (if bytes_eq word (codes "drain") then Some form.Drain
    else (if bytes_eq word (codes "peek") then Some form.Peek else None))))

-- an act of a form, behind its name
unfoldable pub act_at : ActForm → Reader Act
act_at form.Copy line at = Ok (act.Copy, at)
act_at form.Want line at = made_at spaced_server_at act.Want line at
act_at form.Take line at = made_at spaced_count_at act.Take line at
act_at form.Drain line at =
    made_at (both_at spaced_server_at (spaced_at (ranged_at 1 100000)))
    (λ x. act.Drain x.0 x.1) line at
act_at form.Peek line at = made_at (spaced_at read_at) act.Peek line at

-- ---- steps

-- the names with which a step may begin
abbrev pub observed_names : List (List ℕ)
observed_names = form_names ++ act_names

-- an act behind its name, and the end
abbrev pub acted_at : ActForm → List ℕ → ℕ → Result ObservedStep TextFault
acted_at form line at = do
  a ← act_at form line at
  end_at (observed.Acted a.0) line a.1

-- a step of a schedule, where one has this name
abbrev pub played_at : List ℕ → ℕ → Result ObservedStep TextFault
played_at line at =
    if is_some (form_named (word_at line at)) then (do
      s ← step_at line at
      Ok (observed.Played s))
    else Err (Grammar (at + farthest observed_names (word_at line at) 0))

-- a step from a place on, and the end
unfoldable pub observed_at : List ℕ → ℕ → Result ObservedStep TextFault
observed_at line at =
    elim (act_named (word_at line at)) [
      | None ↦ played_at line at
      | Some form ↦ acted_at form line (at + length (word_at line at))
    ]

-- what a line means: no step, a step, or a fault
unfoldable pub observed_meaning : List ℕ → Result (Option ObservedStep) TextFault
observed_meaning line =
    if is_blank line then Ok None
    else (do
      s ← observed_at line 0
      Ok (Some s))
