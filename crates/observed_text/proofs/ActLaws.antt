-- Acts behind their names: what is read is spelled so, and what is spelled so is read.
use Rattle.std.proofs.Common.{◌≡◌, ℕ, ◌+◌, ◌≤◌, Bool, true, false, cond, List, [], ◌++◌, length, drop, Option, Some, None, Ok, refl, ap, subst, ◌∙◌, arith}
use Rattle.std.specs.Prelude.{decimal, codes}
use Rattle.std.specs.Str.{bytes_eq}
use Rattle.harp_types.specs.declared.server.ServerId.{ServerId}
use Rattle.text_spelling.specs.Text.{spaced, call_text}
use Rattle.schedule_text.specs.Fields.{EndsWord, spaced_at}
use Rattle.schedule_text.specs.Words.{ranged_at}
use Rattle.schedule_text.proofs.Places.{Spells, ok_is, read_of}
use Rattle.schedule_text.proofs.Faults.{PlacedReader}
use Rattle.schedule_text.specs.declared.form.Form.{Form}
use Rattle.schedule_text.specs.declared.form.Form.TheVariants as schedule
use Rattle.schedule_text.specs.Reading.{both_at, spaced_server_at}
use Rattle.schedule_text.proofs.Rows.{IsRow, server_row, count_row, both_row, spaced_row, made_takes, made_again, made_placed}
use Rattle.schedule_text.proofs.PickLaws.{ranged_field, ranged_reader}
use Rattle.schedule_text.proofs.FormTexts.{spaced_server}
use Rattle.schedule_text.proofs.Words.{is_name, same_word, form_name}
use Rattle.observed_text.specs.declared.form.ActForm.{ActForm}
use Rattle.observed_text.specs.declared.form.ActForm.TheVariants as form
use Rattle.observed_text.specs.declared.step.Act.{Act}
use Rattle.observed_text.specs.declared.step.Act.TheVariants as act
use Rattle.observed_text.specs.Spelling.{ActFits, act_text}
use Rattle.observed_text.specs.Reading.{act_named, act_at}
use Rattle.observed_text.proofs.ReadLaws.{read_row}

-- ---- the forms of acts

abbrev pub act_name : ActForm → List ℕ
act_name form.Copy = codes "copy"
act_name form.Want = codes "want"
act_name form.Take = codes "take"
act_name form.Drain = codes "drain"
act_name form.Peek = codes "peek"

pub act_found : (f : ActForm) → act_named (act_name f) ≡ Some f
act_found form.Copy = refl
act_found form.Want = refl
act_found form.Take = refl
act_found form.Drain = refl
act_found form.Peek = refl

pub act_letters : (f : ActForm) → is_name (act_name f) ≡ true
act_letters form.Copy = refl
act_letters form.Want = refl
act_letters form.Take = refl
act_letters form.Drain = refl
act_letters form.Peek = refl

-- no step of a schedule has the name of an act
pub form_no_act : (f : Form) → act_named (form_name f) ≡ None
form_no_act schedule.Ask = refl
form_no_act schedule.Deliver = refl
form_no_act schedule.Pump = refl
form_no_act schedule.Tick = refl
form_no_act schedule.Suspect = refl
form_no_act schedule.Apply = refl
form_no_act schedule.Flush = refl
form_no_act schedule.List = refl
form_no_act schedule.Boot = refl
form_no_act schedule.Power = refl
form_no_act schedule.Crash = refl
form_no_act schedule.Stop = refl
form_no_act schedule.Noise = refl
form_no_act schedule.Clock = refl
form_no_act schedule.Advance = refl
form_no_act schedule.Delta = refl

form_is : (f g : ActForm) → Some f ≡ Some g → f ≡ g
form_is f g e = cc

one_form : (b : Bool) (word : List ℕ) (f g : ActForm) (other : Option ActForm)
    → (b ≡ true → word ≡ act_name f) → (other ≡ Some g → word ≡ act_name g)
    → cond b (Some f) other ≡ Some g → word ≡ act_name g
one_form true word f g other is more e = is refl ∙ ap act_name (form_is f g e)
one_form false word f g other is more e = more e

no_form : (word : List ℕ) (g : ActForm) → None ≡ Some g → word ≡ act_name g
no_form word g e = absurd cc

-- a word that names an act is its name
pub names_act : (word : List ℕ) (g : ActForm) → act_named word ≡ Some g → word ≡ act_name g
names_act word g e =
    one_form (bytes_eq word (codes "copy")) word form.Copy g _ (same_word word (codes "copy"))
    (λ e1. one_form (bytes_eq word (codes "want")) word form.Want g _ (same_word word (codes "want"))
    (λ e2. one_form (bytes_eq word (codes "take")) word form.Take g _ (same_word word (codes "take"))
    (λ e3. one_form (bytes_eq word (codes "drain")) word form.Drain g _ (same_word word (codes "drain"))
    (λ e4. one_form (bytes_eq word (codes "peek")) word form.Peek g _ (same_word word (codes "peek"))
    (λ e5. no_form word g e5) e4) e3) e2) e1) e

-- ---- an act is its name and what stands behind it

abbrev pub act_form : Act → ActForm
act_form act.Copy = form.Copy
act_form (act.Want server) = form.Want
act_form (act.Take packet) = form.Take
act_form (act.Drain server count) = form.Drain
act_form (act.Peek call) = form.Peek

abbrev pub act_rest : Act → List ℕ
act_rest act.Copy = []
act_rest (act.Want server) = spaced_server server
act_rest (act.Take packet) = spaced (decimal packet)
act_rest (act.Drain server count) = spaced_server server ++ spaced (decimal count)
act_rest (act.Peek call) = spaced (call_text call)

pub act_parts : (a : Act) → act_text a ≡ act_name (act_form a) ++ act_rest a
unfolding act_text
act_parts act.Copy = refl
act_parts (act.Want server) = refl
act_parts (act.Take packet) = refl
act_parts (act.Drain server count) = refl
act_parts (act.Peek call) = refl

pub act_ends : (a : Act) → EndsWord (act_rest a ++ [])
act_ends act.Copy = tt
act_ends (act.Want server) = refl
act_ends (act.Take packet) = refl
act_ends (act.Drain server count) = refl
act_ends (act.Peek call) = refl

-- the act is of this form, and fits
abbrev pub IsOfForm : ActForm → Act → Type 0
IsOfForm f a = ActFits a × (act_form a ≡ f)

-- ---- what is read

abbrev IsWithin : ℕ → Type 0
IsWithin n = (1 ≤ n) × (n ≤ 100000)

drain_row : IsRow (both_at spaced_server_at (spaced_at (ranged_at 1 100000)))
    (λ x. spaced_server x.0 ++ spaced (decimal x.1)) (λ x. Unit {0} × IsWithin x.1)
drain_row = both_row server_row
    (spaced_row (ranged_at 1 100000) decimal IsWithin (ranged_field 1 100000 (omega arith))
    (ranged_reader 1 100000 (omega arith)))

abbrev drain_of : ServerId × ℕ → Act
drain_of x = act.Drain x.0 x.1

pub act_takes : (f : ActForm) (line : List ℕ) (at : ℕ) (x : Act × ℕ) → act_at f line at ≡ Ok x
    → Spells line at (act_rest x.0) x.1 × IsOfForm f x.0
unfolding act_at
act_takes form.Copy line at x e =
    subst (λ (y : Act × ℕ). Spells line at (act_rest y.0) y.1 × IsOfForm form.Copy y.0)
    (ok_is (act.Copy, at) x e) (record { parts = refl; length_is = omega arith }, (tt, refl))
act_takes form.Want line at x e =
    made_takes server_row act.Want act_rest (IsOfForm form.Want) (λ a f. (refl, (f, refl)))
    line at x e
act_takes form.Take line at x e =
    made_takes count_row act.Take act_rest (IsOfForm form.Take) (λ a f. (refl, (f, refl)))
    line at x e
act_takes form.Drain line at x e =
    made_takes drain_row drain_of act_rest (IsOfForm form.Drain) (λ a f. (refl, (f.1, refl)))
    line at x e
act_takes form.Peek line at x e =
    made_takes read_row act.Peek act_rest (IsOfForm form.Peek) (λ a f. (refl, (f, refl)))
    line at x e

pub act_placed : (f : ActForm) → PlacedReader (act_at f)
unfolding act_at
act_placed form.Copy line at = tt
act_placed form.Want line at = made_placed server_row act.Want line at
act_placed form.Take line at = made_placed count_row act.Take line at
act_placed form.Drain line at = made_placed drain_row drain_of line at
act_placed form.Peek line at = made_placed read_row act.Peek line at

-- ---- what is spelled

pub act_again : (a : Act) (line : List ℕ) (at : ℕ) → ActFits a → drop at line ≡ act_rest a ++ []
    → act_at (act_form a) line at ≡ Ok (a, at + length (act_rest a))
unfolding act_at
act_again act.Copy line at f e = ap (λ (n : ℕ). read_of act.Copy n) (omega arith)
act_again (act.Want server) line at f e = made_again server_row act.Want server f line at [] tt e
act_again (act.Take packet) line at f e = made_again count_row act.Take packet f line at [] tt e
act_again (act.Drain server count) line at f e =
    made_again drain_row drain_of (server, count) (tt, f) line at [] tt e
act_again (act.Peek call) line at f e = made_again read_row act.Peek call f line at [] tt e
