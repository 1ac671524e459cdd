-- What a line means says what the line is, and what a line is says what it means.
use Rattle.std.proofs.Common.{◌≡◌, ℕ, ◌+◌, ◌≤◌, Bool, true, false, cond, eqb, List, [], ◌∷◌, ◌++◌, length, get_or, drop, Option, Some, None, Result, Ok, Err, refl, sym, ap, subst, ◌∙◌, append_assoc, arith}
use Rattle.std.specs.Prelude.{◌||◌}
use Rattle.std.proofs.lemmas.Bool.{eqb-true, eq-eqb, ne_eqb}
use Rattle.std.proofs.lemmas.List.{length-append, length-drop, append-nil, drop_all}
use Rattle.trace_types.specs.declared.step.Step.{Step}
use Rattle.trace_types.specs.declared.step.Step.TheVariants as step
use Rattle.text_spelling.specs.Text.{spaced, call_text, cred_text, ask_head, among_text}
use Rattle.text_spelling.specs.Steps.{step_text}
use Rattle.text_spelling.specs.StepFits.{StepFits}
use Rattle.schedule_text.specs.declared.fault.TextFault.{TextFault}
use Rattle.schedule_text.specs.declared.fault.TextFault.TheVariants.{Grammar, NoMemory}
use Rattle.schedule_text.specs.Fields.{Read, ◌>>=◌, EndsWord, word_at}
use Rattle.schedule_text.specs.Words.{named_at}
use Rattle.schedule_text.proofs.Places.{Spells, Spells-then, drop_past, bind_ok, ok_is, passed}
use Rattle.schedule_text.proofs.Faults.{Placed}
use Rattle.schedule_text.proofs.Faults as faults
use Rattle.schedule_text.specs.declared.form.Form.{Form}
use Rattle.schedule_text.specs.Grammar.{IsStepLine, IsBlank, IsNoStep, Explains}
use Rattle.schedule_text.specs.Reading.{form_names, form_named, form_at, end_at, step_at, is_blank, meaning_of}
use Rattle.schedule_text.proofs.Words.{word_spells, name_takes, name_again, name_placed, names_form, form_name, form_letters, name_first}
use Rattle.schedule_text.proofs.Words as words
use Rattle.schedule_text.proofs.FormTexts.{form_of, rest_text}
use Rattle.schedule_text.proofs.FormLaws.{form_takes, form_again, form_placed}

-- ---- a step is its name and what stands behind it

pub parts : (s : Step) → step_text s ≡ form_name (form_of s) ++ rest_text s
unfolding step_text ask_head
parts (step.Ask server client number cred asked) =
    append_assoc (ask_head server client number) (cred_text cred) (spaced (call_text asked))
parts (step.Deliver packet) = refl
parts (step.Pump among) = refl
parts (step.Tick server) = refl
parts (step.Suspect server) = refl
parts (step.Apply server most) = refl
parts (step.Flush server) = refl
parts (step.List server) = refl
parts (step.Boot server) = refl
parts (step.Power server) = refl
parts (step.PowerCut server calls pick) = refl
parts (step.Crash server pick) = refl
parts (step.Stop server calls pick) = refl
parts (step.Noise server bytes) = refl
parts (step.Clock server reading) = refl
parts (step.Advance millis) = refl
parts (step.Delta millis) = refl

pub rest_ends : (s : Step) → EndsWord (rest_text s ++ [])
unfolding among_text
rest_ends (step.Pump None) = tt
rest_ends (step.Pump (Some pair)) = refl
rest_ends (step.Ask server client number cred asked) = refl
rest_ends (step.Deliver packet) = refl
rest_ends (step.Tick server) = refl
rest_ends (step.Suspect server) = refl
rest_ends (step.Apply server most) = refl
rest_ends (step.Flush server) = refl
rest_ends (step.List server) = refl
rest_ends (step.Boot server) = refl
rest_ends (step.Power server) = refl
rest_ends (step.PowerCut server calls pick) = refl
rest_ends (step.Crash server pick) = refl
rest_ends (step.Stop server calls pick) = refl
rest_ends (step.Noise server bytes) = refl
rest_ends (step.Clock server reading) = refl
rest_ends (step.Advance millis) = refl
rest_ends (step.Delta millis) = refl

-- ---- from a place on

abbrev named : List ℕ → ℕ → Read Form
named line at = named_at form_names form_named line at

abbrev behind : List ℕ → Form × ℕ → Result Step TextFault
behind line f = form_at f.0 line f.1 >>= λ s. end_at s.0 line s.1

-- what stands from a place on is the text of a step that fits
pub record StepStands (line : List ℕ) (at : ℕ) (s : Step) : Type 0 where
  pub fits : StepFits s
  pub spelled : drop at line ≡ step_text s

pub step_takes : (line : List ℕ) (at : ℕ) (s : Step) → step_at line at ≡ Ok s
    → StepStands line at s
unfolding step_at
step_takes line at s e =
    let p = bind_ok (named line at) (behind line) s e in
    let n = name_takes form_names form_named line at p.0 p.1 in
    let q = bind_ok (form_at p.0.0 line p.0.1) (λ s. end_at s.0 line s.1) s p.2 in
    let t = form_takes p.0.0 line p.0.1 q.0 q.1 in
    let end = passed (eqb q.0.1 (length line)) (Grammar q.0.1) (Ok q.0.0) s q.2 in
    let word = word_at line at in
    let name : word ≡ form_name (form_of q.0.0) =
    names_form word p.0.0 n.means ∙ ap form_name (sym t.1.1) in
    let front = subst (λ (k : ℕ). Spells line at word k) (sym n.place) (word_spells line at) in
    let whole = Spells-then line at word p.0.1 (rest_text q.0.0) q.0.1 front t.0 in
    let last : drop q.0.1 line ≡ [] =
    drop_all q.0.1 line (omega (arith, eqb-true q.0.1 (length line) end.0)) in
    let text : drop at line ≡ step_text q.0.0 =
    whole.parts ∙ ap (λ (l : List ℕ). (word ++ rest_text q.0.0) ++ l) last
    ∙ append-nil (word ++ rest_text q.0.0) ∙ ap (λ (l : List ℕ). l ++ rest_text q.0.0) name
    ∙ sym (parts q.0.0) in
    subst (λ (y : Step). StepStands line at y) (ok_is q.0.0 s end.1)
    (record { fits = t.1.0; spelled = text })

pub step_again : (line : List ℕ) (at : ℕ) (s : Step) → at ≤ length line → StepStands line at s
    → step_at line at ≡ Ok s
unfolding step_at
step_again line at s within is =
    let name = form_name (form_of s) in
    let rest = rest_text s in
    let front : drop at line ≡ name ++ (rest ++ []) =
    is.spelled ∙ parts s ∙ ap (λ (l : List ℕ). name ++ l) (sym (append-nil rest)) in
    let one = name_again form_names form_named line at name (rest ++ []) (form_of s)
    (words.form_again (form_of s)) (form_letters (form_of s)) (rest_ends s) front in
    let mid = at + length name in
    let len : length line ≡ mid + length rest = omega (
      arith,
      within,
      ap length front,
      length-drop at line,
      length-append name (rest ++ []),
      length-append rest [],
    ) in
    let two = form_again s line mid is.fits (omega (arith, len))
    (drop_past line at name (rest ++ []) front) in
    ap (λ (o : Read Form). o >>= behind line) one
    ∙ ap (λ (o : Read Step). o >>= λ s. end_at s.0 line s.1) two
    ∙ ap (λ (b : Bool). cond b (Ok s) (Err (Grammar (mid + length rest))))
    (eq-eqb (mid + length rest) (length line) (sym len))

pub step_placed : (line : List ℕ) (at : ℕ) → Placed (step_at line at)
unfolding step_at
step_placed line at =
    faults.bind (named line at) _ (name_placed form_names form_named line at) (λ f.
    faults.bind (form_at f.0 line f.1) _ (form_placed f.0 line f.1) (λ s.
    faults.choice (eqb s.1 (length line)) _ _ tt tt))

-- ---- lines

stands_line : (line : List ℕ) (s : Step) → StepStands line 0 s → IsStepLine line s
stands_line line s is = record { fits = is.fits; spelled = is.spelled }

line_stands : (line : List ℕ) (s : Step) → IsStepLine line s → StepStands line 0 s
line_stands line s is = record { fits = is.fits; spelled = is.spelled }

-- ---- blank lines

-- a line that isn't empty is blank by its first byte
first_says : (b : ℕ) (line : List ℕ) → is_blank (b ∷ line) ≡ eqb b 35
first_says b line =
    ap (λ (c : Bool). c || eqb b 35) (ne_eqb (length (b ∷ line)) 0 (λ e. omega arith))

blank_takes : (line : List ℕ) → is_blank line ≡ true → IsBlank line
blank_takes [] e = tt
blank_takes (b ∷ line) e = eqb-true b 35 (sym (first_says b line) ∙ e)

blank_again : (line : List ℕ) → IsBlank line → is_blank line ≡ true
blank_again [] blank = refl
blank_again (b ∷ line) blank = first_says b line ∙ eq-eqb b 35 blank

-- a line that begins with a letter is not blank
lettered : (line : List ℕ) → 97 ≤ get_or line 0 0 → is_blank line ≡ false
lettered [] first = absurd (omega arith)
lettered (b ∷ line) first = first_says b line ∙ ne_eqb b 35 (λ e. omega arith)

step_lettered : (s : Step) (line : List ℕ) → IsStepLine line s → is_blank line ≡ false
step_lettered s line is =
    let name = form_name (form_of s) in
    lettered line
    (omega (
      arith,
      ap (λ (l : List ℕ). get_or l 0 0) (is.spelled ∙ parts s),
      name_first name (rest_text s) (form_letters (form_of s)),
    ))

-- ---- the meaning

abbrev meant : List ℕ → Bool → Result (Option Step) TextFault
meant line blank = cond blank (Ok None) (step_at line 0 >>= λ s. Ok (Some s))

pub means_step : (s : Step) (line : List ℕ) → IsStepLine line s → meaning_of line ≡ Ok (Some s)
unfolding meaning_of
means_step s line is =
    ap (meant line) (step_lettered s line is)
    ∙ ap (λ (r : Result Step TextFault). r >>= λ s. Ok (Some s))
    (step_again line 0 s (omega arith) (line_stands line s is))

pub means_blank : (line : List ℕ) → IsBlank line → meaning_of line ≡ Ok None
unfolding meaning_of
means_blank line is = ap (meant line) (blank_again line is)

-- what is out of the grammar is neither of the two
no_step : (line : List ℕ) (place : ℕ) → meaning_of line ≡ Err (Grammar place) → IsNoStep line
no_step line place e = record {
  not_blank = λ is. let other = means_blank line is in cc;
  no_step = λ s is. let other = means_step s line is in cc;
}

pub explained : (line : List ℕ) → Explains line (meaning_of line)
unfolding meaning_of
explained line = by (is_blank line) refl
  where
    read : (r : Result Step TextFault) → Placed r → step_at line 0 ≡ r
        → is_blank line ≡ false → Explains line (r >>= λ s. Ok (Some s))
    read (Ok s) placed is letter = stands_line line s (step_takes line 0 s is)
    read (Err (Grammar n)) placed is letter =
        no_step line n (ap (meant line) letter
        ∙ ap (λ (r : Result Step TextFault). r >>= λ s. Ok (Some s)) is)
    read (Err NoMemory) placed is letter = absurd placed

    by : (b : Bool) → is_blank line ≡ b → Explains line (meant line b)
    by true is = blank_takes line is
    by false is = read (step_at line 0) (step_placed line 0) refl is
