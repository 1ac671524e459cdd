-- What a line means says what the line is, and what a line is says what it means.
use Rattle.std.proofs.Common.{◌≡◌, ℕ, ◌+◌, ◌≤◌, Bool, true, false, cond, eqb, List, [], ◌∷◌, ◌++◌, length, get_or, drop, Option, Some, None, Result, Ok, Err, refl, sym, ap, subst, ◌∙◌, arith}
use Rattle.std.specs.Prelude.{◌||◌, is_some}
use Rattle.std.proofs.lemmas.Bool.{eqb-true, eq-eqb, ne_eqb}
use Rattle.std.proofs.lemmas.List.{length-append, append-nil, drop_all}
use Rattle.trace_types.specs.declared.step.Step.{Step}
use Rattle.schedule_text.specs.declared.fault.TextFault.{TextFault}
use Rattle.schedule_text.specs.declared.fault.TextFault.TheVariants.{Grammar, NoMemory}
use Rattle.schedule_text.specs.Fields.{Read, ◌>>=◌, word_at}
use Rattle.schedule_text.specs.Words.{farthest}
use Rattle.schedule_text.proofs.Places.{Spells-then, drop_past, bind_ok, ok_is, passed}
use Rattle.schedule_text.proofs.Faults.{Placed}
use Rattle.schedule_text.proofs.Faults as faults
use Rattle.schedule_text.specs.Grammar.{IsStepLine, IsBlank, Explains}
use Rattle.schedule_text.specs.Reading.{form_named, end_at, step_at, is_blank, meaning_of}
use Rattle.schedule_text.proofs.Words.{is_name, word_spells, word_stands, name_first, form_name, form_letters, form_again}
use Rattle.schedule_text.proofs.FormTexts.{form_of, rest_text}
use Rattle.schedule_text.proofs.MeaningLaws.{parts, rest_ends, step_takes, step_again, step_placed, explained}
use Rattle.observed_text.specs.declared.form.ActForm.{ActForm}
use Rattle.observed_text.specs.declared.step.Act.{Act}
use Rattle.observed_text.specs.declared.step.ObservedStep.{ObservedStep}
use Rattle.observed_text.specs.declared.step.ObservedStep.TheVariants as observed
use Rattle.observed_text.specs.Spelling.{act_text}
use Rattle.observed_text.specs.Grammar.{IsActLine, IsObservedLine, IsNoObserved, ExplainsObserved}
use Rattle.observed_text.specs.Reading.{observed_names, act_named, act_at, played_at, acted_at, observed_at, observed_meaning}
use Rattle.observed_text.proofs.ActLaws.{act_name, act_found, act_letters, form_no_act, names_act, act_form, act_rest, act_parts, act_ends, act_takes, act_placed, act_again}

-- ---- steps of a schedule

abbrev played : Result Step TextFault → Result ObservedStep TextFault
played r = r >>= λ s. Ok (observed.Played s)

step_read : (line : List ℕ) (s : Step) → step_at line 0 ≡ Ok s → IsStepLine line s
step_read line s e = let t = step_takes line 0 s e in record { fits = t.fits; spelled = t.spelled }

played_takes : (line : List ℕ) (s : ObservedStep) → played_at line 0 ≡ Ok s → IsObservedLine line s
played_takes line s e =
    let p = passed (is_some (form_named (word_at line 0)))
    (Grammar (0 + farthest observed_names (word_at line 0) 0)) (played (step_at line 0)) s e in
    let q = bind_ok (step_at line 0) (λ s. Ok (observed.Played s)) s p.1 in
    subst (λ (y : ObservedStep). IsObservedLine line y) (ok_is (observed.Played q.0) s q.2)
    (step_read line q.0 q.1)

-- the name of a step of a schedule stands first
step_word : (line : List ℕ) (s : Step) → IsStepLine line s → word_at line 0 ≡ form_name (form_of s)
step_word line s is =
    let name = form_name (form_of s) in
    let rest = rest_text s in
    let front : line ≡ name ++ (rest ++ []) =
    is.spelled ∙ parts s ∙ ap (λ (l : List ℕ). name ++ l) (sym (append-nil rest)) in
    word_stands line 0 name (rest ++ []) (form_letters (form_of s)) (rest_ends s) front

played_again : (line : List ℕ) (s : Step) → IsStepLine line s
    → played_at line 0 ≡ Ok (observed.Played s)
played_again line s is =
    let word = step_word line s is in
    let named : is_some (form_named (word_at line 0)) ≡ true =
    ap (λ (w : List ℕ). is_some (form_named w)) word ∙ ap is_some (form_again (form_of s)) in
    let read : step_at line 0 ≡ Ok s =
    step_again line 0 s (omega arith) (record { fits = is.fits; spelled = is.spelled }) in
    ap (λ (b : Bool). cond b (played (step_at line 0))
    (Err (Grammar (0 + farthest observed_names (word_at line 0) 0)))) named
    ∙ ap played read

-- ---- acts

abbrev ended : List ℕ → Act × ℕ → Result ObservedStep TextFault
ended line a = end_at (observed.Acted a.0) line a.1

acted_takes : (f : ActForm) (line : List ℕ) (s : ObservedStep) → act_named (word_at line 0) ≡ Some f
    → acted_at f line (0 + length (word_at line 0)) ≡ Ok s → IsObservedLine line s
acted_takes f line s is e =
    let word = word_at line 0 in
    let mid = 0 + length word in
    let q = bind_ok (act_at f line mid) (ended line) s e in
    let t = act_takes f line mid q.0 q.1 in
    let end = passed (eqb q.0.1 (length line)) (Grammar q.0.1) (Ok (observed.Acted q.0.0)) s q.2 in
    let name : word ≡ act_name (act_form q.0.0) = names_act word f is ∙ ap act_name (sym t.1.1) in
    let whole = Spells-then line 0 word mid (act_rest q.0.0) q.0.1 (word_spells line 0) t.0 in
    let last : drop q.0.1 line ≡ [] =
    drop_all q.0.1 line (omega (arith, eqb-true q.0.1 (length line) end.0)) in
    let text : line ≡ act_text q.0.0 =
    whole.parts ∙ ap (λ (l : List ℕ). (word ++ act_rest q.0.0) ++ l) last
    ∙ append-nil (word ++ act_rest q.0.0) ∙ ap (λ (l : List ℕ). l ++ act_rest q.0.0) name
    ∙ sym (act_parts q.0.0) in
    let here : IsActLine line q.0.0 = record { fits = t.1.0; spelled = text } in
    subst (λ (y : ObservedStep). IsObservedLine line y) (ok_is (observed.Acted q.0.0) s end.1) here

act_front : (line : List ℕ) (a : Act) → IsActLine line a
    → line ≡ act_name (act_form a) ++ (act_rest a ++ [])
act_front line a is =
    is.spelled ∙ act_parts a
    ∙ ap (λ (l : List ℕ). act_name (act_form a) ++ l) (sym (append-nil (act_rest a)))

act_word : (line : List ℕ) (a : Act) → IsActLine line a → word_at line 0 ≡ act_name (act_form a)
act_word line a is =
    word_stands line 0 (act_name (act_form a)) (act_rest a ++ []) (act_letters (act_form a))
    (act_ends a) (act_front line a is)

acted_again : (line : List ℕ) (a : Act) → IsActLine line a
    → acted_at (act_form a) line (0 + length (word_at line 0)) ≡ Ok (observed.Acted a)
acted_again line a is =
    let name = act_name (act_form a) in
    let rest = act_rest a in
    let front = act_front line a is in
    let mid = 0 + length name in
    let len : length line ≡ mid + length rest = omega (
      arith,
      ap length front,
      length-append name (rest ++ []),
      length-append rest [],
    ) in
    let read = act_again a line mid is.fits (drop_past line 0 name (rest ++ []) front) in
    ap (λ (w : List ℕ). acted_at (act_form a) line (0 + length w)) (act_word line a is)
    ∙ ap (λ (o : Read Act). o >>= ended line) read
    ∙ ap (λ (b : Bool). cond b (Ok (observed.Acted a)) (Err (Grammar (mid + length rest))))
    (eq-eqb (mid + length rest) (length line) (sym len))

-- ---- from the first place on

abbrev observed_by : List ℕ → ℕ → Option ActForm → Result ObservedStep TextFault
observed_by line at o =
    elim o [
      | None ↦ played_at line at
      | Some form ↦ acted_at form line (at + length (word_at line at))
    ]

observed_takes : (line : List ℕ) (s : ObservedStep) → observed_at line 0 ≡ Ok s
    → IsObservedLine line s
unfolding observed_at
observed_takes line s e = by (act_named (word_at line 0)) refl e
  where
    by : (o : Option ActForm) → act_named (word_at line 0) ≡ o → observed_by line 0 o ≡ Ok s
        → IsObservedLine line s
    by None is e = played_takes line s e
    by (Some f) is e = acted_takes f line s is e

observed_again : (line : List ℕ) (s : ObservedStep) → IsObservedLine line s
    → observed_at line 0 ≡ Ok s
unfolding observed_at
observed_again line (observed.Played s) is =
    ap (observed_by line 0) (ap act_named (step_word line s is) ∙ form_no_act (form_of s))
    ∙ played_again line s is
observed_again line (observed.Acted a) is =
    ap (observed_by line 0) (ap act_named (act_word line a is) ∙ act_found (act_form a))
    ∙ acted_again line a is

observed_placed : (line : List ℕ) → Placed (observed_at line 0)
unfolding observed_at
observed_placed line = by (act_named (word_at line 0))
  where
    by : (o : Option ActForm) → Placed (observed_by line 0 o)
    by None =
        faults.choice (is_some (form_named (word_at line 0))) _ _
        (faults.bind (step_at line 0) _ (step_placed line 0) (λ s. tt)) tt
    by (Some f) =
        faults.bind (act_at f line (0 + length (word_at line 0))) _
        (act_placed f line (0 + length (word_at line 0)))
        (λ a. faults.choice (eqb a.1 (length line)) _ _ tt tt)

-- ---- blank lines

-- a line that isn't empty is blank by its first byte
first_says : (b : ℕ) (line : List ℕ) → is_blank (b ∷ line) ≡ eqb b 35
first_says b line =
    ap (λ (c : Bool). c || eqb b 35) (ne_eqb (length (b ∷ line)) 0 (λ e. omega arith))

blank_takes : (line : List ℕ) → is_blank line ≡ true → IsBlank line
blank_takes [] e = tt
blank_takes (b ∷ line) e = eqb-true b 35 (sym (first_says b line) ∙ e)

blank_again : (line : List ℕ) → IsBlank line → is_blank line ≡ true
blank_again [] blank = refl
blank_again (b ∷ line) blank = first_says b line ∙ eq-eqb b 35 blank

-- a line that begins with a letter is not blank
lettered : (line : List ℕ) → 97 ≤ get_or line 0 0 → is_blank line ≡ false
lettered [] first = absurd (omega arith)
lettered (b ∷ line) first = first_says b line ∙ ne_eqb b 35 (λ e. omega arith)

named_lettered : (line name rest : List ℕ) → is_name name ≡ true → line ≡ name ++ rest
    → is_blank line ≡ false
named_lettered line name rest letters e =
    lettered line
    (omega (arith, ap (λ (l : List ℕ). get_or l 0 0) e, name_first name rest letters))

observed_lettered : (line : List ℕ) (s : ObservedStep) → IsObservedLine line s
    → is_blank line ≡ false
observed_lettered line (observed.Played s) is =
    named_lettered line (form_name (form_of s)) (rest_text s) (form_letters (form_of s))
    (is.spelled ∙ parts s)
observed_lettered line (observed.Acted a) is =
    named_lettered line (act_name (act_form a)) (act_rest a) (act_letters (act_form a))
    (is.spelled ∙ act_parts a)

-- ---- the meaning

abbrev meant : List ℕ → Bool → Result (Option ObservedStep) TextFault
meant line blank = cond blank (Ok None) (observed_at line 0 >>= λ s. Ok (Some s))

pub means_observed : (s : ObservedStep) (line : List ℕ) → IsObservedLine line s
    → observed_meaning line ≡ Ok (Some s)
unfolding observed_meaning
means_observed s line is =
    ap (meant line) (observed_lettered line s is)
    ∙ ap (λ (r : Result ObservedStep TextFault). r >>= λ s. Ok (Some s)) (observed_again line s is)

pub means_blank : (line : List ℕ) → IsBlank line → observed_meaning line ≡ Ok None
unfolding observed_meaning
means_blank line is = ap (meant line) (blank_again line is)

-- a line of a schedule means the same step
pub means_played : (s : Step) (line : List ℕ) → meaning_of line ≡ Ok (Some s)
    → observed_meaning line ≡ Ok (Some (observed.Played s))
means_played s line e =
    means_observed (observed.Played s) line
    (subst (λ (r : Result (Option Step) TextFault). Explains line r) e (explained line))

-- what is out of the grammar is neither of the two
no_observed : (line : List ℕ) (place : ℕ) → observed_meaning line ≡ Err (Grammar place)
    → IsNoObserved line
no_observed line place e = record {
  not_blank = λ is. let other = means_blank line is in cc;
  no_step = λ s is. let other = means_observed s line is in cc;
}

pub explained_observed : (line : List ℕ) → ExplainsObserved line (observed_meaning line)
unfolding observed_meaning
explained_observed line = by (is_blank line) refl
  where
    read : (r : Result ObservedStep TextFault) → Placed r → observed_at line 0 ≡ r
        → is_blank line ≡ false → ExplainsObserved line (r >>= λ s. Ok (Some s))
    read (Ok s) placed is letter = observed_takes line s is
    read (Err (Grammar n)) placed is letter =
        no_observed line n (ap (meant line) letter
        ∙ ap (λ (r : Result ObservedStep TextFault). r >>= λ s. Ok (Some s)) is)
    read (Err NoMemory) placed is letter = absurd placed

    by : (b : Bool) → is_blank line ≡ b → ExplainsObserved line (meant line b)
    by true is = blank_takes line is
    by false is = read (observed_at line 0) (observed_placed line) refl is
