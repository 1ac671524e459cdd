-- What bytes mean says which line they are, and which line they are says what they mean.
use Rattle.std.proofs.Common.{◌≡◌, ℕ, ◌+◌, Bool, cond, eqb, List, [], ◌++◌, length, drop, Result, Ok, Err, refl, sym, ap, subst, ◌∙◌, arith}
use Rattle.std.specs.Prelude.{map, IfOk}
use Rattle.std.proofs.lemmas.Bool.{eqb-true, eq-eqb}
use Rattle.std.proofs.lemmas.List.{append-nil, drop_all}
use Rattle.trace_types.specs.declared.line.Line.{Line}
use Rattle.text_spelling.specs.TraceLines.{line_text}
use Rattle.schedule_text.specs.declared.fault.TextFault.{TextFault}
use Rattle.schedule_text.specs.declared.fault.TextFault.TheVariants.{Grammar, NoMemory}
use Rattle.schedule_text.specs.Fields.{Read, Gives, ◌>>=◌}
use Rattle.schedule_text.proofs.Places.{bind_ok, ok_is, passed}
use Rattle.schedule_text.proofs.Faults.{Placed}
use Rattle.schedule_text.proofs.Faults as faults
use Rattle.schedule_text.specs.Reading.{end_at}
use Rattle.trace_text.specs.Fields.{name_at, by_name_at}
use Rattle.trace_text.specs.Reading.{form_name, forms, form_at, meaning_of}
use Rattle.trace_text.specs.Grammar.{IsTraceLine, Explains}
use Rattle.trace_text.proofs.Named.{by_takes, by_again, by_placed}
use Rattle.trace_text.proofs.LineLaws.{form_of, rest_text, line_parts, lines_by_name}

abbrev named_line : List ℕ → Read Line
named_line text = by_name_at (name_at form_name forms) form_at text 0

abbrev ended : List ℕ → Line × ℕ → Result Line TextFault
ended text l = end_at l.0 text l.1

pub line_takes : (text : List ℕ) (l : Line) → meaning_of text ≡ Ok l → IsTraceLine text l
unfolding meaning_of
line_takes text l e =
    let p = bind_ok (named_line text) (ended text) l e in
    let t = by_takes (map form_name forms) lines_by_name text 0 p.0 p.1 in
    let end = passed (eqb p.0.1 (length text)) (Grammar p.0.1) (Ok p.0.0) l p.2 in
    let last : drop p.0.1 text ≡ [] =
    drop_all p.0.1 text (omega (arith, eqb-true p.0.1 (length text) end.0)) in
    let whole = form_name (form_of p.0.0) ++ rest_text p.0.0 in
    let spelled : text ≡ line_text p.0.0 =
    t.0.parts ∙ ap (λ (r : List ℕ). whole ++ r) last ∙ append-nil whole ∙ sym (line_parts p.0.0) in
    subst (λ (k : Line). IsTraceLine text k) (ok_is p.0.0 l end.1)
    (record { fits = t.1; spelled = spelled })

pub line_again : (text : List ℕ) (l : Line) → IsTraceLine text l → meaning_of text ≡ Ok l
unfolding meaning_of
line_again text l is =
    let whole = form_name (form_of l) ++ rest_text l in
    let all : text ≡ whole = is.spelled ∙ line_parts l in
    let front : drop 0 text ≡ whole ++ [] = all ∙ sym (append-nil whole) in
    let one = by_again (map form_name forms) lines_by_name text 0 l [] is.fits refl front in
    let end : 0 + length whole ≡ length text = omega (arith, ap length all) in
    ap (λ (o : Read Line). o >>= ended text) one
    ∙ ap (λ (b : Bool). cond b (Ok l) (Err (Grammar (0 + length whole))))
    (eq-eqb (0 + length whole) (length text) end)

line_placed : (text : List ℕ) → Placed (meaning_of text)
unfolding meaning_of
line_placed text =
    faults.bind (named_line text) _ (by_placed (map form_name forms) lines_by_name text 0)
    (λ l. faults.choice (eqb l.1 (length text)) _ _ tt tt)

pub explained : (text : List ℕ) → Explains text (meaning_of text)
explained text = by (meaning_of text) (line_placed text) refl
  where
    by : (r : Result Line TextFault) → Placed r → meaning_of text ≡ r → Explains text r
    by (Ok l) placed is = line_takes text l is
    by (Err (Grammar n)) placed is = λ l stands. let other = line_again text l stands in cc
    by (Err NoMemory) placed is = absurd placed

-- what is read is spelled so
pub found : (text : List ℕ) (r : Result Line TextFault) → Gives (λ x. x) r (meaning_of text)
    → IfOk r (IsTraceLine text)
found text (Ok l) e = line_takes text l e
found text (Err f) e = tt
