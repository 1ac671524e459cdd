-- Pumps behind their names: what is read is spelled so, and what is spelled so is read.
use Rattle.std.proofs.Common.{◌≡◌, ℕ, ◌+◌, ◌<◌, Bool, cond, eqb, ltb, inl, inr, List, [], ◌++◌, length, drop, Some, None, Ok, Err, refl, ap, subst, ◌∙◌, append_assoc, arith}
use Rattle.std.proofs.lemmas.Bool.{eq-eqb, ne_eqb, ltb-true, lt-ltb}
use Rattle.std.proofs.lemmas.List.{length-append}
use Rattle.harp_types.specs.Server.{number_of}
use Rattle.harp_types.specs.declared.server.ServerId.{ServerId}
use Rattle.harp_types.specs.declared.server.ServerId.TheVariants as servers
use Rattle.trace_types.specs.declared.step.Step.{Step}
use Rattle.trace_types.specs.declared.step.Step.TheVariants as step
use Rattle.text_spelling.specs.Text.{spaced, pair_text, among_text}
use Rattle.text_spelling.specs.Fits.{PairFits}
use Rattle.schedule_text.specs.declared.fault.TextFault.TheVariants.{Grammar}
use Rattle.schedule_text.specs.Fields.{Read, ◌>>=◌, EndsWord, spaced_at, server_at}
use Rattle.schedule_text.proofs.Places.{Spells, Spells-then, drop_past, bind_ok, chosen, ok_is, passed, read_of}
use Rattle.schedule_text.proofs.FieldLaws.{server_text, server_field, server_reads}
use Rattle.schedule_text.proofs.Faults.{PlacedReader}
use Rattle.schedule_text.proofs.Faults as faults
use Rattle.schedule_text.specs.declared.form.Form.TheVariants as form
use Rattle.schedule_text.specs.Reading.{made_at, pair_at, pump_at}
use Rattle.schedule_text.proofs.Rows.{IsRow, spaced_row, made_takes, made_again, made_placed}
use Rattle.schedule_text.proofs.FormTexts.{rest_text, IsOfForm}

abbrev ReadPair : Type 0
ReadPair = Read (ServerId × ServerId)

abbrev pair_read : ServerId → ServerId → ℕ → ReadPair
pair_read a b n = Ok ((a, b), n)

abbrev second_at : List ℕ → ServerId × ℕ → ReadPair
second_at line first =
    server_at line first.1 >>= λ second. cond (ltb (number_of first.0) (number_of second.0))
    (pair_read first.0 second.0 second.1) (Err (Grammar first.1))

abbrev first_at : List ℕ → ℕ → ServerId × ℕ → ReadPair
first_at line at first = cond (ltb (number_of first.0) 2) (second_at line first) (Err (Grammar at))

pair_takes : (line : List ℕ) (at : ℕ) (x : (ServerId × ServerId) × ℕ) → pair_at line at ≡ Ok x
    → Spells line at (pair_text x.0) x.1 × PairFits x.0
unfolding pair_at
pair_takes line at x e =
    let p = bind_ok (server_at line at) (first_at line at) x e in
    let low = passed (ltb (number_of p.0.0) 2) (Grammar at) (second_at line p.0) x p.2 in
    let q = bind_ok (server_at line p.0.1)
    (λ second. cond (ltb (number_of p.0.0) (number_of second.0)) (pair_read p.0.0 second.0 second.1)
    (Err (Grammar p.0.1))) x low.1 in
    let above = passed (ltb (number_of p.0.0) (number_of q.0.0)) (Grammar p.0.1)
    (pair_read p.0.0 q.0.0 q.0.1) x q.2 in
    let one = server_field.takes line at p.0 p.1 in
    let two = server_field.takes line p.0.1 q.0 q.1 in
    let both = Spells-then line at (server_text p.0.0) p.0.1 (server_text q.0.0) q.0.1 one.0
    two.0 in
    subst (λ (y : (ServerId × ServerId) × ℕ). Spells line at (pair_text y.0) y.1 × PairFits y.0)
    (ok_is ((p.0.0, q.0.0), q.0.1) x above.1)
    (both, ltb-true (number_of p.0.0) (number_of q.0.0) above.0)

below_two : (a b : ServerId) → number_of a < number_of b → number_of a < 2
below_two a servers.Zero lt = omega (arith, lt)
below_two a servers.One lt = omega (arith, lt)
below_two a servers.Two lt = lt

pair_again : (line : List ℕ) (at : ℕ) (x : ServerId × ServerId) (rest : List ℕ) → PairFits x
    → EndsWord rest
    → drop at line ≡ pair_text x ++ rest → pair_at line at ≡ Ok (x, at + length (pair_text x))
unfolding pair_at
pair_again line at x rest fits ends e =
    let front : drop at line ≡ server_text x.0 ++ (server_text x.1 ++ rest) = e
    ∙ append_assoc (server_text x.0) (server_text x.1) rest in
    let one = server_reads line at x.0 (server_text x.1 ++ rest) front in
    let mid = at + length (server_text x.0) in
    let two = server_reads line mid x.1 rest
    (drop_past line at (server_text x.0) (server_text x.1 ++ rest) front) in
    let end : mid + length (server_text x.1) ≡ at + length (pair_text x) = omega
    (arith, length-append (server_text x.0) (server_text x.1)) in
    let low = lt-ltb (number_of x.0) 2 (below_two x.0 x.1 fits) in
    let above = lt-ltb (number_of x.0) (number_of x.1) fits in
    ap (λ (o : Read ServerId). o >>= first_at line at) one
    ∙ ap (λ (b : Bool). cond b (second_at line (x.0, mid)) (Err (Grammar at))) low
    ∙ ap (λ (o : Read ServerId). o >>= λ second. cond (ltb (number_of x.0) (number_of second.0))
    (pair_read x.0 second.0 second.1) (Err (Grammar mid))) two
    ∙ ap (λ (b : Bool). cond b (pair_read x.0 x.1 (mid + length (server_text x.1)))
    (Err (Grammar mid))) above
    ∙ ap (pair_read x.0 x.1) end

pair_placed : PlacedReader pair_at
unfolding pair_at
pair_placed line at =
    faults.bind (server_at line at) _ (faults.server line at) (λ first.
    faults.choice (ltb (number_of first.0) 2) _ _
    (faults.bind (server_at line first.1) _ (faults.server line first.1)
    (λ second. faults.choice (ltb (number_of first.0) (number_of second.0)) _ _ tt tt)) tt)

pair_row : IsRow (spaced_at pair_at) (λ x. spaced (pair_text x)) PairFits
pair_row = spaced_row pair_at pair_text PairFits
    (record { takes = pair_takes; again = pair_again }) pair_placed

abbrev pump_between : ServerId × ServerId → Step
pump_between pair = step.Pump (Some pair)

abbrev pump_read : List ℕ → ℕ → Bool → Read Step
pump_read line at ended =
    cond ended (read_of (step.Pump None) at) (made_at (spaced_at pair_at) pump_between line at)

pub pump_takes : (line : List ℕ) (at : ℕ) (x : Step × ℕ) → pump_at line at ≡ Ok x
    → Spells line at (rest_text x.0) x.1 × IsOfForm form.Pump x.0
unfolding pump_at among_text
pump_takes line at x e =
    elim (chosen (eqb at (length line)) (read_of (step.Pump None) at)
    (made_at (spaced_at pair_at) pump_between line at) (Ok x) e) [
      | inl all ↦
          subst (λ (y : Step × ℕ). Spells line at (rest_text y.0) y.1 × IsOfForm form.Pump y.0)
          (ok_is (step.Pump None, at) x all.1)
          (record { parts = refl; length_is = omega arith }, (tt, refl))
      | inr two ↦
          made_takes pair_row pump_between rest_text (IsOfForm form.Pump)
          (λ a fits. (refl, (fits, refl))) line at x two.1
    ]

pub pump_all_again : (line : List ℕ) (at : ℕ) → at ≡ length line
    → pump_at line at ≡ read_of (step.Pump None) at
unfolding pump_at
pump_all_again line at end = ap (pump_read line at) (eq-eqb at (length line) end)

pub pump_pair_again : (line : List ℕ) (at : ℕ) (x : ServerId × ServerId) → PairFits x
    → at < length line → drop at line ≡ spaced (pair_text x) ++ []
    → pump_at line at ≡ Ok (step.Pump (Some x), at + length (spaced (pair_text x)))
unfolding pump_at
pump_pair_again line at x fits more e =
    ap (pump_read line at) (ne_eqb at (length line) (λ is. omega (arith, is, more)))
    ∙ made_again pair_row pump_between x fits line at [] tt e

pub pump_placed : PlacedReader pump_at
unfolding pump_at
pump_placed line at =
    faults.choice (eqb at (length line)) _ _ tt (made_placed pair_row pump_between line at)
