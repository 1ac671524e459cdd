-- The steps that are read of a text fit, and most of them are deliveries.
use Rattle.std.proofs.Common.{◌≡◌, ℕ, zero, suc, ◌+◌, ◌-◌, ◌≤◌, List, [], ◌∷◌, length, Option, Some, None, Result, Ok, Err, ap, subst, arith, nat_lt}
use Rattle.std.specs.List.{AllByRecursion}
use Rattle.harp_base.specs.Fields.{AllFit}
use Rattle.harp_types.specs.declared.server.ServerId.{ServerId}
use Rattle.trace_types.specs.declared.line.LineFault.{LineFault}
use Rattle.trace_types.specs.declared.line.LineFault.TheVariants as fault
use Rattle.trace_types.specs.declared.step.Step.{Step}
use Rattle.trace_types.specs.declared.step.Step.TheVariants as step
use Rattle.schedule_text.specs.declared.fault.TextFault.{TextFault}
use Rattle.schedule_text.specs.Grammar.{Explains, IsStepLine}
use Rattle.schedule_text.specs.Reading.{meaning_of}
use Rattle.schedule_text.proofs.MeaningLaws.{explained}
use Rattle.group_rules.proofs.Tests.{by_if, not_lt}
use Rattle.group_trace.specs.Pump.{deliveries, due, most_deliveries, spelled_out}
use Rattle.group_trace.specs.Refusals.{refusal}
use Rattle.group_trace.specs.Run.{next}
use Rattle.group_trace.specs.Scene.{Measures, Scene}
use Rattle.schedule_play.specs.Reading.{Reading, given_by, reading_from, step_or_fault, then_read, unless_refused, with_given, with_steps}
use Rattle.accept_laws.specs.Laws.{ToldFits, all_told, told}

-- what is read, of lines with at most k steps that they tell alone, up to this number
pub record IsTold (k : ℕ) (r : Reading) : Type 0 where
  pub fit : AllFit ToldFits r.steps
  pub few : all_told r.steps ≤ k
  pub refused : (x : ℕ × LineFault) → r.refused ≡ Some x → x.0 ≤ 50001

told_more : (k l : ℕ) (r : Reading) → k ≤ l → IsTold k r → IsTold l r
told_more k l r le h =
    let few = h.few in
    record { fit = h.fit; few = omega (arith, few, le); refused = h.refused }

refused_told : (k number : ℕ) (f : LineFault) → number ≤ 50001
    → IsTold k (record { steps = []; refused = Some (number, f) })
refused_told k number f l = record {
  fit = tt;
  few = omega arith;
  refused = λ x e. let is : (number, f) ≡ x = cc in subst (λ (y : ℕ × LineFault). y.0 ≤ 50001) is l;
}

steps_told : (m : Measures) (number k : ℕ) (ss : List Step) (rest : Scene → Reading) (w : Scene)
    → number ≤ 50001 → AllFit ToldFits ss → ((w : Scene) → IsTold k (rest w))
    → IsTold (all_told ss + k) (with_steps m number ss rest w)
unfolding with_steps
steps_told m number k [] rest w l f h = told_more k (0 + k) (rest w) (omega arith) (h w)
steps_told m number k (s ∷ ss) rest w l f h =
    by (refusal m w s) (steps_told m number k ss rest (next m w s) l f.1 h)
  where
    by : (o : Option LineFault)
        → IsTold (all_told ss + k) (with_steps m number ss rest (next m w s)) → IsTold (told s + all_told ss + k)
        (unless_refused number o (then_read (s ∷ []) (with_steps m number ss rest (next m w s))))
    by None more =
        let few = more.few in
        record { fit = (f.0, more.fit); few = omega (arith, few); refused = more.refused }
    by (Some why) more = refused_told (told s + all_told ss + k) number why l

-- ---- a line

deliveries_told : (m : Measures) (most : ℕ) (among : Option (ServerId × ServerId)) (w : Scene)
    → AllFit ToldFits (deliveries m most among w) × (all_told (deliveries m most among w) ≤ 1)
unfolding deliveries
deliveries_told m zero among w = (tt, omega arith)
deliveries_told m (suc most) among w =
    by (due among w) (λ n. deliveries_told m most among (next m w (step.Deliver n)))
  where
    by : (o : Option ℕ)
        → ((n : ℕ) → AllFit ToldFits (deliveries m most among (next m w (step.Deliver n)))
        × (all_told (deliveries m most among (next m w (step.Deliver n))) ≤ 1)) → AllFit ToldFits (elim o [
          | None ↦ []
          | Some n ↦ step.Deliver n ∷ deliveries m most among (next m w (step.Deliver n))
        ]) × (all_told (elim o [
          | None ↦ []
          | Some n ↦ step.Deliver n ∷ deliveries m most among (next m w (step.Deliver n))
        ]) ≤ 1)
    by None h = (tt, omega arith)
    by (Some n) h =
        let rest = h n in
        let few = rest.1 in
        ((tt, rest.0), omega (arith, few))

line_told : (m : Measures) (w : Scene) (line : List ℕ) (s : Step) → IsStepLine line s
    → length line ≤ 19998
    → AllFit ToldFits (spelled_out m w s) × (all_told (spelled_out m w s) ≤ 1)
line_told m w line (step.Pump among) h l = deliveries_told m most_deliveries among w
line_told m w line (step.Deliver n) h l = ((tt, tt), omega arith)
line_told m w line s h l =
    let is = ap (λ (t : List ℕ). length t) h.spelled in
    (((h.fits, omega (arith, is, l)), tt), omega arith)

given_told : (m : Measures) (number : ℕ) (line : List ℕ) (rest : Scene → Reading) (w : Scene)
    → number ≤ 50001 → length line ≤ 19998
    → ((w : Scene) → number ≤ 50000 → IsTold (50000 - number) (rest w))
    → IsTold (50001 - number) (with_given m number (given_by number line) rest w)
unfolding given_by
given_told m number line rest w l short h =
    by_if (λ (r : Result (Option Step) LineFault). IsTold (50001 - number)
    (with_given m number r rest w)) (nat_lt 50000 number) (Err fault.TooMany) _
    (λ _. refused_told (50001 - number) number fault.TooMany l)
    (λ t.
    let le = not_lt 50000 number t in
    by_if (λ (r : Result (Option Step) LineFault). IsTold (50001 - number)
    (with_given m number r rest w)) (nat_lt 20000 (length line)) (Err fault.TooLong) _
    (λ _. refused_told (50001 - number) number fault.TooLong l)
    (λ _. meant le (meaning_of line) (explained line)))
  where
    meant : number ≤ 50000 → (r : Result (Option Step) TextFault) → Explains line r
        → IsTold (50001 - number) (with_given m number (step_or_fault r) rest w)
    meant le (Ok None) x =
        told_more (50000 - number) (50001 - number) (rest w) (omega arith) (h w le)
    meant le (Ok (Some s)) x =
        let told' = line_told m w line s x short in
        let few = told'.1 in
        told_more (all_told (spelled_out m w s) + (50000 - number)) (50001 - number) _
        (omega (arith, few, le))
        (steps_told m number (50000 - number) (spelled_out m w s) rest w l told'.0
        (λ w. h w le))
    meant le (Err why) x = refused_told (50001 - number) number fault.Grammar l

pub reading_told : (m : Measures) (lines : List (List ℕ)) (number : ℕ) (w : Scene)
    → number ≤ 50001 → AllByRecursion (λ line. length line ≤ 19998) lines
    → IsTold (50001 - number) (reading_from m number lines w)
unfolding reading_from
reading_told m [] number w l h =
    record { fit = tt; few = omega arith; refused = λ x e. absurd cc }
reading_told m (line ∷ lines) number w l h =
    given_told m number line (reading_from m (number + 1) lines) w l h.0 (λ w le.
    told_more (50001 - (number + 1)) (50000 - number) _ (omega arith)
    (reading_told m lines (number + 1) w (omega (arith, le)) h.1))
