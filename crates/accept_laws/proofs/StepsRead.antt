-- How many steps are read of a text: one of each line, and the deliveries of pumps.
use Rattle.std.proofs.Common.{◌≡◌, ℕ, zero, suc, ◌+◌, ◌-◌, ◌≤◌, true, List, [], ◌∷◌, length, Option, Some, None, Result, Ok, Err, refl, arith, nat_lt}
use Rattle.harp_types.specs.declared.server.ServerId.{ServerId}
use Rattle.trace_types.specs.declared.line.LineFault.{LineFault}
use Rattle.trace_types.specs.declared.line.LineFault.TheVariants as fault
use Rattle.trace_types.specs.declared.step.Step.{Step}
use Rattle.trace_types.specs.declared.step.Step.TheVariants as step
use Rattle.schedule_text.specs.declared.fault.TextFault.{TextFault}
use Rattle.schedule_text.specs.Reading.{meaning_of}
use Rattle.group_rules.proofs.Tests.{by_if, not_lt}
use Rattle.group_trace.specs.Pump.{deliveries, due, most_deliveries, spelled_out}
use Rattle.group_trace.specs.Refusals.{refusal}
use Rattle.group_trace.specs.Run.{is_elementary, next}
use Rattle.group_trace.specs.Scene.{Measures, Scene}
use Rattle.schedule_play.specs.Reading.{Reading, given_by, reading_from, step_or_fault, then_read, unless_refused, with_given, with_step, with_steps}
use Rattle.accept_laws.specs.Laws.{TakeBytes}
use Rattle.accept_laws.proofs.Deliveries.{IsGoing, due_falls, going_on, left, left_falls}

-- at most so many steps, beside the packets that can still be delivered
abbrev pub Reads : ℕ → (Scene → Reading) → Type 0
Reads k rest = (w : Scene) → IsGoing w → length (rest w).steps ≤ k + left w

-- a step that is not refused, and what is read behind it
step_read : (m : Measures) (number k : ℕ) (s : Step) (rest : Scene → Reading) (w : Scene)
    → (refusal m w s ≡ None → length (rest (next m w s)).steps + 1 ≤ k)
    → length (with_step m number s rest w).steps ≤ k
step_read m number k s rest w h = by (refusal m w s) h
  where
    by : (o : Option LineFault) → (o ≡ None → length (rest (next m w s)).steps + 1 ≤ k)
        → length (unless_refused number o (then_read (s ∷ []) (rest (next m w s)))).steps ≤ k
    by None h = let l = h refl in omega (arith, l)
    by (Some why) h = omega arith

module _ (m : Measures) (b : TakeBytes m) (number : ℕ) where
  alone : (s : Step) (k : ℕ) (rest : Scene → Reading) (w : Scene) → IsGoing w
      → is_elementary s ≡ true → Reads k rest
      → length (with_steps m number (s ∷ []) rest w).steps ≤ k + 1 + left w
  unfolding with_steps
  alone s k rest w h e l = step_read m number (k + 1 + left w) s rest w (λ r.
      let more = l (next m w s) (going_on m b w h s r e) in
      let falls = left_falls m b w h s r e in
      omega (arith, more, falls))

  pumped : (most : ℕ) (among : Option (ServerId × ServerId)) (k : ℕ) (rest : Scene → Reading)
      → Reads k rest
      → Reads k (λ w. with_steps m number (deliveries m most among w) rest w)
  unfolding with_steps deliveries
  pumped zero among k rest l w h = l w h
  pumped (suc most) among k rest l w h =
      by (due among w) (λ n is. step_read m number (k + left w) (step.Deliver n)
      (λ w. with_steps m number (deliveries m most among w) rest w) w (λ r.
      let s = step.Deliver n in
      let more = pumped most among k rest l (next m w s) (going_on m b w h s r refl) in
      let falls = due_falls m b w h among n is r in
      omega (arith, more, falls)))
    where
      by : (o : Option ℕ) → ((n : ℕ) → o ≡ Some n
          → length (with_step m number (step.Deliver n)
          (λ w. with_steps m number (deliveries m most among w) rest w) w).steps ≤ k + left w)
          → length (with_steps m number (elim o [
            | None ↦ []
            | Some n ↦ step.Deliver n ∷ deliveries m most among (next m w (step.Deliver n))
          ]) rest w).steps ≤ k + left w
      by None f = l w h
      by (Some n) f = f n refl

  line_read : (s : Step) (k : ℕ) (rest : Scene → Reading) (w : Scene) → IsGoing w → Reads k rest
      → length (with_steps m number (spelled_out m w s) rest w).steps ≤ k + 1 + left w
  line_read (step.Pump among) k rest w h l =
      let all = pumped most_deliveries among k rest l w h in omega (arith, all)
  line_read s k rest w h l = alone s k rest w h refl l

  given_read : (line : List ℕ) (rest : Scene → Reading) → number ≤ 50001
      → (number ≤ 50000 → Reads (50000 - number) rest)
      → Reads (50001 - number) (with_given m number (given_by number line) rest)
  unfolding given_by
  given_read line rest l f w h =
      by_if (λ (r : Result (Option Step) LineFault). length (with_given m number r rest w).steps
      ≤ 50001 - number + left w) (nat_lt 50000 number) (Err fault.TooMany) _
      (λ _. omega arith)
      (λ t.
      let le = not_lt 50000 number t in
      by_if (λ (r : Result (Option Step) LineFault). length (with_given m number r rest w).steps
      ≤ 50001 - number + left w) (nat_lt 20000 (length line)) (Err fault.TooLong) _
      (λ _. omega arith)
      (λ _. meant le (meaning_of line)))
    where
      meant : number ≤ 50000 → (r : Result (Option Step) TextFault)
          → length (with_given m number (step_or_fault r) rest w).steps ≤ 50001 - number + left w
      meant le (Ok None) = let all = f le w h in omega (arith, all)
      meant le (Ok (Some s)) =
          let all = line_read s (50000 - number) rest w h (f le) in omega (arith, all, le)
      meant le (Err why) = omega arith

pub reading_few : (m : Measures) → TakeBytes m → (lines : List (List ℕ)) (number : ℕ)
    → number ≤ 50001 → Reads (50001 - number) (reading_from m number lines)
unfolding reading_from
reading_few m b [] number l w h = omega arith
reading_few m b (line ∷ lines) number l w h =
    given_read m b number line (reading_from m (number + 1) lines) l (λ le w h.
    let all = reading_few m b lines (number + 1) (omega (arith, le)) w h in omega (arith, all, le))
    w h
