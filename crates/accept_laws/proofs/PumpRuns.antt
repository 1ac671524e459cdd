-- Behind a pump that is taken whole nothing is due.
use Rattle.std.proofs.Common.{◌≡◌, ℕ, zero, suc, ◌+◌, ◌<◌, ◌≤◌, true, List, [], ◌∷◌, ◌++◌, length, Option, Some, None, Result, Ok, Err, refl, sym, subst, arith, nat_lt}
use Rattle.harp_types.specs.declared.server.ServerId.{ServerId}
use Rattle.trace_types.specs.declared.line.LineFault.{LineFault}
use Rattle.trace_types.specs.declared.line.LineFault.TheVariants as fault
use Rattle.trace_types.specs.declared.step.Step.{Step}
use Rattle.trace_types.specs.declared.step.Step.TheVariants as step
use Rattle.schedule_text.specs.declared.fault.TextFault.{TextFault}
use Rattle.schedule_text.specs.Reading.{meaning_of}
use Rattle.group_rules.proofs.Tests.{by_if}
use Rattle.group_trace.specs.Pump.{deliveries, due, most_deliveries, spelled_out}
use Rattle.group_trace.specs.Refusals.{refusal}
use Rattle.group_trace.specs.Run.{is_elementary, next, run}
use Rattle.group_trace.specs.Scene.{Measures, Scene}
use Rattle.schedule_play.specs.Reading.{Reading, all_read, given_by, reading_from, step_or_fault, then_read, unless_refused, with_given, with_step, with_steps}
use Rattle.accept_laws.specs.Laws.{TakeBytes}
use Rattle.accept_laws.specs.PumpLaws.{PumpsLeaveNone}
use Rattle.accept_laws.proofs.Deliveries.{IsGoing, due_falls, first_going, going_on, left, left_few}

-- where what is read isn't refused, this holds of the scene that its steps lead to
abbrev LeadsTo : Measures → (Scene → Type 0) → Reading → Scene → Type 0
LeadsTo m P read w = read.refused ≡ None → P (run m w read.steps)

-- wherever a run goes on
abbrev Ends : Measures → (Scene → Type 0) → (Scene → Reading) → Type 0
Ends m P rest = (w : Scene) → IsGoing w → LeadsTo m P (rest w) w

module _ (m : Measures) (b : TakeBytes m) (number : ℕ) where
  one_step : (P : Scene → Type 0) (s : Step) (rest : Scene → Reading) (w : Scene)
      → (refusal m w s ≡ None → LeadsTo m P (rest (next m w s)) (next m w s))
      → LeadsTo m P (with_step m number s rest w) w
  unfolding run
  one_step P s rest w h = by (refusal m w s) h
    where
      by : (o : Option LineFault)
          → (o ≡ None → LeadsTo m P (rest (next m w s)) (next m w s))
          → LeadsTo m P (unless_refused number o (then_read (s ∷ []) (rest (next m w s)))) w
      by None h r = h refl r
      by (Some why) h r = absurd cc

  alone : (P : Scene → Type 0) (s : Step) (rest : Scene → Reading) → is_elementary s ≡ true
      → Ends m P rest → Ends m P (with_steps m number (s ∷ []) rest)
  unfolding with_steps
  alone P s rest e l w h = one_step P s rest w (λ r. l (next m w s) (going_on m b w h s r e))

  pumped : (P : Scene → Type 0) (most : ℕ) (among : Option (ServerId × ServerId))
      (rest : Scene → Reading) → Ends m P rest
      → Ends m P (λ w. with_steps m number (deliveries m most among w) rest w)
  unfolding with_steps deliveries
  pumped P zero among rest l w h = l w h
  pumped P (suc most) among rest l w h =
      by (due among w) (λ n is. one_step P (step.Deliver n)
      (λ w. with_steps m number (deliveries m most among w) rest w) w (λ r.
      let s = step.Deliver n in
      pumped P most among rest l (next m w s) (going_on m b w h s r refl)))
    where
      by : (o : Option ℕ) → ((n : ℕ) → o ≡ Some n
          → LeadsTo m P (with_step m number (step.Deliver n)
          (λ w. with_steps m number (deliveries m most among w) rest w) w) w)
          → LeadsTo m P (with_steps m number (elim o [
            | None ↦ []
            | Some n ↦ step.Deliver n ∷ deliveries m most among (next m w (step.Deliver n))
          ]) rest w) w
      by None f = l w h
      by (Some n) f = f n refl

  line_ends : (P : Scene → Type 0) (s : Step) (rest : Scene → Reading) → Ends m P rest
      → Ends m P (λ w. with_steps m number (spelled_out m w s) rest w)
  line_ends P (step.Pump among) rest l w h = pumped P most_deliveries among rest l w h
  line_ends P s rest l w h = alone P s rest refl l w h

  -- a line that isn't refused for its place or its length
  meant_ends : (P : Scene → Type 0) (line : List ℕ) (rest : Scene → Reading) (w : Scene)
      → LeadsTo m P (with_given m number (step_or_fault (meaning_of line)) rest w) w
      → LeadsTo m P (with_given m number (given_by number line) rest w) w
  unfolding given_by
  meant_ends P line rest w h =
      by_if (λ (r : Result (Option Step) LineFault). LeadsTo m P (with_given m number r rest w) w)
      (nat_lt 50000 number) (Err fault.TooMany) _ (λ _ r. absurd cc)
      (λ _. by_if (λ (r : Result (Option Step) LineFault). LeadsTo m P
      (with_given m number r rest w) w) (nat_lt 20000 (length line)) (Err fault.TooLong) _
      (λ _ r. absurd cc) (λ _. h))

  given_ends : (P : Scene → Type 0) (line : List ℕ) (rest : Scene → Reading) → Ends m P rest
      → Ends m P (with_given m number (given_by number line) rest)
  given_ends P line rest l w h = meant_ends P line rest w (by (meaning_of line))
    where
      by : (r : Result (Option Step) TextFault)
          → LeadsTo m P (with_given m number (step_or_fault r) rest w) w
      by (Ok None) = l w h
      by (Ok (Some s)) = line_ends P s rest l w h
      by (Err why) = λ r. absurd cc

  -- each delivery leaves fewer packets to be delivered, so a pump ends for want of one that is due
  emptied : (most : ℕ) (among : Option (ServerId × ServerId)) (w : Scene) → IsGoing w
      → left w < most → LeadsTo m (λ w. due among w ≡ None)
      (with_steps m number (deliveries m most among w) (λ w. all_read) w) w
  unfolding with_steps deliveries run
  emptied zero among w h l = absurd (omega (arith, l))
  emptied (suc most) among w h l =
      by (due among w) refl (λ n is. one_step (λ w. due among w ≡ None) (step.Deliver n)
      (λ w. with_steps m number (deliveries m most among w) (λ w. all_read) w) w (λ r.
      let s = step.Deliver n in
      let falls = due_falls m b w h among n is r in
      emptied most among (next m w s) (going_on m b w h s r refl) (omega (arith, falls, l))))
    where
      by : (o : Option ℕ) → due among w ≡ o → ((n : ℕ) → o ≡ Some n
          → LeadsTo m (λ w. due among w ≡ None) (with_step m number (step.Deliver n)
          (λ w. with_steps m number (deliveries m most among w) (λ w. all_read) w) w) w)
          → LeadsTo m (λ w. due among w ≡ None) (with_steps m number (elim o [
            | None ↦ []
            | Some n ↦ step.Deliver n ∷ deliveries m most among (next m w (step.Deliver n))
          ]) (λ w. all_read) w) w
      by None is f = λ r. is
      by (Some n) is f = f n refl

  pump_empties : (among : Option (ServerId × ServerId)) (line : List ℕ)
      → meaning_of line ≡ Ok (Some (step.Pump among)) → (w : Scene) → IsGoing w
      → LeadsTo m (λ w. due among w ≡ None)
      (with_given m number (given_by number line) (λ w. all_read) w) w
  unfolding most_deliveries
  pump_empties among line is w h =
      let few = left_few w h in
      meant_ends (λ w. due among w ≡ None) line (λ w. all_read) w
      (subst (λ (r : Result (Option Step) TextFault). LeadsTo m (λ w. due among w ≡ None)
      (with_given m number (step_or_fault r) (λ w. all_read) w) w) (sym is)
      (emptied most_deliveries among w h (omega (arith, few))))

pub pumps_empty : (m : Measures) → TakeBytes m → (among : Option (ServerId × ServerId))
    (line : List ℕ) → meaning_of line ≡ Ok (Some (step.Pump among)) → (lines : List (List ℕ))
    (number : ℕ)
    → Ends m (λ w. due among w ≡ None) (reading_from m number (lines ++ line ∷ []))
unfolding reading_from
pumps_empty m b among line is [] number w h = pump_empties m b number among line is w h
pumps_empty m b among line is (first ∷ lines) number w h =
    given_ends m b number (λ w. due among w ≡ None) first
    (reading_from m (number + 1) (lines ++ line ∷ []))
    (pumps_empty m b among line is lines (number + 1)) w h

pub pumps_leave_none : (m : Measures) → TakeBytes m → PumpsLeaveNone m
pumps_leave_none m b lines line among is r =
    pumps_empty m b among line is lines 1 _ first_going r
