-- The counting of a play that has come to some place, and what the next step makes of it.
use Rattle.std.proofs.Common.{◌≡◌, ℕ, true, List, [], ◌∷◌, ◌++◌, append-nil, length, sym, ap, ◌∙◌, subst, append_assoc, Option, Some, None}
use Rattle.std.specs.Prelude.{IfSome}
use Rattle.trace_types.specs.declared.line.Line.TheVariants as line
use Rattle.trace_types.specs.declared.line.LineFault.{LineFault}
use Rattle.trace_types.specs.declared.step.Step.{Step}
use Rattle.trace_claims.specs.Trace.{Trace, entries}
use Rattle.group_trace.specs.Refusals.{refusal}
use Rattle.group_trace.specs.Run.{is_elementary, next, run, run_lines, step_lines}
use Rattle.group_trace.specs.Scene.{Measures, Scene, first_scene}
use Rattle.group_trace.specs.DiskCalls.{Spellings, measures_of}
use Rattle.group_trace.specs.DiskRun.{DiskScene, disk_run, first_disk_scene}
use Rattle.schedule_play.specs.declared.refusal.Refusal.{Refusal}
use Rattle.schedule_play.specs.Reading.{Reading, refused_at, then_read, unless_refused, with_step}
use Rattle.schedule_play.specs.Stage.{IsReached, IsRefused, IsTaken, fault_of}
use Rattle.schedule_play.proofs.Runs.{disk_more, disk_scene, reached, run-append, run_lines-append}
use Rattle.schedule_play.proofs.Steps.{Takes}
use Rattle.schedule_play.proofs.TakenLaws.{taken-more}
use Rattle.sweep_player.specs.declared.tally.Tally.{Tally}
use Rattle.sweep_player.specs.Counts.{summary_of_trace}
use Rattle.sweep_player.specs.OnTheWay.{HasAll, HasCounted}
use Rattle.sweep_player.specs.Tally.{IsTallyOf}
use Rattle.sweep_player.proofs.CountLaws.{last-counts}
use Rattle.sweep_player.proofs.TallyLaws.{event-counts}

-- what is still read may be said in other words
pub counted-as : (f : Spellings) (all : Reading) (here there : Scene → Reading) (t : Tally)
    (stands : DiskScene → Type 0) → (h : HasCounted f all here t stands)
    → here (run (measures_of f) first_scene h.done) ≡ there (run (measures_of f) first_scene h.done)
    → HasCounted f all there t stands
counted-as f all here there t stands h is = record {
  done = h.done;
  taken = h.taken;
  reading_is = h.reading_is ∙ ap (λ r. then_read h.done r) is;
  tally = h.tally;
  left = h.left;
}

-- ---- a step that was taken

run_more : (m : Measures) (done : List Step) (s : Step) → next m (run m first_scene done) s
    ≡ run m first_scene (done ++ s ∷ [])
unfolding run
run_more m done s = sym (run-append m first_scene done (s ∷ []))

lines_more : (m : Measures) (done : List Step) (s : Step)
    → run_lines m first_scene done ++ step_lines m (run m first_scene done) s
    ≡ run_lines m first_scene (done ++ s ∷ [])
unfolding run_lines
lines_more m done s =
    ap (λ ls. run_lines m first_scene done ++ ls)
    (sym (append-nil (step_lines m (run m first_scene done) s)))
    ∙ sym (run_lines-append m first_scene done (s ∷ []))

-- the reading goes on behind the step
read_more : (m : Measures) (all : Reading) (number : ℕ) (s : Step) (rest : Scene → Reading)
    (done : List Step)
    → all ≡ then_read done (with_step m number s rest (run m first_scene done))
    → refusal m (run m first_scene done) s ≡ None
    → all ≡ then_read (done ++ s ∷ []) (rest (run m first_scene (done ++ s ∷ [])))
read_more m all number s rest done is taken =
    let r = rest (next m (run m first_scene done) s) in
    is ∙ ap (λ o. then_read done (unless_refused number o (then_read (s ∷ []) r))) taken
    ∙ ap (λ ss. record { steps = ss; refused = r.refused })
    (sym (append_assoc done (s ∷ []) r.steps))
    ∙ ap (λ w. then_read (done ++ s ∷ []) (rest w)) (run_more m done s)

-- a step was taken and the lines behind its event line counted
pub step-counted : (f : Spellings) (all : Reading) (number : ℕ) (rest : Scene → Reading)
    (t t' : Tally) (old new : DiskScene → Type 0) (s : Step) (ls : Trace)
    → is_elementary s ≡ true
    → HasCounted f all (with_step (measures_of f) number s rest) t old
    → Takes f old new s ls
    → ((trace : Trace) → IsTallyOf trace t → IsTallyOf (trace ++ ls) t')
    → HasCounted f all rest t' new
step-counted f all number rest t t' old new s ls e h takes counts = record {
  done = h.done ++ s ∷ [];
  taken = taken-more m first_scene h.done s h.taken free e;
  reading_is = read_more m all number s rest h.done h.reading_is free;
  tally = subst (λ trace. IsTallyOf trace t') lines (counts
      (run_lines m first_scene h.done ++ line.Event s ∷ [])
      (event-counts (run_lines m first_scene h.done) t s h.tally));
  left = subst new (disk_more f h.done s) there.left;
}
  where
    m : Measures
    m = measures_of f

    w : DiskScene
    w = disk_run f first_disk_scene h.done

    there : IsTaken f w s ls new
    there = takes w (reached f h.done h.taken) h.left

    free : refusal m (run m first_scene h.done) s ≡ None
    free = sym (ap (λ x. refusal m x s) (disk_scene f h.done)) ∙ there.not_refused

    lines : (run_lines m first_scene h.done ++ line.Event s ∷ []) ++ ls
        ≡ run_lines m first_scene (h.done ++ s ∷ [])
    lines = append_assoc (run_lines m first_scene h.done) (line.Event s ∷ []) ls
        ∙ ap (λ x. run_lines m first_scene h.done ++ x)
        (there.lines_are ∙ ap (λ x. step_lines m x s) (disk_scene f h.done))
        ∙ lines_more m h.done s

-- ---- the end

abbrev pub ends_read : Option (ℕ × LineFault) → Reading
ends_read refused = record { steps = []; refused = refused }

-- where no step is left, the counts are those of the whole trace
pub has-all : (f : Spellings) (all : Reading) (refused : Option (ℕ × LineFault)) (t : Tally)
    (stands : DiskScene → Type 0) → HasCounted f all (λ w. ends_read refused) t stands
    → HasAll f all t
has-all f all refused t stands h =
    let m = measures_of f in
    let steps : all.steps ≡ h.done =
    ap (λ (x : Reading). x.steps) h.reading_is ∙ append-nil h.done in
    h.tally.summary
    ∙ ap (λ ss. summary_of_trace (run_lines m first_scene ss)) (sym steps)
    ∙ sym (last-counts (run_lines m first_scene all.steps)
    (length (entries (run_lines m first_scene all.steps))) all.refused)

-- a step was refused
pub step-refused : (f : Spellings) (all : Reading) (number : ℕ) (rest : Scene → Reading)
    (t : Tally) (old : DiskScene → Type 0) (s : Step) (why : Refusal) (fault : LineFault)
    → HasCounted f all (with_step (measures_of f) number s rest) t old
    → ((w : DiskScene) → IsReached f w → old w → IsRefused f w s why)
    → fault_of why ≡ Some fault
    → HasAll f all t
step-refused f all number rest t old s why fault h refused is =
    let m = measures_of f in
    let w = run m first_scene h.done in
    let x = disk_run f first_disk_scene h.done in
    let there : refusal m x.scene s ≡ Some fault = subst (λ o. IfSome o (λ y. refusal m x.scene s ≡
    Some y)) is (refused x (reached f h.done h.taken) h.left) in
    has-all f all (Some (number, fault)) t old
    (counted-as f all (with_step m number s rest) (λ w. refused_at number fault) t old h
    (ap (λ o. unless_refused number o (then_read (s ∷ []) (rest (next m w s))))
    (sym (ap (λ v. refusal m v s) (disk_scene f h.done)) ∙ there)))
