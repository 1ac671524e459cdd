-- A step of the world, and where the play has come then.
use Rattle.std.proofs.Common.{◌≡◌, ◌≢◌, ℕ, true, List, [], ◌∷◌, ◌++◌, append-nil, sym, ap, ◌∙◌, subst, append_assoc, Option, Some, None, inl}
use Rattle.std.specs.Prelude.{IfSome}
use Rattle.std.specs.Io.KnownBytes.{Appends}
use Rattle.harp_types.specs.Streams.{GrewByPart}
use Rattle.trace_types.specs.declared.line.LineFault.{LineFault}
use Rattle.trace_types.specs.declared.line.Line.TheVariants as line
use Rattle.trace_types.specs.declared.step.Step.{Step}
use Rattle.trace_claims.specs.Trace.{Trace}
use Rattle.group_trace.specs.Refusals.{refusal}
use Rattle.group_trace.specs.Run.{is_elementary, next, run, run_lines, step_lines}
use Rattle.group_trace.specs.Scene.{Measures, Scene, first_scene}
use Rattle.group_trace.specs.DiskCalls.{Spellings, measures_of}
use Rattle.group_trace.specs.DiskRun.{DiskScene, disk_run, first_disk_scene}
use Rattle.schedule_play.specs.declared.exit.Stop.{Stop}
use Rattle.schedule_play.specs.declared.exit.Stop.TheVariants as stop
use Rattle.schedule_play.specs.declared.refusal.Refusal.{Refusal}
use Rattle.schedule_play.specs.declared.refusal.Refusal.TheVariants as refusals
use Rattle.schedule_play.specs.Ends.{BreaksOff}
use Rattle.schedule_play.specs.OnTheWay.{HasCome, StopGives}
use Rattle.schedule_play.specs.Reading.{Reading, refused_at, then_read, unless_refused, with_step}
use Rattle.schedule_play.specs.Stage.{IsReached, IsRefused, IsTaken, fault_of}
use Rattle.schedule_play.specs.Trace.{trace_text}
use Rattle.schedule_play.proofs.Parts.{breaks_off, comes, rest_lines, stop_gives, text-parts}
use Rattle.schedule_play.proofs.Runs.{disk_more, disk_scene, reached, run-append, run_lines-append}
use Rattle.schedule_play.proofs.TakenLaws.{taken-more}
use Rattle.schedule_play.proofs.TraceTexts.{appends-twice, grew-more, grew-second, trace_text-append}

-- ---- steps that were taken

-- what a world says of a step that it took
abbrev pub Takes : Spellings → (DiskScene → Type 0) → (DiskScene → Type 0) → Step → Trace → Type 0
Takes f old new s ls = (w : DiskScene) → IsReached f w → old w → IsTaken f w s ls new

-- the scene to which steps have led is reached
taken_there : (f : Spellings) (old new : DiskScene → Type 0) (s : Step) (ls : Trace)
    (all : Reading) (rest : Scene → Reading) (before mid : Option (List ℕ))
    → (h : HasCome f all rest before mid old) → Takes f old new s ls
    → IsTaken f (disk_run f first_disk_scene h.done) s ls new
taken_there f old new s ls all rest before mid h takes =
    takes (disk_run f first_disk_scene h.done) (reached f h.done h.taken) h.left

-- it isn't refused there
not_refused : (f : Spellings) (new : DiskScene → Type 0) (done : List Step) (s : Step) (ls : Trace)
    → IsTaken f (disk_run f first_disk_scene done) s ls new
    → refusal (measures_of f) (run (measures_of f) first_scene done) s ≡ None
not_refused f new done s ls t =
    sym (ap (λ w. refusal (measures_of f) w s) (disk_scene f done)) ∙ t.not_refused

-- its event line and the lines behind it are those of the run
lines_there : (f : Spellings) (new : DiskScene → Type 0) (done : List Step) (s : Step) (ls : Trace)
    → IsTaken f (disk_run f first_disk_scene done) s ls new
    → line.Event s ∷ ls ≡ step_lines (measures_of f) (run (measures_of f) first_scene done) s
lines_there f new done s ls t =
    t.lines_are ∙ ap (λ w. step_lines (measures_of f) w s) (disk_scene f done)

run_more : (m : Measures) (done : List Step) (s : Step) → next m (run m first_scene done) s
    ≡ run m first_scene (done ++ s ∷ [])
unfolding run
run_more m done s = sym (run-append m first_scene done (s ∷ []))

-- the reading goes on behind the step
read_more : (m : Measures) (all : Reading) (number : ℕ) (s : Step) (rest : Scene → Reading)
    (done : List Step)
    → all ≡ then_read done (with_step m number s rest (run m first_scene done))
    → refusal m (run m first_scene done) s ≡ None
    → all ≡ then_read (done ++ s ∷ []) (rest (run m first_scene (done ++ s ∷ [])))
read_more m all number s rest done is taken =
    let r = rest (next m (run m first_scene done) s) in
    is ∙ ap (λ o. then_read done (unless_refused number o (then_read (s ∷ []) r))) taken
    ∙ ap (λ ss. record { steps = ss; refused = r.refused })
    (sym (append_assoc done (s ∷ []) r.steps))
    ∙ ap (λ w. then_read (done ++ s ∷ []) (rest w)) (run_more m done s)

-- the lines of a step are the text that comes next
step_text_next : (m : Measures) (done : List Step) (s : Step) (ls : Trace)
    → ls ≡ step_lines m (run m first_scene done) s
    → trace_text (run_lines m first_scene done) ++ trace_text ls
    ≡ trace_text (run_lines m first_scene (done ++ s ∷ []))
unfolding run_lines
step_text_next m done s ls are =
    let w = run m first_scene done in
    sym (trace_text-append (run_lines m first_scene done) ls)
    ∙ ap (λ x. trace_text (run_lines m first_scene done ++ x))
    (are ∙ sym (append-nil (step_lines m w s)))
    ∙ ap trace_text (sym (run_lines-append m first_scene done (s ∷ [])))

-- the text of its event line, and behind it that of the others
pub step-told : (s : Step) (ls : Trace) (begun : List ℕ) → begun ≡ trace_text (line.Event s ∷ [])
    → begun ++ trace_text ls ≡ trace_text (line.Event s ∷ ls)
step-told s ls begun is =
    ap (λ t. t ++ trace_text ls) is ∙ sym (trace_text-append (line.Event s ∷ []) ls)

-- a step was taken and its lines written
pub steps-on : (f : Spellings) (all : Reading) (number : ℕ) (rest : Scene → Reading)
    (before mid after : Option (List ℕ)) (old new : DiskScene → Type 0) (s : Step) (ls : Trace)
    → is_elementary s ≡ true
    → HasCome f all (with_step (measures_of f) number s rest) before mid old
    → Takes f old new s ls → Appends mid after (trace_text (line.Event s ∷ ls))
    → HasCome f all rest before after new
steps-on f all number rest before mid after old new s ls e h takes wrote =
    let m = measures_of f in
    let t = taken_there f old new s ls all (with_step m number s rest) before mid h takes in
    let free = not_refused f new h.done s ls t in
    record {
      done = h.done ++ s ∷ [];
      taken = taken-more m first_scene h.done s h.taken free e;
      reading_is = read_more m all number s rest h.done h.reading_is free;
      wrote = subst (Appends before after)
          (step_text_next m h.done s (line.Event s ∷ ls) (lines_there f new h.done s ls t))
          (appends-twice before mid after (trace_text (run_lines m first_scene h.done))
          (trace_text (line.Event s ∷ ls)) h.wrote wrote);
      left = subst new (disk_more f h.done s) t.left;
    }

-- a step was taken, and a first part of its lines written
pub step-stopped : (f : Spellings) (all : Reading) (number : ℕ) (rest : Scene → Reading)
    (before mid after : Option (List ℕ)) (old new : DiskScene → Type 0) (s : Step) (ls : Trace)
    (cause : Stop) → HasCome f all (with_step (measures_of f) number s rest) before mid old
    → Takes f old new s ls
    → (cause ≡ stop.SourceFailed → ⊥) → GrewByPart mid after (trace_text (line.Event s ∷ ls))
    → StopGives f all before after new cause
step-stopped f all number rest before mid after old new s ls cause h takes own grew =
    let first = trace_text (run_lines m first_scene h.done) in
    stop_gives f all before after new cause own
    (inl (record {
      done = h.done;
      last = s;
      later = r.steps;
      parts = ap (λ (x : Reading). x.steps) is ∙ append_assoc h.done (s ∷ []) r.steps;
      wrote = subst (BreaksOff before after (run_lines m first_scene h.done)) are
          (breaks_off before mid after (run_lines m first_scene h.done) (line.Event s ∷ ls)
          h.wrote grew);
      left = subst new (disk_more f h.done s) t.left;
    }))
    (subst (GrewByPart before after) (sym (text-parts m all done r is))
    (grew-more before after (trace_text (run_lines m first_scene done))
    (trace_text (rest_lines m done r))
    (subst (GrewByPart before after) (step_text_next m h.done s (line.Event s ∷ ls) are)
    (grew-second before mid after first (trace_text (line.Event s ∷ ls)) h.wrote grew))))
  where
    m : Measures
    m = measures_of f

    t : IsTaken f (disk_run f first_disk_scene h.done) s ls new
    t = taken_there f old new s ls all (with_step m number s rest) before mid h takes

    are : line.Event s ∷ ls ≡ step_lines m (run m first_scene h.done) s
    are = lines_there f new h.done s ls t

    done : List Step
    done = h.done ++ s ∷ []

    r : Reading
    r = rest (run m first_scene done)

    is : all ≡ then_read done r
    is = read_more m all number s rest h.done h.reading_is (not_refused f new h.done s ls t)

-- ---- steps that were refused

-- a step was refused for a fault of its line
pub step-refused : (f : Spellings) (all : Reading) (number : ℕ) (rest : Scene → Reading)
    (before mid : Option (List ℕ)) (old : DiskScene → Type 0) (s : Step) (why : Refusal)
    (fault : LineFault) → HasCome f all (with_step (measures_of f) number s rest) before mid old
    → ((w : DiskScene) → IsReached f w → old w → IsRefused f w s why)
    → fault_of why ≡ Some fault
    → HasCome f all (λ w. refused_at number fault) before mid old
step-refused f all number rest before mid old s why fault h refused is =
    let m = measures_of f in
    let w = run m first_scene h.done in
    let x = disk_run f first_disk_scene h.done in
    let there : refusal m x.scene s ≡ Some fault = subst (λ o. IfSome o (λ y. refusal m x.scene s ≡
    Some y)) is (refused x (reached f h.done h.taken) h.left) in
    comes f all (with_step m number s rest) (λ w. refused_at number fault) before mid old h
    (ap (λ o. unless_refused number o (then_read (s ∷ []) (rest (next m w s))))
    (sym (ap (λ v. refusal m v s) (disk_scene f h.done)) ∙ there))

-- a fault of a line is no want of memory
pub fault-not-memory : (why : Refusal) (fault : LineFault) → fault_of why ≡ Some fault
    → why ≢ refusals.NoMemory
fault-not-memory why fault is none =
    let no : None ≡ Some fault = sym (ap fault_of none) ∙ is in absurd cc
