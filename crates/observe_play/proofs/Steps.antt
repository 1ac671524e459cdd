-- A step of either kind, and where the play has come then.
use Rattle.std.proofs.Common.{◌≡◌, ℕ, true, List, [], ◌∷◌, ◌++◌, append-nil, refl, sym, ap, ◌∙◌}
use Rattle.std.proofs.Common.{subst, append_assoc, Option, Some, None, inl}
use Rattle.std.specs.Io.KnownBytes.{Appends}
use Rattle.harp_types.specs.Streams.{GrewByPart}
use Rattle.trace_types.specs.declared.line.LineFault.{LineFault}
use Rattle.group_trace.specs.Scene.{Measures}
use Rattle.group_trace.specs.DiskCalls.{Spellings, measures_of}
use Rattle.group_trace.specs.DiskRun.{DiskScene}
use Rattle.schedule_play.specs.declared.exit.Stop.{Stop}
use Rattle.schedule_play.specs.declared.exit.Stop.TheVariants as stop
use Rattle.schedule_play.proofs.TraceTexts.{appends-twice, grew-more, grew-second}
use Rattle.observed_text.specs.declared.step.ObservedStep.{ObservedStep}
use Rattle.observe_laws.specs.Reading.{ObservedReading, observed_refused_at, then_observed}
use Rattle.observe_laws.specs.Reading.{unless_observed_refused, with_observed}
use Rattle.observe_laws.specs.Run.{is_observed_elementary, observed_lines, observed_next}
use Rattle.observe_laws.specs.Run.{observed_refusal, observed_run, observed_run_lines}
use Rattle.observe_laws.specs.Scene.{ObservedScene, first_observed}
use Rattle.observe_laws.specs.Trace.{ObservedTrace, observed_trace_text}
use Rattle.observe_laws.proofs.Taken.{observed-more}
use Rattle.observe_laws.proofs.Traced.{observed_lines-append}
use Rattle.observe_play.specs.Ends.{BreaksObserved, StandsAfter, lines_after}
use Rattle.observe_play.specs.OnTheWay.{HasObserved, ObservedStop}
use Rattle.observe_play.specs.Watch.{StandsAt, WatchValue}
use Rattle.observe_play.proofs.Parts.{breaks_off, comes, rest_lines, stop_gives, text-parts}
use Rattle.observe_play.proofs.Runs.{next_there, scene_after}
use Rattle.observe_play.proofs.TraceTexts.{observed_trace_text-append}

-- a step of the line with this number is read, and then the rest where it leads
abbrev pub with_one : Measures → ℕ → ObservedStep → (ObservedScene → ObservedReading)
    → ObservedScene → ObservedReading
with_one m number s rest w = with_observed m number (s ∷ []) rest w

-- the reading of some steps, from its first
pub one_more : (m : Measures) (number : ℕ) (s : ObservedStep) (ss : List ObservedStep)
    (rest later : ObservedScene → ObservedReading) (w : ObservedScene)
    → with_observed m number ss rest (observed_next m w s) ≡ later (observed_next m w s)
    → with_observed m number (s ∷ ss) rest w ≡ with_one m number s later w
unfolding with_observed
one_more m number s ss rest later w is =
    ap (λ (r : ObservedReading). unless_observed_refused number (observed_refusal m w s)
    (then_observed (s ∷ []) r)) is

pub none_more : (m : Measures) (number : ℕ) (rest : ObservedScene → ObservedReading)
    (w : ObservedScene) → with_observed m number [] rest w ≡ rest w
unfolding with_observed
none_more m number rest w = refl

-- A step was taken where these have led: it isn't refused there, these are its lines, the world
-- stands where it leads, and so does the observer of now
pub record IsStep (f : Spellings) (done : List ObservedStep) (s : ObservedStep)
    (ls : ObservedTrace) (new : DiskScene → Type 0) (x : WatchValue) : Type 0 where
  pub free : observed_refusal (measures_of f) (scene_after f done) s ≡ None
  pub plain : is_observed_elementary s ≡ true
  pub lines_are : ls ≡ observed_lines (measures_of f) (scene_after f done) s
  pub left : StandsAfter f new (done ++ s ∷ [])
  pub watch : StandsAt (scene_after f (done ++ s ∷ [])) x

-- the reading goes on behind the step
read_more : (m : Measures) (all : ObservedReading) (number : ℕ) (s : ObservedStep)
    (rest : ObservedScene → ObservedReading) (done : List ObservedStep)
    → all ≡ then_observed done (with_one m number s rest (observed_run m first_observed done))
    → observed_refusal m (observed_run m first_observed done) s ≡ None
    → all ≡ then_observed (done ++ s ∷ [])
    (rest (observed_run m first_observed (done ++ s ∷ [])))
unfolding with_observed
read_more m all number s rest done is free =
    let r = rest (observed_next m (observed_run m first_observed done) s) in
    is
    ∙ ap (λ o. then_observed done (unless_observed_refused number o (then_observed (s ∷ []) r)))
    free
    ∙ ap (λ (ss : List ObservedStep). record { steps = ss; refused = r.refused })
    (sym (append_assoc done (s ∷ []) r.steps))
    ∙ ap (λ w. then_observed (done ++ s ∷ []) (rest w)) (next_there m done s)

-- the lines of a step are the text that comes next
text_next : (m : Measures) (done : List ObservedStep) (s : ObservedStep) (ls : ObservedTrace)
    → ls ≡ observed_lines m (observed_run m first_observed done) s
    → observed_trace_text (observed_run_lines m first_observed done) ++ observed_trace_text ls
    ≡ observed_trace_text (observed_run_lines m first_observed (done ++ s ∷ []))
unfolding observed_run_lines
text_next m done s ls are =
    let w = observed_run m first_observed done in
    let first = observed_run_lines m first_observed done in
    sym (observed_trace_text-append first ls)
    ∙ ap (λ (x : ObservedTrace). observed_trace_text (first ++ x))
    (are ∙ sym (append-nil (observed_lines m w s)))
    ∙ ap observed_trace_text (sym (observed_lines-append m first_observed done (s ∷ [])))

-- a step was taken and its lines written
pub steps-on : (f : Spellings) (all : ObservedReading) (number : ℕ) (s : ObservedStep)
    (rest : ObservedScene → ObservedReading) (before mid after : Option (List ℕ))
    (old new : DiskScene → Type 0) (x y : WatchValue) (ls : ObservedTrace)
    → (h : HasObserved f all (with_one (measures_of f) number s rest) before mid old x)
    → IsStep f h.done s ls new y → Appends mid after (observed_trace_text ls)
    → HasObserved f all rest before after new y
steps-on f all number s rest before mid after old new x y ls h t wrote =
    let m = measures_of f in
    record {
      done = h.done ++ s ∷ [];
      taken = observed-more m first_observed h.done s h.taken t.free t.plain;
      reading_is = read_more m all number s rest h.done h.reading_is t.free;
      wrote = subst (Appends before after) (text_next m h.done s ls t.lines_are)
          (appends-twice before mid after (observed_trace_text (lines_after f h.done))
          (observed_trace_text ls) h.wrote wrote);
      left = t.left;
      watch = t.watch;
    }

-- a step was taken, and a first part of its lines written
pub step-stopped : (f : Spellings) (all : ObservedReading) (number : ℕ) (s : ObservedStep)
    (rest : ObservedScene → ObservedReading) (before mid after : Option (List ℕ))
    (old new : DiskScene → Type 0) (x y : WatchValue) (ls : ObservedTrace) (cause : Stop)
    → (h : HasObserved f all (with_one (measures_of f) number s rest) before mid old x)
    → IsStep f h.done s ls new y → (cause ≡ stop.SourceFailed → ⊥)
    → GrewByPart mid after (observed_trace_text ls)
    → ObservedStop f all before after new cause
step-stopped f all number s rest before mid after old new x y ls cause h t own grew =
    stop_gives f all before after new cause own
    (inl (record {
      done = h.done;
      last = s;
      later = r.steps;
      parts = ap (λ (a : ObservedReading). a.steps) is ∙ append_assoc h.done (s ∷ []) r.steps;
      wrote = subst (BreaksObserved before after (lines_after f h.done)) t.lines_are
          (breaks_off before mid after (lines_after f h.done) ls h.wrote grew);
      left = t.left;
    }))
    (subst (GrewByPart before after) (sym (text-parts m all done r is))
    (grew-more before after (observed_trace_text (lines_after f done))
    (observed_trace_text (rest_lines m done r))
    (subst (GrewByPart before after) (text_next m h.done s ls t.lines_are)
    (grew-second before mid after (observed_trace_text (lines_after f h.done))
    (observed_trace_text ls) h.wrote grew))))
  where
    m : Measures
    m = measures_of f

    done : List ObservedStep
    done = h.done ++ s ∷ []

    r : ObservedReading
    r = rest (scene_after f done)

    is : all ≡ then_observed done r
    is = read_more m all number s rest h.done h.reading_is t.free

-- a step is refused where these have led
fault_there : (m : Measures) (number : ℕ) (s : ObservedStep)
    (rest : ObservedScene → ObservedReading) (w : ObservedScene) (fault : LineFault)
    → observed_refusal m w s ≡ Some fault
    → with_one m number s rest w ≡ observed_refused_at number fault
unfolding with_observed
fault_there m number s rest w fault is =
    ap (λ o. unless_observed_refused number o
    (then_observed (s ∷ []) (rest (observed_next m w s)))) is

-- a step was refused for a fault of its line
pub step-refused : (f : Spellings) (all : ObservedReading) (number : ℕ) (s : ObservedStep)
    (rest : ObservedScene → ObservedReading) (before mid : Option (List ℕ))
    (old : DiskScene → Type 0) (x : WatchValue) (fault : LineFault)
    → (h : HasObserved f all (with_one (measures_of f) number s rest) before mid old x)
    → observed_refusal (measures_of f) (scene_after f h.done) s ≡ Some fault
    → HasObserved f all (λ w. observed_refused_at number fault) before mid old x
step-refused f all number s rest before mid old x fault h is =
    comes f all (with_one (measures_of f) number s rest) (λ w. observed_refused_at number fault)
    before mid old x h (fault_there (measures_of f) number s rest (scene_after f h.done) fault is)
