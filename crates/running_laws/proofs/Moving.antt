-- Where steps lead, one after the other.
use Rattle.std.proofs.Common.{◌≡◌, true, List, [], ◌∷◌, ◌++◌, None, filter, refl, sym, ap, ◌∙◌, subst, append_assoc, append-nil}
use Rattle.std.specs.List.{AllByRecursion}
use Rattle.std.proofs.lemmas.List.Elements.{filter-append}
use Rattle.group_trace.specs.DiskCalls.{measures_of}
use Rattle.group_trace.specs.DiskRun.{DiskScene, disk_next, disk_run, first_disk_scene}
use Rattle.group_trace.specs.Refusals.{own_refusal}
use Rattle.group_trace.specs.Run.{CanFollow, is_elementary, next, run_lines, step_lines}
use Rattle.schedule_play.proofs.Runs.{disk_run-append}
use Rattle.schedule_play.specs.Stage.{IsReached}
use Rattle.trace_laws.proofs.MoveKinds.{each-append}
use Rattle.trace_types.specs.declared.line.Line.{Line}
use Rattle.trace_types.specs.declared.line.Line.TheVariants as line
use Rattle.trace_types.specs.declared.step.Step.{Step}
use Rattle.world.specs.Steps.{Leads, Takes}
use Rattle.world.specs.World.{IsWorld, WorldValue}
use Rattle.world_rules.specs.Spellings.{spellings}
use Rattle.running_laws.specs.Events.{Event}
use Rattle.running_laws.specs.Follows.{IsAskedStep, LeadsTo}
use Rattle.running_laws.specs.Statement.{is_answer}

-- a scene to which steps lead that ask for what was asked by then, and at which a world stands
pub record IsAt (es : List Event) (w : DiskScene) (x : WorldValue) : Type 0 where
  pub reached : IsReached spellings w
  pub asks : AllByRecursion (IsAskedStep es) reached.steps
  pub stands : IsWorld w x

-- the answers among the lines of steps
abbrev pub answers_of : DiskScene → List Step → List Line
answers_of w ss = filter is_answer (run_lines (measures_of spellings) w.scene ss)

-- steps lead on to a scene at which a world stands, with these answers
pub record LedTo (es : List Event) (w : DiskScene) (x : WorldValue) (said : List Line)
    : Type 0 where
  pub scene : DiskScene
  pub led : LeadsTo w scene
  pub there : IsAt es scene x
  pub says : answers_of w led.steps ≡ said

-- ---- steps, one after the other

taken_on : (w : DiskScene) (ss ts : List Step) → CanFollow (measures_of spellings) w.scene ss
    → CanFollow (measures_of spellings) (disk_run spellings w ss).scene ts
    → CanFollow (measures_of spellings) w.scene (ss ++ ts)
unfolding disk_run
taken_on w [] ts a b = b
taken_on w (s ∷ ss) ts a b = (a.0, a.1, taken_on (disk_next spellings w s) ss ts a.2 b)

pub leads_on : (w v u : DiskScene) → LeadsTo w v → LeadsTo v u → LeadsTo w u
leads_on w v u a b = record {
  steps = a.steps ++ b.steps;
  taken = taken_on w a.steps b.steps a.taken
      (subst (λ (z : DiskScene). CanFollow (measures_of spellings) z.scene b.steps) (sym a.leads)
      b.taken);
  leads = disk_run-append spellings w a.steps b.steps
      ∙ ap (λ z. disk_run spellings z b.steps) a.leads ∙ b.leads;
}

pub leads_nowhere : (w : DiskScene) → LeadsTo w w
unfolding disk_run
leads_nowhere w = record { steps = []; taken = tt; leads = refl }

reached_on : (w v : DiskScene) → IsReached spellings w → LeadsTo w v → IsReached spellings v
reached_on w v r l =
    let first : LeadsTo first_disk_scene w =
    record { steps = r.steps; taken = r.taken; leads = r.leads } in
    let all = leads_on first_disk_scene w v first l in
    record { steps = all.steps; taken = all.taken; leads = all.leads }

-- ---- their answers

lines_on : (w : DiskScene) (ss ts : List Step)
    → run_lines (measures_of spellings) w.scene (ss ++ ts)
    ≡ run_lines (measures_of spellings) w.scene ss
    ++ run_lines (measures_of spellings) (disk_run spellings w ss).scene ts
unfolding disk_run run_lines
lines_on w [] ts = refl
lines_on w (s ∷ ss) ts =
    let m = measures_of spellings in
    ap (λ ls. step_lines m w.scene s ++ ls) (lines_on (disk_next spellings w s) ss ts)
    ∙ sym (append_assoc (step_lines m w.scene s) (run_lines m (next m w.scene s) ss)
    (run_lines m (disk_run spellings (disk_next spellings w s) ss).scene ts))

pub answers_on : (w v u : DiskScene) (a : LeadsTo w v) (b : LeadsTo v u)
    → answers_of w (leads_on w v u a b).steps ≡ answers_of w a.steps ++ answers_of v b.steps
unfolding leads_on
answers_on w v u a b =
    let m = measures_of spellings in
    ap (filter is_answer) (lines_on w a.steps b.steps)
    ∙ filter-append is_answer (run_lines m w.scene a.steps)
    (run_lines m (disk_run spellings w a.steps).scene b.steps)
    ∙ ap (λ (z : DiskScene). answers_of w a.steps ++ answers_of z b.steps) a.leads

pub answers_nowhere : (w : DiskScene) → answers_of w (leads_nowhere w).steps ≡ []
unfolding run_lines leads_nowhere
answers_nowhere w = refl

-- ---- one step

one_step : (w : DiskScene) (s : Step) → own_refusal (measures_of spellings) w.scene.group s ≡ None
    → is_elementary s ≡ true → LeadsTo w (disk_next spellings w s)
unfolding disk_run
one_step w s none one = record { steps = s ∷ []; taken = (none, one, tt); leads = refl }

one_says : (w : DiskScene) (s : Step) (lines : List Line)
    → line.Event s ∷ lines ≡ step_lines (measures_of spellings) w.scene s
    → answers_of w (s ∷ []) ≡ filter is_answer lines
unfolding run_lines
one_says w s lines is = ap (filter is_answer)
    (append-nil (step_lines (measures_of spellings) w.scene s) ∙ sym is)

-- A STEP THAT LEADS ON from this scene, with its answers
pub take_led : (es : List Event) (w : DiskScene) (x y : WorldValue) (s : Step)
    (lines : List Line) → IsAt es w x → IsAskedStep es s → Leads w s lines y
    → own_refusal (measures_of spellings) w.scene.group s ≡ None
    → is_elementary s ≡ true → LedTo es w y (filter is_answer lines)
unfolding one_step reached_on leads_on
take_led es w x y s lines at asked leads none one =
    let led = one_step w s none one in
    record {
      scene = disk_next spellings w s;
      led = led;
      there = record {
        reached = reached_on w (disk_next spellings w s) at.reached led;
        asks = each-append (IsAskedStep es) at.reached.steps (s ∷ []) at.asks (asked, tt);
        stands = leads.left;
      };
      says = one_says w s lines leads.lines_are;
    }

-- and one that is taken in each
pub take_one : (es : List Event) (w : DiskScene) (x y : WorldValue) (s : Step)
    (lines : List Line) → IsAt es w x → IsAskedStep es s
    → Takes x y s lines → own_refusal (measures_of spellings) w.scene.group s ≡ None
    → is_elementary s ≡ true → LedTo es w y (filter is_answer lines)
take_one es w x y s lines at asked takes none one =
    take_led es w x y s lines at asked (takes w at.reached at.stands none) none one

pub led_nowhere : (es : List Event) (w : DiskScene) (x : WorldValue) → IsAt es w x
    → LedTo es w x []
led_nowhere es w x at = record {
  scene = w;
  led = leads_nowhere w;
  there = at;
  says = answers_nowhere w;
}

-- one leads there, and then another one on
pub led_on : (es : List Event) (w : DiskScene) (x y : WorldValue) (said more : List Line)
    → LedTo es w x said → ((v : DiskScene) → IsAt es v x → LedTo es v y more)
    → LedTo es w y (said ++ more)
led_on es w x y said more a next =
    let b = next a.scene a.there in
    record {
      scene = b.scene;
      led = leads_on w a.scene b.scene a.led b.led;
      there = b.there;
      says = answers_on w a.scene b.scene a.led b.led
          ∙ ap (λ ls. ls ++ answers_of a.scene b.led.steps) a.says
          ∙ ap (λ ls. said ++ ls) b.says;
    }
