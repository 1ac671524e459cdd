-- Lines are read on where the lines before them have led.
use Rattle.std.proofs.Common.{◌≡◌, ℕ, ◌+◌, List, [], ◌∷◌, ◌++◌, append-nil, length, refl, sym, ap, ◌∙◌, subst, arith, Option, Some, None, Result, Ok, Err}
use Rattle.trace_types.specs.declared.line.LineFault.{LineFault}
use Rattle.trace_types.specs.declared.step.Step.{Step}
use Rattle.line_reader.specs.Lines.{lines_of}
use Rattle.group_trace.specs.Pump.{spelled_out}
use Rattle.group_trace.specs.Refusals.{refusal}
use Rattle.group_trace.specs.Run.{next, run}
use Rattle.group_trace.specs.Scene.{Measures, Scene, first_scene}
use Rattle.group_trace.specs.DiskCalls.{Spellings, measures_of}
use Rattle.group_trace.specs.DiskRun.{DiskScene}
use Rattle.schedule_play.specs.OnTheWay.{GoesOn, HasCome}
use Rattle.schedule_play.specs.Reading.{Reading, all_read, given_by, reading, reading_from, reading_of, then_read, unless_refused, with_given, with_steps}

-- first what is read here, and then the rest where its steps lead
abbrev and_then : Measures → (Scene → Reading) → (Scene → Reading) → Scene → Reading
and_then m here rest w = then_read (here w).steps (rest (run m w (here w).steps))

-- what is read by `whole` is what is read here and then the rest, where no line here is refused
abbrev IsParted : Measures → (Scene → Reading) → (Scene → Reading) → (Scene → Reading) → Type 0
IsParted m whole here rest = (w : Scene) → (here w).refused ≡ None → whole w ≡ and_then m here rest w

one_more : (m : Measures) (s : Step) (here rest : Scene → Reading) (w : Scene)
    → then_read (s ∷ []) (and_then m here rest (next m w s))
    ≡ and_then m (λ v. then_read (s ∷ []) (here (next m v s))) rest w
unfolding run
one_more m s here rest w = refl

steps_parted : (m : Measures) (number : ℕ) (ss : List Step) (whole here rest : Scene → Reading)
    → IsParted m whole here rest
    → IsParted m (with_steps m number ss whole) (with_steps m number ss here) rest
unfolding with_steps run
steps_parted m number [] whole here rest parted w none = parted w none
steps_parted m number (s ∷ ss) whole here rest parted w none =
    by (steps_parted m number ss whole here rest parted (next m w s)) (refusal m w s) none
  where
    more : Reading
    more = with_steps m number ss here (next m w s)

    all : Reading
    all = with_steps m number ss whole (next m w s)

    by : (more.refused ≡ None → all ≡ and_then m (with_steps m number ss here) rest (next m w s))
        → (o : Option LineFault)
        → (unless_refused number o (then_read (s ∷ []) more)).refused ≡ None
        → unless_refused number o (then_read (s ∷ []) all)
        ≡ then_read (unless_refused number o (then_read (s ∷ []) more)).steps
        (rest (run m w (unless_refused number o (then_read (s ∷ []) more)).steps))
    by later None n = ap (λ r. then_read (s ∷ []) r) (later n)
    by later (Some fault) n = absurd cc

given_parted : (m : Measures) (number : ℕ) (given : Result (Option Step) LineFault)
    (whole here rest : Scene → Reading) → IsParted m whole here rest
    → IsParted m (with_given m number given whole) (with_given m number given here) rest
given_parted m number (Ok None) whole here rest parted w none = parted w none
given_parted m number (Ok (Some s)) whole here rest parted w none =
    steps_parted m number (spelled_out m w s) whole here rest parted w none
given_parted m number (Err fault) whole here rest parted w none = absurd cc

-- no line is refused, so the others are read where their steps led
reading_append : (m : Measures) (number : ℕ) (lines more : List (List ℕ))
    → IsParted m (reading_from m number (lines ++ more)) (reading_from m number lines)
    (reading_from m (number + length lines) more)
unfolding reading_from run
reading_append m number [] more w none =
    let same : number + 0 ≡ number = omega arith in
    rw same refl
reading_append m number (line ∷ lines) more w none =
    let count : (number + 1) + length lines ≡ number + length (line ∷ lines) = omega arith in
    subst (λ n. with_given m number (given_by number line)
    (reading_from m (number + 1) (lines ++ more)) w
    ≡ and_then m (with_given m number (given_by number line) (reading_from m (number + 1) lines))
    (reading_from m n more) w) count
    (given_parted m number (given_by number line) (reading_from m (number + 1) (lines ++ more))
    (reading_from m (number + 1) lines) (reading_from m ((number + 1) + length lines) more)
    (reading_append m (number + 1) lines more) w none)

-- the steps of the lines that were read are those that were taken
pub taken-all : (f : Spellings) (read : List (List ℕ)) (before after : Option (List ℕ))
    (stands : DiskScene → Type 0)
    → (h : HasCome f (reading_of (measures_of f) read) (λ w. all_read) before after stands)
    → ((reading_of (measures_of f) read).steps ≡ h.done)
    × ((reading_of (measures_of f) read).refused ≡ None)
taken-all f read before after stands h = (
  ap (λ (r : Reading). r.steps) h.reading_is ∙ append-nil h.done,
  ap (λ (r : Reading). r.refused) h.reading_is,
)

-- further lines are read where the steps of those that were read have led
pub reading-more : (f : Spellings) (text : List ℕ) (number : ℕ) (left before after : Option (List ℕ))
    (stands : DiskScene → Type 0)
    → (h : GoesOn f text number left before after stands) → (more : List (List ℕ))
    → reading_of (measures_of f) (h.read ++ more)
    ≡ then_read h.come.done (reading_from (measures_of f) number more
    (run (measures_of f) first_scene h.come.done))
reading-more f text number left before after stands h more =
    let m = measures_of f in
    let all = taken-all f h.read before after stands h.come in
    let steps = (reading_of m h.read).steps in
    reading_append m 1 h.read more first_scene all.1
    ∙ ap (λ n. then_read steps (reading_from m n more (run m first_scene steps))) (sym h.number_is)
    ∙ ap (λ ss. then_read ss (reading_from m number more (run m first_scene ss))) all.0

pub reads-on : (f : Spellings) (text : List ℕ) (number : ℕ) (left before after : Option (List ℕ))
    (stands : DiskScene → Type 0)
    → (h : GoesOn f text number left before after stands) → (more : List (List ℕ))
    → HasCome f (reading_of (measures_of f) (h.read ++ more))
    (reading_from (measures_of f) number more) before after stands
reads-on f text number left before after stands h more = record {
  done = h.come.done;
  taken = h.come.taken;
  reading_is = reading-more f text number left before after stands h more;
  wrote = h.come.wrote;
  left = h.come.left;
}

-- the lines of the text that are left are still read
pub whole-on : (f : Spellings) (text : List ℕ) (number : ℕ) (left before after : Option (List ℕ))
    (stands : DiskScene → Type 0)
    → (h : GoesOn f text number left before after stands) → (ls : List (List ℕ))
    → lines_of h.rest ≡ ls
    → HasCome f (reading (measures_of f) text) (reading_from (measures_of f) number ls) before after
    stands
whole-on f text number left before after stands h ls are =
    let m = measures_of f in
    subst (λ xs. HasCome f (reading_of m xs) (reading_from m number ls) before after stands)
    (sym (h.lines_are ∙ ap (λ xs. h.read ++ xs) are))
    (reads-on f text number left before after stands h ls)
