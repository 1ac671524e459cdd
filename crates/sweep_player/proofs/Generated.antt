-- Each generated step has a short line.
use Rattle.std.proofs.Common.{ℕ, zero, suc, ◌≤◌, ◌==◌, Bool, true, false, List, [], ◌∷◌, length, All, Option, Some, None, if◌then◌else◌, arith}
use Rattle.std.specs.List.{AllByRecursion}
use Rattle.std.proofs.lemmas.List.{length-append, length-map}
use Rattle.std.proofs.lemmas.List.Elements.{recursion_from_All}
use Rattle.harp_types.specs.Trio.{value_of}
use Rattle.harp_types.specs.declared.server.ServerId.{ServerId}
use Rattle.text_spelling.specs.Text.{among_text, ask_head}
use Rattle.text_spelling.specs.StepFits.{PickFits, StepFits}
use Rattle.text_spelling.specs.Steps.{bits_text, pick_text, step_text}
use Rattle.harp_types.specs.declared.pick.Pick.{Pick}
use Rattle.harp_types.specs.declared.pick.Pick.TheVariants as pick
use Rattle.trace_types.specs.declared.step.Step.{Step}
use Rattle.trace_types.specs.declared.step.Step.TheVariants as step
use Rattle.accept_laws.proofs.Texts.{short_call, short_count, short_cred, short_number, short_server}
use Rattle.sweep.specs.declared.generator.Generator.{Generator}
use Rattle.sweep.specs.declared.line_kind.LineKind.{LineKind}
use Rattle.sweep.specs.declared.line_kind.LineKind.TheVariants as kind
use Rattle.sweep.specs.declared.line_kind.ServerLine.{ServerLine}
use Rattle.sweep.specs.declared.line_kind.ServerLine.TheVariants as line
use Rattle.sweep.specs.Draws.{below}
use Rattle.sweep.specs.Lines.{Made, advance, ask, ask_at, boot, drawn_lines, fail, generated, generator_of, line_at, line_at_any, line_kind, line_of_kind, next_line, opening, pump_two, server_of, with_draws}

abbrev pub HasShortLine : Step → Type 0
HasShortLine s = StepFits s × (length (step_text s) ≤ 19998)

-- ---- a step that brings no noise has a short line

abbrev IsQuiet : Step → Type 0
IsQuiet (step.Noise server bytes) = ⊥
IsQuiet s = Unit {0}

short_pick : (p : Pick) → PickFits p → length (pick_text p) ≤ 64
unfolding bits_text
short_pick pick.All f = omega arith
short_pick pick.None f = omega arith
short_pick (pick.Bits bits) f = let few = f.1 in simp length-map (omega (arith, few))

short_among : (among : Option (ServerId × ServerId)) → length (among_text among) ≤ 30
unfolding among_text
short_among None = omega arith
short_among (Some pair) =
    let a = short_server pair.0 in
    let b = short_server pair.1 in
    simp length-append (omega (arith, a, b))

short_step : (s : Step) → IsQuiet s → StepFits s → length (step_text s) ≤ 19998
unfolding step_text ask_head
short_step (step.Ask server client number cred call) q f =
    let s = short_server server in
    let c = short_number client f.0 in
    let n = short_count number f.1 in
    let u = short_cred cred f.2 in
    let a = short_call call f.3 in
    simp length-append (omega (arith, s, c, n, u, a))
short_step (step.Deliver packet) q f =
    let n = short_count packet f in simp length-append (omega (arith, n))
short_step (step.Pump among) q f =
    let a = short_among among in simp length-append (omega (arith, a))
short_step (step.Tick server) q f =
    let s = short_server server in simp length-append (omega (arith, s))
short_step (step.Suspect server) q f =
    let s = short_server server in simp length-append (omega (arith, s))
short_step (step.Apply server most) q f =
    let s = short_server server in
    let few = f.1 in
    let n = short_number most (omega (arith, few)) in
    simp length-append (omega (arith, s, n))
short_step (step.Flush server) q f =
    let s = short_server server in simp length-append (omega (arith, s))
short_step (step.List server) q f =
    let s = short_server server in simp length-append (omega (arith, s))
short_step (step.Boot server) q f =
    let s = short_server server in simp length-append (omega (arith, s))
short_step (step.Power server) q f =
    let s = short_server server in simp length-append (omega (arith, s))
short_step (step.PowerCut server calls p) q f =
    let s = short_server server in
    let n = short_count calls f.0 in
    let b = short_pick p f.1 in
    simp length-append (omega (arith, s, n, b))
short_step (step.Crash server p) q f =
    let s = short_server server in
    let b = short_pick p f in
    simp length-append (omega (arith, s, b))
short_step (step.Stop server calls p) q f =
    let s = short_server server in
    let few = f.0 in
    let n = short_number calls (omega (arith, few)) in
    let b = short_pick p f.1 in
    simp length-append (omega (arith, s, n, b))
short_step (step.Noise server bytes) q f = absurd q
short_step (step.Clock server reading) q f =
    let s = short_server server in
    let n = short_count reading f in
    simp length-append (omega (arith, s, n))
short_step (step.Advance millis) q f =
    let n = short_number millis (omega (arith, f)) in simp length-append (omega (arith, n))
short_step (step.Delta millis) q f =
    let few = f.1 in
    let n = short_number millis (omega (arith, few)) in
    simp length-append (omega (arith, n))

-- ---- no generated step brings noise

one_of : (b : Bool) (x y : Made) → IsQuiet x.0 → IsQuiet y.0 → IsQuiet (if b then x else y).0
one_of true x y left right = left
one_of false x y left right = right

ask-quiet : (g : Generator) → IsQuiet (ask g).0
unfolding ask ask_at boot
ask-quiet g = one_of g.up.zero _ _ tt (one_of g.up.one _ _ tt tt)

line_at-quiet : (kind : ServerLine) (server : ServerId) (g : Generator)
    → IsQuiet (line_at kind server g).0
unfolding line_at fail
line_at-quiet line.Fail server g = one_of ((below 4 g.draws).0 == 0) _ _ tt tt
line_at-quiet line.Suspect server g = tt
line_at-quiet line.Apply server g = tt
line_at-quiet line.Flush server g = tt
line_at-quiet line.Tick server g = tt

kind-quiet : (kind : LineKind) (g : Generator) → IsQuiet (line_of_kind kind g).0
unfolding line_of_kind line_at_any boot advance pump_two
kind-quiet kind.Ask g = ask-quiet g
kind-quiet (kind.AtAny line) g =
    let (number, draws) = below 3 g.draws in
    let server = server_of number in
    one_of (value_of g.up server) _ _ (line_at-quiet line server (with_draws g draws)) tt
kind-quiet kind.Advance g = tt
kind-quiet kind.PumpTwo g = tt
kind-quiet kind.PumpAll g = tt

next_line-quiet : (g : Generator) → IsQuiet (next_line g).0
unfolding next_line
next_line-quiet g =
    let (number, draws) = below 16 g.draws in kind-quiet (line_kind number) (with_draws g draws)

drawn-quiet : (lines : ℕ) (g : Generator) → AllByRecursion IsQuiet (drawn_lines lines g)
unfolding drawn_lines
drawn-quiet zero g = tt
drawn-quiet (suc lines) g = (next_line-quiet g, drawn-quiet lines (next_line g).1)

generated-quiet : (seed lines : ℕ) → AllByRecursion IsQuiet (generated seed lines)
unfolding generated opening
generated-quiet seed lines = (tt, (tt, (tt, (tt, (tt, drawn-quiet lines (generator_of seed))))))

-- ---- so each has a short line

have_lines : (steps : List Step) → AllByRecursion IsQuiet steps → AllByRecursion StepFits steps
    → AllByRecursion HasShortLine steps
have_lines [] q f = tt
have_lines (s ∷ steps) q f = ((f.0, short_step s q.0 f.0), have_lines steps q.1 f.1)

pub generated_have_lines : (seed lines : ℕ) → All StepFits (generated seed lines)
    → AllByRecursion HasShortLine (generated seed lines)
generated_have_lines seed lines fit =
    have_lines (generated seed lines) (generated-quiet seed lines)
    (recursion_from_All StepFits (generated seed lines) fit)
