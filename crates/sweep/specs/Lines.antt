-- The schedule of a seed: the lines that open a view, and then lines that are drawn.
use Rattle.std.specs.Prelude.{ℕ, zero, suc, ◌+◌, ◌≤◌, ◌==◌, ◌&&◌, not, Bool, true, false, List, [], ◌∷◌, ◌++◌, slice_index, slice_set, nat_lt, Option, Some, None, if◌then◌else◌, ◌≡◌}
use Rattle.harp_types.specs.Trio.{value_of, with_value}
use Rattle.harp_types.specs.declared.cred.Cred.{Cred}
use Rattle.harp_types.specs.declared.server.ServerId.{ServerId}
use Rattle.harp_types.specs.declared.server.ServerId.TheVariants.{Zero, One, Two}
use Rattle.harp_types.specs.declared.pick.Pick.TheVariants as pick
use Rattle.trace_types.specs.declared.step.Step.{Step}
use Rattle.trace_types.specs.declared.step.Step.TheVariants as step
use Rattle.sweep.specs.declared.draws.Draws.{Draws}
use Rattle.sweep.specs.declared.generator.Generator.{Generator}
use Rattle.sweep.specs.declared.line_kind.LineKind.{LineKind}
use Rattle.sweep.specs.declared.line_kind.LineKind.TheVariants as kind
use Rattle.sweep.specs.declared.line_kind.ServerLine.{ServerLine}
use Rattle.sweep.specs.declared.line_kind.ServerLine.TheVariants as line
use Rattle.sweep.specs.Draws.{below}
use Rattle.sweep.specs.Calls.{any_call}

-- a step, and the generator after it
abbrev pub Made : Type 0
Made = Step × Generator

-- ---- the generator's picture of the group

abbrev pub with_draws : Generator → Draws → Generator
with_draws g draws = record g { draws = draws }

-- a server is up from now on, or down
abbrev pub with_up : Bool → ServerId → Generator → Generator
with_up is_up server g = record g { up = with_value g.up server is_up }

abbrev pub with_number : ℕ → ℕ → Generator → Generator
with_number client number g = record g { numbers = slice_set g.numbers client number }

abbrev pub superuser : Cred
superuser = record { uid = 0; gid = 0 }

-- ---- the lines

-- the server that is down begins anew
unfoldable pub boot : ServerId → Generator → Made
boot server g = (step.Boot server, with_up true server g)

-- a client's number after its last one, or that one again in one of eight draws, where it has one
abbrev pub number_after : ℕ → ℕ → ℕ
number_after last chance = if (chance == 0) && not (last == 0) then last else last + 1

-- one of four clients asks
unfoldable pub ask_at : ServerId → Generator → Made
ask_at server g =
    let (client, draws) = below 4 g.draws in
    let (chance, draws) = below 8 draws in
    let (call, draws) = any_call draws in
    let number = number_after (slice_index g.numbers client) chance in (
      step.Ask server client number superuser call,
      with_number client number (with_draws g draws),
    )

-- the first of the two that stores copies and is up is asked; where neither is, one begins anew
unfoldable pub ask : Generator → Made
ask g = if g.up.zero then ask_at Zero g else if g.up.one then ask_at One g else boot Zero g

-- a crash that keeps every second change, in one of four draws, or the power fails
unfoldable pub fail : ServerId → Generator → Made
fail server g =
    let (chance, draws) = below 4 g.draws in
    let g = with_up false server (with_draws g draws) in
    if chance == 0 then (step.Crash server (pick.Bits (true ∷ false ∷ [])), g)
    else (step.Power server, g)

-- a line for a server that is up
unfoldable pub line_at : ServerLine → ServerId → Generator → Made
line_at line.Fail server g = fail server g
line_at line.Suspect server g = (step.Suspect server, g)
line_at line.Apply server g = (step.Apply server 8, g)
line_at line.Flush server g = (step.Flush server, g)
line_at line.Tick server g = (step.Tick server, g)

abbrev pub server_of : ℕ → ServerId
server_of number = if number == 0 then Zero else if number == 1 then One else Two

-- a line for any of the servers, which begins anew where it is down
unfoldable pub line_at_any : ServerLine → Generator → Made
line_at_any line g =
    let (number, draws) = below 3 g.draws in
    let server = server_of number in
    let g = with_draws g draws in
    if value_of g.up server then line_at line server g else boot server g

-- from 1 to 1500 milliseconds pass
unfoldable pub advance : Generator → Made
advance g =
    let (millis, draws) = below 1500 g.draws in (step.Advance (millis + 1), with_draws g draws)

abbrev pub pair_of : ℕ → ServerId × ServerId
pair_of number =
    if number == 0 then (Zero, One) else if number == 1 then (Zero, Two) else (One, Two)

-- packets between two of the servers arrive
unfoldable pub pump_two : Generator → Made
pump_two g =
    let (number, draws) = below 3 g.draws in
    (step.Pump (Some (pair_of number)), with_draws g draws)

-- the kinds of lines, by number
abbrev pub line_kind : ℕ → LineKind
line_kind number =
    if nat_lt number 7 then kind.Ask else
    if number == 7 then kind.AtAny line.Fail else
    if number == 8 then kind.AtAny line.Suspect else
    if number == 9 then kind.AtAny line.Apply else
    if number == 10 then kind.AtAny line.Flush else
    if number == 11 then kind.AtAny line.Tick else
    if number == 12 then kind.Advance else
    if number == 13 then kind.PumpTwo else kind.PumpAll

unfoldable pub line_of_kind : LineKind → Generator → Made
line_of_kind kind.Ask g = ask g
line_of_kind (kind.AtAny line) g = line_at_any line g
line_of_kind kind.Advance g = advance g
line_of_kind kind.PumpTwo g = pump_two g
line_of_kind kind.PumpAll g = (step.Pump None, g)

unfoldable pub next_line : Generator → Made
next_line g =
    let (number, draws) = below 16 g.draws in line_of_kind (line_kind number) (with_draws g draws)

-- ---- the schedule

-- all servers are up, and no client has asked
abbrev pub generator_of : ℕ → Generator
generator_of seed = record {
  draws = record { state = seed };
  up = record { zero = true; one = true; two = true };
  numbers = 0 ∷ 0 ∷ 0 ∷ 0 ∷ [];
}

-- no client's number is above this one
abbrev pub AreUpTo : ℕ → Generator → Type 0
AreUpTo most g = (client : ℕ) → slice_index g.numbers client ≤ most

-- so many lines
unfoldable pub drawn_lines : ℕ → Generator → List Step
drawn_lines zero g = []
drawn_lines (suc lines) g = let (step, g) = next_line g in step ∷ drawn_lines lines g

-- server 0 leads a view from these on
unfoldable pub opening : List Step
opening =
    step.Suspect Zero ∷ step.Pump None ∷ step.Advance 2050 ∷ step.Tick Zero ∷ step.Pump None ∷ []

-- the schedule of a seed
unfoldable pub generated : ℕ → ℕ → List Step
generated seed lines = opening ++ drawn_lines lines (generator_of seed)

-- the first of the steps that are left is given, and the others are left then; none is given just
-- where none is left
abbrev pub IsNext : Option Step → List Step → List Step → Type 0
IsNext None left after = (left ≡ []) × (after ≡ [])
IsNext (Some step) left after = left ≡ step ∷ after
