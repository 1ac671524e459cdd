-- Clocks stay far below their bound.
use Rattle.std.proofs.Common.{◌≡◌, ℕ, ◌+◌, ◌*◌, ◌<◌, ◌≤◌, ◌^◌, true, arith, subst, sym}
use Rattle.std.proofs.lemmas.Bool.{leb-true, ltb-true}
use Rattle.harp_types.specs.declared.server.ServerId.TheVariants.{Zero, One, Two}
use Rattle.trace_types.specs.declared.step.Step.{Step}
use Rattle.trace_types.specs.declared.step.Step.TheVariants as step
use Rattle.group_rules.specs.Places.{Trio}
use Rattle.schedule_play.specs.OnTheWay.{AreBelow}
use Rattle.schedule_play.specs.Stage.{AreReadings, clocks_after}
use Rattle.sweep_player.specs.Reading.{moves_within}

pub clocks-near : (clocks : Trio ℕ) (number : ℕ) → number ≤ 50001 → AreBelow number clocks
    → AreReadings clocks
clocks-near clocks number few below =
    let a = below.0 in
    let b = below.1 in
    let c = below.2 in
    (omega (arith, few, a), omega (arith, few, b), omega (arith, few, c))

later : (clocks : Trio ℕ) (number : ℕ) → AreBelow number clocks → AreBelow (number + 1) clocks
later clocks number below =
    let a = below.0 in
    let b = below.1 in
    let c = below.2 in
    (omega (arith, a), omega (arith, b), omega (arith, c))

set : (number reading : ℕ) → reading < 10 ^ 18 → reading < 10 ^ 18 + (number + 1) * 10 ^ 9
set number reading h = omega (arith, h)

added : (number clock millis : ℕ) → clock < 10 ^ 18 + number * 10 ^ 9 → millis ≤ 10 ^ 9
    → clock + millis < 10 ^ 18 + (number + 1) * 10 ^ 9
added number clock millis h k = omega (arith, h, k)

pub clocks-on : (clocks : Trio ℕ) (number : ℕ) (s : Step) → AreBelow number clocks
    → moves_within s ≡ true → AreBelow (number + 1) (clocks_after clocks s)
unfolding moves_within
clocks-on clocks number (step.Clock Zero reading) below near =
    let on = later clocks number below in
    (set number reading (ltb-true reading (10 ^ 18) near), on.1, on.2)
clocks-on clocks number (step.Clock One reading) below near =
    let on = later clocks number below in
    (on.0, set number reading (ltb-true reading (10 ^ 18) near), on.2)
clocks-on clocks number (step.Clock Two reading) below near =
    let on = later clocks number below in
    (on.0, on.1, set number reading (ltb-true reading (10 ^ 18) near))
clocks-on clocks number (step.Advance millis) below near =
    let few = leb-true millis (10 ^ 9) near in (
      added number clocks.zero_th millis below.0 few,
      added number clocks.one_th millis below.1 few,
      added number clocks.two_th millis below.2 few,
    )
clocks-on clocks number (step.Pump among) below near = later clocks number below
clocks-on clocks number (step.Ask server client n cred call) below near =
    later clocks number below
clocks-on clocks number (step.Deliver n) below near = later clocks number below
clocks-on clocks number (step.Tick server) below near = later clocks number below
clocks-on clocks number (step.Suspect server) below near = later clocks number below
clocks-on clocks number (step.Apply server most) below near = later clocks number below
clocks-on clocks number (step.Flush server) below near = later clocks number below
clocks-on clocks number (step.List server) below near = later clocks number below
clocks-on clocks number (step.Boot server) below near = later clocks number below
clocks-on clocks number (step.Power server) below near = later clocks number below
clocks-on clocks number (step.PowerCut server calls pick) below near = later clocks number below
clocks-on clocks number (step.Crash server pick) below near = later clocks number below
clocks-on clocks number (step.Stop server calls pick) below near = later clocks number below
clocks-on clocks number (step.Noise server bytes) below near = later clocks number below
clocks-on clocks number (step.Delta millis) below near = later clocks number below

-- where a step of a list leads
pub line-below : (clocks new : Trio ℕ) (before : ℕ) (s : Step) → AreBelow (before + 1) clocks
    → moves_within s ≡ true → new ≡ clocks_after clocks s → AreBelow (before + 1 + 1) new
line-below clocks new before s below near after =
    subst (AreBelow (before + 1 + 1)) (sym after) (clocks-on clocks (before + 1) s below near)

pub line-readings : (clocks : Trio ℕ) (before : ℕ) (s : Step) → before < 50000
    → AreBelow (before + 1) clocks → moves_within s ≡ true
    → AreReadings (clocks_after clocks s)
line-readings clocks before s within below near =
    clocks-near (clocks_after clocks s) (before + 1 + 1) (omega (arith, within))
    (clocks-on clocks (before + 1) s below near)
