use Rattle.std.proofs.Common.{◌≡◌, true, false, sym, ap, ◌∙◌, arith}
use Rattle.std.proofs.lemmas.Bool.{le-ltb}
use Rattle.harp_types.specs.Trio.{value_of}
use Rattle.world.specs.World.{WorldValue}
use Rattle.world.proofs.Refusals.{clock_right}
use Rattle.world.proofs.world.World.clock_refusal.Goals as goal

pub returns-then-stays_near : goal.returns-then-stays_near
returns-then-stays_near c w h =
    let a = c.args in
    let clock : c.get.result.now ≡ value_of a.self.now.clocks a.server = c.get.ensures
    ∙ ap (λ (x : WorldValue). value_of x.clocks a.server) c.self.view_is in
    clock_right w a.self.now h a.server a.reading true
    (le-ltb a.reading (value_of a.self.now.clocks a.server) (omega (arith, clock)))
    (sym c.if-stays_near.true ∙ c.stays_near.ensures)

pub returns-else-stays_near : goal.returns-else-stays_near
returns-else-stays_near c w h =
    let a = c.args in
    let clock : c.get.result.now ≡ value_of a.self.now.clocks a.server = c.get.ensures
    ∙ ap (λ (x : WorldValue). value_of x.clocks a.server) c.self.view_is in
    clock_right w a.self.now h a.server a.reading false
    (le-ltb a.reading (value_of a.self.now.clocks a.server) (omega (arith, clock)))
    (sym c.if-stays_near.false ∙ c.stays_near.ensures)
