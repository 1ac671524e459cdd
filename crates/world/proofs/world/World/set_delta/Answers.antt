use Rattle.std.proofs.Common.{ℕ, ap, ◌∙◌}
use Rattle.world.specs.Clocks.{delta_after}
use Rattle.world.specs.World.{WorldValue}
use Rattle.world.specs.contracts.world.World.{the_view}
use Rattle.world.proofs.Quiet.{delta_taken}
use Rattle.world.proofs.world.World.set_delta.Goals as goal

pub returns-clause-taken : goal.returns-clause-taken
returns-clause-taken c =
    let a = c.args in
    let inside : WorldValue = the_view c.self.inside in
    delta_taken a.self.now _ a.millis
    (ap (λ (d : ℕ). record inside { delta = d }) c.delta_after-self-inside.ensures
    ∙ ap (λ (x : WorldValue). record x { delta = delta_after a.self.now.delta a.millis })
    c.self.view_is)
