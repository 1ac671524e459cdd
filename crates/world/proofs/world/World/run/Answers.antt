use Rattle.std.proofs.Common.{ap, subst, sym, ◌∙◌}
use Rattle.schedule_play.specs.Stage.{AreReadings}
use Rattle.node_outputs.specs.Said.{said}
use Rattle.world.specs.Turns.{Turns}
use Rattle.world.specs.World.{WorldValue, clocks_in}
use Rattle.world.proofs.world.World.run.Goals as goal

pub run_into-requires-clause-readings : goal.run_into-requires-clause-readings
run_into-requires-clause-readings c =
    subst (λ (x : WorldValue). AreReadings (clocks_in x)) (sym c.in_ok-outs.ensures.still) c.requires

pub run_into-requires-clause-none : goal.run_into-requires-clause-none
run_into-requires-clause-none c =
    ap said c.deref_mut.ensures.value ∙ c.in_ok-outs.ensures.none

pub returns-clause-turns : goal.returns-clause-turns
returns-clause-turns c =
    let a = c.args in
    subst (λ (x : WorldValue). Turns a.self.now x a.server a.input a.lines.now.items
    c.run_into.new.lines.items c.in_ok-listing.listing) (sym c.keep_room.ensures)
    (subst (λ (x : WorldValue). Turns x c.run_into.new.self a.server a.input a.lines.now.items
    c.run_into.new.lines.items c.in_ok-listing.listing) c.in_ok-outs.ensures.still
    c.in_ok-listing.ensures.turns)
