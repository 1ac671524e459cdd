use Rattle.std.proofs.Common.{None, Some, subst, sym}
use Rattle.std.specs.Prelude.{IfOk}
use Rattle.observe_play.specs.OnTheWay.{Makes}
use Rattle.observe_play.proofs.WatchGives.{does_all, does_so}
use Rattle.observed_text.specs.declared.step.Act.{Act}
use Rattle.observed_text.specs.declared.step.Act.TheVariants as act
use Rattle.observe_play.proofs.acting.give.Goals as goal

pub returns-in-Copy-clause-made : goal.returns-in-Copy-clause-made
returns-in-Copy-clause-made g c =
    let f = g.W.Stage.spellings in
    let here = g.W.Stage.stands c.args.world.now in
    subst (λ (a : Act). Makes f here here c.args.watch.now c.copy.new.self a None)
    (sym c.in-Copy.is)
    (does_so f here c.args.watch.now c.copy.new.self act.Copy None c.copy.ensures)

pub returns-in-Ok-clause-made : goal.returns-in-Ok-clause-made
returns-in-Ok-clause-made g c =
    subst (λ (a : Act). Makes g.W.Stage.spellings (g.W.Stage.stands c.args.world.now)
    (g.W.Stage.stands c.want.new.world) c.args.watch.now c.want.new.self a (Some c.in-Ok.line))
    (sym c.in-Want.is) c.in-Ok.ensures.made

pub returns-in-Take-clause-made : goal.returns-in-Take-clause-made
returns-in-Take-clause-made g c =
    let f = g.W.Stage.spellings in
    let here = g.W.Stage.stands c.args.world.now in
    subst (λ (a : Act). IfOk c.take.result
    (Makes f here here c.args.watch.now c.take.new.self a)) (sym c.in-Take.is)
    (does_all f here c.args.watch.now c.take.new.self (act.Take c.in-Take.packet) c.take.result
    c.take.ensures.done)

pub returns-in-Ok-peek-clause-made : goal.returns-in-Ok-peek-clause-made
returns-in-Ok-peek-clause-made g c =
    let f = g.W.Stage.spellings in
    let here = g.W.Stage.stands c.args.world.now in
    subst (λ (a : Act). Makes f here here c.args.watch.now c.peek.new.self a
    (Some c.in-Ok-peek.line)) (sym c.in-Peek.is)
    (does_so f here c.args.watch.now c.peek.new.self (act.Peek c.in-Peek.call)
    (Some c.in-Ok-peek.line) c.in-Ok-peek.ensures)
