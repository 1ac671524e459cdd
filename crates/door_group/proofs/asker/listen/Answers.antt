use Rattle.std.proofs.Common.{subst, sym}
use Rattle.door_group.specs.Rule.{EndsRightly}
use Rattle.door_group.specs.declared.brought.Brought.{Brought}
use Rattle.door_group.proofs.Calls.{brings_rightly}
use Rattle.door_group.proofs.asker.listen.Goals as goal

pub returns-in-None-clause-form : goal.returns-in-None-clause-form
returns-in-None-clause-form g c =
    let is = rw c.in-None.ensures.next.0 at c.loop-heard.invariant.brings in
    subst (λ (b : Brought). EndsRightly c.args.call.now b) (sym is)
    (brings_rightly c.args.client c.args.number c.args.call.now
    (g.S.Servers.said c.args.servers.now))
