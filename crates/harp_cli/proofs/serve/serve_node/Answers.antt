use Rattle.std.proofs.Common.{ap}
use Rattle.node_loop.specs.Scene.{around, only}
use Rattle.harp_cli.proofs.ServeLaws.{ends_unattached}
use Rattle.harp_cli.proofs.serve.serve_node.Goals as goal

pub returns-in-Err-clause-ends : goal.returns-in-Err-clause-ends
returns-in-Err-clause-ends g c = ends_unattached _ c.args.runs _ _ _
    (ap (λ d. around (only c.args.place d) (g.L.Link.told c.args.link.now)
    (g.C.Clock.told c.args.clock.now)) c.attach.ensures.kept) c.in-Err.fault
    c.exit_of_store.result c.exit_of_store.ensures
