use Rattle.std.proofs.Common.{ap}
use Rattle.node_loop.specs.Scene.{around}
use Rattle.harp_cli.proofs.ServeLaws.{ends_cut_off, ends_unattached}
use Rattle.harp_cli.proofs.serve.serve_group.Goals as goal

pub returns-in-Err-clause-ends : goal.returns-in-Err-clause-ends
returns-in-Err-clause-ends g c = ends_unattached _ c.args.runs _ _ _
    (ap (λ ds. around ds (g.L.Link.told c.args.link.now) (g.C.Clock.told c.args.clock.now))
    c.attach_all.ensures.kept) c.in-Err.fault
    c.exit_of_store.result c.exit_of_store.ensures

pub returns-in-Err-serve_three-clause-ends : goal.returns-in-Err-serve_three-clause-ends
returns-in-Err-serve_three-clause-ends g c = ends_cut_off _ c.args.runs _ _ _ _ _
    c.attach_all.ensures.kept c.promises.ensures c.in-Err-serve_three.ensures.cut
    c.in-Err-serve_three.fault c.exit_of_loop.result c.exit_of_loop.ensures
