use Rattle.std.proofs.Common.{◌∙◌, ap, refl, subst}
use Rattle.harp_store.specs.Disk.{Moments}
use Rattle.std.specs.Prelude.{Option}
use Rattle.node_loop.specs.Stay.{outer_of}
use Rattle.harpd.specs.Serve.{Leaves, outer}
use Rattle.harpd.proofs.ServeLaws.{attached, ends_cut_off, ends_stayed, ends_unstarted}
use Rattle.harpd.proofs.serve.serve.Goals as goal

pub returns-in-Err-clause-ends : goal.returns-in-Err-clause-ends
returns-in-Err-clause-ends g c =
    let o = outer_of g.L.Link.told g.L.Link.unsent g.D.Store.told g.C.Clock.told g.O.Orders.told
    g.W.Watcher.told c.args.outside.now in
    let written = g.K.Sink.written c.args.sink.now in
    ends_unstarted c.args.place c.args.runs c.args.folder.now _ _
    (ap (λ (d : Option Moments). outer (attached d o) (g.F.Folders.done c.enter.new.self)
    written) c.in-Err.ensures.kept
    ∙ ap (λ f. outer o f written) c.in-Err.ensures.refused)
    c.in-Err.fault c.exit_of_store.result c.exit_of_store.ensures

pub returns-in-Ok-serve_steady-clause-ends : goal.returns-in-Ok-serve_steady-clause-ends
returns-in-Ok-serve_steady-clause-ends g c = ends_stayed c.args.place c.args.runs
    c.args.folder.now
    (outer (outer_of g.L.Link.told g.L.Link.unsent g.D.Store.told g.C.Clock.told g.O.Orders.told
    g.W.Watcher.told c.args.outside.now) (g.F.Folders.done c.args.folders.now)
    (g.K.Sink.written c.args.sink.now))
    (outer (outer_of g.L.Link.told g.L.Link.unsent g.D.Store.told g.C.Clock.told g.O.Orders.told
    g.W.Watcher.told c.serve_steady.new.outside) (g.F.Folders.done c.end.new.folders)
    (g.K.Sink.written c.end.new.sink))
    _ _ c.in-Ok-serve_steady.served c.in-Ok.ensures.kept c.promises.ensures
    c.in-Ok-serve_steady.ensures.run c.end.result c.end.ensures.ends
    (subst (λ f. Leaves c.args.folder.now f (g.F.Folders.done c.end.new.folders) c.end.result)
    c.in-Ok.ensures.entered c.end.ensures.leaves)

pub returns-in-Err-serve_steady-clause-ends : goal.returns-in-Err-serve_steady-clause-ends
returns-in-Err-serve_steady-clause-ends g c = ends_cut_off c.args.place c.args.runs
    c.args.folder.now
    (outer (outer_of g.L.Link.told g.L.Link.unsent g.D.Store.told g.C.Clock.told g.O.Orders.told
    g.W.Watcher.told c.args.outside.now) (g.F.Folders.done c.args.folders.now)
    (g.K.Sink.written c.args.sink.now))
    (outer (outer_of g.L.Link.told g.L.Link.unsent g.D.Store.told g.C.Clock.told g.O.Orders.told
    g.W.Watcher.told c.serve_steady.new.outside) (g.F.Folders.done c.enter.new.self)
    (g.K.Sink.written c.args.sink.now))
    _ _ c.in-Ok.ensures.kept c.promises.ensures c.in-Err-serve_steady.ensures.cut refl
    c.in-Ok.ensures.entered c.in-Err-serve_steady.fault c.exit_of_loop.result
    c.exit_of_loop.ensures
