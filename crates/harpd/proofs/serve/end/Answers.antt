use Rattle.std.proofs.Common.{sym, subst}
use Rattle.harpd.specs.Serve.{Leaves}
use Rattle.harpd.proofs.ServeLaws.{leaves_kept, leaves_told}
use Rattle.harpd.proofs.serve.end.Goals as goal

pub returns-in-Ok-clause-leaves : goal.returns-in-Ok-clause-leaves
returns-in-Ok-clause-leaves g c = leaves_told c.args.folder.now
    (g.F.Folders.done c.args.folders.now) (g.F.Folders.done c.leave.new.self) c.args.served
    (g.K.Sink.written c.args.sink.now) (g.K.Sink.written c.write_stopped.new.sink)
    c.in-Ok.ensures.left c.write_stopped.result c.write_stopped.ensures.ends
    c.write_stopped.ensures.disk

pub returns-in-Err-clause-leaves : goal.returns-in-Err-clause-leaves
returns-in-Err-clause-leaves g c = subst (Leaves c.args.folder.now
    (g.F.Folders.done c.args.folders.now) (g.F.Folders.done c.leave.new.self))
    (sym c.exit_of_store.ensures) (leaves_kept c.args.folder.now
    (g.F.Folders.done c.args.folders.now) (g.F.Folders.done c.leave.new.self)
    c.in-Err.ensures.refused c.in-Err.fault)
