use Rattle.std.proofs.Common.{rules}
use Rattle.nfs_calls.proofs.Linkings.{add_steps}
use Rattle.nfs_calls.proofs.updates.link.room_beside.Goals as goal

pub returns-in_err-room-clause-step : goal.returns-in_err-room-clause-step
returns-in_err-room-clause-step c tree dir s now totals is free =
    rw (add_steps tree dir c.args.inode.now s now c.args.totals is totals) (search rules)

pub returns-clause-step : goal.returns-clause-step
returns-clause-step c tree dir s now totals is free =
    rw (add_steps tree dir c.args.inode.now s now c.args.totals is totals) (search rules)
