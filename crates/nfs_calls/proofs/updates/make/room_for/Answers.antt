use Rattle.std.proofs.Common.{rules, refl}
use Rattle.nfs_calls.proofs.RoomLaws.{room_for_steps}
use Rattle.nfs_calls.proofs.updates.make.room_for.Goals as goal

pub returns-in_err-refuse-clause-step : goal.returns-in_err-refuse-clause-step
returns-in_err-refuse-clause-step c tree dir name totals is free =
    rw (room_for_steps tree dir c.args.inode.now
    (record { name = name; number = c.args.totals.next }) c.args.size c.args.totals is totals
    refl) (search rules)

pub returns-in_err-room-clause-step : goal.returns-in_err-room-clause-step
returns-in_err-room-clause-step c tree dir name totals is free =
    rw (room_for_steps tree dir c.args.inode.now
    (record { name = name; number = c.args.totals.next }) c.args.size c.args.totals is totals
    refl) (search rules)

pub returns-clause-step : goal.returns-clause-step
returns-clause-step c tree dir name totals is free =
    rw (room_for_steps tree dir c.args.inode.now
    (record { name = name; number = c.args.totals.next }) c.args.size c.args.totals is totals
    refl) (search rules)
