use Rattle.std.proofs.Common.{length}
use Rattle.nfs_calls.proofs.WritePlans.{puts_short_from}
use Rattle.nfs_calls.proofs.updates.write.place.Goals as goal

pub returns-clause-short : goal.returns-clause-short
returns-clause-short g c le =
    puts_short_from _ _ c.args.handle c.args.offset
    (length c.args.bytes.now) c.new-changes.ensures.items c.in_ok-write_bytes.ensures.blocks le
