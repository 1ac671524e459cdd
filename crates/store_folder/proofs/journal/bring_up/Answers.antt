use Rattle.std.proofs.Common.{◌+◌, refl, arith}
use Rattle.store_folder.specs.Sync.{at_once}
use Rattle.store_folder.proofs.BringLaws.{both_up, fewer_up, nothing_up}
use Rattle.store_folder.proofs.journal.bring_up.Goals as goal

pub loop-init : goal.loop-init
loop-init g c =
    nothing_up 0 c.args.folder.now c.args.waiting.now c.args.waiting.now
    (g.F.DiskFiles.told c.args.files.now) (g.F.DiskFiles.told c.args.files.now) (λ d. refl) refl

pub returns-in-Err : goal.returns-in-Err
returns-in-Err g c =
    fewer_up (c.loop.counter + 1) at_once c.args.folder.now c.args.waiting.now
    c.bring_up_one.new.waiting (g.F.DiskFiles.told c.args.files.now)
    (g.F.DiskFiles.told c.bring_up_one.new.files) (omega (arith, c.loop-test.true))
    (both_up c.loop.counter 1 c.args.folder.now c.args.waiting.now c.loop.waiting
    c.bring_up_one.new.waiting (g.F.DiskFiles.told c.args.files.now)
    (g.F.DiskFiles.told c.loop.files) (g.F.DiskFiles.told c.bring_up_one.new.files)
    c.loop.invariant c.bring_up_one.ensures)

pub loop-preserved : goal.loop-preserved
loop-preserved g c =
    both_up c.loop.counter 1 c.args.folder.now c.args.waiting.now c.loop.waiting
    c.bring_up_one.new.waiting (g.F.DiskFiles.told c.args.files.now)
    (g.F.DiskFiles.told c.loop.files) (g.F.DiskFiles.told c.bring_up_one.new.files)
    c.loop.invariant c.bring_up_one.ensures
