-- The exits of the program, and which one a fault of a disk or a loop is.
use Rattle.std.specs.Prelude.{ℕ}
use Rattle.harp_store.specs.declared.store.StoreFault.{StoreFault}
use Rattle.harp_store.specs.declared.store.StoreFault.TheVariants as store
use Rattle.node_loop.specs.declared.fault.LoopFault.{LoopFault}
use Rattle.node_loop.specs.declared.fault.LoopFault.TheVariants as loop
use Rattle.harpd.specs.declared.exit.Exit.{Exit}
use Rattle.harpd.specs.declared.exit.Exit.TheVariants as exit

abbrev pub status_of : Exit → ℕ
status_of exit.Done = 0
status_of exit.RefusedWords = 2
status_of exit.SinkFailed = 4
status_of exit.NoMemory = 6
status_of exit.DiskFailed = 7
status_of exit.LinkFailed = 8

abbrev pub exit_of_store : StoreFault → Exit
exit_of_store store.Failed = exit.DiskFailed
exit_of_store store.NoMemory = exit.NoMemory

abbrev pub exit_of_loop : LoopFault → Exit
exit_of_loop loop.StoreFailed = exit.DiskFailed
exit_of_loop loop.LinkFailed = exit.LinkFailed
exit_of_loop loop.NoMemory = exit.NoMemory
