-- The exits of a command whose disk or loop has a fault.
use Rattle.harp_store.specs.declared.store.StoreFault.{StoreFault}
use Rattle.harp_store.specs.declared.store.StoreFault.TheVariants as store
use Rattle.node_loop.specs.declared.fault.LoopFault.{LoopFault}
use Rattle.node_loop.specs.declared.fault.LoopFault.TheVariants as loop
use Rattle.play_commands.specs.declared.exit.Exit.{Exit}
use Rattle.play_commands.specs.declared.exit.Exit.TheVariants as exit

abbrev pub exit_of_store : StoreFault → Exit
exit_of_store store.Failed = exit.DiskFailed
exit_of_store store.NoMemory = exit.NoMemory

abbrev pub exit_of_loop : LoopFault → Exit
exit_of_loop loop.StoreFailed = exit.DiskFailed
exit_of_loop loop.LinkFailed = exit.LinkFailed
exit_of_loop loop.NoMemory = exit.NoMemory
