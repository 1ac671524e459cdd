use Rattle.group_safety.proofs.Disks.{disks_committed, first_disks}
use Rattle.group_safety.proofs.disks_are_committed.Goals as goal

pub returns : goal.returns
returns c = record { first = first_disks; committed = disks_committed }
