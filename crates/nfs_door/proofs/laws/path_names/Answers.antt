use Rattle.nfs_door.proofs.PathLaws.{names_again}
use Rattle.nfs_door.proofs.laws.path_names.Goals as goal

pub returns : goal.returns
returns c = names_again
