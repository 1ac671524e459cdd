use Rattle.nfs_door.proofs.WalkLaws.{mounted}
use Rattle.nfs_door.proofs.laws.mounted_paths.Goals as goal

pub returns : goal.returns
returns c = mounted
