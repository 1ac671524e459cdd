use Rattle.trace_laws.proofs.DiskRuns.{disk_runs_right}
use Rattle.trace_laws.proofs.disk_laws.every_disk_run.Goals as goal

pub returns : goal.returns
returns c = record { right = disk_runs_right }
