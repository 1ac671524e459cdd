use Rattle.trace_laws.proofs.StoreRuns.{read_exactly}
use Rattle.trace_laws.proofs.disk_laws.servers_read_exactly.Goals as goal

pub returns : goal.returns
returns c = record { exact = read_exactly }
