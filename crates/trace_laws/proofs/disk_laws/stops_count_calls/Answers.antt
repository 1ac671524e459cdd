use Rattle.trace_laws.proofs.Counts.{are_counted}
use Rattle.trace_laws.proofs.Crashes.{are_parts}
use Rattle.trace_laws.proofs.DiskKeeping.{picks_keep}
use Rattle.trace_laws.proofs.disk_laws.stops_count_calls.Goals as goal

pub returns : goal.returns
returns c = record { counted = are_counted; parts = are_parts; keep = picks_keep }
