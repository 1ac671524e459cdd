use Rattle.group_trace.proofs.DiskRows.{cut_apply, cut_save}
use Rattle.group_trace.proofs.worked_disk_rows.Goals as goal

pub returns : goal.returns
returns c = record { cut_apply = cut_apply; cut_save = cut_save }
