use Rattle.group_trace.specs.DiskCalls.{measures_of}
use Rattle.world_rules.specs.Spellings.{spellings}
use Rattle.accept_laws.proofs.Accepted.{take_bytes}
use Rattle.accept_laws.proofs.PumpRuns.{pumps_leave_none}
use Rattle.accept_laws.proofs.accepted_plays.pumped_lines.Goals as goal

pub returns : goal.returns
returns c = record { pumped = pumps_leave_none (measures_of spellings) take_bytes }
