use Rattle.idle_log.proofs.Logs.{adopts_at_witness, adopts_held, adopts_lost, commits, drops, freezes, heeds, heeds_beats, opens, puts, reports, resumes, serves}
use Rattle.idle_log.proofs.group_logs.logs_are_the_groups.Goals as goal

pub returns : goal.returns
returns c = record {
  resumes = resumes;
  held = adopts_held;
  lost = adopts_lost;
  witness = adopts_at_witness;
  takes = puts;
  commits = commits;
  drops = drops;
  heeds = heeds;
  beats = heeds_beats;
  opens = opens;
  freezes = freezes;
  reports = reports;
  serves = serves;
}
