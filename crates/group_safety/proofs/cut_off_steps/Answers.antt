use Rattle.group_safety.proofs.Lawful.{cut_deeds, cut_deliveries, crash_keeps_the_mark, boot_from_the_mark}
use Rattle.group_safety.proofs.cut_off_steps.Goals as goal

pub returns : goal.returns
returns c = record {
  deeds = cut_deeds;
  deliveries = cut_deliveries;
  crash = crash_keeps_the_mark;
  boot = boot_from_the_mark;
}
