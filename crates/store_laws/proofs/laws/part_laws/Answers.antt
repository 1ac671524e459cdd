use Rattle.store_laws.proofs.Parts.{parts_are_changes, parts_are_flushes, parts_are_marks, parts_are_saves}
use Rattle.store_laws.proofs.laws.part_laws.Goals as goal

pub returns : goal.returns
returns c = record {
  applies = parts_are_changes;
  flushes = parts_are_flushes;
  saves = parts_are_saves;
  marks = parts_are_marks;
}
