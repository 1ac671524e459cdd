use Rattle.schedule_text.proofs.MeaningLaws.{explained}
use Rattle.schedule_play.proofs.TextLaws.{book, disks, events, parts, right, taken, views}
use Rattle.schedule_play.proofs.laws.every_text.Goals as goal

pub returns : goal.returns
returns c = record {
  meaning = explained;
  taken = taken;
  right = right;
  events = events;
  book = book;
  views = views;
  disks = disks;
  parts = parts;
}
