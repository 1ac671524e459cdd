use Rattle.server_rows.proofs.Over.{over_fewer}
use Rattle.server_rows.proofs.disks.indexed.drop_both.Goals as goal

pub returns : goal.returns
returns c = record {
  over = over_fewer c.args.index.now c.drop_to.new.self c.args.log.now c.drop_to-2.new.self
      c.args.n c.drop_to-2.ensures c.requires.base c.drop_to.ensures.follows c.requires.is;
}
