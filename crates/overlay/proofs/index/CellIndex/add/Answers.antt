use Rattle.overlay.proofs.Indexing.{added_follows, kept_back}
use Rattle.overlay.proofs.index.CellIndex.add.Goals as goal

pub returns-in-Ok-clause-follows : goal.returns-in-Ok-clause-follows
returns-in-Ok-clause-follows c base records is at =
    added_follows c.args.self.now c.add_all.new.self base c.args.index records c.args.changes.now
    c.in-Ok.ensures.added is at

pub returns-in-Err-clause-kept : goal.returns-in-Err-clause-kept
returns-in-Err-clause-kept c base records is at =
    kept_back c.args.self.now c.add_all.new.self c.take_back.new.self base c.args.index records
    c.args.changes.now c.in-Err.ensures.part c.take_back.ensures is at
