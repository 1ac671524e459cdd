use Rattle.std.proofs.Common.{length, sym, ◌∙◌}
use Rattle.node_outputs.specs.Said.{entered}
use Rattle.world_lines.proofs.Made.{comes, comes_lines, counts, stays, stays_lines}
use Rattle.world_lines.proofs.book.Book.enter_update.Goals as goal

pub count-requires : goal.count-requires
count-requires c = counts c.args.self.now c.enter.new.self (entered c.args.update)
    c.has.ensures.within c.in_ok-enter.ensures.book

pub returns-then-has-clause-book : goal.returns-then-has-clause-book
returns-then-has-clause-book c = stays c.args.self.now (entered c.args.update)
    (sym c.has.ensures.value ∙ c.if-has.true)

pub returns-then-has-clause-lines : goal.returns-then-has-clause-lines
returns-then-has-clause-lines c = stays_lines c.args.lines.now.items
    (length c.args.self.now.entries) c.args.self.now.updates (entered c.args.update)
    (sym c.has.ensures.value ∙ c.if-has.true)

pub returns-clause-book : goal.returns-clause-book
returns-clause-book c = comes c.args.self.now c.enter.new.self c.count.new.self
    (entered c.args.update) (sym c.has.ensures.value ∙ c.if-has.false)
    c.in_ok-enter.ensures.book c.count.ensures

pub returns-clause-lines : goal.returns-clause-lines
returns-clause-lines c = comes_lines c.args.lines.now.items c.enter.new.lines.items
    (length c.args.self.now.entries) c.args.self.now.updates (entered c.args.update)
    (sym c.has.ensures.value ∙ c.if-has.false) c.in_ok-enter.ensures.lines
