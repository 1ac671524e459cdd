use Rattle.std.proofs.Common.{arith, length}
use Rattle.world_lines.proofs.Made.{none_come, none_shown, nothing}
use Rattle.world_lines.proofs.book.Book.enter_updates.Goals as goal

pub returns-then-is_empty-clause-book : goal.returns-then-is_empty-clause-book
returns-then-is_empty-clause-book c = none_come c.args.self.now c.args.updates.now.items
    (grind (arith, c.is_empty.ensures, c.if-is_empty.true))

pub returns-then-is_empty-clause-lines : goal.returns-then-is_empty-clause-lines
returns-then-is_empty-clause-lines c = none_shown c.args.lines.now.items
    (length c.args.self.now.entries) c.args.self.now.updates c.args.updates.now.items
    (grind (arith, c.is_empty.ensures, c.if-is_empty.true))

pub returns-then-is_empty-clause-left : goal.returns-then-is_empty-clause-left
returns-then-is_empty-clause-left c = nothing c.args.updates.now.items
    (grind (arith, c.is_empty.ensures, c.if-is_empty.true))
