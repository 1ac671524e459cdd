use Rattle.std.proofs.Common.{rules}
use Rattle.idle_log.proofs.Giving.{empty_gives, fits_a_give, held_gives, held_own, lost_gives}
use Rattle.idle_log.proofs.kept.Kept.serve.Goals as goal

pub as_records-requires : goal.as_records-requires
as_records-requires c = fits_a_give _ _ c.in-Held.log c.args.first c.args.last c.top.ensures.order
    (search rules)

pub returns-in_ok-serve-in-Held-clause-given : goal.returns-in_ok-serve-in-Held-clause-given
returns-in_ok-serve-in-Held-clause-given c s = held_gives s c.args.self.now c.in-Held.log c.args.first
    c.args.last _ c.in-Held.is
    (search rules)

pub returns-in-Lost-clause-given : goal.returns-in-Lost-clause-given
returns-in-Lost-clause-given c s = lost_gives s c.args.self.now _ c.args.first c.args.last c.in-Lost.is

pub returns-in-Empty-clause-given : goal.returns-in-Empty-clause-given
returns-in-Empty-clause-given c s = empty_gives s c.args.self.now _ c.args.first c.args.last c.in-Empty.is

pub returns-in_ok-serve-in-Held-clause-own : goal.returns-in_ok-serve-in-Held-clause-own
returns-in_ok-serve-in-Held-clause-own c = held_own c.args.self.now c.in-Held.log c.args.first
    c.args.last _ c.in-Held.is (search rules)
