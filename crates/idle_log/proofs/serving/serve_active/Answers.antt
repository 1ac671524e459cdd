use Rattle.std.proofs.Common.{rules}
use Rattle.idle_log.proofs.Giving.{fits_a_give, found_own, gives_found}
use Rattle.idle_log.proofs.serving.serve_active.Goals as goal

pub as_records-requires : goal.as_records-requires
as_records-requires c = fits_a_give _ _ c.args.log.now c.args.first c.args.last
    c.top.ensures.order (search rules)

pub returns-clause-given : goal.returns-clause-given
returns-clause-given c s = gives_found s c.args.log.now c.args.first c.args.last _ (search rules)

pub returns-clause-own : goal.returns-clause-own
returns-clause-own c = found_own c.args.log.now c.args.first c.args.last _ (search rules)
