use Rattle.std.proofs.Common.{rules}
use Rattle.volatile_log.proofs.Numbers.{numbered_more}
use Rattle.volatile_log.proofs.active.ActiveLog.append.Goals as goal

pub invariant_of-self : goal.invariant_of-self
invariant_of-self c =
    let old = c.self.invariant.0 in
    rw c.push_back_reserved.ensures.items (
      record {
        base = old.base;
        lb = old.lb;
        ap = old.ap;
        cp = search rules;
        top = search rules;
        few = search rules;
        numbered = numbered_more _ _ c.args.item old.numbered (search rules);
      },
      search rules,
    )
