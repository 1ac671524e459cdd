use Rattle.std.proofs.Common.{rules}
use Rattle.volatile_log.proofs.Numbers.{staged_after}
use Rattle.volatile_log.proofs.bare.LostLog.adopt.Goals as goal

pub invariant_of-result : goal.invariant_of-result
invariant_of-result c =
    let staged = c.in-Ok.ensures.order in (
      record {
        base = search rules;
        lb = search rules;
        ap = search rules;
        cp = search rules;
        top = search rules;
        few = search rules;
        numbered = rw c.in-Ok.ensures.ok.0 (staged_after _ _ _ c.requires.first staged.numbered);
      },
      search rules,
    )
