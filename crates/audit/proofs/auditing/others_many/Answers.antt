use Rattle.std.proofs.Common.{List, length, subst}
use Rattle.audit.specs.declared.picture.Portrait.{Portrait}
use Rattle.audit.specs.Entries.{AreWays}
use Rattle.audit.proofs.Listed.{at_ok}
use Rattle.audit.proofs.auditing.others_many.Goals as goal

pub returns : goal.returns
returns g c =
    let ways = c.in_ok-ways.ways in
    let found = c.in_ok-found.found in
    let both = c.join-found in
    let up = at_ok both.result.1 _ ways c.in_ok-ways.was both.ensures.second in record {
      whole = at_ok both.result.0 _ found c.in_ok-found.was both.ensures.first;
      enough = subst (λ (xs : List Portrait). AreWays (length xs) xs ways.items)
          c.as_slice-objects.ensures up;
    }
