use Rattle.audit.specs.Entries.{entries_in}
use Rattle.audit.proofs.Cuts.{entries_joined}
use Rattle.audit.proofs.Listed.{at_ok}
use Rattle.audit.proofs.auditing.names_many.Goals as goal

pub returns : goal.returns
returns g c =
    let low = c.split_at.result.0.now in
    let high = c.split_at.result.1.now in
    let both = c.join-low in record {
      named = record {
        some = entries_in low;
        others = entries_in high;
        all = entries_joined c.args.objects.now low high _ c.split_at.ensures.front
            c.split_at.ensures.back;
        first = at_ok both.result.0 _ c.in_ok-low.low c.in_ok-low.was both.ensures.first;
        second = at_ok both.result.1 _ c.in_ok-high.high c.in_ok-high.was both.ensures.second;
      };
      all = c.in_ok-stretches.ensures;
    }
