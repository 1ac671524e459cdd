use Rattle.audit.specs.Entries.{entries_in}
use Rattle.audit.proofs.Cuts.{entries_joined}
use Rattle.audit.proofs.auditing.prepared_one.Goals as goal

pub returns : goal.returns
returns c =
    let low = c.split_at.result.0.now in
    let high = c.split_at.result.1.now in record {
      named = record {
        some = entries_in low;
        others = entries_in high;
        all = entries_joined c.args.objects.now low high _ c.split_at.ensures.front
            c.split_at.ensures.back;
        first = c.in_ok-low.ensures;
        second = c.in_ok-high.ensures;
      };
      enough = c.in_ok-ways.ensures;
    }
