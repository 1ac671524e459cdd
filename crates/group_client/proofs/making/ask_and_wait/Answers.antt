use Rattle.std.proofs.Common.{Err, ap, inl, inr}
use Rattle.group_client.proofs.Calls.{broken}
use Rattle.group_client.proofs.making.ask_and_wait.Goals as goal

pub returns-in-Err-clause-made : goal.returns-in-Err-clause-made
returns-in-Err-clause-made g c = inr (
  _,
  record {
    clock = inr (c.now-now.result, c.now-now.ensures.told);
    link = inl c.in-Err.ensures.kept;
  },
  broken c.in-Err.fault _ (λ e. c.in-Err.ensures.unspent (ap Err e)),
)
