use Rattle.std.proofs.Common.{rules}
use Rattle.node.proofs.accepting.active.Goals as goal

pub returns-in-Ok-clause-accepted : goal.returns-in-Ok-clause-accepted
returns-in-Ok-clause-accepted c = record {
  up = search rules;
  fits = λ mark active. search rules;
  server = λ mark horizon served duty before kept items v. search rules;
}
