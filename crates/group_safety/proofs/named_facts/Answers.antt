use Rattle.group_safety.proofs.Safe.{run_whole}
use Rattle.group_safety.proofs.NamedFacts.{named_facts}
use Rattle.group_safety.proofs.named_facts.Goals as goal

pub returns : goal.returns
returns c = record { facts = λ size g w hs. named_facts _ (run_whole size hs g w) }
