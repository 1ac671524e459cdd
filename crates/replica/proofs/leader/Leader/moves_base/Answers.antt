use Rattle.std.proofs.Common.{rules}
use Rattle.replica.proofs.Leads.{moves_beside_data, stays_beside_witness}
use Rattle.replica.proofs.leader.Leader.moves_base.Goals as goal

pub returns-then-self-clause-tests : goal.returns-then-self-clause-tests
returns-then-self-clause-tests c o = moves_beside_data c.args.self.now o _ (search rules)
    (search rules)

pub returns-else-self-clause-tests : goal.returns-else-self-clause-tests
returns-else-self-clause-tests c o = moves_beside_data c.args.self.now o _ (search rules)
    (search rules)

pub returns-in-Witness-clause-tests : goal.returns-in-Witness-clause-tests
returns-in-Witness-clause-tests c o = stays_beside_witness c.args.self.now o (search rules)
