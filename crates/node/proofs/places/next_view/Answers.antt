use Rattle.node.proofs.Views.{next_is}
use Rattle.node.proofs.places.next_view.Goals as goal

pub returns-clause-value : goal.returns-clause-value
returns-clause-value c = next_is c.args.promised c.args.me _ c.of.result c.count.ensures.value
    c.of.ensures.found c.of.ensures.value
