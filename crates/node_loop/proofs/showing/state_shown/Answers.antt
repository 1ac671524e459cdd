use Rattle.std.proofs.Common.{[]}
use Rattle.node_loop.proofs.showing.state_shown.Goals as goal

pub returns : goal.returns
returns c = c.state_line.ensures []
