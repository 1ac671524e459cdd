use Rattle.std.proofs.Common.{◌∙◌, [], ap}
use Rattle.node_loop.specs.Looks.{seen}
use Rattle.node_loop.proofs.look.Look.of.Goals as goal

pub returns : goal.returns
returns c =
    c.seen.ensures ∙ ap (λ role. seen role c.state_line-line.result) c.role-role.ensures
    ∙ ap (λ line. seen c.args.node.now.mark.role line) (c.state_line-line.ensures [])
