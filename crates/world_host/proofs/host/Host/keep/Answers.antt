use Rattle.std.proofs.Common.{Some, ap, subst, sym, ◌∙◌}
use Rattle.group_rules.specs.Shown.{state_of}
use Rattle.harp_types.specs.declared.state.StateLine.{StateLine}
use Rattle.node.specs.Node.{NodeValue, server}
use Rattle.world_rules.specs.Host.{HostValue, IsRunning, disk_of}
use Rattle.world_host.proofs.host.Host.keep.Goals as goal

pub state_line-requires : goal.state_line-requires
state_line-requires c = ap (λ (n : NodeValue). n.halted) c.deref.ensures ∙ c.requires.up

pub invariant_of-self : goal.invariant_of-self
invariant_of-self c = (
  c.self.invariant.0,
  subst (λ (h : HostValue). IsRunning (disk_of h) c.args.node.value) (sym c.self.view_is)
      c.requires,
  λ items. ap (λ (x : StateLine). Some x) (c.state_line.ensures items
      ∙ ap (λ (n : NodeValue). state_of (server n items)) c.deref.ensures),
)
