use Rattle.std.proofs.Common.{Box, Option, ap, subst, sym, ◌∙◌}
use Rattle.world_host.proofs.Shown.{shown_up}
use Rattle.world_host.proofs.host.Host.state_line.Goals as goal
use Rattle.world_host.specs.Shows.{IsShown}
use Rattle.world_rules.specs.Host.{HostValue, IsRunning}
use Rattle.node.specs.Node.{NodeValue}
use Rattle.std.specs.Prelude.{IfSome, option_map}
use Rattle.std.specs.declared.alloc.Global.{Global}
use Rattle.harp_store.specs.Values.{stored}

pub returns-in-Some : goal.returns-in-Some
returns-in-Some c s k saved r host =
    let node : Option (Box NodeValue Global) → Option NodeValue =
    λ o. option_map (λ b. b.value) o in
    let runs = subst (λ (o : Option (Box NodeValue Global)).
    IfSome (node o) (IsRunning (stored c.self.inside.disk).now)) c.in-Some.is
    c.self.invariant.1 in
    let shown = subst (λ (o : Option (Box NodeValue Global)).
    IfSome (node o) (IsShown c.self.inside.shown)) c.in-Some.is c.self.invariant.2 in
    shown_up s k saved r c.args.self.now c.in-Some.field-0.value c.self.inside.shown host
    (sym (ap (λ (h : HostValue). h.node) c.self.view_is) ∙ ap node c.in-Some.is) runs.served
    shown
