use Rattle.std.proofs.Common.{◌≡◌, Option, Some, subst, sym}
use Rattle.std.specs.Prelude.{IfSome, option_map}
use Rattle.harp_store.specs.Values.{stored}
use Rattle.node.specs.Node.{NodeValue}
use Rattle.world_host.proofs.host.Host.power.Goals as goal
use Rattle.world_rules.specs.Host.{IsRunning}

-- what holds of a value that is there
of_some : {B V : Type 0} (value : B → V) (P : V → Type 0) (o : Option B) (b : B) → Some b ≡ o
    → IfSome (option_map value o) P → P (value b)
of_some value P o b is h = subst (λ o. IfSome (option_map value o) P) (sym is) h

pub save-requires-clause-runs : goal.save-requires-clause-runs
save-requires-clause-runs c =
    subst (λ (n : NodeValue). IsRunning (stored c.self.inside.disk).now n)
    (sym c.into_inner-node.ensures)
    (of_some (λ b. b.value) (IsRunning (stored c.self.inside.disk).now) c.self.inside.node
    c.in-Some.node c.in-Some.ensures.value c.self.invariant.1)

pub save_until-requires-clause-runs : goal.save_until-requires-clause-runs
save_until-requires-clause-runs c =
    subst (λ (n : NodeValue). IsRunning (stored c.self.inside.disk).now n)
    (sym c.into_inner-node.ensures)
    (of_some (λ b. b.value) (IsRunning (stored c.self.inside.disk).now) c.self.inside.node
    c.in-Some.node c.in-Some.ensures.value c.self.invariant.1)
