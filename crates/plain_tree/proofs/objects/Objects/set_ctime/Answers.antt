use Rattle.std.proofs.Common.{refl}
use Rattle.file_tree.specs.Outcome.{set_ctime}
use Rattle.plain_tree.proofs.CountLaws.{counts_body}
use Rattle.plain_tree.proofs.objects.Objects.set_ctime.Goals as goal

pub invariant_of-self : goal.invariant_of-self
invariant_of-self c =
    rw c.set_ctime.ensures.value (counts_body c.self.inside.items.items c.self.inside.used
    c.self.inside.names.items c.args.number (set_ctime c.args.now) c.self.invariant (λ o. refl))
