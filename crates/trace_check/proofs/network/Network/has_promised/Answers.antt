use Rattle.std.proofs.Common.{◌+◌, sym, ap, subst, ◌∙◌}
use Rattle.std.specs.Prelude.{◌↔◌, IsTrue}
use Rattle.trace_check.specs.Marks.{mark_at, IsWithin}
use Rattle.trace_check.proofs.network.Network.has_promised.Goals as goal

pub returns-in-Some : goal.returns-in-Some
returns-in-Some c exact e =
    subst (λ o. IsTrue c.is_before.result ↔ IsWithin (exact + 1) o)
    (sym c.in-Some.is ∙ c.get.ensures
    ∙ ap (λ k. mark_at c.args.self.now.moments k) c.way_key.ensures)
    (c.is_before.ensures exact e)
