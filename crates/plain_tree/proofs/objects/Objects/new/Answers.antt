use Rattle.plain_tree.proofs.CountLaws.{counts_first}
use Rattle.plain_tree.proofs.objects.Objects.new.Goals as goal

pub invariant_of-result : goal.invariant_of-result
invariant_of-result c =
    rw (
      c.in_ok-push-2.ensures.items,
      c.in_ok-push.ensures.items,
      c.new-items.ensures.items,
      c.of.ensures,
      c.new.ensures.items,
      c.in_ok-names.ensures,
    ) counts_first
