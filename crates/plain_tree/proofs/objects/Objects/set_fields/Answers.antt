use Rattle.std.proofs.Common.{◌≡◌, true, sym, subst}
use Rattle.std.specs.Prelude.{IfSome}
use Rattle.file_tree.specs.Tree.{Tree, place}
use Rattle.file_tree.specs.Outcome.{is_regular_at}
use Rattle.plain_tree.proofs.CountLaws.{counts_fields}
use Rattle.plain_tree.proofs.objects.Objects.set_fields.Goals as goal

pub invariant_of-self : goal.invariant_of-self
invariant_of-self c =
    rw c.set_at.ensures.value (counts_fields c.self.inside.items.items c.self.inside.used
    c.self.inside.names.items c.args.handle c.args.a.now c.args.bytes c.args.now
    c.used_with-self-inside.result c.self.invariant
    (subst (λ (t : Tree). IfSome c.args.bytes (λ b. is_regular_at (place t c.args.handle) ≡ true))
    (sym c.self.view_is) c.requires.file)
    (rw (sym c.as_slice.ensures.value) c.used_with-self-inside.ensures))
