use Rattle.std.proofs.Common.{◌≡◌, ℕ, ◌+◌, ◌<◌, Bool, true, false, None, is_some, length, sym, subst, ◌∙◌, arith}
use Rattle.std.specs.Bool.{if◌then◌else◌}
use Rattle.std.specs.Prelude.{IsSome}
use Rattle.harp_cells.proofs.KeyOrder.{cell_after, at_fetched}
use Rattle.harp_cells.proofs.memory.drop_value.Goals as goal

pub returns-clause-gone : goal.returns-clause-gone
returns-clause-gone c cell =
    cell_after c.args.values.now.entries c.remove.new.self.entries c.args.cell c.key.result None
    c.key.ensures c.remove.ensures.updates.0 cell

one_less : (b : Bool) (n m : ℕ) → b ≡ true → n + (if b then 1 else 0) ≡ m → n < m
one_less true n m h e = omega (arith, e)
one_less false n m h e = absurd cc

pub returns-clause-fewer : goal.returns-clause-fewer
returns-clause-fewer c there =
    one_less (is_some c.remove.result) (length c.remove.new.self.entries)
    (length c.args.values.now.entries)
    (subst IsSome (sym (c.remove.ensures.value
    ∙ at_fetched c.args.values.now.entries c.args.cell c.key.result c.key.ensures)) there)
    c.remove.ensures.len
