use Rattle.harp_cells.proofs.KeyOrder.{no_values, no_block, found_block}
use Rattle.harp_cells.proofs.memory.first_block.Goals as goal
use Rattle.harp_cells.proofs.memory.first_block.Goals.{else-key-eq3-via-then-key-eq3+else-key-object, else-key-eq3-via-else-key-eq3}

pub returns-in_err-key-clause-none : goal.returns-in_err-key-clause-none
returns-in_err-key-clause-none c =
    rw c.from_residual.ensures (no_values c.args.object c.args.first c.args.values.now
    c.range.result (c.range.ensures.in_range tt) c.in_err-key.ensures.steps.0)

pub returns-then-key-object-clause-found : goal.returns-then-key-object-clause-found
returns-then-key-object-clause-found c =
    found_block c.args.object c.args.first c.args.values.now c.range.result c.next.new.self
    c.in_ok-key.key.now c.in_ok-key.field-0-1.now (c.range.ensures.in_range tt)
    c.in_ok-key.ensures.steps c.if-key-eq3.true c.if-key-object.true

pub returns-else-key-eq3-clause-none : goal.returns-else-key-eq3-clause-none
returns-else-key-eq3-clause-none c =
    no_block c.args.object c.args.first c.args.values.now c.range.result c.next.new.self
    c.in_ok-key.key.now c.in_ok-key.field-0-1.now (c.range.ensures.in_range tt)
    c.in_ok-key.ensures.steps
    (λ a b.
    elim c.else-key-eq3.branch [
      | else-key-eq3-via-then-key-eq3+else-key-object w ↦ w.if-key-object.false b
      | else-key-eq3-via-else-key-eq3 w ↦ w.if-key-eq3.false a
    ])
