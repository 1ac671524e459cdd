use Rattle.std.proofs.Common.{ap, subst, sym}
use Rattle.node_link.specs.Told.{HasRoom}
use Rattle.node_link.proofs.list_clock.ListClockClock.now.Goals as goal

pub invariant_of-self : goal.invariant_of-self
invariant_of-self c =
    subst (λ xs. HasRoom xs c.keep.new.told) (sym (ap (λ a. a.ahead) c.step-millis.ensures.step))
    (c.keep.ensures.room c.self.inside.list.ahead c.self.invariant).0

pub returns-clause-ticks : goal.returns-clause-ticks
returns-clause-ticks c = rw (← c.self.view_is) (record {
  is_next = c.step-millis.ensures.value;
  ahead = ap (λ a. a.ahead) c.step-millis.ensures.step;
  last = ap (λ a. a.last) c.step-millis.ensures.step;
  told = (c.keep.ensures.room c.self.inside.list.ahead c.self.invariant).1;
})
