use Rattle.std.proofs.Common.{◌≡◌, drop}
use Rattle.std.specs.VecDeque.{deque_capacity}
use Rattle.volatile_log.proofs.records.drop_front.Given as goal

abbrev pub invariant-loop : goal.invariant-loop
invariant-loop l = record {
  rest : l.records.items ≡ drop l.counter l.initial.records.items;
  capacity : deque_capacity l.records ≡ deque_capacity l.initial.records;
}
