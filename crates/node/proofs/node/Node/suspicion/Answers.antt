use Rattle.std.proofs.Common.{inl, inr, le_refl, refl}
use Rattle.std.proofs.lemmas.Result.{IfOk-from_err}
use Rattle.node.proofs.Faults.{once_as, once_done, once_memory}
use Rattle.node.proofs.node.Node.suspicion.Goals as goal

pub returns-in_default-clause-part : goal.returns-in_default-clause-part
returns-in_default-clause-part g c = tt

pub returns-in_err-join-clause-makes : goal.returns-in_err-join-clause-makes
returns-in_err-join-clause-makes g c = IfOk-from_err c.from_residual.result _
    c.from_residual.ensures.0

pub returns-in_err-join-clause-stock : goal.returns-in_err-join-clause-stock
returns-in_err-join-clause-stock g c = IfOk-from_err c.from_residual.result _
    c.from_residual.ensures.0

pub returns-in_err-join-clause-mark : goal.returns-in_err-join-clause-mark
returns-in_err-join-clause-mark g c = IfOk-from_err c.from_residual.result _
    c.from_residual.ensures.0

pub returns-in_err-join-clause-written : goal.returns-in_err-join-clause-written
returns-in_err-join-clause-written g c = IfOk-from_err c.from_residual.result _
    c.from_residual.ensures.0

pub returns-in_err-send-clause-makes : goal.returns-in_err-send-clause-makes
returns-in_err-send-clause-makes g c = IfOk-from_err c.from_residual-in_err-send.result _
    c.from_residual-in_err-send.ensures.0

pub returns-in_err-send-clause-stock : goal.returns-in_err-send-clause-stock
returns-in_err-send-clause-stock g c = IfOk-from_err c.from_residual-in_err-send.result _
    c.from_residual-in_err-send.ensures.0

pub returns-in_err-send-clause-mark : goal.returns-in_err-send-clause-mark
returns-in_err-send-clause-mark g c = IfOk-from_err c.from_residual-in_err-send.result _
    c.from_residual-in_err-send.ensures.0

pub returns-in_err-send-clause-written : goal.returns-in_err-send-clause-written
returns-in_err-send-clause-written g c = IfOk-from_err c.from_residual-in_err-send.result _
    c.from_residual-in_err-send.ensures.0

pub returns-in_err-send-2-clause-makes : goal.returns-in_err-send-2-clause-makes
returns-in_err-send-2-clause-makes g c = IfOk-from_err c.from_residual-in_err-send-2.result _
    c.from_residual-in_err-send-2.ensures.0

pub returns-in_err-send-2-clause-stock : goal.returns-in_err-send-2-clause-stock
returns-in_err-send-2-clause-stock g c = IfOk-from_err c.from_residual-in_err-send-2.result _
    c.from_residual-in_err-send-2.ensures.0

pub returns-in_err-send-2-clause-mark : goal.returns-in_err-send-2-clause-mark
returns-in_err-send-2-clause-mark g c = IfOk-from_err c.from_residual-in_err-send-2.result _
    c.from_residual-in_err-send-2.ensures.0

pub returns-in_err-send-2-clause-written : goal.returns-in_err-send-2-clause-written
returns-in_err-send-2-clause-written g c = IfOk-from_err c.from_residual-in_err-send-2.result _
    c.from_residual-in_err-send-2.ensures.0

pub returns-clause-part : goal.returns-clause-part
returns-clause-part g c = tt

pub returns-in_default-clause-stays : goal.returns-in_default-clause-stays
returns-in_default-clause-stays g c = record {
  me = refl;
  up = c.requires;
  cached = inl refl;
}

pub returns-in_default-clause-faults : goal.returns-in_default-clause-faults
returns-in_default-clause-faults g c = once_done _ _ _ (le_refl _)

pub returns-in_err-join-clause-stays : goal.returns-in_err-join-clause-stays
returns-in_err-join-clause-stays g c = record {
  me = c.join.ensures.stays.me;
  up = IfOk-from_err c.from_residual.result _ c.from_residual.ensures.0;
  cached = IfOk-from_err c.from_residual.result _ c.from_residual.ensures.0;
}

pub returns-in_err-join-clause-faults : goal.returns-in_err-join-clause-faults
returns-in_err-join-clause-faults g c = once_as c.from_residual.result
    c.in_err-join.field-0.0 c.join.result _ _ c.from_residual.ensures.1 c.in_err-join.was
    c.join.ensures.faults

pub returns-in_err-send-clause-stays : goal.returns-in_err-send-clause-stays
returns-in_err-send-clause-stays g c = record {
  me = c.join.ensures.stays.me;
  up = IfOk-from_err c.from_residual-in_err-send.result _ c.from_residual-in_err-send.ensures.0;
  cached = IfOk-from_err c.from_residual-in_err-send.result _ c.from_residual-in_err-send.ensures.0;
}

pub returns-in_err-send-clause-faults : goal.returns-in_err-send-clause-faults
returns-in_err-send-clause-faults g c = once_memory _ _ _
    c.from_residual-in_err-send.ensures.1 c.join.ensures.faults.counts.count

pub returns-in_err-send-2-clause-stays : goal.returns-in_err-send-2-clause-stays
returns-in_err-send-2-clause-stays g c = record {
  me = c.join.ensures.stays.me;
  up = IfOk-from_err c.from_residual-in_err-send-2.result _ c.from_residual-in_err-send-2.ensures.0;
  cached = IfOk-from_err c.from_residual-in_err-send-2.result _
      c.from_residual-in_err-send-2.ensures.0;
}

pub returns-in_err-send-2-clause-faults : goal.returns-in_err-send-2-clause-faults
returns-in_err-send-2-clause-faults g c = once_memory _ _ _
    c.from_residual-in_err-send-2.ensures.1 c.join.ensures.faults.counts.count

pub returns-clause-stays : goal.returns-clause-stays
returns-clause-stays g c = record {
  me = c.join.ensures.stays.me;
  up = c.in_ok-join.ensures.stays.up;
  cached = inr c.in_ok-join.ensures.stays.cached;
}

pub returns-clause-faults : goal.returns-clause-faults
returns-clause-faults g c = once_done _ _ _ c.join.ensures.faults.counts.count
