use Rattle.std.proofs.Common.{◌≡◌, ◌+◌, ◌≤◌, Some, arith, inl, inr, refl}
use Rattle.std.proofs.lemmas.Bool.{cases_lt}
use Rattle.rpc_door.specs.Records.{bytes_left}
use Rattle.rpc_door.specs.Serving.{most_records, side}
use Rattle.rpc_door.proofs.Turns.{door_stops, ends_well, goes_first, goes_more, stays_then}
use Rattle.rpc_door.proofs.serving.serve_rpc.Goals as goal

pub loop-number-init : goal.loop-number-init
loop-number-init g c = record {
  goes = λ input is.
      let s = side (g.G.Group.told c.args.group.now) (g.G.Group.unanswered c.args.group.now) (g.K.Sink.written c.args.sink.now) in
      let left : bytes_left c.in-Ok.desk.reader (g.S.Source.left c.args.source.now) ≡ Some input =
      rw (c.in-Ok.ensures, is) refl in
      goes_first c.args.cred input
      (bytes_left c.in-Ok.desk.reader (g.S.Source.left c.args.source.now)) s left;
  runs = c.requires;
  some = omega arith;
  few = omega arith;
  stay = (omega arith, omega arith, (omega arith, omega arith));
  on = λ o h. h;
}

pub loop-number-preserved : goal.loop-number-preserved
unfolding most_records
loop-number-preserved g c =
    let inv = c.loop-number.invariant in
    let e = c.in-Ok-GoesOn.ensures in
    let n = c.loop-number.number in
    let few : n ≤ 1048575 =
    elim (cases_lt 1048575 n) [
      | inl more ↦ absurd (e.last more c.in-Ok-GoesOn.field-0-is)
      | inr le ↦ le
    ] in
    let within : n ≤ most_records = few in
    record {
      goes = λ input is.
          let gs = inv.goes input is in
          let after = bytes_left c.serve_next.new.desk.reader (g.S.Source.left c.serve_next.new.source) in
          let new = side (g.G.Group.told c.serve_next.new.group) (g.G.Group.unanswered c.serve_next.new.group)
          (g.K.Sink.written c.serve_next.new.sink) in
          goes_more c.args.cred input n _ _ _ gs after new
          (rw c.in-Ok-GoesOn.field-0-is at (e.ends gs.rest gs.left_is)) within;
      runs = e.runs;
      some = omega arith;
      few = omega (arith, few);
      stay = stays_then _ _ _ inv.stay e.counts;
      on = λ o h. e.on o (inv.on o h);
    }

pub returns-in-Ok-Ended-clause-ends : goal.returns-in-Ok-Ended-clause-ends
unfolding most_records
returns-in-Ok-Ended-clause-ends g c input is =
    let gs = c.loop-number.invariant.goes input is in
    let source = g.S.Source.left c.serve_next.new.source in
    let new = side (g.G.Group.told c.serve_next.new.group) (g.G.Group.unanswered c.serve_next.new.group)
    (g.K.Sink.written c.serve_next.new.sink) in
    let few : c.loop-number.number ≤ most_records + 1 = omega (arith, c.loop-number.invariant.few) in
    let t = rw c.in-Ok-Ended.field-0-is at (c.in-Ok-Ended.ensures.ends gs.rest gs.left_is) in
    ends_well c.args.cred input c.loop-number.number _ _ _ gs source new few t.0 t.1 t.2

pub returns-in-Err-serve_next-clause-ends : goal.returns-in-Err-serve_next-clause-ends
unfolding most_records
returns-in-Err-serve_next-clause-ends g c input is =
    let gs = c.loop-number.invariant.goes input is in
    let source = g.S.Source.left c.serve_next.new.source in
    let new = side (g.G.Group.told c.serve_next.new.group) (g.G.Group.unanswered c.serve_next.new.group)
    (g.K.Sink.written c.serve_next.new.sink) in
    let few : c.loop-number.number ≤ most_records + 1 = omega (arith, c.loop-number.invariant.few) in
    door_stops c.args.cred input c.loop-number.number _ _ _ gs source new
    c.in-Err-serve_next.fault few
    (c.in-Err-serve_next.ensures.ends gs.rest gs.left_is)
