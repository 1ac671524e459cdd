use Rattle.std.proofs.Common.{arith}
use Rattle.rpc_door.specs.Records.{bytes_left}
use Rattle.rpc_door.specs.Serving.{faults}
use Rattle.rpc_door.proofs.Nexts.{known_record, whole_next}
use Rattle.rpc_door.proofs.Turns.{caused_behind}
use Rattle.rpc_door.proofs.serving.serve_record.Goals as goal

pub returns-in-Some-clause-ends : goal.returns-in-Some-clause-ends
returns-in-Some-clause-ends g c bytes is =
    let left = g.S.Source.left c.args.source.now in
    let next = whole_next c.in-Some.size c.args.desk.now.reader bytes left c.in-Some.ensures is in
    c.serve_bytes-done.ensures.ends bytes next.0 (bytes_left c.pass.new.self left) left
    c.args.number (rw c.record-bytes.ensures next.1) (rw c.pass.ensures next.2)

pub returns-clause-ends : goal.returns-clause-ends
returns-clause-ends g c bytes is =
    let out = c.next.new.out.items in
    let source = g.S.Source.left c.next.new.source in
    let after = bytes_left c.next.new.self source in
    let gives = rw (is, c.in-Ok-Record.field-0-is) at c.in-Ok-Record.ensures.ok in
    let next = known_record bytes out after gives in
    c.serve_bytes.ensures.ends bytes next.0 after source c.args.number
    (rw c.as_slice.ensures.value next.2) next.1

pub returns-clause-cause : goal.returns-clause-cause
returns-clause-cause g c =
    let writes = g.K.Sink.faults c.args.sink.now in
    let calls = g.G.Group.counts c.args.group.now in
    let reads = g.S.Source.faults c.next.new.source in
    caused_behind c.serve_bytes.result (faults (g.S.Source.faults c.args.source.now) writes calls)
    (faults reads writes calls)
    (faults reads (g.K.Sink.faults c.serve_bytes.new.sink)
    (g.G.Group.counts c.serve_bytes.new.group))
    (c.in-Ok-Record.ensures.count, omega arith, (omega arith, omega arith))
    (c.serve_bytes.ensures.cause reads)
