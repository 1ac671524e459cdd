use Rattle.text_writer.proofs.Hex.{one_group}
use Rattle.text_writer.proofs.digits.put_groups.Goals as goal

pub loop-group-preserved : goal.loop-group-preserved
loop-group-preserved g c =
    one_group c.loop-group.out.items c.put_group.new.out.items c.loop-group.rest.now
    c.in-Some.group.now c.in-Some.behind.now _ g.row.N c.in-Some.ensures.cases.0
    c.in-Some.ensures.cases.1 c.in_ok-put_group.ensures c.loop-group.invariant
