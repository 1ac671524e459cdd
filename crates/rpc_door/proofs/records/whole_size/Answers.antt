use Rattle.rpc_door.proofs.Fronts.{stands_whole}
use Rattle.rpc_door.proofs.records.whole_size.Goals as goal

pub returns : goal.returns
returns c = stands_whole c.args.bytes.now c.mark_of-mark.result c.if-bytes-lt-MARK.false
    c.mark_of-mark.ensures c.if-mark-lt-LAST.false c.if-size-gt-LONGEST.false
    c.if-size-bytes.false
