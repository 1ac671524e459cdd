use Rattle.std.proofs.Common.{[], append-nil, sym, ◌∙◌}
use Rattle.event_record.specs.Bytes.{record_bytes}
use Rattle.power_save.proofs.Values.{read_whole}
use Rattle.power_save.proofs.record.whole_record.Goals as goal

pub returns-else-length-bytes-clause-none : goal.returns-else-length-bytes-clause-none
returns-else-length-bytes-clause-none c = λ e r is fits.
    c.if-length-bytes.false (read_whole c.args.bytes.now (record_bytes r) r c.in-Ok.record
    c.in-Ok.length is (c.in-Ok.ensures.only r [] fits (is ∙ sym (append-nil (record_bytes r)))))
