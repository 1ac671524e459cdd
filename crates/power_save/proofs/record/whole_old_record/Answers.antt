use Rattle.std.proofs.Common.{[], append-nil, sym, ◌∙◌}
use Rattle.event_record.specs.Bytes.{old_record_bytes}
use Rattle.power_save.proofs.Values.{read_whole}
use Rattle.power_save.proofs.record.whole_old_record.Goals as goal

pub returns-else-end-bytes-clause-none : goal.returns-else-end-bytes-clause-none
returns-else-end-bytes-clause-none c = λ e r is fits.
    c.if-end-bytes.false (read_whole c.args.bytes.now (old_record_bytes r) r c.in-Ok.record
    c.in-Ok.end is (c.in-Ok.ensures.only r [] fits (is ∙ sym (append-nil (old_record_bytes r)))))
