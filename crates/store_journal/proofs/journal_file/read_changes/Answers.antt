use Rattle.std.proofs.Common.{arith, subst}
use Rattle.harp_base.specs.declared.field.Misread.{Misread}
use Rattle.harp_base.specs.declared.field.Misread.TheVariants.{Ends, BadTag, TooLong}
use Rattle.harp_base.specs.Fields.{Fails}
use Rattle.store_journal.specs.JournalFile.{changes_at}
use Rattle.store_journal.proofs.FrameLaws.{changes_taken, no_misread, same_end}
use Rattle.store_journal.proofs.journal_file.read_changes.Goals as goal

pub returns-then-end-bytes : goal.returns-then-end-bytes
returns-then-end-bytes c = record {
  only = λ changes fits e failed. absurd cc;
  found = changes_taken c.args.bytes.now (c.in-Ok.changes.items, c.in-Ok.end)
      (λ i. omega (arith, c.type_inv.bytes i)) c.in-Ok.ensures.step c.if-end-bytes.true;
}

pub returns-else-end-bytes-clause-only : goal.returns-else-end-bytes-clause-only
returns-else-end-bytes-clause-only c = λ changes fits e failed.
    c.if-end-bytes.false
    (same_end c.args.bytes.now changes (c.in-Ok.changes.items, c.in-Ok.end) fits e
    c.in-Ok.ensures.step)

pub returns-in-Err-Ends-clause-only : goal.returns-in-Err-Ends-clause-only
returns-in-Err-Ends-clause-only c = λ changes fits e failed.
    no_misread c.args.bytes.now changes (Ends c.in-Err-Ends.field-0-0 c.in-Err-Ends.field-0-1) fits e
    (subst (λ (d : Misread). Fails d (changes_at c.args.bytes.now 0)) c.in-Err-Ends.field-0-is
    c.in-Err-Ends.ensures.step)

pub returns-in-Err-BadTag-clause-only : goal.returns-in-Err-BadTag-clause-only
returns-in-Err-BadTag-clause-only c = λ changes fits e failed.
    no_misread c.args.bytes.now changes (BadTag c.in-Err-BadTag.field-0-0) fits e
    (subst (λ (d : Misread). Fails d (changes_at c.args.bytes.now 0)) c.in-Err-BadTag.field-0-is
    c.in-Err-BadTag.ensures.step)

pub returns-in-Err-TooLong-clause-only : goal.returns-in-Err-TooLong-clause-only
returns-in-Err-TooLong-clause-only c = λ changes fits e failed.
    no_misread c.args.bytes.now changes (TooLong c.in-Err-TooLong.field-0-0) fits e
    (subst (λ (d : Misread). Fails d (changes_at c.args.bytes.now 0)) c.in-Err-TooLong.field-0-is
    c.in-Err-TooLong.ensures.step)
