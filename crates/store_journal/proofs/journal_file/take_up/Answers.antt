use Rattle.std.proofs.Common.{ℕ, Option, Some, refl, subst, arith}
use Rattle.store_journal.specs.Waiting.{TakesEntry}
use Rattle.store_journal.proofs.FrameLaws.{none_taken, one_more}
use Rattle.store_journal.proofs.journal_file.take_up.Goals as goal

pub loop-next-init : goal.loop-next-init
loop-next-init c = record {
  within = omega arith;
  taken = none_taken c.args.bytes.now c.args.waiting.now;
}

pub loop-next-preserved : goal.loop-next-preserved
loop-next-preserved c =
    let next = c.in-Ok-Some.next in
    let t : TakesEntry c.args.bytes.now c.loop-next.at (Some next) c.loop-next.waiting
    c.take_entry.new.waiting =
    subst (λ (o : Option ℕ). TakesEntry c.args.bytes.now c.loop-next.at o c.loop-next.waiting
    c.take_entry.new.waiting) c.in-Ok-Some.field-0-is c.in-Ok-Some.ensures.taken in
    record {
      within = t.3;
      taken = one_more c.args.bytes.now c.loop-next.at next c.args.waiting.now c.loop-next.waiting
          c.take_entry.new.waiting t.0 c.loop-next.invariant.taken t.1 t.2 t.3 t.4;
    }
