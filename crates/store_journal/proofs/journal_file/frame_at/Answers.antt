use Rattle.std.proofs.Common.{◌≡◌, ℕ, ◌+◌, ◌∙◌, sym, ap, arith, refl, drop, take, length}
use Rattle.store_journal.specs.JournalFile.{IsTorn, check_sum}
use Rattle.harp_base.proofs.Codec.{IsBytes, u64_codec}
use Rattle.store_journal.proofs.FrameLaws.{first_of, frame_found, if_none, torn_long, torn_other, torn_size, torn_sum, within_of}
use Rattle.store_journal.proofs.journal_file.frame_at.Goals as goal

pub returns-in_err-size-clause-torn : goal.returns-in_err-size-clause-torn
returns-in_err-size-clause-torn c =
    if_none c.from_residual.result (IsTorn (drop c.args.at c.args.bytes.now))
    (torn_size c.args.bytes.now c.args.at c.u64_at.result c.u64_at.ensures.step
    (sym c.ok.ensures.value ∙ c.in_err-size.was))

pub returns-in_err-sum-clause-torn : goal.returns-in_err-sum-clause-torn
returns-in_err-sum-clause-torn c =
    if_none c.from_residual-in_err-sum.result (IsTorn (drop c.args.at c.args.bytes.now))
    (torn_sum c.args.bytes.now c.args.at c.u64_at.result c.u64_at.ensures.step c.in_ok-size.size
    c.in_ok-size.next (sym c.ok.ensures.value ∙ c.in_ok-size.was) c.u64_at-2.result
    c.u64_at-2.ensures.step (sym c.ok-2.ensures.value ∙ c.in_err-sum.was))

pub returns-then-size-bytes-clause-torn : goal.returns-then-size-bytes-clause-torn
returns-then-size-bytes-clause-torn c =
    torn_long c.args.bytes.now c.args.at c.u64_at.result c.u64_at.ensures.step c.in_ok-size.size
    c.in_ok-size.next (sym c.ok.ensures.value ∙ c.in_ok-size.was) c.u64_at-2.result
    c.u64_at-2.ensures.step c.in_ok-sum.sum c.in_ok-sum.from
    (sym c.ok-2.ensures.value ∙ c.in_ok-sum.was) (omega (arith, c.if-size-bytes.true))

pub returns-else-check_sum-sum-clause-torn : goal.returns-else-check_sum-sum-clause-torn
returns-else-check_sum-sum-clause-torn c =
    torn_other c.args.bytes.now c.args.at c.u64_at.result c.u64_at.ensures.step c.in_ok-size.size
    c.in_ok-size.next (sym c.ok.ensures.value ∙ c.in_ok-size.was) c.u64_at-2.result
    c.u64_at-2.ensures.step c.in_ok-sum.sum c.in_ok-sum.from
    (sym c.ok-2.ensures.value ∙ c.in_ok-sum.was)
    (λ same. c.if-check_sum-sum.false (c.check_sum.ensures
    ∙ ap (λ (k : ℕ). check_sum (take k (drop c.in_ok-sum.from c.args.bytes.now))) (omega arith) ∙ same))

pub returns-then-check_sum-sum-clause-found : goal.returns-then-check_sum-sum-clause-found
returns-then-check_sum-sum-clause-found c =
    let fits : IsBytes c.args.bytes.now = λ i. omega (arith, c.type_inv.bytes i) in
    let one = u64_codec.takes c.args.bytes.now c.args.at (c.in_ok-size.size, c.in_ok-size.next) fits
    (sym c.u64_at.ensures.step ∙ first_of c.u64_at.result (c.in_ok-size.size, c.in_ok-size.next)
    (sym c.ok.ensures.value ∙ c.in_ok-size.was)) in
    let two = u64_codec.takes c.args.bytes.now c.in_ok-size.next (c.in_ok-sum.sum, c.in_ok-sum.from) fits
    (sym c.u64_at-2.ensures.step ∙ first_of c.u64_at-2.result (c.in_ok-sum.sum, c.in_ok-sum.from)
    (sym c.ok-2.ensures.value ∙ c.in_ok-sum.was)) in
    frame_found c.args.bytes.now c.args.at c.in_ok-size.next c.in_ok-sum.from
    (c.in_ok-sum.from + c.in_ok-size.size) c.in_ok-size.size c.in_ok-sum.sum one.0 two.0 refl
    (omega (
      arith,
      c.if-size-bytes.false,
      within_of (length c.args.bytes.now) c.u64_at-2.result (c.in_ok-sum.sum, c.in_ok-sum.from)
          (sym c.ok-2.ensures.value ∙ c.in_ok-sum.was) c.u64_at-2.ensures.within,
    )) (sym c.check_sum.ensures ∙ c.if-check_sum-sum.true)
