use Rattle.std.proofs.Common.{◌∙◌}
use Rattle.trace_check.proofs.SameLemmas.{calls_by_bytes}
use Rattle.trace_check.proofs.same.same_call.Goals as goal

pub returns : goal.returns
returns c =
    calls_by_bytes c.args.one.now c.args.other.now c.eq.result c.as_slice.result.now
    c.as_slice-2.result.now c.eq.ensures
    (c.as_slice.ensures.value ∙ c.in_ok-first.ensures.value)
    (c.as_slice-2.ensures.value ∙ c.in_ok-second.ensures.value)
    c.in_ok-first.ensures.fits c.in_ok-second.ensures.fits
