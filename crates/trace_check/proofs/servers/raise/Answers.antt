use Rattle.std.proofs.Common.{refl, sym, subst}
use Rattle.std.proofs.lemmas.Result.{on_ok_weaker}
use Rattle.trace_check.specs.Marks.{IsRaised}
use Rattle.trace_check.specs.ServersSeen.{IsAt}
use Rattle.trace_check.proofs.servers.raise.Goals as goal

pub returns-in-Zero : goal.returns-in-Zero
returns-in-Zero c =
    let old = c.args.marks.now in
    on_ok_weaker c.raise.result
    (λ raised. subst (λ s. IsAt s (IsRaised c.args.key c.args.number) old
    (record { zero = c.raise.new.self; one = old.one; two = old.two })) (sym c.in-Zero.is)
    (refl, raised)) c.raise.ensures

pub returns-in-One : goal.returns-in-One
returns-in-One c =
    let old = c.args.marks.now in
    on_ok_weaker c.raise-in-One.result
    (λ raised. subst (λ s. IsAt s (IsRaised c.args.key c.args.number) old
    (record { zero = old.zero; one = c.raise-in-One.new.self; two = old.two })) (sym c.in-One.is)
    (refl, raised)) c.raise-in-One.ensures

pub returns-in-Two : goal.returns-in-Two
returns-in-Two c =
    let old = c.args.marks.now in
    on_ok_weaker c.raise-in-Two.result
    (λ raised. subst (λ s. IsAt s (IsRaised c.args.key c.args.number) old
    (record { zero = old.zero; one = old.one; two = c.raise-in-Two.new.self })) (sym c.in-Two.is)
    (refl, raised)) c.raise-in-Two.ensures
