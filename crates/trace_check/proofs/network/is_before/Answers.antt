use Rattle.std.proofs.Common.{◌≡◌, ℕ, ◌+◌, ◌-◌, ◌^◌, ◌<◌, ◌≤◌, arith}
use Rattle.std.specs.Prelude.{◌↔◌, IsTrue, min, nat_lt}
use Rattle.std.proofs.lemmas.Bool.{lt-ltb, ltb-true}
use Rattle.trace_check.proofs.network.is_before.Goals as goal

before_is : (exact moment until : ℕ) → until < 2 ^ 64 → moment ≡ min exact (2 ^ 64 - 1)
    → IsTrue (nat_lt moment until) ↔ (exact + 1 ≤ until)
before_is exact moment until fits e = (
  λ h. let lt = ltb-true moment until h in omega (arith, lt, e, fits),
  λ h. lt-ltb moment until (omega (arith, h, e)),
)

pub returns : goal.returns
returns c = λ exact e. before_is exact c.args.moment c.args.until c.ranges.until.fits e
