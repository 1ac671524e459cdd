-- Sources and sinks in memory, some of whose calls fail.
use Rattle.std.specs.Prelude.{◌≡◌, ℕ, ◌+◌, ◌-◌, ◌^◌, min, List, Any}

-- the numbers of the calls that fail, from 1; the calls and the failed ones so far, as far as a u64
-- counts
pub record Failing : Type 0 where
  pub fails : List ℕ
  pub calls : ℕ
  pub faults : ℕ

abbrev pub raised : ℕ → ℕ
raised count = min (count + 1) (2 ^ 64 - 1)

-- before the first call
abbrev pub before_calls : List ℕ → Failing
before_calls fails = record { fails = fails; calls = 0; faults = 0 }

-- the next call is one that fails
abbrev pub FailsNext : Failing → Type 0
FailsNext f = Any (λ n. n ≡ f.calls + 1) f.fails

-- after a call that failed, and after one that didn't
abbrev pub after_fault : Failing → Failing
after_fault f = record { fails = f.fails; calls = raised f.calls; faults = raised f.faults }

abbrev pub after_success : Failing → Failing
after_success f = record { fails = f.fails; calls = raised f.calls; faults = f.faults }

-- a source in memory: the bytes left
pub record Reading : Type 0 where
  pub left : List ℕ
  pub failing : Failing

-- a sink in memory: the bytes written
pub record Writing : Type 0 where
  pub written : List ℕ
  pub failing : Failing
