-- Why a call gave nothing.
use Rattle.std.proofs.Common.{◌≡◌, ◌≤◌, ℕ}
use Rattle.std.specs.Prelude.{Err, IsErrAnd, Ok, OnErr, Result}
use Rattle.tree_log.specs.Storing.{CountsFaults}

-- what failed as another call counts as that one
pub counts_as : {A B E : Type 0} (r : Result A E) (given failed : E) (call : Result B E)
    (faults risen : ℕ) → IsErrAnd r (λ why. why ≡ given) → call ≡ Err given
    → CountsFaults (call ≡ Err failed) faults risen → CountsFaults (r ≡ Err failed) faults risen
counts_as (Ok x) given failed call faults risen why was counts = absurd why
counts_as (Err e) given failed call faults risen why was counts = record {
  rose = λ is. counts.rose cc;
  count = counts.count;
}

-- what gave something didn't fail
pub counts_none : {A E : Type 0} (x : A) (failed : E) (faults risen : ℕ) → faults ≤ risen
    → CountsFaults (Ok x ≡ Err failed) faults risen
counts_none x failed faults risen count = record { rose = λ is. cc; count = count }

-- what holds anyhow holds after an error
pub err_anyhow : {A E P : Type 0} (r : Result A E) → P → OnErr r P
err_anyhow (Ok x) p = tt
err_anyhow (Err e) p = p
