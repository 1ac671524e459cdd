-- Why a call gave nothing.
use Rattle.std.proofs.Common.{◌≡◌, ◌≤◌, ℕ, arith}
use Rattle.std.specs.Prelude.{Err, IsErrAnd, Ok, Result}
use Rattle.harp_cells.specs.declared.reads.CellFault.{CellFault}
use Rattle.harp_cells.specs.declared.reads.CellFault.TheVariants as cell
use Rattle.harp_store.specs.declared.store.StoreFault.{StoreFault}
use Rattle.harp_store.specs.declared.store.StoreFault.TheVariants as store
use Rattle.harp_types.specs.Streams.{Rose}
use Rattle.node.specs.Disk.{fault_of, fault_read}
use Rattle.node.specs.Outcomes.{FailsOnce}
use Rattle.node.specs.declared.fault.NodeFault.{NodeFault}
use Rattle.node.specs.declared.fault.NodeFault.TheVariants.{Halted, NoMemory, StoreFailed}

-- what gave something didn't fail
pub not_failed : {A : Type 0} (P : Type 0) (x : A) (why : NodeFault) → Ok x ≡ Err why → P
not_failed P x why is = cc

-- what failed for want of memory alone failed of no halt, nor of its store
pub not_halted : {A : Type 0} (r : Result A NodeFault) → IsErrAnd r (λ why. why ≡ NoMemory)
    → r ≡ Err Halted → ⊥
not_halted (Ok x) none is = absurd none
not_halted (Err why) none is = cc

pub not_stored : {A : Type 0} (P : Type 0) (r : Result A NodeFault)
    → IsErrAnd r (λ why. why ≡ NoMemory) → r ≡ Err StoreFailed → P
not_stored P (Ok x) none is = absurd none
not_stored P (Err why) none is = cc

-- what failed of a call of the store failed of no halt, and of a failed store as the call did
pub store_halted : {A : Type 0} (r : Result A NodeFault) (given : StoreFault)
    → IsErrAnd r (λ why. why ≡ fault_of given) → r ≡ Err Halted → ⊥
store_halted (Ok x) given why is = absurd why
store_halted (Err e) store.Failed why is = cc
store_halted (Err e) store.NoMemory why is = cc

pub store_rose : {A B : Type 0} (P : Type 0) (r : Result A NodeFault) (given : StoreFault)
    (call : Result B StoreFault) → IsErrAnd r (λ why. why ≡ fault_of given) → call ≡ Err given
    → (call ≡ Err store.Failed → P) → r ≡ Err StoreFailed → P
store_rose P (Ok x) given call why was rose is = absurd why
store_rose P (Err e) store.Failed call why was rose is = rose was
store_rose P (Err e) store.NoMemory call why was rose is = cc

-- what failed of another call failed as that one
pub same_halted : {A B : Type 0} (r : Result A NodeFault) (given : NodeFault)
    (call : Result B NodeFault) → IsErrAnd r (λ why. why ≡ given) → call ≡ Err given
    → (call ≡ Err Halted → ⊥) → r ≡ Err Halted → ⊥
same_halted (Ok x) given call why was runs is = absurd why
same_halted (Err e) given call why was runs is = runs cc

pub same_rose : {A B : Type 0} (P : Type 0) (r : Result A NodeFault) (given : NodeFault)
    (call : Result B NodeFault) → IsErrAnd r (λ why. why ≡ given) → call ≡ Err given
    → (call ≡ Err StoreFailed → P) → r ≡ Err StoreFailed → P
same_rose P (Ok x) given call why was rose is = absurd why
same_rose P (Err e) given call why was rose is = rose cc

-- and of a call that reads cells
read_halted : {A : Type 0} (r : Result A NodeFault) (given : CellFault)
    → IsErrAnd r (λ why. why ≡ fault_read given) → r ≡ Err Halted → ⊥
read_halted (Ok x) given why is = absurd why
read_halted (Err e) cell.StoreFailed why is = cc
read_halted (Err e) cell.NoMemory why is = cc

read_rose : {A B : Type 0} (P : Type 0) (r : Result A NodeFault) (given : CellFault)
    (call : Result B CellFault) → IsErrAnd r (λ why. why ≡ fault_read given) → call ≡ Err given
    → (call ≡ Err cell.StoreFailed → P) → r ≡ Err StoreFailed → P
read_rose P (Ok x) given call why was rose is = absurd why
read_rose P (Err e) cell.StoreFailed call why was rose is = rose was
read_rose P (Err e) cell.NoMemory call why was rose is = cc

-- ---- the same in one

pub once_done : {A : Type 0} (x : A) (faults risen : ℕ) → faults ≤ risen
    → FailsOnce (Ok x) faults risen
once_done x faults risen count = record {
  running = λ is. cc;
  counts = record { rose = λ is. cc; count = count };
}

pub once_memory : {A : Type 0} (r : Result A NodeFault) (faults risen : ℕ)
    → IsErrAnd r (λ why. why ≡ NoMemory) → faults ≤ risen → FailsOnce r faults risen
once_memory r faults risen none count = record {
  running = not_halted r none;
  counts = record { rose = not_stored _ r none; count = count };
}

pub once_stored : {A B : Type 0} (r : Result A NodeFault) (given : StoreFault)
    (call : Result B StoreFault) (faults risen : ℕ) → IsErrAnd r (λ why. why ≡ fault_of given)
    → call ≡ Err given → (call ≡ Err store.Failed → Rose faults risen) → faults ≤ risen
    → FailsOnce r faults risen
once_stored r given call faults risen why was rose count = record {
  running = store_halted r given why;
  counts = record { rose = store_rose _ r given call why was rose; count = count };
}

pub once_read : {A B : Type 0} (r : Result A NodeFault) (given : CellFault)
    (call : Result B CellFault) (faults risen : ℕ) → IsErrAnd r (λ why. why ≡ fault_read given)
    → call ≡ Err given → (call ≡ Err cell.StoreFailed → Rose faults risen) → faults ≤ risen
    → FailsOnce r faults risen
once_read r given call faults risen why was rose count = record {
  running = read_halted r given why;
  counts = record { rose = read_rose _ r given call why was rose; count = count };
}

pub once_as : {A B : Type 0} (r : Result A NodeFault) (given : NodeFault)
    (call : Result B NodeFault) (faults risen : ℕ) → IsErrAnd r (λ why. why ≡ given)
    → call ≡ Err given → FailsOnce call faults risen → FailsOnce r faults risen
once_as r given call faults risen why was once = record {
  running = same_halted r given call why was once.running;
  counts = record {
    rose = same_rose _ r given call why was once.counts.rose;
    count = once.counts.count;
  };
}

-- after a call that went well
pub once_later : {A : Type 0} (r : Result A NodeFault) (first faults risen : ℕ) → first ≤ faults
    → FailsOnce r faults risen → FailsOnce r first risen
once_later r first faults risen before once = record {
  running = once.running;
  counts = record {
    rose = λ is. rose_earlier first faults risen before (once.counts.rose is);
    count = omega (arith, before, once.counts.count);
  };
}
  where
    rose_earlier : (first faults risen : ℕ) → first ≤ faults → Rose faults risen
        → Rose first risen
    rose_earlier first faults risen before rose = omega (arith, before, rose)
