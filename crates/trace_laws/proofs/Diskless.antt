-- Steps that change no cells: all but an apply, a flush, a power failure and a crash.
use Rattle.std.proofs.Common.{ℕ, List, [], ◌∷◌}
use Rattle.std.specs.Prelude.{⊤}
use Rattle.std.specs.List.{AllByRecursion}
use Rattle.file_tree.specs.Book.{Entry}
use Rattle.group_rules.specs.Moves.{Applying, Basing, Falling, Flushing, Move, Opening, Saving, Sending, acts}
use Rattle.group_rules.specs.Open.{rebase}
use Rattle.group_rules.specs.Places.{Place}
use Rattle.group_rules.specs.State.{Server}
use Rattle.group_rules.specs.Step.{Apply, Crash, Does, Flush, Input, Power, rule, step as step_moves}
use Rattle.trace_laws.proofs.MoveKinds.{AreTail, IsTail, each-append}
use Rattle.trace_laws.proofs.StepCalls.{IsSteady, MayCall, Once, once_steady, rule_once}
use Rattle.trace_laws.proofs.StepKinds.{tail_base}

-- a move that changes no cells
abbrev pub IsDiskless : Move Entry → Type 0
IsDiskless (Applying n) = ⊥
IsDiskless Flushing = ⊥
IsDiskless Saving = ⊥
IsDiskless Falling = ⊥
IsDiskless m = ⊤

abbrev pub AreDiskless : List (Move Entry) → Type 0
AreDiskless ms = AllByRecursion IsDiskless ms

-- a step of another kind than those that change cells
abbrev pub HasNoCells : Input → Type 0
HasNoCells (Does (Apply n)) = ⊥
HasNoCells (Does Flush) = ⊥
HasNoCells (Does Power) = ⊥
HasNoCells (Does Crash) = ⊥
HasNoCells i = ⊤

pub tails_diskless : (ms : List (Move Entry)) → AreTail ms → AreDiskless ms
tails_diskless [] h = tt
tails_diskless (m ∷ ms) h = (one m h.0, tails_diskless ms h.1)
  where
    one : (m : Move Entry) → IsTail m → IsDiskless m
    one (Sending to x) h = tt
    one (Basing n) h = tt
    one (Opening lb) h = tt
    one m h = absurd h

steady_diskless : (ms : List (Move Entry)) → AllByRecursion IsSteady ms → AreDiskless ms
steady_diskless [] h = tt
steady_diskless (m ∷ ms) h = (one m h.0, steady_diskless ms h.1)
  where
    one : (m : Move Entry) → IsSteady m → IsDiskless m
    one (Applying n) h = absurd h
    one Flushing h = absurd h
    one Saving h = absurd h
    one Falling h = absurd h
    one m h = tt

-- whose calls are steady
steady_rule : (i : Input) → HasNoCells i → (ms : List (Move Entry)) → Once (MayCall i) ms
    → Once IsSteady ms
steady_rule (Does (Apply n)) h ms o = absurd h
steady_rule (Does Flush) h ms o = absurd h
steady_rule (Does Power) h ms o = absurd h
steady_rule (Does Crash) h ms o = absurd h
steady_rule i h ms o = o

pub step_diskless : (size : List Entry → Entry → ℕ) (q : Place) (clock : ℕ) (list : List Entry)
    (s : Server Entry) (i : Input) → HasNoCells i → AreDiskless (step_moves size q clock list s i)
step_diskless size q clock list s i h =
    let ms = rule size q clock list s i in
    each-append IsDiskless ms (rebase (acts q clock s ms))
    (steady_diskless ms (once_steady ms (steady_rule i h ms (rule_once size q clock list s i))))
    (tails_diskless _ (tail_base (acts q clock s ms)))
