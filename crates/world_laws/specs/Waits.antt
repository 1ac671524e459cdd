-- Who waits for the commit of an update.
use Rattle.std.specs.Prelude.{◌≡◌, ℕ, ◌+◌, ◌≤◌, true, length, Some}
use Rattle.file_tree.specs.Book.{Entry}
use Rattle.group_rules.specs.Effects.{booted, down}
use Rattle.group_rules.specs.Moves.{acts}
use Rattle.group_rules.specs.Places.{Place}
use Rattle.group_rules.specs.Said.{answers_said, refusals_said}
use Rattle.group_rules.specs.State.{Group, Mark, Open, Server, top}
use Rattle.group_rules.specs.Step.{Input as Begins, list_of}
use Rattle.group_safety.specs.Laws.{Whole}
use Rattle.world_laws.specs.Begins.{MayBegin}
use Rattle.world_rules.specs.Steps.{moves_at, peers_by}
use Rattle.node.specs.Input.{came, input_of}
use Rattle.node.specs.Stock.{Stock, stock_after}
use Rattle.node.specs.declared.input.Input.{Input}

-- EACH UPDATE ABOVE CP at an open leader has somebody who waits for it
abbrev pub HasWaits : Server Entry → Stock → Type 0
HasWaits s k = s.mode ≡ Open → top s ≤ s.cp + length k.waits

-- A STEP ANSWERS and refuses no more calls than there is somebody to answer, and afterwards too each
-- update above CP has somebody who waits
pub record StepWaits (g : Group Entry) (q : Place) (k : Stock) (given : Input) (i : Begins)
    : Type 0 where
  pub answers : length (answers_said (moves_at g q i)) ≤ length (peers_by k given)
  pub refusals : length (refusals_said (moves_at g q i)) ≤ length (peers_by k given)
  pub after : HasWaits (acts q (g.clock q) (g.server q) (moves_at g q i))
      (stock_after q (g.clock q) (list_of g q) (came given) (peers_by k given) (g.server q)
      (moves_at g q i) k)

abbrev pub StepsWait : Type 0
StepsWait = (g : Group Entry) → Whole g → (q : Place) → (g.server q).up ≡ true → (k : Stock)
    → HasWaits (g.server q) k → (given : Input) (i : Begins) → input_of given ≡ Some i
    → MayBegin g q i → StepWaits g q k given i

-- a server that fell or has just booted leads no view, so nobody has to wait
pub record RestingWait : Type 0 where
  pub after_fall : (m : Mark Entry) (k : Stock) → HasWaits (down m) k
  pub after_boot : (q : Place) (clock delta : ℕ) (m : Mark Entry) (k : Stock)
      → HasWaits (booted q clock delta m) k
