-- A coordinator's choice.
use Rattle.std.specs.Prelude.{ℕ, List, ◌∷◌, ◌++◌, Option}
use Rattle.file_tree.specs.Book.{Entry}
use Rattle.group_rules.specs.Form.{form_moves}
use Rattle.group_rules.specs.Joining.{to_each}
use Rattle.group_rules.specs.Moves.{Choosing, Collecting, Move}
use Rattle.group_rules.specs.Places.{Place, Trio, other_storers}
use Rattle.group_rules.specs.State.{Chose, Form, Plan, Report, Server}

-- the moves of a coordinator that chose this plan by these joins, for a view that starts from
-- another one
abbrev pub choosing : Place → Server Entry → Trio (Option Report) → Plan → ℕ → List (Move Entry)
choosing q s reports plan from = Collecting reports ∷ Choosing plan from
    ∷ (to_each (Form s.promised plan) (other_storers q plan.storers)
    ++ form_moves q (record s { duty = Chose s.promised plan }) plan)
