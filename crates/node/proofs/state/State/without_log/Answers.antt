use Rattle.std.proofs.Common.{subst, sym}
use Rattle.file_tree.specs.Book.{Entry}
use Rattle.group_rules.specs.Effects.{down, first_mark}
use Rattle.group_rules.specs.Places.{Zero}
use Rattle.group_rules.specs.State.{Server}
use Rattle.node.proofs.Demoted.{joined_on, keeps_lb, pulls_bare, pulls_on, rests_on}
use Rattle.idle_log.specs.Kept.{plan_of}
use Rattle.node.specs.Demoting.{GoesOn}
use Rattle.node.specs.State.{Fits}
use Rattle.node.specs.declared.state.State.{State}
use Rattle.node.specs.declared.state.State.TheVariants as state
use Rattle.node.proofs.state.State.without_log.Goals as goal

-- what is dropped is dropped of any server
any : Server Entry
any = down (first_mark Entry 0 Zero)

pub returns-in-Rests-clause-drops : goal.returns-in-Rests-clause-drops
returns-in-Rests-clause-drops c =
    subst (λ (s : State). GoesOn s (state.Rests c.forget.result)) (sym c.in-Rests.is)
    (rests_on c.in-Rests.kept c.forget.result c.forget.ensures.drops)

pub returns-in-Rests-clause-fits : goal.returns-in-Rests-clause-fits
returns-in-Rests-clause-fits c q old new witness fits =
    keeps_lb q new any c.forget.result c.forget.ensures.drops (c.forget.ensures.placed q witness)

pub returns-in-Joined-clause-drops : goal.returns-in-Joined-clause-drops
returns-in-Joined-clause-drops c =
    subst (λ (s : State). GoesOn s (state.Joined c.forget-in-Joined.result c.in-Joined.joining))
    (sym c.in-Joined.is)
    (joined_on c.in-Joined.kept c.forget-in-Joined.result c.in-Joined.joining
    c.forget-in-Joined.ensures.drops)

pub returns-in-Joined-clause-fits : goal.returns-in-Joined-clause-fits
returns-in-Joined-clause-fits c q old new witness fits = (
  keeps_lb q new any c.forget-in-Joined.result c.forget-in-Joined.ensures.drops
      (c.forget-in-Joined.ensures.placed q witness),
  (subst (λ (s : State). Fits q old s) c.in-Joined.is fits).1,
)

pub returns-in-Pulls-clause-drops : goal.returns-in-Pulls-clause-drops
returns-in-Pulls-clause-drops c =
    subst (λ (s : State). GoesOn s (state.Pulls c.forget-in-Pulls.result c.in-Pulls.joining
    c.in-Pulls.plan c.in-Pulls.staged)) (sym c.in-Pulls.is)
    (pulls_on c.in-Pulls.kept c.forget-in-Pulls.result c.in-Pulls.joining c.in-Pulls.plan
    c.in-Pulls.staged c.forget-in-Pulls.ensures.drops)

pub returns-in-Pulls-clause-fits : goal.returns-in-Pulls-clause-fits
returns-in-Pulls-clause-fits c q old new witness fits =
    let before = subst (λ (s : State). Fits q old s) c.in-Pulls.is fits in (
      keeps_lb q new any c.forget-in-Pulls.result c.forget-in-Pulls.ensures.drops
          (c.forget-in-Pulls.ensures.placed q witness),
      before.1,
      before.2,
      pulls_bare q c.in-Pulls.kept c.forget-in-Pulls.result (plan_of c.in-Pulls.plan)
          c.in-Pulls.staged witness c.forget-in-Pulls.ensures.drops
          (c.forget-in-Pulls.ensures.placed q witness) before.3,
    )
