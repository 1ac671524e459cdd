use Rattle.std.proofs.Common.{sym, ◌∙◌}
use Rattle.file_tree.specs.Book.{Entry}
use Rattle.group_rules.specs.Effects.{down, first_mark}
use Rattle.group_rules.specs.Places.{Zero}
use Rattle.group_rules.specs.State.{Server}
use Rattle.idle_log.proofs.FormTests.{can_take}
use Rattle.idle_log.specs.Kept.{plan_of}
use Rattle.idle_log.proofs.kept.Kept.fits.Goals as goal

-- the tests are those of any server
any : Server Entry
any = down (first_mark Entry 0 Zero)

pub returns-clause-can : goal.returns-clause-can
returns-clause-can c passed = can_take _ c.args.lb c.args.self.now any
    (plan_of c.args.form.now) c.requires
    (sym (c.passes.ensures any) ∙ passed)
