use Rattle.std.proofs.Common.{◌∙◌}
use Rattle.world_lines.proofs.Ways.{next_among, next_of_all}
use Rattle.world_lines.proofs.Machine.{lowest_due_is}
use Rattle.world_lines.proofs.packets.Packets.next.Goals as goal

pub returns-in-None-clause-first : goal.returns-in-None-clause-first
returns-in-None-clause-first c =
    c.lowest-in-None-3.ensures
    ∙ rw (
      c.lowest.ensures,
      c.lowest-in-None.ensures,
      c.lowest-in-None-2.ensures,
      c.in-None.is,
      ← c.self.view_is,
    )
    (next_of_all c.self.inside.kept.items c.self.inside.due c.self.invariant.first)

pub returns-in-Some-clause-first : goal.returns-in-Some-clause-first
returns-in-Some-clause-first c =
    c.lower.ensures
    ∙ rw (
      c.get-in-Some.ensures,
      c.get-in-Some-3.ensures,
      c.get.ensures,
      c.get-in-Some-2.ensures,
      c.in-Some.is,
      ← c.self.view_is,
    )
    (next_among c.self.inside.kept.items c.self.inside.due c.in-Some.one c.in-Some.other
    c.self.invariant.first)

-- of the machine

pub returns-in-None-clause-machine : goal.returns-in-None-clause-machine
returns-in-None-clause-machine c packets numbers stands = returns-in-None-clause-first c
    ∙ lowest_due_is c.args.among c.args.self.now packets numbers stands

pub returns-in-Some-clause-machine : goal.returns-in-Some-clause-machine
returns-in-Some-clause-machine c packets numbers stands = returns-in-Some-clause-first c
    ∙ lowest_due_is c.args.among c.args.self.now packets numbers stands
