use Rattle.std.proofs.Common.{◌≡◌, ◌<◌, ◌∷◌, List, arith, length, set, ap, sym, subst, ◌∙◌}
use Rattle.world_lines.specs.Kept.{AreFirst}
use Rattle.world_lines.specs.Posted.{Posted, delivered_at}
use Rattle.world_lines.proofs.Firsts.{bytes_stay, none_at, set_is}
use Rattle.world_lines.specs.Machine.{StandFor}
use Rattle.world_lines.proofs.Machine.{as_many_stand, delivered_stand}
use Rattle.world_lines.proofs.packets.Packets.deliver.Goals as goal

pub returns-then-at-len-clause-value : goal.returns-then-at-len-clause-value
returns-then-at-len-clause-value c = none_at c.args.self.now c.args.n
    (omega (
      arith,
      c.if-at-len.true,
      c.len.ensures,
      ap length c.self.view_is,
      c.self.inside.kept.ok.0,
    ))

pub invariant_of-self : goal.invariant_of-self
invariant_of-self c =
    let ps = c.self.inside.kept.items in
    let n = c.args.n in
    let within : n < length ps = omega (
      arith,
      c.if-at-len.false,
      c.len.ensures,
      c.self.inside.kept.ok.0,
    ) in
    let is : set ps n c.arrive.new.self ≡ delivered_at ps n =
    ap (set ps n) c.arrive.ensures
    ∙ set_is ps n c.index_mut-kept.result.now within c.index_mut-kept.ensures.value in
    record {
      counted = rw is (rw (bytes_stay ps n) c.self.invariant.counted);
      first = subst (λ (qs : List Posted). AreFirst qs c.take_due.new.due)
          c.as_slice.ensures.value (c.take_due.ensures ps (c.as_slice.ensures.value
          ∙ is) c.self.invariant.first);
    }

pub returns-clause-value : goal.returns-clause-value
returns-clause-value c =
    let ps = c.self.inside.kept.items in
    let n = c.args.n in
    let within : n < length ps = omega (
      arith,
      c.if-at-len.false,
      c.len.ensures,
      c.self.inside.kept.ok.0,
    ) in
    ap (set ps n) c.arrive.ensures
    ∙ set_is ps n c.index_mut-kept.result.now within c.index_mut-kept.ensures.value
    ∙ ap (λ (qs : List Posted). delivered_at qs n) c.self.view_is

-- of the machine

pub returns-then-at-len-clause-machine : goal.returns-then-at-len-clause-machine
returns-then-at-len-clause-machine c packets numbers stands low =
    absurd (omega (
      arith,
      low,
      as_many_stand c.args.self.now packets numbers stands,
      c.if-at-len.true,
      c.len.ensures,
      ap length c.self.view_is,
      c.self.inside.kept.ok.0,
    ))

pub returns-clause-machine : goal.returns-clause-machine
returns-clause-machine c packets numbers stands low =
    subst (λ (ps : List Posted). StandFor ps packets (c.args.n ∷ numbers))
    (sym (returns-clause-value c))
    (delivered_stand c.args.self.now packets numbers c.args.n stands low)
