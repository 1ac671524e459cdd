use Rattle.std.proofs.Common.{◌<◌, ◌≤◌, List, Some, arith, length, slice_get, ap, sym, ◌∙◌}
use Rattle.std.specs.Option.{option_map}
use Rattle.std.proofs.lemmas.Option.{slice_get_past, slice_get_read}
use Rattle.world_lines.specs.Machine.{opened_as}
use Rattle.world_lines.specs.Posted.{Posted}
use Rattle.world_lines.specs.declared.packet.Packet.{Packet}
use Rattle.world_lines.proofs.Machine.{opened_is}
use Rattle.world_lines.proofs.packets.Packets.open.Goals as goal

abbrev its : Posted → Packet
its p = p.packet

pub returns-then-at-len-clause-opened : goal.returns-then-at-len-clause-opened
returns-then-at-len-clause-opened c =
    let past : length c.args.self.now ≤ c.args.n = omega (
      arith,
      c.if-at-len.true,
      c.len.ensures,
      ap length c.self.view_is,
      c.self.inside.kept.ok.0,
    ) in
    sym (ap (option_map its) (slice_get_past c.args.self.now c.args.n past))

pub returns-clause-opened : goal.returns-clause-opened
returns-clause-opened c =
    let ps = c.self.inside.kept.items in
    let within : c.args.n < length ps = omega (
      arith,
      c.if-at-len.false,
      c.len.ensures,
      c.self.inside.kept.ok.0,
    ) in
    ap Some c.in_ok-packet.ensures
    ∙ sym (ap (option_map its) (slice_get_read ps (length ps) c.args.n c.index-kept.result.now
    (omega arith) within c.index-kept.ensures))
    ∙ ap (λ (qs : List Posted). option_map its (slice_get qs c.args.n)) c.self.view_is

-- of the machine

pub returns-then-at-len-clause-machine : goal.returns-then-at-len-clause-machine
returns-then-at-len-clause-machine c packets numbers stands =
    ap opened_as (returns-then-at-len-clause-opened c)
    ∙ opened_is c.args.self.now packets numbers c.args.n stands

pub returns-clause-machine : goal.returns-clause-machine
returns-clause-machine c packets numbers stands =
    ap opened_as (returns-clause-opened c)
    ∙ opened_is c.args.self.now packets numbers c.args.n stands
