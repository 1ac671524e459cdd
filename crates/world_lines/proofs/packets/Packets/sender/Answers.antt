use Rattle.std.proofs.Common.{◌<◌, ◌≤◌, List, Some, arith, length, slice_get, ap, sym, ◌∙◌}
use Rattle.std.specs.Option.{option_map}
use Rattle.std.proofs.lemmas.Option.{slice_get_past, slice_get_read}
use Rattle.harp_types.specs.declared.server.ServerId.{ServerId}
use Rattle.group_rules.specs.Names.{place_of}
use Rattle.world_lines.specs.Posted.{Posted}
use Rattle.world_lines.proofs.Machine.{map_twice, sender_is}
use Rattle.world_lines.proofs.packets.Packets.sender.Goals as goal

abbrev its : Posted → ServerId
its p = p.packet.from

pub returns-then-at-len-clause-value : goal.returns-then-at-len-clause-value
returns-then-at-len-clause-value c =
    let past : length c.args.self.now ≤ c.args.n = omega (
      arith,
      c.if-at-len.true,
      c.len.ensures,
      ap length c.self.view_is,
      c.self.inside.kept.ok.0,
    ) in
    sym (ap (option_map its) (slice_get_past c.args.self.now c.args.n past))

pub returns-then-at-len-clause-machine : goal.returns-then-at-len-clause-machine
returns-then-at-len-clause-machine c packets numbers stands =
    ap (option_map place_of) (returns-then-at-len-clause-value c)
    ∙ map_twice its place_of (slice_get c.args.self.now c.args.n)
    ∙ sender_is c.args.self.now packets numbers c.args.n stands

pub returns-clause-value : goal.returns-clause-value
returns-clause-value c =
    let ps = c.self.inside.kept.items in
    let within : c.args.n < length ps = omega (
      arith,
      c.if-at-len.false,
      c.len.ensures,
      c.self.inside.kept.ok.0,
    ) in
    ap Some c.from.ensures
    ∙ sym (ap (option_map its) (slice_get_read ps (length ps) c.args.n c.index-kept.result.now
    (omega arith) within c.index-kept.ensures))
    ∙ ap (λ (qs : List Posted). option_map its (slice_get qs c.args.n)) c.self.view_is

pub returns-clause-machine : goal.returns-clause-machine
returns-clause-machine c packets numbers stands =
    ap (option_map place_of) (returns-clause-value c)
    ∙ map_twice its place_of (slice_get c.args.self.now c.args.n)
    ∙ sender_is c.args.self.now packets numbers c.args.n stands
