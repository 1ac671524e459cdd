use Rattle.std.proofs.Common.{◌-◌, ◌^◌, min, sym, ap, ◌∙◌}
use Rattle.world_lines.specs.Posted.{bytes_sent}
use Rattle.world.specs.World.{WorldValue}
use Rattle.world.proofs.Refusals.{net_full, net_open, net_passed}
use Rattle.world.proofs.world.World.net_refusal.Goals as goal
use Rattle.world.proofs.world.World.net_refusal.Goals.{else-not-passes_full_net-via-then-not-passes_full_net+else-bytes-gt-NET_LIMIT, else-not-passes_full_net-via-else-not-passes_full_net}

pub returns-then-bytes-gt-NET_LIMIT : goal.returns-then-bytes-gt-NET_LIMIT
returns-then-bytes-gt-NET_LIMIT c w h =
    net_full w c.args.self.now h c.args.step.now c.bytes.result (c.bytes.ensures
    ∙ ap (λ (x : WorldValue). min (bytes_sent x.packets) (2 ^ 64 - 1)) c.self.view_is)
    c.if-bytes-gt-NET_LIMIT.true (sym c.passes_full_net.ensures ∙ c.if-not-passes_full_net.true)

pub returns-else-not-passes_full_net : goal.returns-else-not-passes_full_net
returns-else-not-passes_full_net c w h = elim c.else-not-passes_full_net.branch [
  | else-not-passes_full_net-via-then-not-passes_full_net+else-bytes-gt-NET_LIMIT b ↦
      net_open w c.args.self.now h c.args.step.now b.bytes.result (b.bytes.ensures
      ∙ ap (λ (x : WorldValue). min (bytes_sent x.packets) (2 ^ 64 - 1)) c.self.view_is)
      b.if-bytes-gt-NET_LIMIT.false
      (sym c.passes_full_net.ensures ∙ b.if-not-passes_full_net.true)
  | else-not-passes_full_net-via-else-not-passes_full_net b ↦
      net_passed w c.args.step.now (sym c.passes_full_net.ensures
      ∙ b.if-not-passes_full_net.false)
]
