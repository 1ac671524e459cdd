-- Why steps are refused in the world is why they are in the scene.
use Rattle.std.proofs.Common.{◌≡◌, ℕ, ◌-◌, ◌<◌, ◌≤◌, ◌^◌, ◌&&◌, not, Bool, true, false, nat_lt, min, None, Some, refl, sym, ap, ◌∙◌, arith, if◌then◌else◌}
use Rattle.std.proofs.lemmas.Bool.{le-ltb}
use Rattle.group_trace.specs.DiskRun.{DiskScene}
use Rattle.group_rules.proofs.Tests.{lt_is}
use Rattle.group_rules.specs.Names.{place_of}
use Rattle.group_rules.specs.Places.{Zero, One, Two, Place, Trio, at, get, with_at}
use Rattle.group_rules.specs.Step.{near}
use Rattle.group_trace.specs.Refusals.{clock_refusal, net_limit, net_refusal, passes_full_net}
use Rattle.harp_types.specs.Trio.{value_of}
use Rattle.harp_types.specs.declared.server.ServerId.{ServerId}
use Rattle.world_lines.specs.Posted.{bytes_sent}
use Rattle.trace_types.specs.declared.line.LineFault.TheVariants as fault
use Rattle.trace_types.specs.declared.step.Step.{Step}
use Rattle.world.specs.World.{IsWorld, WorldValue, clocks_are, clocks_in}

-- ---- clocks

near_same : (t : ℕ) (f g : Place → ℕ) → ((q : Place) → f q ≡ g q) → near t f ≡ near t g
near_same t f g same = ap (λ n. near t (get (record {
  zero_th = n;
  one_th = f One;
  two_th = f Two;
}))) (same Zero) ∙ ap (λ n. near t (get (record {
  zero_th = g Zero;
  one_th = n;
  two_th = f Two;
}))) (same One) ∙ ap (λ n. near t (get (record {
  zero_th = g Zero;
  one_th = g One;
  two_th = n;
}))) (same Two)

set_same : (clocks : Trio ℕ) (f : Place → ℕ) → ((q : Place) → get clocks q ≡ f q)
    → (s : Place) (t : ℕ) (q : Place) → get (with_at clocks s t) q ≡ at f s t q
set_same clocks f same Zero t Zero = refl
set_same clocks f same Zero t One = same One
set_same clocks f same Zero t Two = same Two
set_same clocks f same One t Zero = same Zero
set_same clocks f same One t One = refl
set_same clocks f same One t Two = same Two
set_same clocks f same Two t Zero = same Zero
set_same clocks f same Two t One = same One
set_same clocks f same Two t Two = refl

-- a clock that doesn't go back is refused just where it isn't near the others
pub clock_right : (w : DiskScene) (x : WorldValue) → IsWorld w x → (server : ServerId)
    (reading : ℕ) (b : Bool) → nat_lt reading (value_of x.clocks server) ≡ false
    → b ≡ near reading (λ q. get (with_at (clocks_in x) (place_of server) reading) q)
    → clock_refusal w.scene.group (place_of server) reading
    ≡ (if b then None else Some fault.ClockApart)
clock_right w x world server reading b later is =
    let q = place_of server in
    let clock = w.scene.group.clock in
    ap (λ n. if nat_lt reading n then Some fault.ClockBack
    else (if near reading (at clock q reading) then None else Some fault.ClockApart))
    (sym (world.clocks server))
    ∙ ap (λ c. if c then Some fault.ClockBack
    else (if near reading (at clock q reading) then None else Some fault.ClockApart)) later
    ∙ ap (λ c. if c then None else Some fault.ClockApart)
    (sym (is ∙ near_same reading (λ p. get (with_at (clocks_in x) q reading) p)
    (at clock q reading) (set_same (clocks_in x) clock (clocks_are x w world) q reading)))

-- ---- bytes

-- with so many bytes a step is refused unless it passes a full net
pub net_full : (w : DiskScene) (x : WorldValue) → IsWorld w x → (s : Step) (bytes : ℕ)
    → bytes ≡ min (bytes_sent x.packets) (2 ^ 64 - 1) → 532676608 < bytes
    → passes_full_net s ≡ false → net_refusal w.scene s ≡ Some fault.NetFull
unfolding net_limit
net_full w x world s bytes is more passes =
    ap (λ p. if not p && nat_lt net_limit w.scene.sent then Some fault.NetFull else None) passes
    ∙ ap (λ f. if f then Some fault.NetFull else None)
    (lt_is 532676608 w.scene.sent (omega (arith, is, more, world.packets.bytes)))

pub net_open : (w : DiskScene) (x : WorldValue) → IsWorld w x → (s : Step) (bytes : ℕ)
    → bytes ≡ min (bytes_sent x.packets) (2 ^ 64 - 1) → bytes ≤ 532676608
    → passes_full_net s ≡ false → net_refusal w.scene s ≡ None
unfolding net_limit
net_open w x world s bytes is fewer passes =
    ap (λ p. if not p && nat_lt net_limit w.scene.sent then Some fault.NetFull else None) passes
    ∙ ap (λ f. if f then Some fault.NetFull else None)
    (le-ltb 532676608 w.scene.sent (omega (arith, is, fewer, world.packets.bytes)))

pub net_passed : (w : DiskScene) (s : Step) → passes_full_net s ≡ true
    → net_refusal w.scene s ≡ None
net_passed w s passes =
    ap (λ p. if not p && nat_lt net_limit w.scene.sent then Some fault.NetFull else None) passes
