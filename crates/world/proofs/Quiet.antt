-- Steps in which no server turns: bytes that are dropped, clocks, the length of promises, and stops.
use Rattle.std.proofs.Common.{◌≡◌, ℕ, ◌+◌, Bool, true, false, List, [], ◌∷◌, None, Some, refl, sym, ap, ◌∙◌, subst, arith, if◌then◌else◌}
use Rattle.group_trace.specs.DiskCalls.{measures_of}
use Rattle.group_trace.specs.DiskRun.{DiskScene, disk_next}
use Rattle.group_rules.specs.Limits.{delta_tests}
use Rattle.group_rules.specs.Names.{place_of}
use Rattle.group_rules.specs.Places.{Place, all_of, at}
use Rattle.group_safety.proofs.Moving.{at_self}
use Rattle.group_trace.specs.Run.{step_lines, with_delta}
use Rattle.harp_types.specs.Trio.{value_of, with_value}
use Rattle.harp_types.specs.declared.server.ServerId.{ServerId}
use Rattle.harp_types.specs.declared.server.ServerId.TheVariants as server
use Rattle.harp_types.specs.declared.trio.Trio.{Trio}
use Rattle.world_rules.specs.Spellings.{spellings}
use Rattle.world_rules.specs.Steps.{IsStop}
use Rattle.world_rules.specs.declared.stop.Stop.{Stop}
use Rattle.trace_types.specs.declared.line.Line.TheVariants as line
use Rattle.harp_types.specs.declared.pick.Pick.{Pick}
use Rattle.trace_types.specs.declared.step.Step.{Step}
use Rattle.trace_types.specs.declared.step.Step.TheVariants as step
use Rattle.world.specs.Clocks.{delta_after, later}
use Rattle.world.specs.Steps.{Leads, Takes}
use Rattle.world.specs.World.{IsWorld, WorldValue}
use Rattle.world.proofs.Servers.{server_kept}
use Rattle.world.proofs.Tables.{at_other, each_value}

-- the scene with other clocks and another length of promises, in which nothing was sent
abbrev clocked : DiskScene → (Place → ℕ) → ℕ → DiskScene
clocked w clock delta = record w {
  scene = record (w.scene) {
    group = record (w.scene.group) { clock = clock; delta = delta };
    sent = w.scene.sent + 0;
  };
}

-- the world with them stands at it
clocked_stands : (w : DiskScene) (x : WorldValue) (clock : Place → ℕ) (delta : ℕ)
    (clocks : Trio ℕ) → IsWorld w x
    → ((s : ServerId) → value_of clocks s ≡ clock (place_of s))
    → IsWorld (clocked w clock delta) (record x { clocks = clocks; delta = delta })
clocked_stands w x clock delta clocks world same =
    let w' = clocked w clock delta in
    record {
      servers = λ y. server_kept w w' y (value_of x.hosts y) (λ k has. has) (λ records has. has)
          refl refl (world.servers y);
      stops = world.stops;
      clocks = same;
      delta = refl;
      packets = record {
        packets = world.packets.packets;
        records = world.packets.records;
        bytes = omega (arith, world.packets.bytes);
      };
      book = record { entries = world.book.entries; updates = world.book.updates };
    }

leads_so : (w : DiskScene) (s : Step) (new : WorldValue)
    → IsWorld (disk_next spellings w s) new
    → step_lines (measures_of spellings) w.scene s ≡ line.Event s ∷ [] → Leads w s [] new
leads_so w s new left says = record { lines_are = sym says; left = left }

-- ---- noise

pub noise_taken : (old : WorldValue) (server : ServerId) (bytes : List ℕ)
    → Takes old old (step.Noise server bytes) []
noise_taken old server bytes w reached world none =
    leads_so w (step.Noise server bytes) old
    (subst (λ (d : ℕ). IsWorld (clocked w w.scene.group.clock d) old) world.delta
    (clocked_stands w old w.scene.group.clock old.delta old.clocks world world.clocks)) refl

-- ---- clocks

set_right : (clocks : Trio ℕ) (clock : Place → ℕ) (server : ServerId) (reading : ℕ)
    → ((s : ServerId) → value_of clocks s ≡ clock (place_of s))
    → (s : ServerId) → value_of (with_value clocks server reading) s
    ≡ at clock (place_of server) reading (place_of s)
set_right clocks clock server reading same = each_value
    (λ s n. n ≡ at clock (place_of server) reading (place_of s)) clocks server reading
    (λ s other. same s ∙ sym (at_other clock (place_of server) (place_of s) reading other))
    (sym (at_self clock (place_of server) reading))

pub clock_taken : (old new : WorldValue) (server : ServerId) (reading : ℕ)
    → new ≡ record old { clocks = with_value old.clocks server reading }
    → Takes old new (step.Clock server reading) []
clock_taken old new server reading is w reached world none =
    let clock = at w.scene.group.clock (place_of server) reading in
    let clocks = with_value old.clocks server reading in
    leads_so w (step.Clock server reading) new
    (subst (λ x. IsWorld (clocked w clock w.scene.group.delta) x) (sym is)
    (subst (λ (d : ℕ). IsWorld (clocked w clock d) (record old { clocks = clocks })) world.delta
    (clocked_stands w old clock old.delta clocks world
    (set_right old.clocks w.scene.group.clock server reading world.clocks)))) refl

later_right : (clocks : Trio ℕ) (clock : Place → ℕ) (millis : ℕ)
    → ((s : ServerId) → value_of clocks s ≡ clock (place_of s))
    → (s : ServerId) → value_of (later clocks millis) s ≡ clock (place_of s) + millis
later_right clocks clock millis same server.Zero = ap (λ n. n + millis) (same server.Zero)
later_right clocks clock millis same server.One = ap (λ n. n + millis) (same server.One)
later_right clocks clock millis same server.Two = ap (λ n. n + millis) (same server.Two)

pub advance_taken : (old new : WorldValue) (millis : ℕ)
    → new ≡ record old { clocks = later old.clocks millis }
    → Takes old new (step.Advance millis) []
advance_taken old new millis is w reached world none =
    let clock = λ (q : Place). w.scene.group.clock q + millis in
    let clocks = later old.clocks millis in
    leads_so w (step.Advance millis) new
    (subst (λ x. IsWorld (clocked w clock w.scene.group.delta) x) (sym is)
    (subst (λ (d : ℕ). IsWorld (clocked w clock d) (record old { clocks = clocks })) world.delta
    (clocked_stands w old clock old.delta clocks world
    (later_right old.clocks w.scene.group.clock millis world.clocks)))) refl

-- ---- the length of promises

delta_right : (w : DiskScene) (x : WorldValue) (millis : ℕ) → IsWorld w x
    → IsWorld (record w {
      scene = record (w.scene) {
        group = with_delta w.scene.group millis;
        sent = w.scene.sent + 0;
      };
    }) (record x { delta = delta_after x.delta millis })
delta_right w x millis world = by (all_of (delta_tests millis))
  where
    by : (b : Bool) → IsWorld (record w {
      scene = record (w.scene) {
        group = if b then record (w.scene.group) { delta = millis } else w.scene.group;
        sent = w.scene.sent + 0;
      };
    }) (record x { delta = if b then millis else x.delta })
    by true = clocked_stands w x w.scene.group.clock millis x.clocks world world.clocks
    by false = subst (λ (d : ℕ). IsWorld (clocked w w.scene.group.clock d) x) world.delta
        (clocked_stands w x w.scene.group.clock x.delta x.clocks world world.clocks)

pub delta_taken : (old new : WorldValue) (millis : ℕ)
    → new ≡ record old { delta = delta_after old.delta millis }
    → Takes old new (step.Delta millis) []
delta_taken old new millis is w reached world none =
    leads_so w (step.Delta millis) new
    (subst (λ x. IsWorld (disk_next spellings w (step.Delta millis)) x) (sym is)
    (delta_right w old millis world)) refl

-- ---- stops

pub stop_taken : (old new : WorldValue) (server : ServerId) (calls : ℕ) (pick : Pick) (stop : Stop)
    → new ≡ record old { stops = with_value old.stops server (Some stop) }
    → IsStop (Some stop) (Some calls) pick → Takes old new (step.Stop server calls pick) []
stop_taken old new server calls pick stop is stops w reached world none =
    let q = place_of server in
    let w' = disk_next spellings w (step.Stop server calls pick) in
    leads_so w (step.Stop server calls pick) new
    (subst (λ x. IsWorld w' x) (sym is) (record {
      servers = λ y. server_kept w w' y (value_of old.hosts y) (λ k has. has)
          (λ records has. has) refl refl (world.servers y);
      stops = each_value (λ y o. IsStop o (w'.scene.armed (place_of y)) (w'.picks (place_of y)))
          old.stops server (Some stop)
          (λ y n. subst (λ m. IsStop (value_of old.stops y) m (w'.picks (place_of y)))
          (sym (at_other w.scene.armed q (place_of y) (Some calls) n))
          (subst (λ p. IsStop (value_of old.stops y) (w.scene.armed (place_of y)) p)
          (sym (at_other w.picks q (place_of y) pick n)) (world.stops y))) (
            at_self w.scene.armed q (Some calls) ∙ stops.0,
            at_self w.picks q pick ∙ stops.1,
          );
      clocks = world.clocks;
      delta = world.delta;
      packets = record {
        packets = world.packets.packets;
        records = world.packets.records;
        bytes = omega (arith, world.packets.bytes);
      };
      book = world.book;
    })) refl
