-- Packets that reach their servers, and then count as delivered.
use Rattle.std.proofs.Common.{◌≡◌, ℕ, zero, suc, ◌+◌, ◌-◌, ◌<◌, ◌≤◌, Bool, true, false, List, [], ◌∷◌, ◌++◌, append-nil, length, Option, None, Some, refl, sym, ap, ◌∙◌, subst, arith, slice_get, if◌then◌else◌}
use Rattle.std.specs.Option.{option_map}
use Rattle.std.specs.Prelude.{get_or}
use Rattle.std.proofs.lemmas.List.Sums.{sum_by-cons}
use Rattle.std.proofs.lemmas.Option.{slice_get-get_or}
use Rattle.file_tree.specs.Book.{Entry}
use Rattle.group_trace.specs.DiskCalls.{measures_of}
use Rattle.group_trace.specs.DiskRun.{DiskScene, Stores, disks_after_at, disks_came, disks_next}
use Rattle.group_rules.proofs.Tests.{if_is, if_not, is_lt, lt_is}
use Rattle.group_rules.specs.Names.{place_of}
use Rattle.group_rules.specs.Places.{Place, at}
use Rattle.group_rules.specs.Said.{sends_said}
use Rattle.group_rules.specs.State.{Group, Message, Packet, Page}
use Rattle.group_rules.specs.Step.{Comes, Input as Begins, numbered}
use Rattle.group_trace.specs.Refusals.{own_refusal}
use Rattle.schedule_play.specs.Stage.{IsReached}
use Rattle.group_trace.specs.Run.{Turn, bytes_where, delivery, disarmed, lines_where, moved_where, turn}
use Rattle.harp_types.specs.Trio.{value_of}
use Rattle.world_rules.specs.Spellings.{spellings}
use Rattle.node.specs.declared.input.Input.TheVariants as input
use Rattle.node_outputs.specs.Messages.{heard}
use Rattle.node_outputs.specs.Records.{carried}
use Rattle.world_lines.specs.Machine.{opened_as, sent}
use Rattle.world_lines.specs.Posted.{Posted, arrived, bytes_of, bytes_sent, delivered_at}
use Rattle.world_lines.specs.declared.packet.Packet.{Packet as Opened}
use Rattle.world_lines.proofs.Machine.{as_many_stand, delivered_stand, opened_is}
use Rattle.world_laws.specs.Stocks.{Carries}
use Rattle.trace_types.specs.declared.line.Line.{Line}
use Rattle.trace_types.specs.declared.line.Line.TheVariants as line
use Rattle.trace_types.specs.declared.line.LineFault.TheVariants as fault
use Rattle.trace_types.specs.declared.step.Step.TheVariants as step
use Rattle.tree_listing.specs.declared.listing.Listing.{Listing}
use Rattle.world.specs.Deliveries.{ArrivalLeaves, Arrives, after_arrival}
use Rattle.world.specs.Steps.{Leads, Takes}
use Rattle.world.specs.Turns.{TurnBegins, TurnLeaves, Turns, turn_moves}
use Rattle.world.specs.World.{AreCarried, IsWorld, WorldValue}
use Rattle.world.proofs.Moved.{packets_said, sent_onto}
use Rattle.world.proofs.Servers.{server_kept}

-- ---- the packet that is opened

within : (xs : List Posted) (n : ℕ) (p : Opened)
    → option_map (λ (p : Posted). p.packet) (slice_get xs n) ≡ Some p → n < length xs
within [] n p e = absurd cc
within (x ∷ xs) zero p e = omega arith
within (x ∷ xs) (suc n) p e = let r = within xs n p e in omega (arith, r)

posted_there : (o : Option Posted) (p : Opened)
    → option_map (λ (p : Posted). p.packet) o ≡ Some p
    → (x : Posted) × (o ≡ Some x) × (x.packet ≡ p)
posted_there None p e = absurd cc
posted_there (Some x) p e = (x, refl, cc)

-- what was sent has a packet
sent_there : (packets : List (Packet Entry)) (n : ℕ) → n < length packets
    → (q : Packet Entry) × (numbered packets n ≡ Some q)
sent_there [] n less = absurd (omega (arith, less))
sent_there (p ∷ ps) n less =
    let all = p ∷ ps in (
      get_or all (length all - suc n) p,
      ap (λ b. if b then slice_get all (length all - suc n) else None)
          (lt_is n (length all) less)
          ∙ slice_get-get_or all (length all - suc n) p (omega (arith, less)),
    )

-- a packet that was opened is the group's of its number: its message is one of servers, with the
-- records of its view's list
pub record IsPacket (w : DiskScene) (n : ℕ) (p : Opened) : Type 0 where
  pub body : Message Entry
  pub hears : heard p.message ≡ Some body
  pub there : numbered w.scene.group.packets n ≡ Some (sent p.from p.to body)
  pub carries : Carries w.scene.group.page body (carried p.message)

pub is_packet : (w : DiskScene) (x : WorldValue) → IsWorld w x → (n : ℕ) (p : Opened)
    → option_map (λ (p : Posted). p.packet) (slice_get x.packets n) ≡ Some p → IsPacket w n p
is_packet w x world n p opened =
    let stand = world.packets.packets in
    let packets = w.scene.group.packets in
    let less : n < length packets = subst (λ k. n < k)
    (as_many_stand x.packets packets w.scene.delivered stand) (within x.packets n p opened) in
    let found = sent_there packets n less in
    let is : option_map (sent p.from p.to) (heard p.message) ≡ numbered packets n =
    sym (ap opened_as opened) ∙ opened_is x.packets packets w.scene.delivered n stand in
    let posted = posted_there (slice_get x.packets n) p opened in
    by w x world n p posted.0 posted.1 posted.2 found.0 (heard p.message) refl (is ∙ found.1) is
  where
    by : (w : DiskScene) (x : WorldValue) → IsWorld w x → (n : ℕ) (p : Opened) (y : Posted)
        → slice_get x.packets n ≡ Some y → y.packet ≡ p → (q : Packet Entry)
        → (o : Option (Message Entry)) → heard p.message ≡ o
        → option_map (sent p.from p.to) (heard p.message) ≡ Some q
        → option_map (sent p.from p.to) (heard p.message) ≡ numbered w.scene.group.packets n
        → IsPacket w n p
    by w x world n p y at same q None e found is =
        let never : ◌≡◌ {A = Option (Packet Entry)} None (Some q) =
        sym (ap (option_map (sent p.from p.to)) e) ∙ found in
        absurd cc
    by w x world n p y at same q (Some body) e found is = record {
      body = body;
      hears = e;
      there = sym is ∙ ap (option_map (sent p.from p.to)) e;
      carries = subst (λ (p : Opened). heard p.message ≡ Some body
          → Carries w.scene.group.page body (carried p.message)) same
          (λ h. world.packets.records n y body at h) e;
    }

-- ---- scenes

-- the scene after a turn, if a server steps, with these disks
abbrev arrived_by : DiskScene → Option Turn → Stores → DiskScene
arrived_by w t disks = record w {
  scene = record (w.scene) {
    group = moved_where w.scene.group t;
    armed = disarmed w.scene.armed t;
    sent = w.scene.sent + bytes_where (measures_of spellings) w.scene.group t;
  };
  disks = disks;
}

-- what an arrival leaves, by its turn and its disks
leaves_by : (w : DiskScene) (n : ℕ) (new : WorldValue) (ls ls' : List Line) (t : Option Turn)
    (disks : Stores) → turn (measures_of spellings) w.scene (step.Deliver n) ≡ t
    → disks_next spellings w (step.Deliver n) ≡ disks → IsWorld (arrived_by w t disks) new
    → ls' ≡ ls ++ lines_where w.scene.group t [] → ArrivalLeaves w n new ls ls'
leaves_by w n new ls ls' t disks turns stores left lines = record {
  left = subst (λ t. IsWorld (arrived_by w t (disks_next spellings w (step.Deliver n))) new)
      (sym turns) (subst (λ d. IsWorld (arrived_by w t d) new) (sym stores) left);
  lines = lines ∙ ap (λ t. ls ++ lines_where w.scene.group t []) (sym turns);
}

-- ---- a server that is down

-- where nobody steps the world stays
lost_stands : (w : DiskScene) (x : WorldValue) → IsWorld w x
    → IsWorld (arrived_by w None w.disks) x
lost_stands w x world = record {
  servers = λ y. server_kept w (arrived_by w None w.disks) y (value_of x.hosts y) (λ k has. has)
      (λ records has. has) refl refl (world.servers y);
  stops = world.stops;
  clocks = world.clocks;
  delta = world.delta;
  packets = record {
    packets = world.packets.packets;
    records = world.packets.records;
    bytes = omega (arith, world.packets.bytes);
  };
  book = world.book;
}

-- at a server that is down the packet is lost
pub arrives_lost : (x : WorldValue) (p : Opened) (ls : List Line)
    → ((w : DiskScene) → IsWorld w x → (w.scene.group.server (place_of p.to)).up ≡ false)
    → Arrives x x p ls ls
arrives_lost x p ls is_down w n reached world opened =
    let is = is_packet w x world n p opened in
    let down = is_down w world in
    leaves_by w n x ls ls None w.disks
    (ap (delivery (measures_of spellings) w.scene) is.there
    ∙ if_not (w.scene.group.server (place_of p.to)).up _ None down)
    (ap (disks_came spellings w) is.there
    ∙ if_not (w.scene.group.server (place_of p.to)).up _ w.disks down)
    (lost_stands w x world) (sym (append-nil ls))

-- ---- a server that is up

-- in one scene it leaves what its server's turn leaves
pub arrival_leaves : (w : DiskScene) (x new : WorldValue) (n : ℕ) (p : Opened) (is : IsPacket w n p)
    (ls ls' : List Line) (listing : Option Listing)
    → TurnBegins w x (place_of p.to) (input.Message p.from p.message)
    (Comes (place_of p.from) is.body)
    → TurnLeaves w (place_of p.to) (input.Message p.from p.message)
    (Comes (place_of p.from) is.body) new ls ls' listing
    → ArrivalLeaves w n new ls ls'
arrival_leaves w x new n p is ls ls' listing b t =
    let q = place_of p.to in
    let i : Begins = Comes (place_of p.from) is.body in
    leaves_by w n new ls ls' (Some (q, turn_moves w (w.scene.armed q) q i))
    (disks_after_at spellings w (w.scene.armed q) (w.picks q) q i)
    (ap (delivery (measures_of spellings) w.scene) is.there
    ∙ if_is (w.scene.group.server q).up _ None b.up)
    (ap (disks_came spellings w) is.there ∙ if_is (w.scene.group.server q).up _ w.disks b.up)
    t.left t.lines

-- and begins that turn
abbrev pub arrival_begins : (w : DiskScene) (x : WorldValue) (n : ℕ) (p : Opened)
    → IsReached spellings w → IsWorld w x → (w.scene.group.server (place_of p.to)).up ≡ true
    → (is : IsPacket w n p)
    → TurnBegins w x (place_of p.to) (input.Message p.from p.message)
    (Comes (place_of p.from) is.body)
arrival_begins w x n p reached world up is = record {
  reached = reached;
  stands = world;
  up = up;
  begins = ap (option_map (Comes (place_of p.from))) is.hears;
  rightly = (n, is.there, is.carries);
}

pub arrives_taken : (old new : WorldValue) (p : Opened) (ls ls' : List Line)
    (listing : Option Listing)
    → ((w : DiskScene) → IsWorld w old → (w.scene.group.server (place_of p.to)).up ≡ true)
    → Turns old new p.to (input.Message p.from p.message) ls ls' listing
    → Arrives old new p ls ls'
arrives_taken old new p ls ls' listing is_up turns w n reached world opened =
    let is = is_packet w old world n p opened in
    let b = arrival_begins w old n p reached world (is_up w world) is in
    arrival_leaves w old new n p is ls ls' listing b (turns w (Comes (place_of p.from) is.body) b)

-- ---- it counts as delivered

delivered_carried : (page : ℕ → Page Entry) (ps : List Posted) (n : ℕ) → AreCarried page ps
    → AreCarried page (delivered_at ps n)
unfolding delivered_at
delivered_carried page [] n h k p m e f = h k p m e f
delivered_carried page (x ∷ xs) zero h zero p m e f =
    let same : arrived x ≡ p = cc in
    subst (λ (y : Posted). heard y.packet.message ≡ Some m
    → Carries page m (carried y.packet.message)) same (λ g. h zero x m refl g) f
delivered_carried page (x ∷ xs) zero h (suc k) p m e f = h (suc k) p m e f
delivered_carried page (x ∷ xs) (suc n) h zero p m e f = h zero p m e f
delivered_carried page (x ∷ xs) (suc n) h (suc k) p m e f =
    delivered_carried page xs n (λ k. h (suc k)) k p m e f

pub delivered_bytes : (ps : List Posted) (n : ℕ) → bytes_sent (delivered_at ps n) ≡ bytes_sent ps
unfolding delivered_at
delivered_bytes [] n = refl
delivered_bytes (x ∷ xs) zero = sum_by-cons bytes_of (arrived x) xs
    ∙ sym (sum_by-cons bytes_of x xs)
delivered_bytes (x ∷ xs) (suc n) = sum_by-cons bytes_of x (delivered_at xs n)
    ∙ ap (λ k. bytes_of x + k) (delivered_bytes xs n) ∙ sym (sum_by-cons bytes_of x xs)

counted_stands : (w : DiskScene) (x : WorldValue) (n : ℕ) → IsWorld w x
    → n < length w.scene.group.packets
    → IsWorld (record w { scene = record (w.scene) { delivered = n ∷ w.scene.delivered } })
    (record x { packets = delivered_at x.packets n })
counted_stands w x n world less =
    let w' = record w { scene = record (w.scene) { delivered = n ∷ w.scene.delivered } } in
    record {
      servers = λ y. server_kept w w' y (value_of x.hosts y) (λ k has. has) (λ records has. has)
          refl refl (world.servers y);
      stops = world.stops;
      clocks = world.clocks;
      delta = world.delta;
      packets = record {
        packets = delivered_stand x.packets w.scene.group.packets w.scene.delivered n
            world.packets.packets less;
        records = delivered_carried w.scene.group.page x.packets n world.packets.records;
        bytes = world.packets.bytes ∙ sym (delivered_bytes x.packets n);
      };
      book = world.book;
    }

sent_more : (ps : List (Packet Entry)) (q : Place) (xs : List (Place × Message Entry))
    → length ps ≤ length (sent_onto ps q xs)
sent_more ps q [] = omega arith
sent_more ps q (x ∷ xs) =
    let more = sent_more (record { from = q; to = x.0; body = x.1 } ∷ ps) q xs in
    omega (arith, more)

turn_more : (g : Group Entry) (t : Option Turn) (n : ℕ) → n < length g.packets
    → n < length (moved_where g t).packets
turn_more g None n less = less
turn_more g (Some t) n less =
    let is = ap length (packets_said t.1 g t.0 (g.server t.0)) in
    let more = sent_more g.packets t.0 (sends_said t.1) in
    omega (arith, is, more, less)

is_sent : (b : Bool) → (if b then None else Some fault.NoPacket) ≡ None → b ≡ true
is_sent true e = refl
is_sent false e = absurd cc

-- A DELIVERY leads on from one scene: its packet arrives, and then it counts as delivered
pub delivery_leads : (w : DiskScene) (mid : WorldValue) (n : ℕ) (lines : List Line)
    → ArrivalLeaves w n mid [] lines
    → own_refusal (measures_of spellings) w.scene.group (step.Deliver n) ≡ None
    → Leads w (step.Deliver n) lines (record mid { packets = delivered_at mid.packets n })
delivery_leads w mid n lines leaves none =
    let less : n < length w.scene.group.packets =
    is_lt n (length w.scene.group.packets) (is_sent _ none) in
    record {
      lines_are = ap (λ ls. line.Event (step.Deliver n) ∷ ls) leaves.lines;
      left = counted_stands (after_arrival w n) mid n leaves.left
          (turn_more w.scene.group (turn (measures_of spellings) w.scene (step.Deliver n)) n less);
    }

-- and is taken in each
pub delivery_taken : (old mid new : WorldValue) (n : ℕ) (p : Opened) (before lines : List Line)
    → before ≡ []
    → option_map (λ (p : Posted). p.packet) (slice_get old.packets n) ≡ Some p
    → Arrives old mid p before lines
    → new ≡ record mid { packets = delivered_at mid.packets n }
    → Takes old new (step.Deliver n) lines
delivery_taken old mid new n p before lines first opened arrives is w reached world none =
    subst (λ x. Leads w (step.Deliver n) lines x) (sym is)
    (delivery_leads w mid n lines
    (subst (λ ls. ArrivalLeaves w n mid ls lines) first (arrives w n reached world opened)) none)
