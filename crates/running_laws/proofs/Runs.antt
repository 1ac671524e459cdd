-- The step of a run that an input is, in the scene at which the world stands once the clocks are
-- set: wherever its turn leads, the run leads on.
use Rattle.std.proofs.Common.{◌≡◌, ℕ, zero, suc, ◌<◌, nat_lt, true, List, [], ◌∷◌, length, Option, None, Some, filter, refl, sym, ap, ◌∙◌, subst, arith, slice_get}
use Rattle.std.specs.Option.{option_map}
use Rattle.group_rules.proofs.Tests.{if_is, lt_is}
use Rattle.group_rules.specs.Names.{place_of}
use Rattle.group_rules.specs.Step.{Comes, Does, Input as Begins}
use Rattle.group_trace.specs.DiskCalls.{measures_of}
use Rattle.group_trace.specs.DiskRun.{DiskScene}
use Rattle.group_trace.specs.Refusals.{own_refusal}
use Rattle.harp_types.specs.declared.server.ServerId.{ServerId}
use Rattle.node.specs.declared.input.Input.{Input}
use Rattle.node.specs.declared.input.Input.TheVariants as input
use Rattle.trace_types.specs.declared.line.Line.{Line}
use Rattle.trace_types.specs.declared.line.Line.TheVariants as line
use Rattle.trace_types.specs.declared.line.LineFault.TheVariants as fault
use Rattle.trace_types.specs.declared.step.Step.TheVariants as step
use Rattle.tree_listing.specs.declared.listing.Listing.{Listing}
use Rattle.wire.specs.declared.message.Message.{Message}
use Rattle.world.proofs.Arrivals.{arrival_begins, arrival_leaves, delivery_leads, is_packet}
use Rattle.world.proofs.Steps.{deed_begins}
use Rattle.world.specs.Turns.{TurnBegins, TurnLeaves}
use Rattle.world.specs.World.{IsWorld, WorldValue}
use Rattle.world_lines.proofs.Machine.{as_many_stand}
use Rattle.world_lines.specs.Posted.{Posted, delivered_at}
use Rattle.world_lines.specs.declared.packet.Packet.{Packet}
use Rattle.world_rules.specs.Spellings.{spellings}
use Rattle.world_rules.specs.Steps.{peers_by}
use Rattle.running_laws.specs.Events.{Event}
use Rattle.running_laws.specs.Follows.{HasAskers, IsPacket}
use Rattle.running_laws.specs.Statement.{is_answer}
use Rattle.running_laws.proofs.Moving.{IsAt, LedTo, take_led}
use Rattle.running_laws.proofs.Owed.{AnswersTo}
use Rattle.running_laws.proofs.Posts.{Keeps, keeps_delivered, keeps_same}
use Rattle.running_laws.proofs.Steps.{IsDeed}

-- THE STEP OF A RUN that this input is: a turn that begins here, and wherever it leads, with these
-- lines, the run leads on, and some packet may count as delivered then
pub record StepOfRun (es : List Event) (v : DiskScene) (x : WorldValue) (place : ServerId)
    (given : Input) : Type 0 where
  pub taken_as : Begins
  pub begins : TurnBegins v x (place_of place) given taken_as
  pub to : AnswersTo es (peers_by (begins.stands.servers place).stock given)
      (v.scene.group.server (place_of place)) taken_as
  pub leads : (y : WorldValue) (lines : List Line) (listing : Option Listing)
      → TurnLeaves v (place_of place) given taken_as y [] lines listing
      → (packets : List Posted) × Keeps y.packets packets
      × LedTo es v (record y { packets = packets }) (filter is_answer lines)

-- ---- what a server does by itself, and calls

pub deed_run : (es : List Event) (v : DiskScene) (x : WorldValue) (place : ServerId) (given : Input)
    → IsDeed es place given → IsAt es v x
    → (v.scene.group.server (place_of place)).up ≡ true → StepOfRun es v x place given
deed_run es v x place given d at up =
    let q = place_of place in
    let begins = deed_begins v x q given d.deed at.reached at.stands up d.begins d.goes in
    record {
      taken_as = Does d.deed;
      begins = begins;
      to = d.to (begins.stands.servers place).stock (v.scene.group.server q);
      leads = λ y lines listing t. (
        y.packets,
        keeps_same y.packets,
        take_led es v x y d.step lines at d.asks (record {
          lines_are = ap (λ ls. line.Event d.step ∷ ls) t.lines ∙ sym (d.says v);
          left = subst (λ u. IsWorld u y) (sym (d.leads v)) t.left;
        }) (d.same v ∙ if_is _ None (Some fault.ServerDown) up) d.elementary,
      );
    }

-- ---- messages of other servers

-- the packet, as a whole
the_packet : (ps : List Posted) (from to : ServerId) (m : Message) (bytes : List ℕ)
    (p : IsPacket ps from to bytes) → p.posted.packet.message ≡ m
    → option_map (λ (p : Posted). p.packet) (slice_get ps p.number)
    ≡ Some (record { from = from; to = to; message = m })
the_packet ps from to m bytes p same = ap (option_map (λ (p : Posted). p.packet)) p.there
    ∙ ap (λ (s : ServerId). Some (record {
      from = s;
      to = p.posted.packet.to;
      message = p.posted.packet.message;
    })) p.from_is
    ∙ ap (λ (s : ServerId). Some (record {
      from = from;
      to = s;
      message = p.posted.packet.message;
    })) p.to_is
    ∙ ap (λ (x : Message). Some (record { from = from; to = to; message = x })) same

-- a number that stands in a list is below its length
below_length : {A : Type 0} (xs : List A) (n : ℕ) (x : A) → slice_get xs n ≡ Some x
    → n < length xs
below_length [] n x e = absurd cc
below_length (y ∷ xs) zero x e = omega arith
below_length (y ∷ xs) (suc n) x e = let r = below_length xs n x e in omega (arith, r)

packet_there : (w : DiskScene) (x : WorldValue) (from to : ServerId) (bytes : List ℕ)
    → IsWorld w x → (p : IsPacket x.packets from to bytes)
    → own_refusal (measures_of spellings) w.scene.group (step.Deliver p.number) ≡ None
packet_there w x from to bytes world p =
    let many = as_many_stand x.packets w.scene.group.packets w.scene.delivered
    world.packets.packets in
    let less = below_length x.packets p.number p.posted p.there in
    if_is (nat_lt p.number (length w.scene.group.packets)) None (Some fault.NoPacket)
    (lt_is p.number (length w.scene.group.packets) (omega (arith, many, less)))

-- a message of a server is the delivery of its packet
pub packet_run : (es : List Event) (v : DiskScene) (x : WorldValue) (place from : ServerId)
    (m : Message) (bytes : List ℕ) (p : IsPacket x.packets from place bytes)
    → p.posted.packet.message ≡ m → (at : IsAt es v x)
    → (v.scene.group.server (place_of place)).up ≡ true
    → HasAskers es (v.scene.group.server (place_of place)) (at.stands.servers place).stock.waits
    → StepOfRun es v x place (input.Message from m)
packet_run es v x place from m bytes p same at up waits =
    let packet : Packet = record { from = from; to = place; message = m } in
    let come = is_packet v x at.stands p.number packet
    (the_packet x.packets from place m bytes p same) in
    let begins = arrival_begins v x p.number packet at.reached at.stands up come in
    let none = packet_there v x from place bytes at.stands p in
    record {
      taken_as = Comes (place_of from) come.body;
      begins = begins;
      to = waits;
      leads = λ y lines listing t. (
        delivered_at y.packets p.number,
        keeps_delivered y.packets p.number,
        take_led es v x (record y { packets = delivered_at y.packets p.number })
            (step.Deliver p.number) lines at tt
            (delivery_leads v y p.number lines
            (arrival_leaves v x y p.number packet come [] lines listing begins t) none)
            none refl,
      );
    }
