-- What servers sent, as packets of the world.
use Rattle.std.proofs.Common.{◌≡◌, ◌⊎◌, ℕ, zero, suc, List, [], ◌∷◌, ◌++◌, length, map, flat_map, Contains, Option, None, Some, inl, inr, refl, sym, ap, ◌∙◌, subst, append_assoc, arith, slice_get, ⊎_elim}
use Rattle.std.specs.List.{AllByRecursion}
use Rattle.std.proofs.lemmas.List.Elements.{Contains-append_cases, Contains-push_cases}
use Rattle.file_tree.specs.Book.{Entry}
use Rattle.group_rules.specs.State.{Message as Told}
use Rattle.harp_types.specs.declared.peer.Peer.{Peer}
use Rattle.harp_types.specs.declared.peer.Peer.TheVariants.{Local, Server, Other}
use Rattle.harp_types.specs.declared.server.ServerId.{ServerId}
use Rattle.node_link.specs.declared.link.SentDatagram.{SentDatagram}
use Rattle.node_loop.specs.Arriving.{IsMessage}
use Rattle.node_loop.specs.Outgoing.{answer_heard, answer_sent, datagrams, message_sent, refusal_heard, refusal_sent, sent_to, told_of}
use Rattle.node_loop.specs.declared.heard.Heard.{Heard}
use Rattle.node_loop.specs.declared.heard.Heard.TheVariants.{Answer, CannotServe}
use Rattle.node_outputs.specs.Messages.{heard}
use Rattle.node_outputs.specs.declared.outputs.Answered.{Answered}
use Rattle.node_outputs.specs.declared.outputs.Outputs.{Outputs}
use Rattle.node_outputs.specs.declared.outputs.Refused.{Refused}
use Rattle.node_outputs.specs.declared.outputs.Sent.{Sent}
use Rattle.wire.specs.Messages.{MessageFits, message_bytes}
use Rattle.world.proofs.Sends.{one_packet}
use Rattle.world_lines.specs.Given.{packet_of, packets_of}
use Rattle.world_lines.specs.Posted.{Posted, arrived, delivered_at, posted}
use Rattle.world_lines.specs.declared.packet.Packet.{Packet}
use Rattle.running_laws.specs.Follows.{AreForClients, IsPacket, IsPosted}
use Rattle.running_laws.proofs.Lists.{in_flat_map, stands_behind, stays_there}

-- ---- what was posted stays so

-- each packet is still there under its number
abbrev pub Keeps : List Posted → List Posted → Type 0
Keeps ps qs = (n : ℕ) (p : Posted) → slice_get ps n ≡ Some p
    → (q : Posted) × (slice_get qs n ≡ Some q) × (q.packet ≡ p.packet)

pub keeps_same : (ps : List Posted) → Keeps ps ps
keeps_same ps n p e = (p, e, refl)

pub keeps_more : (ps more : List Posted) → Keeps ps (ps ++ more)
keeps_more ps more n p e = (p, stays_there ps more n p e, refl)

pub keeps_delivered : (ps : List Posted) (n : ℕ) → Keeps ps (delivered_at ps n)
unfolding delivered_at
keeps_delivered [] n k p e = absurd cc
keeps_delivered (x ∷ xs) zero zero p e =
    let same : x ≡ p = cc in
    (arrived x, refl, ap (λ (y : Posted). y.packet) same)
keeps_delivered (x ∷ xs) zero (suc k) p e = (p, e, refl)
keeps_delivered (x ∷ xs) (suc n) zero p e = (p, e, refl)
keeps_delivered (x ∷ xs) (suc n) (suc k) p e = keeps_delivered xs n k p e

packet_still : (ps qs : List Posted) (from to : ServerId) (bytes : List ℕ) → Keeps ps qs
    → IsPacket ps from to bytes → IsPacket qs from to bytes
packet_still ps qs from to bytes keeps h =
    let k = keeps h.number h.posted h.there in
    record {
      number = h.number;
      posted = k.0;
      there = k.1;
      from_is = ap (λ (p : Packet). p.from) k.2 ∙ h.from_is;
      to_is = ap (λ (p : Packet). p.to) k.2 ∙ h.to_is;
      spells = subst (λ (p : Packet). IsMessage bytes p.message) (sym k.2) h.spells;
    }

pub posted_still : (ps qs : List Posted) (d : SentDatagram) → Keeps ps qs → IsPosted ps d
    → IsPosted qs d
posted_still ps qs d keeps h to e = ⊎_elim
    (λ p. inl (packet_still ps qs d.place to d.bytes keeps p)) (λ c. inr c) (h to e)

-- ---- what a step sends is posted

contains_one : {X : Type 0} (x y : X) → Contains (x ∷ []) y → x ≡ y
contains_one x y h = ⊎_elim (λ (n : Contains [] y). absurd (omega (arith, n.1))) (λ e. e)
    (Contains-push_cases [] x y h)

-- a message that no server hears is none
no_packet : (from : ServerId) (s : Sent) → heard s.message ≡ None → packet_of from s ≡ []
no_packet from s e = ap (λ o. elim o [
  | None ↦ []
  | Some m ↦ posted from s.to s.message ∷ []
]) e

one_posted : (ps more : List Posted) (from : ServerId) (s : Sent) → MessageFits s.message
    → IsPosted (ps ++ (packet_of from s ++ more)) (message_sent from s)
one_posted ps more from s fits to e = by (heard s.message) refl
  where
    to_is : s.to ≡ to
    to_is = cc

    by : (o : Option (Told Entry)) → heard s.message ≡ o
        → IsPacket (ps ++ (packet_of from s ++ more)) from to (message_bytes s.message)
        ⊎ AreForClients (message_bytes s.message)
    by None f = inr (record { message = s.message; spells = refl; unheard = f })
    by (Some m) f = inl (record {
      number = length ps;
      posted = posted from s.to s.message;
      there = ap (λ xs. slice_get (ps ++ (xs ++ more)) (length ps)) (one_packet from s m f)
          ∙ stands_behind ps more (posted from s.to s.message);
      from_is = refl;
      to_is = to_is;
      spells = (refl, fits);
    })

sends_posted : (from : ServerId) (sends : List Sent) (ps : List Posted)
    → AllByRecursion (λ s. MessageFits s.message) sends
    → (d : SentDatagram) → Contains (map (message_sent from) sends) d
    → IsPosted (ps ++ packets_of from sends) d
sends_posted from [] ps fits d h = absurd (omega (arith, h.1))
sends_posted from (s ∷ sends) ps fits d h = ⊎_elim
    (λ one. subst (IsPosted (ps ++ (packet_of from s ++ packets_of from sends)))
    (contains_one (message_sent from s) d one)
    (one_posted ps (packets_of from sends) from s fits.0))
    (λ later. subst (λ xs. IsPosted xs d) (append_assoc ps (packet_of from s)
    (packets_of from sends))
    (sends_posted from sends (ps ++ packet_of from s) fits.1 d later))
    (Contains-append_cases (message_sent from s ∷ []) (map (message_sent from) sends) d h)

-- what is told to who asked is no packet
told_unheard : (h : Heard) → heard (told_of h) ≡ None
told_unheard (Answer client number index reply) = refl
told_unheard (CannotServe client number cause) = refl

told_posted : (ps : List Posted) (place : ServerId) (peer : Peer) (h : Heard) (d : SentDatagram)
    → Contains (sent_to place peer h) d → IsPosted ps d
told_posted ps place Local h d has = absurd (omega (arith, has.1))
told_posted ps place (Server s) h d has = subst (IsPosted ps) (contains_one _ d has)
    (λ to e. inr (record { message = told_of h; spells = refl; unheard = told_unheard h }))
told_posted ps place (Other address port) h d has = subst (IsPosted ps) (contains_one _ d has)
    (λ to e. inr (record { message = told_of h; spells = refl; unheard = told_unheard h }))

pub outs_posted : (place : ServerId) (outs : Outputs) (ps : List Posted)
    → AllByRecursion (λ (s : Sent). MessageFits s.message) outs.sends.items
    → (d : SentDatagram) → Contains (datagrams place outs) d
    → IsPosted (ps ++ packets_of place outs.sends.items) d
outs_posted place outs ps fits d h =
    let all = ps ++ packets_of place outs.sends.items in
    let answers = flat_map (answer_sent place) outs.answers.items in
    let refusals = flat_map (refusal_sent place) outs.refusals.items in
    let sends = map (message_sent place) outs.sends.items in
    ⊎_elim
    (λ first. ⊎_elim
    (in_flat_map (IsPosted all) (answer_sent place)
    (λ (a : Answered). told_posted all place a.peer (answer_heard a)) outs.answers.items d)
    (in_flat_map (IsPosted all) (refusal_sent place)
    (λ (r : Refused). told_posted all place r.peer (refusal_heard r)) outs.refusals.items d)
    (Contains-append_cases answers refusals d first))
    (sends_posted place outs.sends.items ps fits d)
    (Contains-append_cases (answers ++ refusals) sends d h)
