-- What is kept of packets, as a trace grows.
use Rattle.std.proofs.Common.{◌≡◌, ℕ, ◌+◌, ◌<◌, ◌≤◌, Bool, true, false, [], ◌∷◌, ◌++◌, Option, Some, None, refl, sym, ap, subst, ◌∙◌, arith, ◌==◌, inl, inr}
use Rattle.std.specs.Prelude.{◌↔◌, ◌⊎◌}
use Rattle.std.specs.Bool.{if◌then◌else◌}
use Rattle.std.specs.Option.{option_map}
use Rattle.harp_types.specs.View.{View}
use Rattle.harp_types.specs.declared.server.ServerId.{ServerId}
use Rattle.trace_types.specs.declared.line.Line.{Line}
use Rattle.trace_types.specs.declared.line.ShownMessage.{ShownMessage}
use Rattle.trace_types.specs.declared.line.ShownMessage.TheVariants as shown
use Rattle.trace_claims.specs.Trace.{Trace}
use Rattle.trace_claims.specs.Servers.{AckDelivered, Packet, PromiseDelivered, ack_packet, packet_in}
use Rattle.trace_check.specs.Keys.{way_key}
use Rattle.trace_check.specs.Marks.{Entries, Key, mark_at, IsRaised, IsWithin, Reaches}
use Rattle.trace_check.specs.Network.{ack_at, ack_of, told_ack, AcksDelivered, Acknowledges, IsNetworkOf, IsSent}
use Rattle.trace_check.specs.Packets.{packet_at}
use Rattle.trace_check.specs.Readings.{packet_told}
use Rattle.trace_check.specs.declared.network.Network.{Network}
use Rattle.trace_check.specs.declared.packets.SentAck.{SentAck}
use Rattle.trace_check.specs.declared.readings.PacketTold.{PacketTold}
use Rattle.trace_check.specs.declared.readings.PacketTold.TheVariants as packet
use Rattle.trace_check.proofs.Somewhere.{somewhere_push, somewhere_nothing}
use Rattle.trace_check.proofs.AckLemmas.{AckHere, AckOf, AckTold, Acked, Beyond, TopFrom, ack_somewhere, acks_here, map_if, marks_grow, no_more, promise_somewhere, sent_more, sent_told, some_is}

-- ---- a line

takes_marks : (old new : Entries) (from to : ServerId) (view : View) (m : ℕ)
    (P : ℕ → ℕ → Type 0) (before : Trace) (l : Line) (D : Trace → Type 0)
    → ((t : Trace) → D t ↔ Acked from to view P t)
    → (Reaches old (way_key from to view) m ↔ D before)
    → (K : Type 0)
    → (Reaches new (way_key from to view) m ↔ (Reaches old (way_key from to view) m ⊎ K))
    → (K ↔ AckTold from to view P before (packet_told l))
    → Reaches new (way_key from to view) m ↔ D (before ++ l ∷ [])
takes_marks old new from to view m P before l D where_is is K raised told =
    let A = Acked from to view P before in
    let B = Acked from to view P (before ++ l ∷ []) in
    let T = AckTold from to view P before (packet_told l) in
    let all = marks_grow (Reaches old (way_key from to view) m)
    (Reaches new (way_key from to view) m) A B T K raised
    ((λ r. (where_is before).0 (is.0 r)), (λ a. is.1 ((where_is before).1 a)))
    (somewhere_push (AckHere from to view P) before l) told in (
      λ r. (where_is (before ++ l ∷ [])).1 (all.0 r),
      λ d. all.1 ((where_is (before ++ l ∷ [])).0 d),
    )

never : (R : Type 0) → R ↔ (R ⊎ ⊥)
never R = (λ r. inl r, λ h. elim h [ inl r ↦ r | inr x ↦ absurd x ])

same_reach : (old new : Entries) (k : Key) (m : ℕ) → new ≡ old
    → Reaches new k m ↔ (Reaches old k m ⊎ ⊥)
same_reach old new k m e =
    subst (λ (x : Entries). Reaches x k m ↔ (Reaches old k m ⊎ ⊥)) (sym e) (never (Reaches old k m))

-- what a line tells of acknowledgements, beside what marks take of it
abbrev IsTold : Trace → Line → (ServerId → ServerId → View → (ℕ → ℕ → Type 0) → Type 0) → Type 1
IsTold before l K = (from to : ServerId) (view : View) (P : ℕ → ℕ → Type 0)
    → K from to view P ↔ AckTold from to view P before (packet_told l)

pub network_of : (old new : Network) (before : Trace) (l : Line)
    (K : ServerId → ServerId → View → (ℕ → ℕ → Type 0) → Type 0) → IsNetworkOf old before
    → ((n : ℕ) → ack_at new n ≡ option_map ack_of (packet_in (before ++ l ∷ []) n))
    → ((from to : ServerId) (view : View) (n : ℕ) → Reaches new.tops (way_key from to view) n
    ↔ (Reaches old.tops (way_key from to view) n ⊎ K from to view (TopFrom n)))
    → ((from to : ServerId) (view : View) (m : ℕ)
    → Reaches new.moments (way_key from to view) (m + 1)
    ↔ (Reaches old.moments (way_key from to view) (m + 1) ⊎ K from to view (Beyond m)))
    → IsTold before l K
    → IsNetworkOf new (before ++ l ∷ [])
network_of old new before l K a sent tops moments told = record {
  sent = sent;
  tops = λ from to view n. takes_marks old.tops new.tops from to view n (TopFrom n) before l
      (λ t. AckDelivered t from to view n) (λ t. ack_somewhere t from to view n)
      (a.tops from to view n) (K from to view (TopFrom n)) (tops from to view n)
      (told from to view (TopFrom n));
  moments = λ from to view m. takes_marks old.moments new.moments from to view (m + 1) (Beyond m)
      before l (λ t. PromiseDelivered t from to view m) (λ t. promise_somewhere t from to view m)
      (a.moments from to view m) (K from to view (Beyond m)) (moments from to view m)
      (told from to view (Beyond m));
}

abbrev Never : ServerId → ServerId → View → (ℕ → ℕ → Type 0) → Type 0
Never from to view P = ⊥

nothing_told : (before : Trace) (l : Line) (o : Option PacketTold) → packet_told l ≡ o
    → ((from to : ServerId) (view : View) (P : ℕ → ℕ → Type 0)
    → AckTold from to view P before o → ⊥)
    → IsTold before l Never
nothing_told before l o e none from to view P = (
  λ x. absurd x,
  λ h. none from to view P (subst (AckTold from to view P before) e h),
)

pub takes_sent : (old new : Network) (before : Trace) (l : Line) (number : ℕ)
    (from to : ServerId) (message : ShownMessage) → IsNetworkOf old before
    → packet_told l ≡ Some (packet.Sent number from to message)
    → IsSent number (told_ack from to message) old new
    → IsNetworkOf new (before ++ l ∷ [])
takes_sent old new before l number from to message a told s =
    let p : Packet = record { from = from; to = to; message = message } in
    network_of old new before l Never a
    (λ n. s.sent n ∙ sent_more old before l n
    (if number == n then Some (ack_of p) else None) a (map_if (number == n) p
    ∙ ap (λ t. option_map ack_of (sent_told n t)) (sym told)))
    (λ f t view n. same_reach old.tops new.tops (way_key f t view) n s.tops)
    (λ f t view m. same_reach old.moments new.moments (way_key f t view) (m + 1) s.moments)
    (nothing_told before l (Some (packet.Sent number from to message)) told (λ f t view P h. h))

pub takes_nothing : (network : Network) (before : Trace) (l : Line) → IsNetworkOf network before
    → packet_told l ≡ None → IsNetworkOf network (before ++ l ∷ [])
takes_nothing network before l a told =
    network_of network network before l Never a
    (λ n. no_more (ack_at network n) ∙ sent_more network before l n None a
    (ap (λ t. option_map ack_of (sent_told n t)) (sym told)))
    (λ f t view n. never (Reaches network.tops (way_key f t view) n))
    (λ f t view m. never (Reaches network.moments (way_key f t view) (m + 1)))
    (nothing_told before l None told (λ f t view P h. h))

reach_beyond : (old new : Entries) (k l : Key) (m until : ℕ)
    → (Reaches new k (m + 1) ↔ (Reaches old k (m + 1) ⊎ ((k ≡ l) × (m + 1 ≤ until))))
    → Reaches new k (m + 1) ↔ (Reaches old k (m + 1) ⊎ ((k ≡ l) × (m < until)))
reach_beyond old new k l m until h = (
  λ r. elim (h.0 r) [
    | inl q ↦ inl q
    | inr p ↦ inr (p.0, omega (arith, p.1))
  ],
  λ r. h.1 (elim r as (λ _. Reaches old k (m + 1) ⊎ ((k ≡ l) × (m + 1 ≤ until))) [
    | inl q ↦ inl q
    | inr p ↦ inr (p.0, omega (arith, p.1))
  ]),
)

sent_stays : (old new : Network) (before : Trace) (l : Line) (number : ℕ) → IsNetworkOf old before
    → packet_told l ≡ Some (packet.Delivered number)
    → ((n : ℕ) → ack_at new n ≡ ack_at old n)
    → (n : ℕ) → ack_at new n ≡ option_map ack_of (packet_in (before ++ l ∷ []) n)
sent_stays old new before l number a told same n =
    same n ∙ no_more (ack_at old n)
    ∙ sent_more old before l n None a (ap (λ t. option_map ack_of (sent_told n t)) (sym told))

-- no Ack was delivered
no_ack : (old new : Network) (before : Trace) (l : Line) (number : ℕ) → IsNetworkOf old before
    → packet_told l ≡ Some (packet.Delivered number)
    → ((n : ℕ) → ack_at new n ≡ ack_at old n)
    → ((from to : ServerId) (view : View) (P : ℕ → ℕ → Type 0)
    → AckOf from to view P (packet_in before number) → ⊥)
    → (new.tops ≡ old.tops) × (new.moments ≡ old.moments)
    → IsNetworkOf new (before ++ l ∷ [])
no_ack old new before l number a told sent none same =
    network_of old new before l Never a (sent_stays old new before l number a told sent)
    (λ f t view n. same_reach old.tops new.tops (way_key f t view) n same.0)
    (λ f t view m. same_reach old.moments new.moments (way_key f t view) (m + 1) same.1)
    (nothing_told before l (Some (packet.Delivered number)) told none)

one_ack : (old new : Network) (before : Trace) (l : Line) (number : ℕ) (a b : ServerId) (v : View)
    (top lb until : ℕ) → IsNetworkOf old before
    → packet_told l ≡ Some (packet.Delivered number)
    → ((n : ℕ) → ack_at new n ≡ ack_at old n)
    → packet_in before number ≡ Some (ack_packet a b v top lb until)
    → IsRaised (way_key a b v) top old.tops new.tops
    → IsRaised (way_key a b v) until old.moments new.moments
    → IsNetworkOf new (before ++ l ∷ [])
one_ack old new before l number a b v top lb until is told sent there tops moments =
    network_of old new before l
    (λ from to view P. (way_key from to view ≡ way_key a b v) × P top until) is
    (sent_stays old new before l number is told sent)
    (λ from to view n. tops (way_key from to view) n)
    (λ from to view m. reach_beyond old.moments new.moments (way_key from to view)
    (way_key a b v) m until (moments (way_key from to view) (m + 1)))
    (λ from to view P. subst (λ (o : Option PacketTold). ((way_key from to view ≡ way_key a b v)
    × P top until) ↔ AckTold from to view P before o) (sym told)
    (subst (λ (o : Option Packet). ((way_key from to view ≡ way_key a b v) × P top until)
    ↔ AckOf from to view P o) (sym there) (acks_here P a b from to v view top lb until)))

no_packet : (from to : ServerId) (view : View) (P : ℕ → ℕ → Type 0) (o : Option Packet)
    → o ≡ None → AckOf from to view P o → ⊥
no_packet from to view P None e h = (let w = h.3 in absurd cc)
no_packet from to view P (Some p) e h = absurd cc

abbrev is_ack : ShownMessage → Bool
is_ack (shown.Ack view top lb until) = true
is_ack message = false

other_message : (from to a b : ServerId) (view : View) (P : ℕ → ℕ → Type 0)
    (message : ShownMessage) (o : Option Packet)
    → o ≡ Some (record { from = a; to = b; message = message }) → is_ack message ≡ false
    → AckOf from to view P o → ⊥
other_message from to a b view P message o e other h =
    let same : record { from = a; to = b; message = message }
    ≡ ack_packet from to view h.0 h.1 h.2 = some_is (record {
      from = a;
      to = b;
      message = message;
    }) (ack_packet from to view h.0 h.1 h.2) (sym e ∙ h.3) in
    let m : message ≡ shown.Ack view h.0 h.1 h.2 = ap (λ (p : Packet). p.message) same in
    let wrong : false ≡ true = sym other ∙ ap is_ack m in
    cc

delivered : (old new : Network) (before : Trace) (l : Line) (number : ℕ) (o : Option Packet)
    → IsNetworkOf old before → packet_told l ≡ Some (packet.Delivered number)
    → packet_in before number ≡ o → ((n : ℕ) → ack_at new n ≡ ack_at old n)
    → Acknowledges (option_map ack_of o) old new → IsNetworkOf new (before ++ l ∷ [])
delivered old new before l number None a told is sent h =
    no_ack old new before l number a told sent
    (λ from to view P. no_packet from to view P (packet_in before number) is) h
delivered old new before l number (Some p) a told is sent h =
    by_message p.message is h
  where
    by_message : (m : ShownMessage)
        → packet_in before number ≡ Some (record { from = p.from; to = p.to; message = m })
        → Acknowledges (Some (told_ack p.from p.to m)) old new
        → IsNetworkOf new (before ++ l ∷ [])
    by_message (shown.Ack view top lb until) e g =
        one_ack old new before l number p.from p.to view top lb until a told sent e g.0 g.1
    by_message m e g =
        no_ack old new before l number a told sent
        (λ from to view P. other_message from to p.from p.to view P m (packet_in before number) e
        refl) g

pub takes_delivered : (old new : Network) (before : Trace) (l : Line) (number : ℕ)
    → IsNetworkOf old before → packet_told l ≡ Some (packet.Delivered number)
    → AcksDelivered number old new → IsNetworkOf new (before ++ l ∷ [])
takes_delivered old new before l number a told d =
    delivered old new before l number (packet_in before number) a told refl d.sent
    (subst (λ o. Acknowledges o old new) (a.sent number) d.told)

-- ---- packets

pub no_packets : (network : Network) → ((n : ℕ) → ack_at network n ≡ None)
    → ((key : Key) → mark_at network.tops key ≡ None)
    → ((key : Key) → mark_at network.moments key ≡ None) → IsNetworkOf network []
no_packets network sent tops moments = record {
  sent = sent;
  tops = λ from to view n. (
    λ r. absurd (nowhere (mark_at network.tops (way_key from to view)) n
        (tops (way_key from to view)) r),
    λ h. absurd (somewhere_nothing (AckHere from to view (TopFrom n))
        ((ack_somewhere [] from to view n).0 h)),
  );
  moments = λ from to view m. (
    λ r. absurd (nowhere (mark_at network.moments (way_key from to view)) (m + 1)
        (moments (way_key from to view)) r),
    λ h. absurd (somewhere_nothing (AckHere from to view (Beyond m))
        ((promise_somewhere [] from to view m).0 h)),
  );
}
  where
    nowhere : (o : Option ℕ) (n : ℕ) → o ≡ None → IsWithin n o → ⊥
    nowhere None n e h = h
    nowhere (Some m) n e h = absurd cc

pub same_packets : (old new : Network) → new.sent ≡ old.sent → (n : ℕ) → ack_at new n ≡ ack_at old n
same_packets old new e n = ap (λ m. packet_at m n) e

pub delivers_ack : (old new : Network) (number : ℕ) (ack : SentAck) → new.sent ≡ old.sent
    → ack_at old number ≡ Some (Some ack) → IsRaised ack.key ack.top old.tops new.tops
    → IsRaised ack.key ack.until old.moments new.moments → AcksDelivered number old new
delivers_ack old new number ack e at tops moments = record {
  sent = same_packets old new e;
  told = subst (λ o. Acknowledges o old new) (sym at) (tops, moments);
}

pub delivers_other : (old : Network) (number : ℕ) → ack_at old number ≡ Some None
    → AcksDelivered number old old
delivers_other old number at = record {
  sent = λ n. refl;
  told = subst (λ o. Acknowledges o old old) (sym at) (refl, refl);
}

pub delivers_none : (old : Network) (number : ℕ) → ack_at old number ≡ None
    → AcksDelivered number old old
delivers_none old number at = record {
  sent = λ n. refl;
  told = subst (λ o. Acknowledges o old old) (sym at) (refl, refl);
}
