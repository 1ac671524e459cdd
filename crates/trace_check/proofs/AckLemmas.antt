-- Packets by their numbers, and the acknowledgements that a trace delivers.
use Rattle.std.proofs.Common.{◌≡◌, ℕ, ◌<◌, ◌≤◌, Bool, true, false, [], ◌∷◌, ◌++◌, Option, Some, None, refl, sym, ap, subst, ◌∙◌, ◌==◌, inl, inr}
use Rattle.std.specs.Prelude.{◌↔◌, ◌⊎◌}
use Rattle.std.specs.Bool.{if◌then◌else◌}
use Rattle.std.specs.Option.{option_map}
use Rattle.harp_types.specs.View.{View}
use Rattle.harp_types.specs.declared.server.ServerId.{ServerId}
use Rattle.trace_types.specs.declared.step.Step.TheVariants as step
use Rattle.trace_types.specs.declared.line.Line.{Line}
use Rattle.trace_types.specs.declared.line.Line.TheVariants as line
use Rattle.trace_types.specs.declared.line.ShownMessage.TheVariants as shown
use Rattle.trace_claims.specs.Trace.{Trace}
use Rattle.trace_claims.specs.Servers.{AckDelivered, Packet, PromiseDelivered, ack_packet, packet_in}
use Rattle.trace_check.specs.Keys.{way_key}
use Rattle.trace_check.specs.Network.{ack_at, ack_of, IsNetworkOf}
use Rattle.trace_check.specs.Packets.{or_ack}
use Rattle.trace_check.specs.Readings.{packet_told}
use Rattle.trace_check.specs.declared.network.Network.{Network}
use Rattle.trace_check.specs.declared.packets.SentAck.{SentAck}
use Rattle.trace_check.specs.declared.readings.PacketTold.{PacketTold}
use Rattle.trace_check.specs.declared.readings.PacketTold.TheVariants as packet
use Rattle.trace_check.proofs.ServerLemmas.{number_same, view_same}
use Rattle.trace_check.proofs.Somewhere.{Somewhere}

-- ---- the packets by number

abbrev pub sent_told : ℕ → Option PacketTold → Option Packet
sent_told n None = None
sent_told n (Some (packet.Delivered number)) = None
sent_told n (Some (packet.Sent number from to message)) =
    if number == n then Some (record { from = from; to = to; message = message }) else None

abbrev or_sent : Option Packet → Option Packet → Option Packet
or_sent None other = other
or_sent (Some p) other = Some p

taken_or : (b : Bool) (p : Packet) (other : Option Packet)
    → (if b then Some p else other) ≡ or_sent (if b then Some p else None) other
taken_or true p other = refl
taken_or false p other = refl

sent_head : (l : Line) (lines : Trace) (n : ℕ) → packet_in (l ∷ lines) n
    ≡ or_sent (sent_told n (packet_told l)) (packet_in lines n)
sent_head (line.Sent number from to message) lines n =
    taken_or (number == n) (record { from = from; to = to; message = message }) (packet_in lines n)
sent_head (line.Event (step.Deliver number)) lines n = refl
sent_head l lines n = refl

or_assoc : (a b d : Option Packet) → or_sent a (or_sent b d) ≡ or_sent (or_sent a b) d
or_assoc None b d = refl
or_assoc (Some x) b d = refl

or_none : (a : Option Packet) → or_sent a None ≡ a
or_none None = refl
or_none (Some x) = refl

pub sent_push : (t : Trace) (l : Line) (n : ℕ) → packet_in (t ++ l ∷ []) n
    ≡ or_sent (packet_in t n) (sent_told n (packet_told l))
sent_push [] l n = sent_head l [] n ∙ or_none (sent_told n (packet_told l))
sent_push (x ∷ t) l n =
    sent_head x (t ++ l ∷ []) n
    ∙ ap (or_sent (sent_told n (packet_told x))) (sent_push t l n)
    ∙ or_assoc (sent_told n (packet_told x)) (packet_in t n) (sent_told n (packet_told l))
    ∙ ap (λ o. or_sent o (sent_told n (packet_told l))) (sym (sent_head x t n))

map_or : (a b : Option Packet) → option_map ack_of (or_sent a b)
    ≡ or_ack (option_map ack_of a) (option_map ack_of b)
map_or None b = refl
map_or (Some x) b = refl

pub map_if : (b : Bool) (p : Packet) → (if b then Some (ack_of p) else None)
    ≡ option_map ack_of (if b then Some p else None)
map_if true p = refl
map_if false p = refl

pub sent_more : (old : Network) (before : Trace) (l : Line) (n : ℕ) (o : Option (Option SentAck))
    → IsNetworkOf old before → o ≡ option_map ack_of (sent_told n (packet_told l))
    → or_ack (ack_at old n) o ≡ option_map ack_of (packet_in (before ++ l ∷ []) n)
sent_more old before l n o a e =
    ap (λ p. or_ack p o) (a.sent n)
    ∙ ap (or_ack (option_map ack_of (packet_in before n))) e
    ∙ sym (map_or (packet_in before n) (sent_told n (packet_told l)))
    ∙ ap (option_map ack_of) (sym (sent_push before l n))

pub no_more : (o : Option (Option SentAck)) → o ≡ or_ack o None
no_more None = refl
no_more (Some p) = refl

-- ---- acknowledgements

-- a packet that acknowledges, and more of its numbers
abbrev pub AckOf : ServerId → ServerId → View → (ℕ → ℕ → Type 0) → Option Packet → Type 0
AckOf from to view P p = (top : ℕ) × (lb : ℕ) × (until : ℕ)
    × (p ≡ Some (ack_packet from to view top lb until)) × P top until

abbrev pub AckTold : ServerId → ServerId → View → (ℕ → ℕ → Type 0) → Trace → Option PacketTold
    → Type 0
AckTold from to view P before None = ⊥
AckTold from to view P before (Some (packet.Sent number f t message)) = ⊥
AckTold from to view P before (Some (packet.Delivered number)) = AckOf from to view P
    (packet_in before number)

abbrev pub AckHere : ServerId → ServerId → View → (ℕ → ℕ → Type 0) → Trace → Line → Type 0
AckHere from to view P before l = AckTold from to view P before (packet_told l)

abbrev pub Acked : ServerId → ServerId → View → (ℕ → ℕ → Type 0) → Trace → Type 0
Acked from to view P t = Somewhere (AckHere from to view P) t

abbrev pub TopFrom : ℕ → ℕ → ℕ → Type 0
TopFrom n top until = n ≤ top

abbrev pub Beyond : ℕ → ℕ → ℕ → Type 0
Beyond moment top until = moment < until

-- one that was found at a line
record Found (from to : ServerId) (view : View) (P : ℕ → ℕ → Type 0) (t : Trace) : Type 0 where
  pub earlier : Trace
  pub later : Trace
  pub number : ℕ
  pub top : ℕ
  pub lb : ℕ
  pub until : ℕ
  pub stands : t ≡ earlier ++ line.Event (step.Deliver number) ∷ later
  pub is : packet_in earlier number ≡ Some (ack_packet from to view top lb until)
  pub fits : P top until

found_at : (t earlier later : Trace) (l : Line) (from to : ServerId) (view : View)
    (P : ℕ → ℕ → Type 0) → t ≡ earlier ++ l ∷ later
    → AckTold from to view P earlier (packet_told l) → Found from to view P t
found_at t earlier later (line.Event (step.Deliver number)) from to view P e h = record {
  earlier = earlier;
  later = later;
  number = number;
  top = h.0;
  lb = h.1;
  until = h.2;
  stands = e;
  is = h.3;
  fits = h.4;
}
found_at t earlier later (line.Sent number f d message) from to view P e h = absurd h
found_at t earlier later l from to view P e h = absurd h

found : (t : Trace) (from to : ServerId) (view : View) (P : ℕ → ℕ → Type 0)
    → Acked from to view P t → Found from to view P t
found t from to view P w = found_at t w.earlier w.later w.at from to view P w.stands w.holds

pub ack_somewhere : (t : Trace) (from to : ServerId) (view : View) (n : ℕ)
    → AckDelivered t from to view n ↔ Acked from to view (TopFrom n) t
ack_somewhere t from to view n = (
  λ h. record {
    earlier = h.earlier;
    at = line.Event (step.Deliver h.packet);
    later = h.later;
    stands = h.stands;
    holds = (h.top, h.lb, h.until, h.packet_is, h.reaches);
  },
  λ w. let f = found t from to view (TopFrom n) w in record {
    earlier = f.earlier;
    later = f.later;
    packet = f.number;
    top = f.top;
    lb = f.lb;
    until = f.until;
    stands = f.stands;
    packet_is = f.is;
    reaches = f.fits;
  },
)

pub promise_somewhere : (t : Trace) (from to : ServerId) (view : View) (moment : ℕ)
    → PromiseDelivered t from to view moment ↔ Acked from to view (Beyond moment) t
promise_somewhere t from to view moment = (
  λ h. record {
    earlier = h.earlier;
    at = line.Event (step.Deliver h.packet);
    later = h.later;
    stands = h.stands;
    holds = (h.top, h.lb, h.until, h.packet_is, h.beyond);
  },
  λ w. let f = found t from to view (Beyond moment) w in record {
    earlier = f.earlier;
    later = f.later;
    packet = f.number;
    top = f.top;
    lb = f.lb;
    until = f.until;
    stands = f.stands;
    packet_is = f.is;
    beyond = f.fits;
  },
)

-- ---- marks of acknowledgements

-- marks that are raised where a fact gains what a line tells
pub marks_grow : (R S A B T K : Type 0) → (S ↔ (R ⊎ K)) → (R ↔ A) → (B ↔ (A ⊎ T)) → (K ↔ T) → S ↔ B
marks_grow R S A B T K raised is push told = (
  λ s. push.1 (elim (raised.0 s) as (λ _. A ⊎ T) [
    | inl r ↦ inl (is.0 r)
    | inr k ↦ inr (told.0 k)
  ]),
  λ b. raised.1 (elim (push.0 b) as (λ _. R ⊎ K) [
    | inl a ↦ inl (is.1 a)
    | inr t ↦ inr (told.1 t)
  ]),
)

way_same : (a b f t : ServerId) (v w : View) → way_key a b v ≡ way_key f t w
    → (a ≡ f) × (b ≡ t) × (v ≡ w)
way_same a b f t v w e = (
  number_same a f (ap (λ k. k.0) e),
  number_same b t (ap (λ k. k.1) e),
  view_same v w (ap (λ k. k.2) e) (ap (λ k. k.3) e),
)

pub some_is : (p q : Packet) → Some p ≡ Some q → p ≡ q
some_is p q e = cc

-- what an Ack's key and number tell of an acknowledgement
ack_told : (P : ℕ → ℕ → Type 0) (n : ℕ) (a b from to : ServerId) (v view : View)
    (top lb until top' lb' until' : ℕ)
    → record { from = a; to = b; message = shown.Ack v top lb until }
    ≡ ack_packet from to view top' lb' until'
    → P top' until'
    → (way_key from to view ≡ way_key a b v) × P top until
ack_told P n a b from to v view top lb until top' lb' until' e h =
    let f : a ≡ from = ap (λ (p : Packet). p.from) e in
    let t : b ≡ to = ap (λ (p : Packet). p.to) e in
    let m : shown.Ack v top lb until ≡ shown.Ack view top' lb' until' =
    ap (λ (p : Packet). p.message) e in
    let w : v ≡ view = cc in
    let x : top ≡ top' = cc in
    let y : until ≡ until' = cc in (
      ap (λ (s : ServerId). way_key s to view) (sym f)
          ∙ ap (λ (s : ServerId). way_key a s view) (sym t)
          ∙ ap (λ (u : View). way_key a b u) (sym w),
      subst (λ (i : ℕ). P i until) (sym x) (subst (λ (i : ℕ). P top' i) (sym y) h),
    )

pub acks_here : (P : ℕ → ℕ → Type 0) (a b from to : ServerId) (v view : View) (top lb until : ℕ)
    → ((way_key from to view ≡ way_key a b v) × P top until)
    ↔ AckOf from to view P (Some (ack_packet a b v top lb until))
acks_here P a b from to v view top lb until = (
  λ h. let s = way_same from to a b view v h.0 in (
    top,
    lb,
    until,
    ap (λ (x : ServerId). Some (ack_packet x b v top lb until)) (sym s.0)
        ∙ ap (λ (x : ServerId). Some (ack_packet from x v top lb until)) (sym s.1)
        ∙ ap (λ (x : View). Some (ack_packet from to x top lb until)) (sym s.2),
    h.1,
  ),
  λ h. ack_told P 0 a b from to v view top lb until h.0 h.1 h.2
      (some_is (ack_packet a b v top lb until) (ack_packet from to view h.0 h.1 h.2) h.3) h.4,
)
