-- What a scene looks like while view 1.0 is open, and what a step leaves of it.
use Rattle.std.proofs.Common.{◌≡◌, ℕ, suc, ◌+◌, ◌-◌, ◌≤◌, ◌||◌, Bool, true, false, List, [], ◌∷◌, ◌++◌, length, take, Option, None, Some, refl, sym, ap, ◌∙◌, subst, inl, inr, arith, nat_lt, ◌==◌, if◌then◌else◌, slice_get}
use Rattle.std.specs.List.{list_any}
use Rattle.std.proofs.lemmas.Bool.{cases_eq, cases_lt, eq-eqb, ne_eqb}
use Rattle.trace_types.specs.declared.line.LineFault.{LineFault}
use Rattle.trace_types.specs.declared.line.LineFault.TheVariants as fault
use Rattle.trace_types.specs.declared.step.Step.{Step}
use Rattle.trace_types.specs.declared.step.Step.TheVariants as step
use Rattle.file_tree.specs.Book.{Entry}
use Rattle.group_rules.specs.Moves.{Appending, Move, Sending, moved_by}
use Rattle.group_rules.specs.Places.{One, Place, Zero, at}
use Rattle.group_rules.specs.State.{Group, Message, Packet, Server, top}
use Rattle.group_rules.specs.Step.{Comes, Deed, Does, Input, list_of, numbered, step as rule_step}
use Rattle.group_rules.proofs.Tests.{by_if, if_is, lt_is, not_lt}
use Rattle.group_trace.specs.Calls.{moves_of}
use Rattle.group_trace.specs.Lines.{listing_of}
use Rattle.group_trace.specs.Pump.{due, lowest_due}
use Rattle.group_trace.specs.Refusals.{net_limit, net_refusal, own_refusal, passes_full_net}
use Rattle.group_trace.specs.Run.{armed_after, bytes_of, bytes_where, delivered_after, delivery, disarmed, group_after, is_elementary, moved_in, moved_where, next, turn}
use Rattle.group_trace.specs.Scene.{Measures, Scene}
use Rattle.door_play.specs.Laws.{HasBytes}
use Rattle.door_play.proofs.Servers.{lt_not}

-- ---- deliveries

-- the packets below this number were delivered, and no other
abbrev pub IsDelivered : List ℕ → ℕ → Type 0
IsDelivered d n = (k : ℕ) → list_any (λ m. m == k) d ≡ nat_lt k n

lt_more : (n k : ℕ) → ((n == k) || nat_lt k n) ≡ nat_lt k (n + 1)
lt_more n k = elim (cases_eq n k) [
  | inl same ↦
      let low : nat_lt k (n + 1) ≡ true = lt_is k (n + 1) (omega (arith, same)) in
      rw (eq-eqb n k same, low) refl
  | inr other ↦ elim (cases_lt k n) [
    | inl less ↦
        let low : nat_lt k (n + 1) ≡ true = lt_is k (n + 1) (omega arith) in
        rw (ne_eqb n k other, lt_is k n less, low) refl
    | inr more ↦
        let not_low : nat_lt k (n + 1) ≡ false = lt_not k (n + 1) (omega (arith, other)) in
        rw (ne_eqb n k other, lt_not k n more, not_low) refl
  ]
]

pub delivered_more : (d : List ℕ) (n : ℕ) → IsDelivered d n → IsDelivered (n ∷ d) (n + 1)
delivered_more d n h k = ap (λ (b : Bool). (n == k) || b) (h k) ∙ lt_more n k

pub none_due : (d : List ℕ) (ps : List (Packet Entry)) (n : ℕ) → IsDelivered d n
    → length ps ≤ n → lowest_due None d ps ≡ None
unfolding lowest_due
none_due d [] n h l = refl
none_due d (p ∷ ps) n h l =
    let was : list_any (λ m. m == length ps) d ≡ true =
    h (length ps) ∙ lt_is (length ps) n (omega arith) in
    rw (none_due d ps n h (omega arith), was) refl

pub one_due : (d : List ℕ) (p : Packet Entry) (ps : List (Packet Entry)) (n : ℕ)
    → IsDelivered d n → length ps ≡ n → lowest_due None d (p ∷ ps) ≡ Some n
unfolding lowest_due
one_due d p ps n h e =
    let not_yet : list_any (λ m. m == length ps) d ≡ false =
    h (length ps) ∙ lt_not (length ps) n (omega arith) in
    let none = none_due d ps n h (omega arith) in
    rw (none, not_yet) (ap Some e)

newest : (p : Packet Entry) (ps : List (Packet Entry)) (n : ℕ) → length ps ≡ n
    → numbered (p ∷ ps) n ≡ Some p
newest p ps n e =
    let z : suc (length ps) - suc n ≡ 0 = omega arith in
    if_is (nat_lt n (suc (length ps))) _ _ (lt_is n (suc (length ps)) (omega arith))
    ∙ ap (slice_get (p ∷ ps)) z

-- ---- scenes

-- server 0 and server 1 stand so, with this list in view 1.0; packets below a number were
-- delivered, and these are on their way
pub record Looks (g : Group Entry) (d : List ℕ) (armed : Place → Option ℕ) (a b : Server Entry)
    (es : List Entry) (n : ℕ) (flight : List (Packet Entry)) : Type 0 where
  pub leader : g.server Zero ≡ a
  pub partner : g.server One ≡ b
  pub list_is : (g.page 3).list ≡ es
  pub clock_zero : g.clock Zero ≡ 2050
  pub clock_one : g.clock One ≡ 2050
  pub armed_zero : armed Zero ≡ None
  pub armed_one : armed One ≡ None
  pub delivered : IsDelivered d n
  pub sent : List (Packet Entry)
  pub packets : g.packets ≡ flight ++ sent
  pub count : length sent ≡ n

abbrev pub Stands : Scene → (a b : Server Entry) → List Entry → ℕ → List (Packet Entry) → Type 0
Stands w a b es n flight = Looks w.group w.delivered w.armed a b es n flight

pub nothing_due : (w : Scene) (a b : Server Entry) (es : List Entry) (n : ℕ)
    → Stands w a b es n [] → due None w ≡ None
nothing_due w a b es n h =
    ap (lowest_due None w.delivered) h.packets
    ∙ none_due w.delivered h.sent n h.delivered (omega (arith, h.count))

pub newest_due : (w : Scene) (a b : Server Entry) (es : List Entry) (n : ℕ) (p : Packet Entry)
    → Stands w a b es n (p ∷ []) → due None w ≡ Some n
newest_due w a b es n p h =
    ap (lowest_due None w.delivered) h.packets
    ∙ one_due w.delivered p h.sent n h.delivered h.count

-- ---- steps

-- a server takes this step with these moves
pub record Turns (m : Measures) (w : Scene) (s : Step) (q : Place) (ms : List (Move Entry))
    : Type 0 where
  pub own : own_refusal m w.group s ≡ None
  pub elementary : is_elementary s ≡ true
  pub turn_is : turn m w s ≡ Some (q, ms)
  pub group_is : group_after m w s ≡ moved_where w.group (turn m w s)
  pub armed_is : armed_after m w s ≡ disarmed w.armed (turn m w s)
  pub no_listing : listing_of w.group s ≡ []

moves_at : (m : Measures) (g : Group Entry) (stop : Option ℕ) (q : Place) (i : Input)
    (s : Server Entry) (es : List Entry) → g.server q ≡ s → stop ≡ None → g.clock q ≡ 2050
    → s.accepted ≡ 3 → (g.page 3).list ≡ es
    → moves_of m g stop q i ≡ rule_step m.size q 2050 (take (top s) es) s i
moves_at m g stop q i s es server_is armed clock view list =
    ap (λ (x : Option ℕ). moves_of m g x q i) armed
    ∙ ap (λ (t : ℕ). rule_step m.size q t
    (take (top (g.server q)) (g.page (g.server q).accepted).list) (g.server q) i) clock
    ∙ ap (λ (s : Server Entry). rule_step m.size q 2050 (take (top s) (g.page s.accepted).list) s i)
    server_is
    ∙ ap (λ (v : ℕ). rule_step m.size q 2050 (take (top s) (g.page v).list) s i) view
    ∙ ap (λ (l : List Entry). rule_step m.size q 2050 (take (top s) l) s i) list

-- server 0 does something by itself
pub leader_does : (m : Measures) (w : Scene) (s : Step) (d : Deed) (a b : Server Entry)
    (es : List Entry) (n : ℕ) (flight : List (Packet Entry)) (ms : List (Move Entry))
    → Stands w a b es n flight → a.up ≡ true → a.accepted ≡ 3
    → rule_step m.size Zero 2050 (take (top a) es) a (Does d) ≡ ms
    → own_refusal m w.group s
    ≡ (if (w.group.server Zero).up then None else Some fault.ServerDown)
    → turn m w s ≡ Some (Zero, moves_of m w.group (w.armed Zero) Zero (Does d))
    → is_elementary s ≡ true → group_after m w s ≡ moved_where w.group (turn m w s)
    → armed_after m w s ≡ disarmed w.armed (turn m w s) → listing_of w.group s ≡ []
    → Turns m w s Zero ms
leader_does m w s d a b es n flight ms h up view does own turns one group armed listing = record {
  own = own ∙ ap (λ (s : Server Entry). if s.up then None else Some fault.ServerDown) h.leader
      ∙ if_is a.up None (Some fault.ServerDown) up;
  elementary = one;
  turn_is = turns ∙ ap (λ (ms : List (Move Entry)). Some (Zero, ms))
      (moves_at m w.group (w.armed Zero) Zero (Does d) a es h.leader h.armed_zero h.clock_zero view
      h.list_is ∙ does);
  group_is = group;
  armed_is = armed;
  no_listing = listing;
}

-- server 1 does something by itself
pub partner_does : (m : Measures) (w : Scene) (s : Step) (d : Deed) (a b : Server Entry)
    (es : List Entry) (n : ℕ) (flight : List (Packet Entry)) (ms : List (Move Entry))
    → Stands w a b es n flight → b.up ≡ true → b.accepted ≡ 3
    → rule_step m.size One 2050 (take (top b) es) b (Does d) ≡ ms
    → own_refusal m w.group s
    ≡ (if (w.group.server One).up then None else Some fault.ServerDown)
    → turn m w s ≡ Some (One, moves_of m w.group (w.armed One) One (Does d))
    → is_elementary s ≡ true → group_after m w s ≡ moved_where w.group (turn m w s)
    → armed_after m w s ≡ disarmed w.armed (turn m w s) → listing_of w.group s ≡ []
    → Turns m w s One ms
partner_does m w s d a b es n flight ms h up view does own turns one group armed listing = record {
  own = own ∙ ap (λ (s : Server Entry). if s.up then None else Some fault.ServerDown) h.partner
      ∙ if_is b.up None (Some fault.ServerDown) up;
  elementary = one;
  turn_is = turns ∙ ap (λ (ms : List (Move Entry)). Some (One, ms))
      (moves_at m w.group (w.armed One) One (Does d) b es h.partner h.armed_one h.clock_one view
      h.list_is ∙ does);
  group_is = group;
  armed_is = armed;
  no_listing = listing;
}

-- the newest packet comes to a server
comes : (m : Measures) (w : Scene) (q from : Place) (body : Message Entry) (s : Server Entry)
    (sent : List (Packet Entry)) (es : List Entry) (n : ℕ) (ms : List (Move Entry))
    → w.group.packets ≡ record { from = from; to = q; body = body } ∷ sent → length sent ≡ n
    → w.group.server q ≡ s → w.armed q ≡ None → w.group.clock q ≡ 2050
    → (w.group.page 3).list ≡ es → s.up ≡ true → s.accepted ≡ 3
    → rule_step m.size q 2050 (take (top s) es) s (Comes from body) ≡ ms
    → Turns m w (step.Deliver n) q ms
comes m w q from body s sent es n ms packets count is armed clock list up view does =
    let p : Packet Entry = record { from = from; to = q; body = body } in
    let found : numbered w.group.packets n ≡ Some p =
    ap (λ (ps : List (Packet Entry)). numbered ps n) packets ∙ newest p sent n count in
    let long : length w.group.packets ≡ suc (length sent) = ap length packets in
    record {
      own = if_is (nat_lt n (length w.group.packets)) None (Some fault.NoPacket)
          (lt_is n (length w.group.packets) (omega (arith, long, count)));
      elementary = refl;
      turn_is = ap (delivery m w) found
          ∙ ap (λ (s : Server Entry). if s.up
          then Some (q, moves_of m w.group (w.armed q) q (Comes from body)) else None) is
          ∙ if_is s.up (Some (q, moves_of m w.group (w.armed q) q (Comes from body))) None up
          ∙ ap (λ (ms : List (Move Entry)). Some (q, ms))
          (moves_at m w.group (w.armed q) q (Comes from body) s es is armed clock view list ∙ does);
      group_is = refl;
      armed_is = refl;
      no_listing = refl;
    }

pub comes_to_leader : (m : Measures) (w : Scene) (body : Message Entry) (a b : Server Entry)
    (es : List Entry) (n : ℕ) (ms : List (Move Entry))
    → Stands w a b es n (record { from = One; to = Zero; body = body } ∷ [])
    → a.up ≡ true → a.accepted ≡ 3
    → rule_step m.size Zero 2050 (take (top a) es) a (Comes One body) ≡ ms
    → Turns m w (step.Deliver n) Zero ms
comes_to_leader m w body a b es n ms h up view does =
    comes m w Zero One body a h.sent es n ms h.packets h.count h.leader h.armed_zero h.clock_zero
    h.list_is up view does

pub comes_to_partner : (m : Measures) (w : Scene) (body : Message Entry) (a b : Server Entry)
    (es : List Entry) (n : ℕ) (ms : List (Move Entry))
    → Stands w a b es n (record { from = Zero; to = One; body = body } ∷ [])
    → b.up ≡ true → b.accepted ≡ 3
    → rule_step m.size One 2050 (take (top b) es) b (Comes Zero body) ≡ ms
    → Turns m w (step.Deliver n) One ms
comes_to_partner m w body a b es n ms h up view does =
    comes m w One Zero body b h.sent es n ms h.packets h.count h.partner h.armed_one h.clock_one
    h.list_is up view does

-- where the moves lead
pub leads : (m : Measures) (w : Scene) (s : Step) (q : Place) (x : Server Entry)
    (ms : List (Move Entry)) (a b : Server Entry) (es : List Entry) (n : ℕ)
    (flight : List (Packet Entry)) → Turns m w s q ms → w.group.server q ≡ x
    → Looks (moved_by w.group q x ms) (delivered_after w.delivered s) (at w.armed q None)
    a b es n flight → Stands (next m w s) a b es n flight
leads m w s q x ms a b es n flight t is h =
    let group : group_after m w s ≡ moved_by w.group q x ms =
    t.group_is ∙ ap (moved_where w.group) t.turn_is
    ∙ ap (λ (x : Server Entry). moved_by w.group q x ms) is in
    let armed : armed_after m w s ≡ at w.armed q None =
    t.armed_is ∙ ap (disarmed w.armed) t.turn_is in
    subst (λ (g : Group Entry). Looks g (delivered_after w.delivered s) (armed_after m w s)
    a b es n flight) (sym group)
    (subst (λ (f : Place → Option ℕ). Looks (moved_by w.group q x ms)
    (delivered_after w.delivered s) f a b es n flight) (sym armed) h)

-- ---- bytes that are sent

pub sent_grows : (m : Measures) (w : Scene) (s : Step) → w.sent ≤ (next m w s).sent
sent_grows m w s =
    let is : (next m w s).sent ≡ w.sent + bytes_where m w.group (turn m w s) = refl in
    omega (arith, is)

-- an ask of an update sends a message
pub asked_sends : (m : Measures) (w : Scene) (s : Step) (e : Entry) (body : Message Entry)
    → HasBytes m → Turns m w s Zero (Appending e ∷ Sending One body ∷ [])
    → w.sent + 1 ≤ (next m w s).sent
unfolding bytes_of
asked_sends m w s e body some t =
    let ms = Appending e ∷ Sending One body ∷ [] in
    let list = list_of (moved_in w.group (Zero, ms)) Zero in
    let is : (next m w s).sent ≡ w.sent + (m.bytes list body + 0) =
    ap (λ (x : Option (Place × List (Move Entry))). w.sent + bytes_where m w.group x) t.turn_is in
    let one = some list body in
    omega (arith, is, one)

-- a step that is taken whatever else: fewer bytes were sent than fill the network
pub not_full : (w : Scene) (s : Step) → passes_full_net s ≡ false → net_refusal w s ≡ None
    → w.sent ≤ 532676608
unfolding net_limit
not_full w s kind =
    rw kind (by_if (λ (o : Option LineFault). o ≡ None → w.sent ≤ 532676608)
    (nat_lt net_limit w.sent) (Some fault.NetFull) None (λ _ e. cc)
    (λ f _. not_lt net_limit w.sent f))
