-- How many packets pumps can still deliver: those that were never delivered, and those that may
-- still be sent.
use Rattle.std.proofs.Common.{◌≡◌, ℕ, zero, suc, ◌+◌, ◌-◌, ◌<◌, ◌≤◌, ◌==◌, ◌&&◌, ◌||◌, not, Bool, true, false, List, [], ◌∷◌, length, Option, Some, None, refl, ap, subst, arith, inl, inr, if◌then◌else◌}
use Rattle.std.specs.List.{list_any}
use Rattle.std.proofs.lemmas.Bool.{cases_Bool, cases_lt, eqb-false, eqb-true}
use Rattle.harp_types.specs.declared.server.ServerId.{ServerId}
use Rattle.trace_types.specs.declared.step.Step.{Step}
use Rattle.trace_types.specs.declared.step.Step.TheVariants as step
use Rattle.file_tree.specs.Book.{Entry}
use Rattle.group_rules.specs.State.{Packet}
use Rattle.group_safety.specs.Laws.{Whole}
use Rattle.group_safety.proofs.Safe.{first_whole}
use Rattle.group_trace.specs.Pump.{due, is_among, is_due, lowest_due}
use Rattle.group_trace.specs.Refusals.{net_refusal, own_refusal, refusal}
use Rattle.group_trace.specs.Run.{delivered_after, group_after, is_elementary, next}
use Rattle.group_trace.specs.Scene.{Measures, Scene, first_scene}
use Rattle.trace_laws.proofs.Turns.{own_none, take_step}
use Rattle.accept_laws.specs.Laws.{TakeBytes}
use Rattle.accept_laws.proofs.Counts.{packets_are}
use Rattle.accept_laws.proofs.Runs.{most_packets, packets_few, packets_sent, step_whole}

-- ---- the packets that were never delivered

abbrev pub is_delivered : List ℕ → ℕ → Bool
is_delivered delivered n = list_any (λ m. m == n) delivered

-- of the first n packets
unfoldable pub undelivered : List ℕ → ℕ → ℕ
undelivered delivered zero = 0
undelivered delivered (suc n) =
    undelivered delivered n + (if is_delivered delivered n then 0 else 1)

at_most_one : (b : Bool) → (if b then 0 else 1) ≤ 1
at_most_one true = omega arith
at_most_one false = omega arith

undelivered_more : (delivered : List ℕ) (k n : ℕ) → n ≤ k
    → undelivered delivered k + n ≤ undelivered delivered n + k
unfolding undelivered
undelivered_more delivered zero n l =
    let none : 0 ≡ n = omega (arith, l) in
    subst (λ (n : ℕ). undelivered delivered 0 + n ≤ undelivered delivered n + 0) none (omega arith)
undelivered_more delivered (suc k) n l = elim (cases_lt n (suc k)) [
  | inl lt ↦
      let rest = undelivered_more delivered k n (omega (arith, lt)) in
      let one = at_most_one (is_delivered delivered k) in
      omega (arith, rest, one)
  | inr le ↦
      let same : suc k ≡ n = omega (arith, l, le) in
      subst (λ (n : ℕ). undelivered delivered (suc k) + n ≤ undelivered delivered n + suc k) same
      (omega arith)
]

fewer : (a b : Bool) → (if a || b then 0 else 1) ≤ (if b then 0 else 1)
fewer true b = omega arith
fewer false b = omega arith

delivers : (delivered : List ℕ) (n k : ℕ) → undelivered (n ∷ delivered) k ≤ undelivered delivered k
unfolding undelivered
delivers delivered n zero = omega arith
delivers delivered n (suc k) =
    let rest = delivers delivered n k in
    let one = fewer (n == k) (is_delivered delivered k) in
    omega (arith, rest, one)

delivers_new : (delivered : List ℕ) (n k : ℕ) → n < k → is_delivered delivered n ≡ false
    → undelivered (n ∷ delivered) k + 1 ≤ undelivered delivered k
unfolding undelivered
delivers_new delivered n zero l new = absurd (omega (arith, l))
delivers_new delivered n (suc k) l new = elim (cases_Bool (n == k)) [
  | inl t ↦
      let same = eqb-true n k t in
      let now : is_delivered delivered k ≡ false =
      subst (λ (i : ℕ). is_delivered delivered i ≡ false) same new in
      let rest = delivers delivered n k in
      rw (t, now) (omega (arith, rest))
  | inr f ↦
      let other = eqb-false n k f in
      let rest = delivers_new delivered n k (omega (arith, l, other)) new in
      let one = fewer (n == k) (is_delivered delivered k) in
      omega (arith, rest, one)
]

-- ---- what is due

is_new : (among : Option (ServerId × ServerId)) (delivered : List ℕ) (n : ℕ) (p : Packet Entry)
    → is_due among delivered n p ≡ true → is_delivered delivered n ≡ false
is_new among delivered n p e = by (is_among among p) (is_delivered delivered n) e
  where
    by : (a b : Bool) → (a && not b) ≡ true → b ≡ false
    by true true e = absurd cc
    by true false e = refl
    by false b e = absurd cc

pub record IsNew (delivered : List ℕ) (ps : List (Packet Entry)) (n : ℕ) : Type 0 where
  pub sent : n < length ps
  pub new : is_delivered delivered n ≡ false

lowest_new : (among : Option (ServerId × ServerId)) (delivered : List ℕ)
    (ps : List (Packet Entry)) (n : ℕ) → lowest_due among delivered ps ≡ Some n
    → IsNew delivered ps n
unfolding lowest_due
lowest_new among delivered [] n e = absurd cc
lowest_new among delivered (p ∷ ps) n e =
    by (lowest_due among delivered ps) (lowest_new among delivered ps n) e
  where
    first : (b : Bool) → is_due among delivered (length ps) p ≡ b
        → (if b then Some (length ps) else None) ≡ Some n → IsNew delivered (p ∷ ps) n
    first true is e =
        let same : length ps ≡ n = cc in
        record {
          sent = omega (arith, same);
          new = subst (λ (i : ℕ). is_delivered delivered i ≡ false) same
              (is_new among delivered (length ps) p is);
        }
    first false is e = absurd cc

    by : (o : Option ℕ) → (o ≡ Some n → IsNew delivered ps n) → (elim o [
      | Some k ↦ Some k
      | None ↦ if is_due among delivered (length ps) p then Some (length ps) else None
    ]) ≡ Some n → IsNew delivered (p ∷ ps) n
    by (Some k) earlier e =
        let rest = earlier e in
        let l = rest.sent in
        record { sent = omega (arith, l); new = rest.new }
    by None earlier e = first (is_due among delivered (length ps) p) refl e

-- ---- a scene

-- what holds of each scene on the way
pub record IsGoing (w : Scene) : Type 0 where
  pub whole_so : Whole w.group
  pub sent : length w.group.packets ≤ w.sent
  pub packets : length w.group.packets ≤ most_packets

pub first_going : IsGoing first_scene
first_going = record { whole_so = first_whole; sent = omega arith; packets = omega arith }

pub going_on : (m : Measures) → TakeBytes m → (w : Scene) → IsGoing w → (s : Step)
    → refusal m w s ≡ None → is_elementary s ≡ true → IsGoing (next m w s)
going_on m b w h s r e =
    let own = own_none (own_refusal m w.group s) (net_refusal w s) r in
    record {
      whole_so = step_whole m w h.whole_so s own e;
      sent = packets_sent m b w s h.sent;
      packets = packets_few m w h.whole_so h.sent h.packets s r e;
    }

packets_grow : (m : Measures) (w : Scene) → Whole w.group → (s : Step)
    → own_refusal m w.group s ≡ None → is_elementary s ≡ true
    → length w.group.packets ≤ length (group_after m w s).packets
packets_grow m w h s r e =
    take_step (λ g' ls. length w.group.packets ≤ length g'.packets) m w h s r e
    (λ g' k same.
    let is = ap (λ (ps : List (Packet Entry)). length ps) same.packets in omega (arith, is))
    (λ q i ms t.
    let all = packets_are ms w.group q (w.group.server q) in omega (arith, all))

-- how many packets can still be delivered
unfoldable pub left : Scene → ℕ
left w = undelivered w.delivered (length w.group.packets)
    + (most_packets - length w.group.packets)

pub left_falls : (m : Measures) → TakeBytes m → (w : Scene) → IsGoing w → (s : Step)
    → refusal m w s ≡ None → is_elementary s ≡ true → left (next m w s) ≤ left w
unfolding left
left_falls m b w h s r e =
    let own = own_none (own_refusal m w.group s) (net_refusal w s) r in
    let after = (going_on m b w h s r e).packets in
    let more = packets_grow m w h.whole_so s own e in
    let n = length w.group.packets in
    let n' = length (group_after m w s).packets in
    let old = undelivered_more w.delivered n' n more in
    let same : undelivered (delivered_after w.delivered s) n' ≤ undelivered w.delivered n' = by s n'
    in omega (arith, after, more, old, same)
  where
    by : (s : Step) (k : ℕ)
        → undelivered (delivered_after w.delivered s) k ≤ undelivered w.delivered k
    by (step.Deliver n) k = delivers w.delivered n k
    by s k = omega arith

-- a pump delivers a packet that was never delivered
pub due_falls : (m : Measures) → TakeBytes m → (w : Scene) → IsGoing w
    → (among : Option (ServerId × ServerId)) (n : ℕ) → due among w ≡ Some n
    → refusal m w (step.Deliver n) ≡ None → left (next m w (step.Deliver n)) + 1 ≤ left w
unfolding left
due_falls m b w h among n e r =
    let s = step.Deliver n in
    let own = own_none (own_refusal m w.group s) (net_refusal w s) r in
    let after = (going_on m b w h s r refl).packets in
    let more = packets_grow m w h.whole_so s own refl in
    let k = length w.group.packets in
    let k' = length (group_after m w s).packets in
    let old = undelivered_more w.delivered k' k more in
    let new = lowest_new among w.delivered w.group.packets n e in
    let l = new.sent in
    let one = delivers_new w.delivered n k' (omega (arith, more, l)) new.new in
    omega (arith, after, more, old, one)

pub left_few : (w : Scene) → IsGoing w → left w ≤ most_packets
unfolding left undelivered
left_few w h =
    let n = length w.group.packets in
    let all = undelivered_more w.delivered n 0 (omega arith) in
    let packets = h.packets in
    omega (arith, all, packets)
