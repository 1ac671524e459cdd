-- The upkeep brings both disks up to all updates, and drops them from the leader's log.
use Rattle.std.proofs.Common.{◌≡◌, ℕ, ◌+◌, ◌-◌, ◌<◌, ◌≤◌, true, List, [], ◌∷◌, ◌++◌, length, take, drop, Option, None, max, min, refl, ap, ◌∙◌, subst, inl, inr, arith, length-drop}
use Rattle.std.proofs.lemmas.Bool.{cases_lt}
use Rattle.harp_types.specs.declared.reply.Reply.{Reply}
use Rattle.harp_types.specs.declared.server.ServerId.TheVariants as server
use Rattle.trace_types.specs.declared.step.Step.{Step}
use Rattle.trace_types.specs.declared.step.Step.TheVariants as step
use Rattle.file_tree.specs.Book.{Entry}
use Rattle.group_rules.specs.Moves.{Applying, Basing, Flushing, Move, Noting, Sending, moved_by}
use Rattle.group_rules.specs.Open.{base_tests, rebase}
use Rattle.group_rules.specs.Places.{One, Place, Zero, all_of, at}
use Rattle.group_rules.specs.State.{Ack, Beat, Group, Packet, Page, Server}
use Rattle.group_rules.specs.Step.{Apply, Flush, Tick}
use Rattle.group_rules.proofs.Tests.{all_true, if_is, lt_is}
use Rattle.group_trace.specs.Pump.{most_deliveries}
use Rattle.group_trace.specs.Run.{next}
use Rattle.group_trace.specs.Scene.{Measures, Scene}
use Rattle.schedule_play.specs.Reading.{Reading, with_step}
use Rattle.door_play.specs.Steps.{taken_from, upkeep}
use Rattle.door_play.proofs.Readings.{Answers, left_after, pump_delivers, pump_ends, pumped, then_steps, turn_step}
use Rattle.door_play.proofs.Ready.{Ready, heeds_leads, to_leader, to_partner}
use Rattle.door_play.proofs.Scenes.{Looks, Stands, Turns, comes_to_leader, comes_to_partner, delivered_more, leader_does, leads, newest_due, nothing_due, partner_does, sent_grows}
use Rattle.door_play.proofs.Servers.{ack_again, beat_comes, following, leader_applies, leader_flushes, leader_rests, leading, no_rebase, partner_applies, partner_flushes, partner_rests, ticks}

-- from each scene where the servers stand so the rest is answered, and at least so many bytes were
-- sent
abbrev Then : Measures → ℕ → (a b : Server Entry) → List Entry → ℕ → List (Packet Entry)
    → List (ℕ × Reply) → (Scene → Reading) → Type 0
Then m sent a b es n flight ys rest =
    (v : Scene) → sent ≤ v.sent → Stands v a b es n flight → Answers m v ys (rest v)

-- ---- the leader beats, and the partner answers

tick_leads : (m : Measures) (w : Scene) (es : List Entry) (n p k : ℕ) (a b : Server Entry)
    → Stands w a b es n []
    → Turns m w (step.Tick server.Zero) Zero (Sending One (Beat 3 p k) ∷ [])
    → Stands (next m w (step.Tick server.Zero)) a b es n (to_partner (Beat 3 p k) ∷ [])
tick_leads m w es n p k a b h turns =
    leads m w (step.Tick server.Zero) Zero a (Sending One (Beat 3 p k) ∷ []) a b es n
    (to_partner (Beat 3 p k) ∷ []) turns h.leader
    (record {
      leader = refl;
      partner = h.partner;
      list_is = h.list_is;
      clock_zero = h.clock_zero;
      clock_one = h.clock_one;
      armed_zero = refl;
      armed_one = h.armed_one;
      delivered = h.delivered;
      sent = h.sent;
      packets = ap (λ (ps : List (Packet Entry)). to_partner (Beat 3 p k) ∷ ps) h.packets;
      count = h.count;
    })

beats : (m : Measures) (w : Scene) (es items items' : List Entry)
    (k l a p t b j l' a' c n : ℕ) (rest : Scene → Reading) (ys : List (ℕ × Reply))
    → Stands w (leading k l a p items t b) (following j l' a' c items') es n []
    → k + length items ≤ t → min l b ≤ k → k ≤ l'
    → Then m w.sent (leading k l a p items t b)
    (following (max j k) l' a' (max c (min p (j + length items'))) (drop (k - j) items')) es (n + 1)
    (to_leader (Ack 3 (j + length items') l' 4050) ∷ []) ys (pumped m (left_after 1) rest)
    → Answers m w ys (with_step m 0 (step.Tick server.Zero) (pumped m most_deliveries rest) w)
unfolding most_deliveries
beats m w es items items' k l a p t b j l' a' c n rest ys h told base led more =
    let x = leading k l a p items t b in
    let y = following j l' a' c items' in
    let s = step.Tick server.Zero in
    let t1 = leader_does m w s Tick x y es n [] (Sending One (Beat 3 p k) ∷ []) h refl refl
    (ticks m.size (take (k + length items) es) items k l a p t b told base)
    refl refl refl refl refl refl in
    let w1 = next m w s in
    let h1 = tick_leads m w es n p k x y h t1 in
    let t2 = comes_to_partner m w1 (Beat 3 p k) x y es n _ h1 refl refl
    (beat_comes m.size (take (j + length items') es) items' j l' a' c p k led) in
    let w2 = next m w1 (step.Deliver n) in
    let h2 = heeds_leads m w1 es items' items' j l' a' c p k (j + length items') n x
    (Beat 3 p k) h1 t2 in
    turn_step m w s Zero _ (pumped m most_deliveries rest) ys t1
    (pump_delivers m (left_after 1) n rest w1 ys (newest_due w1 x y es n _ h1)
    (turn_step m w1 (step.Deliver n) One _ (pumped m (left_after 1) rest) ys t2 (more w2 (omega
    (arith, sent_grows m w s, sent_grows m w1 (step.Deliver n))) h2)))

-- ---- the leader is told

notes_leads : (m : Measures) (w : Scene) (es items : List Entry) (k l a p t b u f n : ℕ)
    (b' : Server Entry) → Stands w (leading k l a p items t b) b' es n (to_leader
    (Ack 3 u f 4050) ∷ [])
    → Turns m w (step.Deliver n) Zero (Noting u f 4050 ∷ [])
    → Stands (next m w (step.Deliver n)) (leading k l a p items (max t u) (max b f)) b' es
    (n + 1) []
notes_leads m w es items k l a p t b u f n b' h turns =
    leads m w (step.Deliver n) Zero (leading k l a p items t b) (Noting u f 4050 ∷ [])
    (leading k l a p items (max t u) (max b f)) b' es (n + 1) [] turns h.leader
    (record {
      leader = refl;
      partner = h.partner;
      list_is = h.list_is;
      clock_zero = h.clock_zero;
      clock_one = h.clock_one;
      armed_zero = refl;
      armed_one = h.armed_one;
      delivered = delivered_more w.delivered n h.delivered;
      sent = to_leader (Ack 3 u f 4050) ∷ h.sent;
      packets = h.packets;
      count = let e = h.count in omega arith;
    })

bases_leads : (m : Measures) (w : Scene) (es items : List Entry) (k l a p t b u f n v : ℕ)
    (b' : Server Entry) → Stands w (leading k l a p items t b) b' es n (to_leader
    (Ack 3 u f 4050) ∷ [])
    → Turns m w (step.Deliver n) Zero (Noting u f 4050 ∷ Basing v ∷ [])
    → Stands (next m w (step.Deliver n)) (leading v l a p (drop (v - k) items) (max t u)
    (max b f)) b'
    es (n + 1) []
bases_leads m w es items k l a p t b u f n v b' h turns =
    leads m w (step.Deliver n) Zero (leading k l a p items t b) (Noting u f 4050 ∷ Basing v ∷ [])
    (leading v l a p (drop (v - k) items) (max t u) (max b f)) b' es (n + 1) [] turns h.leader
    (record {
      leader = refl;
      partner = h.partner;
      list_is = h.list_is;
      clock_zero = h.clock_zero;
      clock_one = h.clock_one;
      armed_zero = refl;
      armed_one = h.armed_one;
      delivered = delivered_more w.delivered n h.delivered;
      sent = to_leader (Ack 3 u f 4050) ∷ h.sent;
      packets = h.packets;
      count = let e = h.count in omega arith;
    })

-- the base stays
notes : (m : Measures) (w : Scene) (es items : List Entry) (k l a p t b u f n : ℕ)
    (b' : Server Entry) (rest : Scene → Reading) (ys : List (ℕ × Reply))
    → Stands w (leading k l a p items t b) b' es n (to_leader (Ack 3 u f 4050) ∷ [])
    → u ≤ p → u ≤ k + length items → f ≤ u → min l (max b f) ≤ k
    → Then m w.sent (leading k l a p items (max t u) (max b f)) b' es (n + 1) [] ys rest
    → Answers m w ys (pumped m (left_after 1) rest w)
notes m w es items k l a p t b u f n b' rest ys h known within low base more =
    let x = leading k l a p items t b in
    let list = take (k + length items) es in
    let t1 = comes_to_leader m w (Ack 3 u f 4050) x b' es n (Noting u f 4050 ∷ []) h refl refl
    (ack_again m.size list items k l a p t b u f known within low
    ∙ ap (λ (ms : List (Move Entry)). Noting u f 4050 ∷ ms)
    (no_rebase (leading k l a p items (max t u) (max b f)) base)) in
    let w1 = next m w (step.Deliver n) in
    let h1 = notes_leads m w es items k l a p t b u f n b' h t1 in
    pump_delivers m (left_after 2) n rest w ys (newest_due w x b' es n _ h)
    (turn_step m w (step.Deliver n) Zero _ (pumped m (left_after 2) rest) ys t1
    (pump_ends m (left_after 3) rest w1 ys (nothing_due w1 _ _ _ _ h1) (more w1 (sent_grows m w
    (step.Deliver n)) h1)))

rebases : (s : Server Entry) → all_of (base_tests s) ≡ true → rebase s ≡ Basing
    (min s.lb s.told_lb) ∷ []
rebases s e = if_is (all_of (base_tests s)) _ _ e

-- the base moves up to both disks
based : (m : Measures) (w : Scene) (es items : List Entry) (k l a p t b u f n : ℕ)
    (b' : Server Entry) (rest : Scene → Reading) (ys : List (ℕ × Reply))
    → Stands w (leading k l a p items t b) b' es n (to_leader (Ack 3 u f 4050) ∷ [])
    → u ≤ p → u ≤ k + length items → f ≤ u → k < min l (max b f)
    → Then m w.sent (leading (min l (max b f)) l a p (drop (min l (max b f) - k) items) (max t u)
    (max b f)) b'
    es (n + 1) [] ys rest
    → Answers m w ys (pumped m (left_after 1) rest w)
unfolding all_of
based m w es items k l a p t b u f n b' rest ys h known within low above more =
    let x = leading k l a p items t b in
    let v = min l (max b f) in
    let s = leading k l a p items (max t u) (max b f) in
    let list = take (k + length items) es in
    let moves : rebase s ≡ Basing v ∷ [] =
    rebases s (all_true (base_tests s) (refl, (refl, (lt_is k v above, tt)))) in
    let t1 = comes_to_leader m w (Ack 3 u f 4050) x b' es n (Noting u f 4050 ∷ Basing v ∷ []) h
    refl refl
    (ack_again m.size list items k l a p t b u f known within low
    ∙ ap (λ (ms : List (Move Entry)). Noting u f 4050 ∷ ms) moves) in
    let w1 = next m w (step.Deliver n) in
    let h1 = bases_leads m w es items k l a p t b u f n v b' h t1 in
    pump_delivers m (left_after 2) n rest w ys (newest_due w x b' es n _ h)
    (turn_step m w (step.Deliver n) Zero _ (pumped m (left_after 2) rest) ys t1
    (pump_ends m (left_after 3) rest w1 ys (nothing_due w1 _ _ _ _ h1) (more w1 (sent_grows m w
    (step.Deliver n)) h1)))

-- ---- the disks

-- server 0 changes nothing but itself
itself_zero : (g : Group Entry) (d : List ℕ) (armed : Place → Option ℕ) (a b : Server Entry)
    (es : List Entry) (n : ℕ) (x : Server Entry) (ms : List (Move Entry))
    → Looks g d armed a b es n []
    → (moved_by g Zero a ms).server Zero ≡ x
    → (moved_by g Zero a ms).server One ≡ g.server One
    → (moved_by g Zero a ms).page ≡ g.page → (moved_by g Zero a ms).packets ≡ g.packets
    → (moved_by g Zero a ms).clock ≡ g.clock
    → Looks (moved_by g Zero a ms) d (at armed Zero None) x b es n []
itself_zero g d armed a b es n x ms h is other page packets clock = record {
  leader = is;
  partner = other ∙ h.partner;
  list_is = ap (λ (f : ℕ → Page Entry). (f 3).list) page ∙ h.list_is;
  clock_zero = ap (λ (f : Place → ℕ). f Zero) clock ∙ h.clock_zero;
  clock_one = ap (λ (f : Place → ℕ). f One) clock ∙ h.clock_one;
  armed_zero = refl;
  armed_one = h.armed_one;
  delivered = h.delivered;
  sent = h.sent;
  packets = packets ∙ h.packets;
  count = h.count;
}

itself_one : (g : Group Entry) (d : List ℕ) (armed : Place → Option ℕ) (a b : Server Entry)
    (es : List Entry) (n : ℕ) (y : Server Entry) (ms : List (Move Entry))
    → Looks g d armed a b es n []
    → (moved_by g One b ms).server One ≡ y
    → (moved_by g One b ms).server Zero ≡ g.server Zero
    → (moved_by g One b ms).page ≡ g.page → (moved_by g One b ms).packets ≡ g.packets
    → (moved_by g One b ms).clock ≡ g.clock
    → Looks (moved_by g One b ms) d (at armed One None) a y es n []
itself_one g d armed a b es n y ms h is other page packets clock = record {
  leader = other ∙ h.leader;
  partner = is;
  list_is = ap (λ (f : ℕ → Page Entry). (f 3).list) page ∙ h.list_is;
  clock_zero = ap (λ (f : Place → ℕ). f Zero) clock ∙ h.clock_zero;
  clock_one = ap (λ (f : Place → ℕ). f One) clock ∙ h.clock_one;
  armed_zero = h.armed_zero;
  armed_one = refl;
  delivered = h.delivered;
  sent = h.sent;
  packets = packets ∙ h.packets;
  count = h.count;
}

apply_zero : (m : Measures) (w : Scene) (es items : List Entry) (k l a p t b n : ℕ)
    (b' : Server Entry) (rest : Scene → Reading) (ys : List (ℕ × Reply))
    → Stands w (leading k l a p items t b) b' es n [] → min l b ≤ k
    → Then m w.sent (leading k l (min (a + 64) p) p items t b) b' es n [] ys rest
    → Answers m w ys (with_step m 0 (step.Apply server.Zero 64) rest w)
apply_zero m w es items k l a p t b n b' rest ys h base more =
    let x = leading k l a p items t b in
    let s = step.Apply server.Zero 64 in
    let ms : List (Move Entry) = Applying (min (a + 64) p) ∷ [] in
    let t1 = leader_does m w s (Apply 64) x b' es n [] ms h refl refl
    (leader_applies m.size (take (k + length items) es) items k l a p t b base)
    refl refl refl refl refl refl in
    turn_step m w s Zero ms rest ys t1 (more (next m w s) (sent_grows m w s)
    (leads m w s Zero x ms (leading k l (min (a + 64) p) p items t b) b' es n [] t1 h.leader
    (itself_zero w.group w.delivered w.armed x b' es n _ ms h refl refl refl refl refl)))

apply_one : (m : Measures) (w : Scene) (es items : List Entry) (j l a c n : ℕ)
    (a' : Server Entry) (rest : Scene → Reading) (ys : List (ℕ × Reply))
    → Stands w a' (following j l a c items) es n []
    → Then m w.sent a' (following j l (min (a + 64) c) c items) es n [] ys rest
    → Answers m w ys (with_step m 0 (step.Apply server.One 64) rest w)
apply_one m w es items j l a c n a' rest ys h more =
    let y = following j l a c items in
    let s = step.Apply server.One 64 in
    let ms : List (Move Entry) = Applying (min (a + 64) c) ∷ [] in
    let t1 = partner_does m w s (Apply 64) a' y es n [] ms h refl refl
    (partner_applies m.size (take (j + length items) es) items j l a c)
    refl refl refl refl refl refl in
    turn_step m w s One ms rest ys t1 (more (next m w s) (sent_grows m w s)
    (leads m w s One y ms a' (following j l (min (a + 64) c) c items) es n [] t1 h.partner
    (itself_one w.group w.delivered w.armed a' y es n _ ms h refl refl refl refl refl)))

flush_zero : (m : Measures) (w : Scene) (es items : List Entry) (k l a p t b n : ℕ)
    (b' : Server Entry) (rest : Scene → Reading) (ys : List (ℕ × Reply))
    → Stands w (leading k l a p items t b) b' es n [] → l ≤ a → b ≤ k
    → Then m w.sent (leading k a a p items t b) b' es n [] ys rest
    → Answers m w ys (with_step m 0 (step.Flush server.Zero) rest w)
flush_zero m w es items k l a p t b n b' rest ys h order base more =
    let x = leading k l a p items t b in
    let s = step.Flush server.Zero in
    let list = take (k + length items) es in
    elim (cases_lt l a) [
      | inl behind ↦
          let ms : List (Move Entry) = Flushing ∷ [] in
          let t1 = leader_does m w s Flush x b' es n [] ms h refl refl
          (leader_flushes m.size list items k l a p t b behind (omega arith))
          refl refl refl refl refl refl in
          turn_step m w s Zero ms rest ys t1 (more (next m w s) (sent_grows m w s)
          (leads m w s Zero x ms (leading k a a p items t b) b' es n [] t1 h.leader
          (itself_zero w.group w.delivered w.armed x b' es n _ ms h refl refl refl refl refl)))
      | inr level ↦
          let ms : List (Move Entry) = [] in
          let same : l ≡ a = omega arith in
          let t1 = leader_does m w s Flush x b' es n [] ms h refl refl
          (leader_rests m.size list items k l a p t b level (omega arith))
          refl refl refl refl refl refl in
          turn_step m w s Zero ms rest ys t1 (more (next m w s) (sent_grows m w s)
          (leads m w s Zero x ms (leading k a a p items t b) b' es n [] t1 h.leader
          (itself_zero w.group w.delivered w.armed x b' es n _ ms h
          (h.leader ∙ ap (λ (l : ℕ). leading k l a p items t b) same) refl refl refl refl)))
    ]

flush_one : (m : Measures) (w : Scene) (es items : List Entry) (j l a c n : ℕ)
    (a' : Server Entry) (rest : Scene → Reading) (ys : List (ℕ × Reply))
    → Stands w a' (following j l a c items) es n [] → l ≤ a
    → Then m w.sent a' (following j a a c items) es n [] ys rest
    → Answers m w ys (with_step m 0 (step.Flush server.One) rest w)
flush_one m w es items j l a c n a' rest ys h order more =
    let y = following j l a c items in
    let s = step.Flush server.One in
    let list = take (j + length items) es in
    elim (cases_lt l a) [
      | inl behind ↦
          let ms : List (Move Entry) = Flushing ∷ [] in
          let t1 = partner_does m w s Flush a' y es n [] ms h refl refl
          (partner_flushes m.size list items j l a c behind)
          refl refl refl refl refl refl in
          turn_step m w s One ms rest ys t1 (more (next m w s) (sent_grows m w s)
          (leads m w s One y ms a' (following j a a c items) es n [] t1 h.partner
          (itself_one w.group w.delivered w.armed a' y es n _ ms h refl refl refl refl refl)))
      | inr level ↦
          let ms : List (Move Entry) = [] in
          let same : l ≡ a = omega arith in
          let t1 = partner_does m w s Flush a' y es n [] ms h refl refl
          (partner_rests m.size list items j l a c level)
          refl refl refl refl refl refl in
          turn_step m w s One ms rest ys t1 (more (next m w s) (sent_grows m w s)
          (leads m w s One y ms a' (following j a a c items) es n [] t1 h.partner
          (itself_one w.group w.delivered w.armed a' y es n _ ms h
          (h.partner ∙ ap (λ (l : ℕ). following j l a c items) same) refl refl refl refl)))
    ]

-- ---- all of it

level : (v : Scene) (es items items' : List Entry) (k l a p t b j l' a' c n d : ℕ)
    → Stands v (leading k l a p items t b) (following j l' a' c items') es n []
    → k ≡ d → l ≡ d → a ≡ d → l' ≡ d → a' ≡ d
    → Stands v (leading d d d p items t b) (following j d d c items') es n []
level v es items items' k l a p t b j l' a' c n d h e1 e2 e3 e4 e5 =
    let left : leading k l a p items t b ≡ leading d d d p items t b =
    ap (λ (k : ℕ). leading k l a p items t b) e1
    ∙ ap (λ (l : ℕ). leading d l a p items t b) e2
    ∙ ap (λ (a : ℕ). leading d d a p items t b) e3 in
    let right : following j l' a' c items' ≡ following j d d c items' =
    ap (λ (l : ℕ). following j l a' c items') e4
    ∙ ap (λ (a : ℕ). following j d a c items') e5 in
    subst (λ (x : Server Entry). Stands v x (following j d d c items') es n []) left
    (subst (λ (y : Server Entry). Stands v (leading k l a p items t b) y es n []) right h)

-- after the second Ack, whether the base moves or is there already
ends : (m : Measures) (w : Scene) (es items items' : List Entry) (k a p t b u a' j c n : ℕ)
    (rest : Scene → Reading) (ys : List (ℕ × Reply))
    → Stands w (leading k a a p items t b) (following j a' a' c items') es n
    (to_leader (Ack 3 u a' 4050) ∷ [])
    → k + length items ≡ length es → j + length items' ≡ length es → p ≡ length es
    → u ≡ length es → a ≡ length es → a' ≡ length es → b ≤ length es → c ≤ length es
    → length es ≤ w.sent
    → ((v : Scene) → Ready v es 0 → Answers m v ys (rest v))
    → Answers m w ys (pumped m (left_after 1) rest w)
ends m w es items items' k a p t b u a' j c n rest ys h f1 f2 f3 f4 f5 f6 f7 f8 f9 more =
    let d = length es in
    let x = min a (max b a') in
    elim (cases_lt k x) [
      | inl above ↦
          let left = length-drop (x - k) items in
          based m w es items k a a p t b u a' n (following j a' a' c items') rest ys h (omega arith)
          (omega arith) (omega arith) above (λ v g h. more v (record {
            disk = d;
            items = drop (x - k) items;
            told_top = max t u;
            told_lb = max b a';
            cp = p;
            base' = j;
            items' = items';
            cp' = c;
            packets = n + 1;
            stands = level v es (drop (x - k) items) items' x a a p (max t u) (max b a') j a' a' c
                (n + 1) d h (omega arith) f5 f5 f6 f6;
            long = omega arith;
            long' = f2;
            all = f3;
            told = omega arith;
            heard = omega arith;
            dropped = omega arith;
            not_above = f8;
            recent = omega arith;
            fewer = omega arith;
          }))
      | inr there ↦
          notes m w es items k a a p t b u a' n (following j a' a' c items') rest ys h (omega arith)
          (omega arith) (omega arith) there (λ v g h. more v (record {
            disk = d;
            items = items;
            told_top = max t u;
            told_lb = max b a';
            cp = p;
            base' = j;
            items' = items';
            cp' = c;
            packets = n + 1;
            stands = level v es items items' k a a p (max t u) (max b a') j a' a' c
                (n + 1) d h (omega arith) f5 f5 f6 f6;
            long = omega arith;
            long' = f2;
            all = f3;
            told = omega arith;
            heard = omega arith;
            dropped = omega arith;
            not_above = f8;
            recent = omega arith;
            fewer = omega arith;
          }))
    ]

pub kept_up : (m : Measures) (w : Scene) (es : List Entry) (most : ℕ) (ss : List Step)
    (ys : List (ℕ × Reply)) → Ready w es most → most ≤ 64
    → ((v : Scene) → Ready v es 0 → Answers m v ys (taken_from m ss v))
    → Answers m w ys (taken_from m (upkeep ++ ss) w)
kept_up m w es most ss ys r short more =
    let k = r.disk in
    let j = r.base' in
    let p = r.cp in
    let t = r.told_top in
    let b = r.told_lb in
    let c = r.cp' in
    let n = r.packets in
    let items = r.items in
    let items' = r.items' in
    let f1 = r.long in
    let f2 = r.long' in
    let f3 = r.all in
    let f4 = r.told in
    let f5 = r.dropped in
    let f6 = r.not_above in
    let f7 = r.recent in
    let f8 = r.heard in
    let f9 = r.fewer in
    let u = j + length items' in
    let t1 = max t u in
    let b1 = max b k in
    let j1 = max j k in
    let c1 = max c (min p u) in
    let had1 = drop (k - j) items' in
    let d1 = length-drop (k - j) items' in
    let a = min (k + 64) p in
    let a' = min (k + 64) c1 in
    let u1 = j1 + length had1 in
    let j2 = max j1 k in
    let c2 = max c1 (min p u1) in
    let had2 = drop (k - j1) had1 in
    let d2 = length-drop (k - j1) had1 in
    let n2 = n + 1 + 1 in
    let s6 = step.Tick server.Zero ∷ step.Pump None ∷ ss in
    let s5 = step.Flush server.One ∷ s6 in
    let s4 = step.Flush server.Zero ∷ s5 in
    let s3 = step.Apply server.One 64 ∷ s4 in
    let s2 = step.Apply server.Zero 64 ∷ s3 in
    then_steps m w (step.Tick server.Zero) (step.Pump None ∷ s2) ys refl
    (beats m w es items items' k k k p t b j k k c n (taken_from m s2) ys r.stands (omega arith)
    (omega arith) (omega arith) (λ w2 g2 h2.
    notes m w2 es items k k k p t b u k (n + 1) (following j1 k k c1 had1) (taken_from m s2) ys h2
    (omega arith) (omega arith) (omega arith) (omega arith) (λ w3 g3 h3.
    then_steps m w3 (step.Apply server.Zero 64) s3 ys refl
    (apply_zero m w3 es items k k k p t1 b1 n2 (following j1 k k c1 had1) (taken_from m s3) ys h3
    (omega arith) (λ w4 g4 h4.
    then_steps m w4 (step.Apply server.One 64) s4 ys refl
    (apply_one m w4 es had1 j1 k k c1 n2 (leading k k a p items t1 b1) (taken_from m s4) ys h4
    (λ w5 g5 h5.
    then_steps m w5 (step.Flush server.Zero) s5 ys refl
    (flush_zero m w5 es items k k a p t1 b1 n2 (following j1 k a' c1 had1) (taken_from m s5) ys h5
    (omega arith) (omega arith) (λ w6 g6 h6.
    then_steps m w6 (step.Flush server.One) s6 ys refl
    (flush_one m w6 es had1 j1 k a' c1 n2 (leading k a a p items t1 b1) (taken_from m s6) ys h6
    (omega arith) (λ w7 g7 h7.
    then_steps m w7 (step.Tick server.Zero) (step.Pump None ∷ ss) ys refl
    (beats m w7 es items had1 k a a p t1 b1 j1 a' a' c1 n2 (taken_from m ss) ys h7 (omega arith)
    (omega arith) (omega arith) (λ w8 g8 h8.
    ends m w8 es items had2 k a p t1 b1 u1 a' j2 c2 (n2 + 1) (taken_from m ss) ys h8 f1
    (omega arith)
    f3 (omega arith) (omega arith) (omega arith) (omega arith) (omega arith)
    (omega arith) more)))))))))))))
