-- A group that is ready for a call, and what a call and the upkeep make of it.
use Rattle.std.proofs.Common.{◌≡◌, ℕ, ◌+◌, ◌-◌, ◌<◌, ◌≤◌, true, List, [], ◌∷◌, ◌++◌, length, take, drop, Option, None, Some, max, min, refl, sym, ap, ◌∙◌, subst, arith, ◌==◌, ◌&&◌, if◌then◌else◌, length-append, length-drop}
use Rattle.std.specs.Prelude.{IfSome}
use Rattle.std.proofs.lemmas.List.{take_all}
use Rattle.harp_types.specs.declared.call.Call.{Call}
use Rattle.harp_types.specs.declared.cred.Cred.{Cred}
use Rattle.harp_types.specs.declared.reply.Reply.{Reply}
use Rattle.harp_types.specs.declared.server.ServerId.TheVariants as server
use Rattle.harp_types.specs.Update.{is_update}
use Rattle.trace_types.specs.declared.step.Step.{Step}
use Rattle.trace_types.specs.declared.step.Step.TheVariants as step
use Rattle.file_tree.specs.Book.{Entry, last_of, last_stamp, tree_after}
use Rattle.file_tree.specs.Calls.{outcome}
use Rattle.file_tree.specs.Tree.{Tree}
use Rattle.file_tree.proofs.BookLaws.{last_push, stamp_push, tree_push}
use Rattle.group_rules.specs.Ask.{new_entry}
use Rattle.group_rules.specs.Moves.{Appending, Committing, Heeding, Noting, Saying, Sending}
use Rattle.group_rules.specs.Effects.{heeding}
use Rattle.group_rules.specs.Places.{One, Zero}
use Rattle.group_rules.specs.State.{Ack, Answers as Answers', Event, Message, Packet, Server}
use Rattle.group_rules.specs.Step.{Ask, Does, step as rule_step}
use Rattle.trace_types.specs.declared.line.LineFault.TheVariants as fault
use Rattle.group_trace.specs.Refusals.{own_refusal}
use Rattle.group_trace.specs.Pump.{most_deliveries}
use Rattle.group_trace.specs.Run.{delivered_after, next}
use Rattle.group_rules.proofs.Tests.{if_is}
use Rattle.std.specs.List.{list_any}
use Rattle.group_trace.specs.Scene.{Measures, Scene}
use Rattle.schedule_play.specs.Reading.{Reading, with_step}
use Rattle.door_play.specs.Laws.{HasBytes}
use Rattle.door_play.proofs.Readings.{Answers, left_after, pump_delivers, pump_ends, pumped, turn_step, unless_full}
use Rattle.door_play.proofs.Scenes.{Stands, Turns, asked_sends, comes_to_leader, comes_to_partner, delivered_more, leader_does, leads, newest_due, not_full, nothing_due, sent_grows}
use Rattle.door_play.proofs.Servers.{ack_comes, asks_update, event_comes, following, leading}

-- ---- the scene between two calls

-- Both servers have the same updates, all committed at server 0, the leader; at most so many of
-- them aren't yet on the disks
pub record Ready (w : Scene) (es : List Entry) (most : ℕ) : Type 0 where
  pub disk : ℕ
  pub items : List Entry
  pub told_top : ℕ
  pub told_lb : ℕ
  pub cp : ℕ
  pub base' : ℕ
  pub items' : List Entry
  pub cp' : ℕ
  pub packets : ℕ
  pub stands : Stands w (leading disk disk disk cp items told_top told_lb)
      (following base' disk disk cp' items') es packets []
  pub long : disk + length items ≡ length es
  pub long' : base' + length items' ≡ length es
  pub all : cp ≡ length es
  pub told : length es ≤ told_top
  pub heard : told_lb ≤ disk
  pub dropped : base' ≤ disk
  pub not_above : cp' ≤ length es
  pub recent : length es ≤ disk + most
  pub fewer : length es ≤ w.sent

-- what the list says of the next call: its tree, and that the call's number is new
pub record Knows (es : List Entry) (number : ℕ) (tree : Tree) : Type 0 where
  pub tree_is : tree_after es ≡ tree
  pub stamps : last_stamp es ≤ 2050
  pub numbers : IfSome (last_of 0 es) (λ last. last.number < number)

-- ---- packets

abbrev pub to_partner : Message Entry → Packet Entry
to_partner body = record { from = Zero; to = One; body = body }

abbrev pub to_leader : Message Entry → Packet Entry
to_leader body = record { from = One; to = Zero; body = body }

-- ---- an ask of an update

asked : (m : Measures) (w : Scene) (es items items' : List Entry) (k p t b j c n number : ℕ)
    (cred : Cred) (x : Call)
    → Stands w (leading k k k p items t b) (following j k k c items') es n []
    → k + length items ≡ length es → is_update x ≡ true
    → IfSome (last_of 0 es) (λ last. last.number < number)
    → length items < 32768 → length es < 4611686018427387903
    → Turns m w (step.Ask server.Zero 0 number cred x) Zero
    (Appending (new_entry 2050 es 0 number cred x)
    ∷ Sending One (Event 3 (k + length items + 1) p k (new_entry 2050 es 0 number cred x)) ∷ [])
asked m w es items items' k p t b j c n number cred x h long u old few low =
    let a = leading k k k p items t b in
    let whole : take (k + length items) es ≡ es = take_all (k + length items) es (omega arith) in
    leader_does m w (step.Ask server.Zero 0 number cred x) (Ask 0 number cred x) a
    (following j k k c items') es n [] _ h refl refl
    (ap (λ (l : List Entry). rule_step m.size Zero 2050 l a (Does (Ask 0 number cred x))) whole
    ∙ asks_update m.size es items k k k p t b number cred x u old few (omega arith) (omega arith))
    refl refl refl refl refl refl

asked_leads : (m : Measures) (w : Scene) (s : Step) (es items : List Entry) (k p t b n i : ℕ)
    (b' : Server Entry) (e : Entry) → delivered_after w.delivered s ≡ w.delivered
    → Stands w (leading k k k p items t b) b' es n []
    → Turns m w s Zero (Appending e ∷ Sending One (Event 3 i p k e) ∷ [])
    → Stands (next m w s) (leading k k k p (items ++ e ∷ []) t b) b' (es ++ e ∷ []) n
    (to_partner (Event 3 i p k e) ∷ [])
asked_leads m w s es items k p t b n i b' e same h turns =
    leads m w s Zero (leading k k k p items t b)
    (Appending e ∷ Sending One (Event 3 i p k e) ∷ [])
    (leading k k k p (items ++ e ∷ []) t b) b' (es ++ e ∷ []) n (to_partner (Event 3 i p k e) ∷ [])
    turns h.leader
    (record {
      leader = refl;
      partner = h.partner;
      list_is = ap (λ (l : List Entry). l ++ e ∷ []) h.list_is;
      clock_zero = h.clock_zero;
      clock_one = h.clock_one;
      armed_zero = refl;
      armed_one = h.armed_one;
      delivered = λ x. ap (λ (d : List ℕ). list_any (λ m. m == x) d) same ∙ h.delivered x;
      sent = h.sent;
      packets = ap (λ (ps : List (Packet Entry)). to_partner (Event 3 i p k e) ∷ ps) h.packets;
      count = h.count;
    })

-- ---- the partner heeds, and tells

pub heeds_leads : (m : Measures) (w : Scene) (es items had : List Entry) (j l a c p k u n : ℕ)
    (a' : Server Entry) (body : Message Entry)
    → Stands w a' (following j l a c had) es n (to_partner body ∷ [])
    → Turns m w (step.Deliver n) One (Heeding items p k ∷ Sending Zero (Ack 3 u l 4050) ∷ [])
    → Stands (next m w (step.Deliver n)) a'
    (following (max j k) l a (max c (min p (j + length items))) (drop (k - j) items)) es (n + 1)
    (to_leader (Ack 3 u l 4050) ∷ [])
heeds_leads m w es items had j l a c p k u n a' body h turns =
    leads m w (step.Deliver n) One (following j l a c had)
    (Heeding items p k ∷ Sending Zero (Ack 3 u l 4050) ∷ []) a'
    (following (max j k) l a (max c (min p (j + length items))) (drop (k - j) items)) es (n + 1)
    (to_leader (Ack 3 u l 4050) ∷ []) turns h.partner
    (record {
      leader = h.leader;
      partner = ap (λ (t : ℕ). heeding (following j l a c had) items p k t) h.clock_one;
      list_is = h.list_is;
      clock_zero = h.clock_zero;
      clock_one = h.clock_one;
      armed_zero = h.armed_zero;
      armed_one = refl;
      delivered = delivered_more w.delivered n h.delivered;
      sent = to_partner body ∷ h.sent;
      packets = ap (λ (ps : List (Packet Entry)). to_leader (Ack 3 u l 4050) ∷ ps) h.packets;
      count = let e = h.count in omega arith;
    })

-- ---- the leader is told

commits_leads : (m : Measures) (w : Scene) (es items : List Entry) (k l a p t b u f i n : ℕ)
    (b' : Server Entry) (body : Message Entry) (e : Entry)
    → Stands w (leading k l a p items t b) b' es n (to_leader body ∷ [])
    → Turns m w (step.Deliver n) Zero
    (Noting u f 4050 ∷ Committing u ∷ Saying (Answers' i e) ∷ [])
    → Stands (next m w (step.Deliver n)) (leading k l a u items (max t u) (max b f)) b' es
    (n + 1) []
commits_leads m w es items k l a p t b u f i n b' body e h turns =
    leads m w (step.Deliver n) Zero (leading k l a p items t b)
    (Noting u f 4050 ∷ Committing u ∷ Saying (Answers' i e) ∷ [])
    (leading k l a u items (max t u) (max b f)) b' es (n + 1) [] turns h.leader
    (record {
      leader = refl;
      partner = h.partner;
      list_is = h.list_is;
      clock_zero = h.clock_zero;
      clock_one = h.clock_one;
      armed_zero = refl;
      armed_one = h.armed_one;
      delivered = delivered_more w.delivered n h.delivered;
      sent = to_leader body ∷ h.sent;
      packets = h.packets;
      count = let e = h.count in omega arith;
    })

-- ---- an update, and all that it leads to

-- a new list, whose last entry is the update
pub after_update : (es : List Entry) (number : ℕ) (tree : Tree) (cred : Cred) (x : Call)
    → is_update x ≡ true → Knows es number tree
    → Knows (es ++ new_entry 2050 es 0 number cred x ∷ []) (number + 1) (outcome tree cred x 2050).1
after_update es number tree cred x u h =
    let e = new_entry 2050 es 0 number cred x in
    let low = h.stamps in
    let stamp : max 2050 (last_stamp es) ≡ 2050 = omega arith in
    let last : last_of 0 (es ++ e ∷ []) ≡ Some e =
    last_push 0 es e ∙ if_is (is_update x && (0 == 0)) (Some e) (last_of 0 es) (rw u refl) in
    let stamped : last_stamp (es ++ e ∷ []) ≡ max 2050 (last_stamp es) =
    stamp_push es e ∙ if_is (is_update x) e.stamp (last_stamp es) u in
    record {
      tree_is = tree_push es e
          ∙ ap (λ (t : Tree). (outcome t cred x (max 2050 (last_stamp es))).1) h.tree_is
          ∙ ap (λ (n : ℕ). (outcome tree cred x n).1) stamp;
      stamps = omega (arith, stamped, stamp);
      numbers = subst (λ (o : Option Entry). IfSome o (λ last. last.number < number + 1)) (sym last)
          (let z : number < number + 1 = omega arith in z);
    }

pub reply_of_update : (es : List Entry) (number : ℕ) (tree : Tree) (cred : Cred) (x : Call)
    → Knows es number tree
    → (new_entry 2050 es 0 number cred x).reply ≡ (outcome tree cred x 2050).0
reply_of_update es number tree cred x h =
    let low = h.stamps in
    let stamp : max 2050 (last_stamp es) ≡ 2050 = omega arith in
    ap (λ (t : Tree). (outcome t cred x (max 2050 (last_stamp es))).0) h.tree_is
    ∙ ap (λ (n : ℕ). (outcome tree cred x n).0) stamp

abbrev pub asked_step : ℕ → Cred → Call → Step
asked_step number cred x = step.Ask server.Zero 0 number cred x

update_where_not_full : (m : Measures) (w : Scene) (es : List Entry) (most number : ℕ) (tree : Tree)
    (cred : Cred) (x : Call) (rest : Scene → Reading) (ys : List (ℕ × Reply))
    → Ready w es most → Knows es number tree → is_update x ≡ true → most ≤ 64
    → HasBytes m → w.sent ≤ 532676608
    → ((v : Scene) → Ready v (es ++ new_entry 2050 es 0 number cred x ∷ []) (most + 1)
    → Answers m v ys (rest v))
    → Answers m w ((number, (new_entry 2050 es 0 number cred x).reply) ∷ ys)
    (with_step m 0 (asked_step number cred x) (pumped m most_deliveries rest) w)
unfolding most_deliveries
update_where_not_full m w es most number tree cred x rest ys r known u short bytes low more =
    let e = new_entry 2050 es 0 number cred x in
    let k = r.disk in
    let j = r.base' in
    let p = r.cp in
    let t = r.told_top in
    let b = r.told_lb in
    let c = r.cp' in
    let n = r.packets in
    let i = k + length r.items + 1 in
    let held = r.items' ++ e ∷ [] in
    let top = j + length held in
    let out = (number, e.reply) ∷ ys in
    let f1 = r.long in
    let f2 = r.long' in
    let f3 = r.all in
    let f4 = r.told in
    let f5 = r.dropped in
    let f6 = r.not_above in
    let f7 = r.recent in
    let f8 = r.heard in
    let f9 = r.fewer in
    let g1 = length-append r.items (e ∷ []) in
    let g2 = length-append r.items' (e ∷ []) in
    let g3 = length-append es (e ∷ []) in
    let g4 = length-drop (k - j) held in
    let s1 = asked_step number cred x in
    let t1 = asked m w es r.items r.items' k p t b j c n number cred x r.stands f1 u known.numbers
    (omega arith) (omega arith) in
    let w1 = next m w s1 in
    let h1 = asked_leads m w s1 es r.items k p t b n i
    (following j k k c r.items') e refl r.stands t1 in
    let t2 = comes_to_partner m w1 (Event 3 i p k e) _
    (following j k k c r.items') _ n _ h1 refl refl
    (event_comes m.size (take (j + length r.items') (es ++ e ∷ [])) r.items' j k k c i p k e
    (omega arith) (omega arith) (omega arith)) in
    let w2 = next m w1 (step.Deliver n) in
    let h2 = heeds_leads m w1 (es ++ e ∷ []) held r.items' j k k c p k top n _
    (Event 3 i p k e) h1 t2 in
    let t3 = comes_to_leader m w2 (Ack 3 top k 4050) (leading k k k p (r.items ++ e ∷ []) t b) _ _
    (n + 1) _
    h2 refl refl
    (ack_comes m.size (take (k + length (r.items ++ e ∷ []))
    (es ++ e ∷ [])) r.items k k k p t b top k e (omega arith) (omega arith) (omega arith)
    (omega arith)) in
    let w3 = next m w2 (step.Deliver (n + 1)) in
    let h3 = commits_leads m w2 (es ++ e ∷ []) (r.items ++ e ∷ []) k k k p t b top k (p + 1)
    (n + 1) _
    (Ack 3 top k 4050) e h2 t3 in
    let b1 = asked_sends m w s1 e (Event 3 i p k e) bytes t1 in
    let b2 = sent_grows m w1 (step.Deliver n) in
    let b3 = sent_grows m w2 (step.Deliver (n + 1)) in
    let r3 : Ready w3 (es ++ e ∷ []) (most + 1) = record {
      disk = k;
      items = r.items ++ e ∷ [];
      told_top = max t top;
      told_lb = max b k;
      cp = top;
      base' = max j k;
      items' = drop (k - j) held;
      cp' = max c (min p (j + length held));
      packets = n + 1 + 1;
      stands = h3;
      long = omega arith;
      long' = omega arith;
      all = omega arith;
      told = omega arith;
      heard = omega arith;
      dropped = omega arith;
      not_above = omega arith;
      recent = omega arith;
      fewer = omega arith;
    } in
    turn_step m w s1 Zero _ (pumped m most_deliveries rest) out t1
    (pump_delivers m (left_after 1) n rest w1 out (newest_due w1 _ _ _ n _ h1)
    (turn_step m w1 (step.Deliver n) One _ (pumped m (left_after 1) rest) out t2
    (pump_delivers m (left_after 2) (n + 1) rest w2 out (newest_due w2 _ _ _ (n + 1) _ h2)
    (turn_step m w2 (step.Deliver (n + 1)) Zero _ (pumped m (left_after 2) rest) ys t3
    (pump_ends m (left_after 3) rest w3 ys (nothing_due w3 _ _ _ _ h3) (more w3 r3))))))

pub update_call : (m : Measures) (w : Scene) (es : List Entry) (most number : ℕ) (tree : Tree)
    (cred : Cred) (x : Call) (rest : Scene → Reading) (ys : List (ℕ × Reply))
    → Ready w es most → Knows es number tree → is_update x ≡ true → most ≤ 64 → HasBytes m
    → ((v : Scene) → Ready v (es ++ new_entry 2050 es 0 number cred x ∷ []) (most + 1)
    → Answers m v ys (rest v))
    → Answers m w ((number, (new_entry 2050 es 0 number cred x).reply) ∷ ys)
    (with_step m 0 (asked_step number cred x) (pumped m most_deliveries rest) w)
update_call m w es most number tree cred x rest ys r known u short bytes more =
    let up : own_refusal m w.group (asked_step number cred x) ≡ None =
    ap (λ (s : Server Entry). if s.up then None else Some fault.ServerDown) r.stands.leader in
    unless_full m w (asked_step number cred x) (pumped m most_deliveries rest) _ up
    (λ free. update_where_not_full m w es most number tree cred x rest ys r known u short bytes
    (not_full w (asked_step number cred x) refl free) more)
