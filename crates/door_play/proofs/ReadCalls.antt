-- A read is answered at once.
use Rattle.std.proofs.Common.{◌≡◌, ℕ, ◌+◌, ◌<◌, false, List, [], ◌∷◌, length, take, Option, None, Some, refl, sym, ap, ◌∙◌, subst, arith}
use Rattle.std.specs.Prelude.{IfSome}
use Rattle.std.proofs.lemmas.List.{take_all}
use Rattle.harp_types.specs.declared.call.Call.{Call}
use Rattle.harp_types.specs.declared.call.Call.TheVariants as call
use Rattle.harp_types.specs.declared.cred.Cred.{Cred}
use Rattle.harp_types.specs.declared.reply.Reply.{Reply}
use Rattle.harp_types.specs.Update.{is_update}
use Rattle.file_tree.specs.Book.{Entry, last_of, tree_after}
use Rattle.file_tree.specs.Calls.{outcome}
use Rattle.file_tree.specs.Tree.{Tree}
use Rattle.file_tree.proofs.ReadLaw.{read_keeps}
use Rattle.group_rules.specs.Ask.{read_entry}
use Rattle.group_rules.specs.Moves.{Reading as Reads}
use Rattle.group_rules.specs.Places.{Zero}
use Rattle.group_rules.specs.State.{Server}
use Rattle.group_rules.specs.Step.{Ask, Does, step as rule_step}
use Rattle.group_trace.specs.Pump.{most_deliveries}
use Rattle.group_trace.specs.Run.{next}
use Rattle.group_trace.specs.Scene.{Measures, Scene}
use Rattle.schedule_play.specs.Reading.{Reading, with_step}
use Rattle.door_play.proofs.Readings.{Answers, left_after, pump_ends, pumped, turn_step}
use Rattle.door_play.proofs.Ready.{Knows, Ready, asked_step}
use Rattle.door_play.proofs.Scenes.{Stands, Turns, leader_does, leads, nothing_due, sent_grows}
use Rattle.door_play.proofs.Servers.{asks_read, following, leading}

-- a read's reply is one at any stamp
timeless : (tree : Tree) (cred : Cred) (x : Call) (s t : ℕ) → is_update x ≡ false
    → (outcome tree cred x s).0 ≡ (outcome tree cred x t).0
timeless tree cred call.Null s t e = refl
timeless tree cred (call.GetAttr handle) s t e = refl
timeless tree cred (call.Lookup dir name) s t e = refl
timeless tree cred (call.ReadLink handle) s t e = refl
timeless tree cred (call.Read handle offset count) s t e = refl
timeless tree cred (call.ReadDir dir cookie count) s t e = refl
timeless tree cred (call.StatFs handle) s t e = refl
timeless tree cred _ s t e = absurd cc

-- the list stays, with another number
pub after_read : (es : List Entry) (number : ℕ) (tree : Tree) (cred : Cred) (x : Call)
    → is_update x ≡ false → Knows es number tree
    → Knows es (number + 1) (outcome tree cred x 2050).1
after_read es number tree cred x u h = record {
  tree_is = h.tree_is ∙ sym (read_keeps tree cred x 2050 u);
  stamps = h.stamps;
  numbers = more (last_of 0 es) h.numbers;
}
  where
    more : (o : Option Entry) → IfSome o (λ last. last.number < number)
        → IfSome o (λ last. last.number < number + 1)
    more None k = tt
    more (Some last) k = omega arith

reads_leads : (m : Measures) (w : Scene) (es items : List Entry) (k p t b n number i : ℕ)
    (b' : Server Entry) (cred : Cred) (x : Call) (e : Entry)
    → Stands w (leading k k k p items t b) b' es n []
    → Turns m w (asked_step number cred x) Zero (Reads i e ∷ [])
    → Stands (next m w (asked_step number cred x)) (leading k k k p items t b) b' es n []
reads_leads m w es items k p t b n number i b' cred x e h turns =
    leads m w (asked_step number cred x) Zero (leading k k k p items t b) (Reads i e ∷ [])
    (leading k k k p items t b) b' es n [] turns h.leader
    (record {
      leader = refl;
      partner = h.partner;
      list_is = h.list_is;
      clock_zero = h.clock_zero;
      clock_one = h.clock_one;
      armed_zero = refl;
      armed_one = h.armed_one;
      delivered = h.delivered;
      sent = h.sent;
      packets = h.packets;
      count = h.count;
    })

reply_of_read : (es : List Entry) (number most p : ℕ) (tree : Tree) (cred : Cred) (x : Call)
    → p ≡ length es → is_update x ≡ false → Knows es number tree
    → (read_entry p es 0 number cred x).reply ≡ (outcome tree cred x 2050).0
reply_of_read es number most p tree cred x all u h =
    ap (λ (l : List Entry). (outcome (tree_after l) cred x 0).0) (take_all p es (omega arith))
    ∙ ap (λ (t : Tree). (outcome t cred x 0).0) h.tree_is ∙ timeless tree cred x 0 2050 u

pub read_call : (m : Measures) (w : Scene) (es : List Entry) (most number : ℕ) (tree : Tree)
    (cred : Cred) (x : Call) (rest : Scene → Reading) (ys : List (ℕ × Reply))
    → Ready w es most → Knows es number tree → is_update x ≡ false
    → ((v : Scene) → Ready v es (most + 1) → Answers m v ys (rest v))
    → Answers m w ((number, (outcome tree cred x 2050).0) ∷ ys)
    (with_step m 0 (asked_step number cred x) (pumped m most_deliveries rest) w)
unfolding most_deliveries
read_call m w es most number tree cred x rest ys r known u more =
    let k = r.disk in
    let p = r.cp in
    let t = r.told_top in
    let b = r.told_lb in
    let n = r.packets in
    let f1 = r.long in
    let f2 = r.heard in
    let f3 = r.recent in
    let f4 = r.fewer in
    let a = leading k k k p r.items t b in
    let b' = following r.base' k k r.cp' r.items' in
    let s = asked_step number cred x in
    let whole : take (k + length r.items) es ≡ es = take_all (k + length r.items) es
    (omega arith) in
    let t1 = leader_does m w s (Ask 0 number cred x) a b' es n []
    (Reads p (read_entry p es 0 number cred x) ∷ []) r.stands refl refl
    (ap (λ (l : List Entry). rule_step m.size Zero 2050 l a (Does (Ask 0 number cred x))) whole
    ∙ asks_read m.size es r.items k k k p t b number cred x u (omega arith))
    refl refl refl refl refl refl in
    let w1 = next m w s in
    let h1 = reads_leads m w es r.items k p t b n number p b' cred x
    (read_entry p es 0 number cred x) r.stands t1 in
    let b1 = sent_grows m w s in
    let r1 : Ready w1 es (most + 1) = record {
      disk = k;
      items = r.items;
      told_top = t;
      told_lb = b;
      cp = p;
      base' = r.base';
      items' = r.items';
      cp' = r.cp';
      packets = n;
      stands = h1;
      long = r.long;
      long' = r.long';
      all = r.all;
      told = r.told;
      heard = r.heard;
      dropped = r.dropped;
      not_above = r.not_above;
      recent = omega arith;
      fewer = omega arith;
    } in
    let reply = reply_of_read es number most p tree cred x r.all u known in
    subst (λ (reply : Reply). Answers m w ((number, reply) ∷ ys)
    (with_step m 0 s (pumped m most_deliveries rest) w)) reply
    (turn_step m w s Zero _ (pumped m most_deliveries rest) ys t1
    (pump_ends m (left_after 1) rest w1 ys (nothing_due w1 a b' es n h1) (more w1 r1)))
