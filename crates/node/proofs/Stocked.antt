-- What the moves of a leader, a partner and a storer make of its records and of those who wait.
use Rattle.std.proofs.Common.{◌≡◌, ℕ, ◌+◌, ◌-◌, Bool, true, false, List, [], ◌∷◌, ◌++◌, length, refl, ap, sym, ◌∙◌, subst, arith, if◌then◌else◌}
use Rattle.std.specs.Prelude.{◌==◌, drop, map, max, min, nat_lt, take}
use Rattle.std.proofs.lemmas.List.{append-nil, length-append, length-map}
use Rattle.event_record.specs.Record.{entry_of}
use Rattle.event_record.specs.declared.record.RecordFields.{RecordFields}
use Rattle.file_tree.specs.Book.{Entry}
use Rattle.group_rules.proofs.Tests.{all_true, if_is, not_lt}
use Rattle.group_rules.specs.Limits.{is_open}
use Rattle.cell_cache.specs.Entries.{Entries}
use Rattle.group_rules.specs.Effects.{NewLog, taken}
use Rattle.group_rules.specs.Form.{form_moves}
use Rattle.group_rules.specs.Joining.{to_each}
use Rattle.group_rules.specs.Moves.{Accepting, Basing, Committing, Demoting, Heeding, Move, Noting, Sending, act, acts}
use Rattle.group_rules.specs.Names.{number_of_view, place_of}
use Rattle.group_rules.specs.Open.{base_tests, rebase}
use Rattle.group_rules.specs.Places.{Place, Trio, all_of, other_storers, partner, same}
use Rattle.group_rules.specs.Replicate.{ack_tests, answers, is_in_view, on_ack, on_event}
use Rattle.group_rules.specs.State.{Ack, Chose, Form, Plan, Report, Role, Server, top}
use Rattle.harp_types.specs.declared.peer.Peer.{Peer}
use Rattle.harp_types.specs.declared.server.ServerId.{ServerId}
use Rattle.harp_store.specs.Mark.{MarkFields}
use Rattle.idle_log.specs.Kept.{log_in, plan_of}
use Rattle.idle_log.specs.Pulls.{adopted_records}
use Rattle.idle_log.specs.declared.form.Form.{Form as Form'}
use Rattle.idle_log.specs.declared.kept.Kept.{Kept}
use Rattle.node.proofs.Heeds.{heeds_none}
use Rattle.node.proofs.Led.{rebased}
use Rattle.node.proofs.Sent.{sent_each}
use Rattle.node.proofs.Stocks.{AreIdle, as_stock, idle_answers, idle_sent, idle_stock, stock_then, stocks_so}
use Rattle.node.specs.Collecting.{choosing}
use Rattle.node.specs.Node.{NodeValue, server, value}
use Rattle.node.specs.State.{Fits, IsFollowing, IsLeading, pulled_in}
use Rattle.node.specs.Stock.{Stock, Stocks, stock, stock_after, stock_in, stock_kept}
use Rattle.node.specs.Stored.{log_in as state_log, with_log}
use Rattle.node.specs.declared.state.State.{State}
use Rattle.node.specs.declared.state.State.TheVariants as state
use Rattle.node.specs.declared.state.Task.{Task}
use Rattle.node.specs.declared.state.Task.TheVariants as task
use Rattle.harp_types.specs.View.{View}
use Rattle.promise.specs.Promise.{HorizonValue}
use Rattle.std.specs.Prelude.{Option}
use Rattle.replica.proofs.Follows.{same_place}
use Rattle.replica.specs.Following.{Following, next_of, settled}
use Rattle.replica.specs.Leading.{Leading, Outer, led, mode_led, place_led}
use Rattle.volatile_log.specs.Log.{LogValue, dropped_to, top as top_of}

-- ---- accepting, and a choice

-- a storer that accepts goes on with its own records and those that it pulled
pub accepting_stock : (came : List RecordFields) (q : Place) (s : Server Entry) (plan : Plan)
    (role : Role) (log : NewLog Entry) (rest : List (Move Entry)) (kept : Kept)
    (pulled : List RecordFields) (new : Stock) → AreIdle rest
    → new ≡ as_stock (adopted_records q s plan (log_in kept).records (pulled ++ came)) [] []
    → Stocks came q s (Accepting plan role log ∷ rest) (stock_kept kept pulled) new
accepting_stock came q s plan role log rest kept pulled new idle is clock list askers =
    is ∙ sym (idle_stock q clock list came askers (act q clock s (Accepting plan role log)) rest
    (as_stock (adopted_records q s plan (log_in kept).records (pulled ++ came)) [] []) idle)

-- a coordinator that chooses sends Forms before it takes its own part
acts_each : (q : Place) (clock : ℕ) (s : Server Entry) (plan : Plan) (ps : List Place)
    → acts q clock s (to_each (Form s.promised plan) ps) ≡ s
acts_each q clock s plan [] = refl
acts_each q clock s plan (p ∷ ps) = acts_each q clock s plan ps

pub choosing_stock : (q : Place) (s : Server Entry) (reports : Trio (Option Report))
    (plan : Plan) (from : ℕ) (old new : Stock)
    → let t = record s { duty = Chose s.promised plan } in
    Stocks [] q t (form_moves q t plan) old new
    → Stocks [] q s (choosing q s reports plan from) old new
choosing_stock q s reports plan from old new h clock list askers =
    let t = record s { duty = Chose s.promised plan } in
    let told = to_each (Form s.promised plan) (other_storers q plan.storers) in
    let part = form_moves q t plan in
    h clock list askers
    ∙ sym (stock_then q clock list [] askers t told part old
    ∙ ap (λ (k : Stock). stock_after q clock list [] askers (acts q clock t told) part k)
    (idle_stock q clock list [] askers t told old
    (idle_sent told (sent_each (Form s.promised plan) (other_storers q plan.storers))))
    ∙ ap (λ (x : Server Entry). stock_after q clock list [] askers x part old)
    (acts_each q clock t plan (other_storers q plan.storers)))

-- ---- a leader

pub same_led : (log log' : List RecordFields) (waits waits' : List Peer) → log ≡ log'
    → waits ≡ waits'
    → as_stock log [] waits
    ≡ as_stock log' [] waits'
same_led log log' waits waits' l w =
    ap (λ (x : List RecordFields). as_stock x [] waits) l
    ∙ ap (λ (x : List Peer). as_stock log' [] x) w

-- a node whose leader has the same records and peers
pub led_stock : (me : ServerId) (mark : MarkFields) (horizon : HorizonValue) (served : ℕ)
    (duty : Task) (s : State) (l m : Leading) (plan : Form') (n : NodeValue)
    → s ≡ state.Leads l plan → value me mark horizon served duty s ≡ n
    → m.log.records ≡ l.log.records → m.peers ≡ l.peers
    → stock_in (state.Leads m plan) ≡ stock n
led_stock me mark horizon served duty s l m plan n at of records peers =
    same_led m.log.records l.log.records m.peers l.peers records peers
    ∙ ap stock_in (sym at) ∙ ap stock of

drop_none : {A : Type 0} → (n : ℕ) (xs : List A) → n ≡ 0 → drop n xs ≡ xs
drop_none n xs none = ap (λ k. drop k xs) none

above_or_not : (c t : ℕ) (b : Bool) → b ≡ nat_lt c t → b ≡ false → t - c ≡ 0
above_or_not c t b is not = omega (arith, not_lt c t (sym is ∙ not))

-- the records up to an acknowledged top are committed to the first who wait
committed_stock : (q : Place) (clock : ℕ) (list : List Entry) (askers : List Peer)
    (s : Server Entry) (t : ℕ) (es : List Entry) (k : Stock) (b : Bool) → b ≡ nat_lt s.cp t
    → stock_after q clock list [] askers s
    (if b then Committing t ∷ answers s.cp es else []) k
    ≡ record k { waits = drop (t - s.cp) k.waits }
committed_stock q clock list askers s t es k true is =
    idle_stock q clock list [] askers (act q clock s (Committing t)) (answers s.cp es)
    (record k { waits = drop (t - s.cp) k.waits }) (idle_answers s.cp es)
committed_stock q clock list askers s t es k false is =
    ap (λ (xs : List Peer). record k { waits = xs })
    (sym (drop_none (t - s.cp) k.waits (above_or_not s.cp t false is refl)))

pub acked_stock : (q : Place) (s : Server Entry) (v t lb until : ℕ) (old new : Stock)
    → all_of (ack_tests s v) ≡ true → new ≡ record old { waits = drop (t - s.cp) old.waits }
    → Stocks [] q s (on_ack s v t lb until) old new
acked_stock q s v t lb until old new test is =
    let es = take (t - s.cp) (drop (s.cp - s.base) s.items) in
    let ms = Noting t lb until ∷ (if nat_lt s.cp t then Committing t ∷ answers s.cp es else []) in
    stocks_so [] q s (on_ack s v t lb until) ms old new (if_is (all_of (ack_tests s v)) ms [] test)
    (λ clock list askers. is ∙ sym (committed_stock q clock list askers
    (act q clock s (Noting t lb until)) t es old (nat_lt s.cp t) refl))

-- the base of a leader
rebased_if : (q : Place) (s : Server Entry) (b : Bool) (n to : ℕ) (came : List RecordFields)
    (old : Stock) (new : Stock) → to ≡ (if b then n else s.base)
    → new ≡ record old { log = drop (to - s.base) old.log }
    → Stocks came q s (if b then Basing n ∷ [] else []) old new
rebased_if q s true n to came old new is h clock list askers =
    h ∙ ap (λ (x : ℕ). record old { log = drop (x - s.base) old.log }) is
rebased_if q s false n to came old new is h clock list askers =
    h ∙ ap (λ (xs : List RecordFields). record old { log = xs })
    (drop_none (to - s.base) old.log (omega (arith, is)))

base_if : (q : Place) (clock : ℕ) (s : Server Entry) (b : Bool) (n : ℕ)
    → (acts q clock s (if b then Basing n ∷ [] else [])).base ≡ (if b then n else s.base)
base_if q clock s true n = refl
base_if q clock s false n = refl

pub base_stock : (me : ServerId) (mark : MarkFields) (horizon : HorizonValue) (served : ℕ)
    (duty : Task) (s : State) (l m : Leading) (plan : Form') (n : NodeValue)
    (came : List RecordFields) (items : List Entry) → s ≡ state.Leads l plan
    → value me mark horizon served duty s ≡ n → Fits (place_of me) mark s
    → ((o : Outer) (clock : ℕ) → led m o ≡ acts (place_led l o) clock (led l o) (rebase (led l o)))
    → m.log ≡ dropped_to l.log m.log.base → m.peers ≡ l.peers
    → Stocks came n.me (server n items) (rebase (server n items)) (stock n)
    (stock_in (state.Leads m plan))
base_stock me mark horizon served duty s l m plan n came items at of fits made log peers =
    let is : IsLeading (place_of me) mark l (plan_of plan) =
    subst (λ (x : State). Fits (place_of me) mark x) at fits in
    let old = value me mark horizon served duty (state.Leads l plan) in
    let t = server old items in
    let to : m.log.base ≡ (if all_of (base_tests t) then min t.lb t.told_lb else t.base) =
    ap (λ (x : Server Entry). x.base)
    (rebased me mark horizon served duty l m plan items 0 is made)
    ∙ base_if (place_of me) 0 t (all_of (base_tests t)) (min t.lb t.told_lb) in
    subst (λ (x : NodeValue). Stocks came x.me (server x items) (rebase (server x items)) (stock x)
    (stock_in (state.Leads m plan))) (ap (value me mark horizon served duty) (sym at) ∙ of)
    (rebased_if (place_of me) t (all_of (base_tests t)) (min t.lb t.told_lb) m.log.base came
    (stock old) (stock_in (state.Leads m plan)) to
    (same_led m.log.records (drop (m.log.base - l.log.base) l.log.records) m.peers l.peers
    (ap (λ (g : LogValue). g.records) log) peers))

-- what its node shows
opened_mode : (b : Bool) → is_open (mode_led b) ≡ b
opened_mode true = refl
opened_mode false = refl

ack_if : (me : ServerId) (mark : MarkFields) (horizon : HorizonValue) (served : ℕ) (duty : Task)
    (saved : List Entry)
    (l m : Leading) (plan : Form') (v t lb until : ℕ) (b : Bool) → l.opened ≡ b
    → let n = value me mark horizon served duty (state.Leads l plan) in
    (v == n.plain.accepted) ≡ true → m.log.records ≡ l.log.records
    → (l.opened ≡ true → m.peers ≡ drop (t - l.log.cp) l.peers) → (l.opened ≡ false → m ≡ l)
    → Stocks [] n.me (server n saved) (on_ack (server n saved) v t lb until) (stock n)
    (stock_in (state.Leads m plan))
ack_if me mark horizon served duty saved l m plan v t lb until true is view records peers still =
    let n = value me mark horizon served duty (state.Leads l plan) in
    acked_stock n.me (server n saved) v t lb until (stock n) (stock_in (state.Leads m plan))
    (all_true (ack_tests (server n saved) v) (opened_mode l.opened ∙ is, (view, tt)))
    (same_led m.log.records l.log.records m.peers (drop (t - l.log.cp) l.peers) records (peers is))
ack_if me mark horizon served duty saved l m plan v t lb until false is view records peers still =
    let n = value me mark horizon served duty (state.Leads l plan) in
    stocks_so [] n.me (server n saved) (on_ack (server n saved) v t lb until) [] (stock n)
    (stock_in (state.Leads m plan)) (heeds_none (server n saved) v t lb until
    (opened_mode l.opened ∙ is))
    (λ clock list askers. ap (λ (x : Leading). stock_in (state.Leads x plan)) (still is))

pub ack_stock : (me : ServerId) (mark : MarkFields) (horizon : HorizonValue) (served : ℕ)
    (duty : Task) (saved : List Entry) (s : State) (l m : Leading) (plan : Form') (n : NodeValue)
    (v t lb until : ℕ) → s ≡ state.Leads l plan → value me mark horizon served duty s ≡ n
    → (v == n.plain.accepted) ≡ true → m.log.records ≡ l.log.records
    → (l.opened ≡ true → m.peers ≡ drop (t - l.log.cp) l.peers) → (l.opened ≡ false → m ≡ l)
    → Stocks [] n.me (server n saved) (on_ack (server n saved) v t lb until) (stock n)
    (stock_in (state.Leads m plan))
ack_stock me mark horizon served duty saved s l m plan n v t lb until at of view records peers
    still =
    subst (λ (x : NodeValue). (v == x.plain.accepted) ≡ true
    → Stocks [] x.me (server x saved) (on_ack (server x saved) v t lb until) (stock x)
    (stock_in (state.Leads m plan))) (ap (value me mark horizon served duty) (sym at) ∙ of)
    (λ same. ack_if me mark horizon served duty saved l m plan v t lb until l.opened refl same
    records
    peers still) view

-- ---- a partner

heeded_stock : (came : List RecordFields) (q : Place) (now : ℕ) (s : Server Entry)
    (from : Place) (v cp base : ℕ) (items : List Entry) (old new : Stock)
    → all_of (is_in_view s v ∷ same q (partner s.plan.storers) ∷ []) ≡ true
    → new ≡ record old {
      log = drop (base - s.base) (old.log ++ take (length items - length s.items) came);
    }
    → Stocks came q s (on_event q now s from v cp base items) old new
heeded_stock came q now s from v cp base items old new test is =
    let ms = Heeding items cp base
    ∷ Sending from (Ack v (s.base + length items) s.lb (now + s.delta)) ∷ [] in
    stocks_so came q s (on_event q now s from v cp base items) ms old new
    (if_is (all_of (is_in_view s v ∷ same q (partner s.plan.storers) ∷ [])) ms [] test)
    (λ clock list askers. is)

follows_test : (me : ServerId) (mark : MarkFields) (horizon : HorizonValue) (served : ℕ)
    (duty : Task) (saved : List Entry) (f : Following) (plan : Form') (v : ℕ)
    → IsFollowing (place_of me) mark f (plan_of plan)
    → let n = value me mark horizon served duty (state.Follows f plan) in
    is_in_view (server n saved) v ≡ true
    → all_of (is_in_view (server n saved) v ∷ same n.me (partner (server n saved).plan.storers)
    ∷ []) ≡ true
follows_test me mark horizon served duty saved f plan v is here =
    let n = value me mark horizon served duty (state.Follows f plan) in
    all_true (is_in_view (server n saved) v ∷ same n.me (partner (server n saved).plan.storers)
    ∷ []) (
      here,
      (
        ap (same (place_of me)) (ap partner is.storers ∙ is.place)
            ∙ same_place (place_of me),
        tt,
      ),
    )

one_more : (b : Bool) (items : List Entry) (e : Entry) (r : RecordFields)
    → (if b then r ∷ [] else [])
    ≡ take (length (if b then items ++ e ∷ [] else items) - length items) (r ∷ [])
one_more true items e r =
    let one : 1 ≡ length (items ++ e ∷ []) - length items =
    (let n = length-append items (e ∷ []) in omega (arith, n)) in
    ap (λ k. take k (r ∷ [])) one
one_more false items e r =
    let none : 0 ≡ length items - length items = omega arith in ap (λ k. take k (r ∷ [])) none

-- of an Event it takes the record where that is the next one
event_at : (me : ServerId) (mark : MarkFields) (horizon : HorizonValue) (served : ℕ)
    (duty : Task) (saved : List Entry) (f g : Following) (plan : Form') (v now : ℕ) (from : Place)
    (cp base : ℕ)
    (r : RecordFields) → IsFollowing (place_of me) mark f (plan_of plan)
    → g.log.records ≡ drop (base - f.log.base) (f.log.records ++ next_of f.log r)
    → let n = value me mark horizon served duty (state.Follows f plan) in
    is_in_view (server n saved) v ≡ true
    → Stocks (r ∷ []) n.me (server n saved)
    (on_event n.me now (server n saved) from v cp base
    (taken (server n saved) r.index (entry_of r))) (stock n)
    (stock_in (state.Follows g plan))
event_at me mark horizon served duty saved f g plan v now from cp base r is records here =
    let n = value me mark horizon served duty (state.Follows f plan) in
    let items = map entry_of f.log.records in
    let b = r.index == top (server n saved) + 1 in
    let tops : top_of f.log ≡ top (server n saved) =
    (let m = length-map f.log.records entry_of in omega (arith, m)) in
    let next : next_of f.log r
    ≡ take (length (taken (server n saved) r.index (entry_of r)) - length items)
    (r ∷ []) =
    ap (λ k. if r.index == k + 1 then r ∷ [] else []) tops ∙ one_more b items (entry_of r) r in
    heeded_stock (r ∷ []) n.me now (server n saved) from v cp base
    (taken (server n saved) r.index (entry_of r))
    (stock n) (stock_in (state.Follows g plan))
    (follows_test me mark horizon served duty saved f plan v is here)
    (ap (λ (xs : List RecordFields). as_stock xs [] [])
    (records ∙ ap (λ (xs : List RecordFields). drop (base - f.log.base) (f.log.records ++ xs))
    next))

pub event_stock : (me : ServerId) (mark : MarkFields) (horizon : HorizonValue) (served : ℕ)
    (duty : Task) (saved : List Entry) (s : State) (f g : Following) (plan : Form') (n : NodeValue)
    (v now : ℕ)
    (from : Place) (cp base : ℕ) (r : RecordFields) → s ≡ state.Follows f plan
    → value me mark horizon served duty s ≡ n → IsFollowing (place_of me) mark f (plan_of plan)
    → g.log.records ≡ drop (base - f.log.base) (f.log.records ++ next_of f.log r)
    → is_in_view (server n saved) v ≡ true
    → Stocks (r ∷ []) n.me (server n saved)
    (on_event n.me now (server n saved) from v cp base
    (taken (server n saved) r.index (entry_of r))) (stock n)
    (stock_in (state.Follows g plan))
event_stock me mark horizon served duty saved s f g plan n v now from cp base r at of is records
    here =
    subst (λ (x : NodeValue). is_in_view (server x saved) v ≡ true
    → Stocks (r ∷ []) x.me (server x saved)
    (on_event x.me now (server x saved) from v cp base
    (taken (server x saved) r.index (entry_of r))) (stock x)
    (stock_in (state.Follows g plan))) (ap (value me mark horizon served duty) (sym at) ∙ of)
    (event_at me mark horizon served duty saved f g plan v now from cp base r is records) here

-- of a Beat none
beat_at : (me : ServerId) (mark : MarkFields) (horizon : HorizonValue) (served : ℕ)
    (duty : Task) (saved : List Entry) (f g : Following) (plan : Form') (v now : ℕ) (from : Place)
    (cp base : ℕ)
    → IsFollowing (place_of me) mark f (plan_of plan)
    → g ≡ settled (record f { log = dropped_to f.log (max f.log.base base) }) cp
    → let n = value me mark horizon served duty (state.Follows f plan) in
    is_in_view (server n saved) v ≡ true
    → Stocks [] n.me (server n saved) (on_event n.me now (server n saved) from v cp base
    (server n saved).items) (stock n)
    (stock_in (state.Follows g plan))
beat_at me mark horizon served duty saved f g plan v now from cp base is log here =
    let n = value me mark horizon served duty (state.Follows f plan) in
    let left : max f.log.base base - f.log.base ≡ base - f.log.base = omega arith in
    let none : 0 ≡ length (server n saved).items - length (server n saved).items = omega arith in
    heeded_stock [] n.me now (server n saved) from v cp base (server n saved).items (stock n)
    (stock_in (state.Follows g plan))
    (follows_test me mark horizon served duty saved f plan v is here)
    (ap (λ (xs : List RecordFields). as_stock xs [] [])
    (ap (λ (x : Following). x.log.records) log
    ∙ ap (λ k. drop k f.log.records) left
    ∙ ap (drop (base - f.log.base)) (sym (append-nil f.log.records)
    ∙ ap (λ k. f.log.records ++ take k []) none)))

pub beat_stock : (me : ServerId) (mark : MarkFields) (horizon : HorizonValue) (served : ℕ)
    (duty : Task) (saved : List Entry) (s : State) (f g : Following) (plan : Form') (n : NodeValue)
    (v now : ℕ)
    (from : Place) (cp base : ℕ) → s ≡ state.Follows f plan
    → value me mark horizon served duty s ≡ n → IsFollowing (place_of me) mark f (plan_of plan)
    → g ≡ settled (record f { log = dropped_to f.log (max f.log.base base) }) cp
    → is_in_view (server n saved) v ≡ true
    → Stocks [] n.me (server n saved) (on_event n.me now (server n saved) from v cp base
    (server n saved).items) (stock n)
    (stock_in (state.Follows g plan))
beat_stock me mark horizon served duty saved s f g plan n v now from cp base at of is log here =
    subst (λ (x : NodeValue). is_in_view (server x saved) v ≡ true → Stocks [] x.me (server x saved)
    (on_event x.me now (server x saved) from v cp base (server x saved).items) (stock x)
    (stock_in (state.Follows g plan))) (ap (value me mark horizon served duty) (sym at) ∙ of)
    (beat_at me mark horizon served duty saved f g plan v now from cp base is log) here

-- ---- what goes to the disk

-- a state with another log of the same records
pub logged_stock : (s : State) (log : LogValue) (cached : Entries)
    → log.records ≡ (state_log s).records → stock_in (with_log s log cached) ≡ stock_in s
logged_stock state.Gone log cached h = refl
logged_stock (state.Rests kept) log cached h = refl
logged_stock (state.Joined kept joining) log cached h = refl
logged_stock (state.Pulls kept joining plan staged) log cached h = refl
logged_stock (state.Leads leader plan) log cached h = same_led _ _ _ _ h refl
logged_stock (state.Follows partner plan) log cached h = same_led _ _ _ _ h refl

-- ---- demotion, and a choice at a node

pub demoted_stock : (me : ServerId) (mark : MarkFields) (horizon : HorizonValue) (served : ℕ)
    (duty : Task) (s : State) (n : NodeValue) (v : ℕ) (b : Bool) (items : List Entry)
    (new : Stock) → value me mark horizon served duty s ≡ n
    → nat_lt v (number_of_view mark.promised) ≡ b
    → new ≡ as_stock [] (if b then pulled_in s else []) []
    → Stocks [] n.me (server n items) (Demoting v ∷ []) (stock n) new
demoted_stock me mark horizon served duty s n v b items new of below is =
    subst (λ (x : NodeValue). Stocks [] x.me (server x items) (Demoting v ∷ []) (stock x) new) of
    (λ clock list askers. is ∙ ap (λ (c : Bool). as_stock [] (if c then pulled_in s else []) [])
    (sym below))

pub stock_from : (me : ServerId) (mark : MarkFields) (horizon : HorizonValue) (served : ℕ)
    (d : Task) (st : State) (n : NodeValue) (reports : Trio (Option Report)) (from : ℕ)
    (chosen : Plan) (items : List Entry) (new : Stock)
    → value me mark horizon served d st ≡ n
    → (let v = value me mark horizon served task.Free st in Stocks [] (place_of me)
    (server v items) (choosing (place_of me) (server v items) reports chosen from) (stock v) new)
    → Stocks [] n.me (server n items) (choosing n.me (server n items) reports chosen from)
    (stock n) new
stock_from me mark horizon served d st n reports from chosen items new is h =
    subst (λ (x : NodeValue). Stocks [] x.me (server x items)
    (choosing x.me (server x items) reports chosen from) (stock x) new) is h

-- the part of a coordinator that chose
abbrev part_chosen : (me : ServerId) (mark : MarkFields) (horizon : HorizonValue) (served : ℕ)
    (duty : Task) (st : State) (items : List Entry) (new : Stock) → ℕ → Plan → Type 0
part_chosen me mark horizon served duty st items new v plan =
    let n = value me mark horizon served duty st in
    let t = record (server n items) { duty = Chose v plan } in
    Stocks [] (place_of me) t (form_moves (place_of me) t plan) (stock n) new

pub chosen_stock : (me : ServerId) (mark : MarkFields) (horizon : HorizonValue) (served : ℕ)
    (duty : Task) (st : State) (n : NodeValue) (view : View) (form : Form')
    (reports : Trio (Option Report)) (from : ℕ) (chosen : Plan) (items : List Entry)
    (new : Stock) → value me mark horizon served duty st ≡ n → view ≡ mark.promised
    → plan_of form ≡ chosen
    → (let v = value me mark horizon served (task.Chose view form) st in Stocks [] (place_of me)
    (server v items) (form_moves (place_of me) (server v items) (plan_of form)) (stock v) new)
    → Stocks [] n.me (server n items) (choosing n.me (server n items) reports chosen from)
    (stock n) new
chosen_stock me mark horizon served duty st n view form reports from chosen items new is same plans
    h =
    let own = value me mark horizon served duty st in
    let part : part_chosen me mark horizon served duty st items new (number_of_view mark.promised)
    chosen =
    subst (λ (p : Plan). part_chosen me mark horizon served duty st items new
    (number_of_view mark.promised) p) plans
    (subst (λ (w : View). part_chosen me mark horizon served duty st items new
    (number_of_view w) (plan_of form)) same h) in
    subst (λ (x : NodeValue). Stocks [] x.me (server x items)
    (choosing x.me (server x items) reports chosen from) (stock x) new) is
    (choosing_stock (place_of me) (server own items) reports chosen from (stock own) new part)
