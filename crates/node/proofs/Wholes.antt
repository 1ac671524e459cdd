-- A step's moves, by what it is given, as moves of whole records.
use Rattle.std.proofs.Common.{◌≡◌, ◌≤◌, ℕ, ◌+◌, ◌-◌, Bool, true, false, List, [], ◌∷◌, ◌++◌, refl, ap, sym, ◌∙◌, subst, inl, inr, arith, append_assoc, map, if◌then◌else◌}
use Rattle.std.specs.Prelude.{◌==◌, Contains, max, nat_le, nat_lt, Option, None, Some, option_map, is_some}
use Rattle.std.specs.List.{flat_map}
use Rattle.std.proofs.lemmas.Grind.{flat_map-append}
use Rattle.std.proofs.lemmas.List.{append-nil}
use Rattle.std.proofs.lemmas.List.Elements.{Contains-append_cases, Contains-append_left, Contains-append_right}
use Rattle.event_record.specs.declared.record.RecordFields.{RecordFields}
use Rattle.file_tree.specs.Book.{Entry, last_of}
use Rattle.group_rules.specs.Ask.{append, hint_of, new_entry, on_ask, read_entry, read_moves, refuse, update_moves}
use Rattle.group_rules.specs.Disk.{apply, flush, flush_tests, list_tree, settled_tests}
use Rattle.group_rules.specs.Limits.{is_active, is_open}
use Rattle.group_rules.specs.Moves.{Appending, Move, Reading, Saying, Sending, act, acts}
use Rattle.group_rules.specs.Names.{number_of_view, place_of, view_of}
use Rattle.group_rules.specs.Open.{rebase, try_open}
use Rattle.group_rules.specs.Places.{Place, all_of, leader, partner, same}
use Rattle.group_rules.specs.State.{Answers, BadClient, Demote, Event, LogFull, Message, NoPromise, NotLeader, NotYetOpen, Old, Server, top}
use Rattle.group_rules.specs.Step.{Input as Begins, rule}
use Rattle.group_rules.specs.Tick.{beats, tick}
use Rattle.harp_types.specs.Limits.{last_client}
use Rattle.harp_types.specs.Update.{is_update}
use Rattle.harp_types.specs.declared.call.Call.{Call}
use Rattle.harp_types.specs.declared.cred.Cred.{Cred}
use Rattle.harp_types.specs.declared.peer.Peer.{Peer}
use Rattle.harp_types.specs.declared.server.ServerId.{ServerId}
use Rattle.harp_store.specs.Disk.{Moments}
use Rattle.harp_store.specs.Mark.{MarkFields}
use Rattle.idle_log.proofs.Giving.{part_stands}
use Rattle.idle_log.specs.Gives.{StandIn}
use Rattle.idle_log.specs.declared.form.Form.{Form}
use Rattle.tree_log.specs.Records.{record_of}
use Rattle.node.proofs.Sizing.{are_sized}
use Rattle.node.specs.Input.{FillsInput, FillsSized, input_of}
use Rattle.node.specs.Serving.{AreSizedTo, entry_size, last_served}
use Rattle.node.specs.Stored.{log_of}
use Rattle.tree_log.specs.Reading.{IsOfList}
use Rattle.node.specs.Node.{NodeValue, server, value}
use Rattle.node.specs.Step.{ListsFor}
use Rattle.node.specs.Stock.{IsFetch, Stock, stock, stock_after}
use Rattle.node.specs.Taking.{Fills, input_in, ruled, stepped}
use Rattle.node.specs.declared.input.Input.{Input}
use Rattle.node.specs.declared.input.Input.TheVariants as input
use Rattle.node.specs.declared.state.State.{State}
use Rattle.node.specs.declared.state.State.TheVariants as state
use Rattle.node.specs.declared.state.Task.{Task}
use Rattle.promise.specs.Promise.{HorizonValue}
use Rattle.tree_listing.specs.declared.listing.Listing.{Listing}
use Rattle.replica.specs.Leading.{Leading}
use Rattle.replica.specs.Resending.{sent_again}
use Rattle.wire.specs.declared.message.Message.TheVariants as wire
use Rattle.node.proofs.Bare.{AreBare, bare_rule, bare_said}
use Rattle.node.proofs.Sent.{sent_again as again_sent, sent_duties, sent_then}
use Rattle.node.proofs.Stepped.{sent_beats}
use Rattle.node.proofs.Stocks.{AreIdle, as_stock, idle_if, idle_open, idle_sent, idle_then, stock_then}
use Rattle.node_outputs.specs.Makes.{Makes}
use Rattle.node_outputs.specs.Messages.{heard}
use Rattle.node_outputs.specs.Records.{carried, records_sent}
use Rattle.node_outputs.specs.Said.{Said, nothing, said, sent as sent_one, waits_of}
use Rattle.node_outputs.specs.declared.outputs.Outputs.{Outputs}
use Rattle.node_outputs.specs.declared.outputs.Sent.{Sent}
use Rattle.replica.specs.Asking.{recorded, recorded_by}
use Rattle.wire.specs.declared.message.Message.{Message as Wire}

-- ---- asks

abbrev pub IsAsked : Move Entry → Type 0
IsAsked (Appending e) = Unit {0}
IsAsked (Reading n e) = Unit {0}
IsAsked (Saying say) = Unit {0}
IsAsked (Sending to m) = Unit {0}
IsAsked m = ⊥

abbrev pub AreAsked : List (Move Entry) → Type 0
AreAsked [] = Unit {0}
AreAsked (m ∷ ms) = IsAsked m × AreAsked ms

-- what is appended is recorded, and its peer waits
abbrev pub with_asked : ℕ → List Entry → Peer → List (Move Entry) → Stock → Stock
with_asked view list peer ms k = as_stock (k.log ++ recorded view list ms) k.pulled
    (k.waits ++ waits_of peer ms)

same_stock : (log log' : List RecordFields) (pulled : List RecordFields) (waits waits' : List Peer)
    → log ≡ log' → waits ≡ waits'
    → as_stock log pulled waits
    ≡ as_stock log' pulled waits'
same_stock log log' pulled waits waits' l w =
    ap (λ (x : List RecordFields). as_stock x pulled waits) l
    ∙ ap (λ (x : List Peer). as_stock log' pulled x) w

pub asked_stock : (q : Place) (clock : ℕ) (list : List Entry) (came : List RecordFields)
    (peer : Peer) (s : Server Entry) (ms : List (Move Entry)) (k : Stock) → AreAsked ms
    → with_asked s.accepted list peer ms k ≡ stock_after q clock list came (peer ∷ []) s ms k
asked_stock q clock list came peer s [] k h =
    same_stock (k.log ++ []) k.log k.pulled (k.waits ++ []) k.waits (append-nil k.log)
    (append-nil k.waits)
asked_stock q clock list came peer s (Appending e ∷ ms) k h =
    let r = record_of (view_of s.accepted) list e in
    same_stock (k.log ++ r ∷ recorded s.accepted list ms)
    ((k.log ++ r ∷ []) ++ recorded s.accepted list ms) k.pulled
    (k.waits ++ peer ∷ waits_of peer ms) ((k.waits ++ peer ∷ []) ++ waits_of peer ms)
    (sym (append_assoc k.log (r ∷ []) (recorded s.accepted list ms)))
    (sym (append_assoc k.waits (peer ∷ []) (waits_of peer ms)))
    ∙ asked_stock q clock list came peer (act q clock s (Appending e)) ms
    (as_stock (k.log ++ r ∷ []) k.pulled (k.waits ++ peer ∷ [])) h.1
asked_stock q clock list came peer s (Reading n e ∷ ms) k h =
    asked_stock q clock list came peer s ms k h.1
asked_stock q clock list came peer s (Saying say ∷ ms) k h =
    asked_stock q clock list came peer s ms k h.1
asked_stock q clock list came peer s (Sending to m ∷ ms) k h =
    asked_stock q clock list came peer s ms k h.1
asked_stock q clock list came peer s (m ∷ ms) k h = absurd h.0

asked_if : (b : Bool) (ms ns : List (Move Entry)) → AreAsked ms → AreAsked ns
    → AreAsked (if b then ms else ns)
asked_if true ms ns h k = h
asked_if false ms ns h k = k

asked_append : (s : Server Entry) (e : Entry) → AreAsked (append s e)
asked_append s e = asked_if _ (refuse e.client e.number LogFull)
    (Appending e ∷ Sending (partner s.plan.storers)
    (Event s.accepted (top s + 1) s.cp s.base e) ∷ []) (tt, tt) (tt, (tt, tt))

asked_update : (s : Server Entry) (e : Entry) (last : Option Entry)
    → AreAsked (update_moves s e last)
asked_update s e None = asked_append s e
asked_update s e (Some last) = asked_if (e.number == last.number)
    (if nat_le last.index s.cp then Saying (Answers last.index last) ∷ [] else [])
    (if nat_lt e.number last.number then refuse e.client e.number Old else append s e)
    (asked_if (nat_le last.index s.cp) (Saying (Answers last.index last) ∷ []) [] (tt, tt) tt)
    (asked_if (nat_lt e.number last.number) (refuse e.client e.number Old) (append s e)
    (tt, tt) (asked_append s e))

pub asked_moves : (q : Place) (now : ℕ) (list : List Entry) (s : Server Entry)
    (client number : ℕ) (cred : Cred) (call : Call)
    → AreAsked (on_ask q now list s client number cred call)
asked_moves q now list s client number cred call = asked_if (nat_lt last_client client)
    (refuse client number BadClient) _ (tt, tt)
    (asked_if (all_of (is_active s.mode ∷ same q (leader s.plan.storers) ∷ [])) _
    (refuse client number (NotLeader (hint_of q s.role)))
    (asked_if (is_open s.mode) _ (refuse client number NotYetOpen)
    (asked_if (is_update call)
    (update_moves s (new_entry now list client number cred call) (last_of client list))
    (read_moves now s (read_entry s.cp list client number cred call))
    (asked_update s (new_entry now list client number cred call) (last_of client list))
    (asked_if (nat_le s.grant now) (refuse client number NoPromise)
    (Reading s.cp (read_entry s.cp list client number cred call) ∷ []) (tt, tt) (tt, tt)))
    (tt, tt)) (tt, tt))

-- an ask of a node
pub asks_stock : (now : ℕ) (list items : List Entry) (client number : ℕ) (cred : Cred)
    (call : Call) (peer : Peer) (old new : NodeValue)
    → let ms = on_ask old.me now list (server old items) client number cred call in
    new.peers ≡ old.peers ++ waits_of peer ms
    → new.records ≡ old.records ++ recorded old.plain.accepted list ms → new.pulled ≡ old.pulled
    → stock new ≡ stock_after old.me now list [] (peer ∷ []) (server old items) ms (stock old)
asks_stock now list items client number cred call peer old new waits records pulled =
    let ms = on_ask old.me now list (server old items) client number cred call in
    same_stock new.records (old.records ++ recorded old.plain.accepted list ms) new.pulled
    new.peers (old.peers ++ waits_of peer ms) records waits
    ∙ ap (λ (x : List RecordFields). as_stock (old.records ++ recorded old.plain.accepted list ms) x
    (old.peers ++ waits_of peer ms)) pulled
    ∙ asked_stock old.me now list [] peer (server old items) ms (stock old)
    (asked_moves old.me now list (server old items) client number cred call)

-- ---- ticks, and what goes to the disk

pub idle_tick : (q : Place) (clock : ℕ) (s : Server Entry) → AreIdle (tick q clock s)
idle_tick q clock s =
    let leads = if is_open s.mode then beats s else try_open q clock s in
    let t = acts q clock s leads in
    idle_then leads _ (idle_if (is_open s.mode) (beats s) (try_open q clock s)
    (idle_sent (beats s) (sent_beats s)) (idle_open q clock s))
    (idle_sent _ (sent_then _ _ (sent_duties q t t.duty) (again_sent q t)))

pub idle_apply : (q : Place) (s : Server Entry) (n : ℕ) → AreIdle (apply q s n)
idle_apply q s n = idle_if (all_of (settled_tests q s)) _ [] (tt, tt) tt

pub idle_flush : (q : Place) (s : Server Entry) → AreIdle (flush q s)
idle_flush q s = idle_if (all_of (flush_tests q s)) _ [] (tt, tt) tt

pub idle_list : (q : Place) (s : Server Entry) → AreIdle (list_tree q s)
idle_list q s = idle_if (all_of (settled_tests q s)) _ [] (tt, tt) tt

-- ---- records that are sent

pub stand_first : (all more some : List RecordFields) → StandIn all some
    → StandIn (all ++ more) some
stand_first all more some h r among = Contains-append_left all more r (h r among)

pub stand_last : (all more some : List RecordFields) → StandIn more some
    → StandIn (all ++ more) some
stand_last all more some h r among = Contains-append_right all more r (h r among)

none_in : (r : RecordFields) → Contains [] r → ⊥
none_in r h = omega (arith, h.1)

pub stand_none : (all some : List RecordFields) → some ≡ [] → StandIn all some
stand_none all some none r among =
    absurd (none_in r (subst (λ (xs : List RecordFields). Contains xs r) none among))

-- of a step that began without any
pub stand_fresh : (all before some : List RecordFields) → before ≡ []
    → StandIn (before ++ all) some → StandIn all some
stand_fresh all before some none h =
    subst (λ (xs : List RecordFields). StandIn (xs ++ all) some) none h

-- ---- the base at the end of a step

recorded_then : (view : ℕ) (list : List Entry) (ms ns : List (Move Entry))
    → recorded view list (ms ++ ns) ≡ recorded view list ms ++ recorded view list ns
recorded_then view list ms ns = flat_map-append (recorded_by view list) ms ns

stand_stepped : (own : List RecordFields) (view : ℕ) (list : List Entry)
    (ms ns : List (Move Entry)) (some : List RecordFields)
    → StandIn (own ++ recorded view list ms) some
    → StandIn (own ++ recorded view list (ms ++ ns)) some
stand_stepped own view list ms ns some h =
    subst (λ (xs : List RecordFields). StandIn xs some)
    (append_assoc own (recorded view list ms) (recorded view list ns)
    ∙ ap (λ (xs : List RecordFields). own ++ xs) (sym (recorded_then view list ms ns)))
    (stand_first (own ++ recorded view list ms) (recorded view list ns) some h)

pub stands_stepped : (size : List Entry → Entry → ℕ) (q : Place) (clock : ℕ) (list : List Entry)
    (s : Server Entry) (o : Option Begins) (own : List RecordFields) (view : ℕ)
    (some : List RecordFields)
    → StandIn (own ++ recorded view list (ruled size q clock list s o)) some
    → StandIn (own ++ recorded view list (stepped size q clock list s o)) some
stands_stepped size q clock list s None own view some h = h
stands_stepped size q clock list s (Some i) own view some h =
    let ms = rule size q clock list s i in
    stand_stepped own view list ms (rebase (acts q clock s ms)) some h

pub stock_stepped : (size : List Entry → Entry → ℕ) (q : Place) (clock : ℕ) (list : List Entry)
    (came : List RecordFields) (askers : List Peer) (s t : Server Entry) (o : Option Begins)
    (old mid new : Stock) → is_some o ≡ true → t ≡ acts q clock s (ruled size q clock list s o)
    → mid ≡ stock_after q clock list came askers s (ruled size q clock list s o) old
    → new ≡ stock_after q clock list came askers t (rebase t) mid
    → new ≡ stock_after q clock list came askers s (stepped size q clock list s o) old
stock_stepped size q clock list came askers s t None old mid new some at first second = cc
stock_stepped size q clock list came askers s t (Some i) old mid new some at first second =
    let ms = rule size q clock list s i in
    second
    ∙ ap (λ (k : Stock). stock_after q clock list came askers t (rebase t) k) first
    ∙ ap (λ (x : Server Entry). stock_after q clock list came askers x (rebase x)
    (stock_after q clock list came askers s ms old)) at
    ∙ sym (stock_then q clock list came askers s ms (rebase (acts q clock s ms)) old)

-- nothing that is heeded
pub stock_none : (size : List Entry → Entry → ℕ) (q : Place) (clock : ℕ) (list : List Entry)
    (came : List RecordFields) (askers : List Peer) (s : Server Entry) (o : Option Begins)
    (k : Stock) → is_some o ≡ false
    → k ≡ stock_after q clock list came askers s (stepped size q clock list s o) k
stock_none size q clock list came askers s None k none = refl
stock_none size q clock list came askers s (Some i) k none = cc

-- ---- what a tick, an ask and a message send

pub stand_both : (before own some : List RecordFields) → StandIn own some
    → StandIn (before ++ own) (before ++ some)
stand_both before own some h r among = elim (Contains-append_cases before some r among) [
  | inl first ↦ Contains-append_left before own r first
  | inr more ↦ Contains-append_right before own r (h r more)
]

again_stand : (b : Bool) (l : Leading) (before after : List RecordFields)
    → after ≡ before ++ (if b then sent_again l else []) → StandIn (before ++ l.log.records) after
again_stand true l before after is =
    subst (λ (xs : List RecordFields). StandIn (before ++ l.log.records) xs) (sym is)
    (stand_both before l.log.records (sent_again l) (part_stands 64
    (max l.log.base l.told_top - l.log.base) l.log.records))
again_stand false l before after is =
    subst (λ (xs : List RecordFields). StandIn (before ++ l.log.records) xs) (sym is)
    (stand_both before l.log.records [] (λ r among. absurd (none_in r among)))

pub leads_sent : (me : ServerId) (mark : MarkFields) (horizon : HorizonValue) (served : ℕ)
    (duty : Task) (s : State) (l : Leading) (plan : Form) (n : NodeValue)
    (before after : List RecordFields) → s ≡ state.Leads l plan
    → value me mark horizon served duty s ≡ n
    → after ≡ before ++ (if l.opened then sent_again l else [])
    → StandIn (before ++ n.records) after
leads_sent me mark horizon served duty s l plan n before after at of is =
    subst (λ (x : NodeValue). StandIn (before ++ x.records) after)
    (ap (value me mark horizon served duty) (sym at) ∙ of)
    (again_stand l.opened l before after is)

pub asked_sent : (own more before after : List RecordFields) → before ≡ []
    → after ≡ before ++ more → StandIn (own ++ more) after
asked_sent own more before after none is =
    let all : after ≡ more = is ∙ ap (λ (xs : List RecordFields). xs ++ more) none in
    stand_last own more after
    (λ r among. subst (λ (xs : List RecordFields). Contains xs r) all among)

-- a message but a Fetch is answered without any
bare_message : (q : Place) (clock : ℕ) (s new : Server Entry) (ms : List (Move Entry))
    (peers : List Peer) (before after : Outputs) (own more : List RecordFields)
    → Makes q clock ms peers s new before after → AreBare ms → said before ≡ nothing
    → StandIn (own ++ more) (records_sent after)
bare_message q clock s new ms peers before after own more made bare fresh =
    stand_none (own ++ more) (records_sent after)
    (bare_said q clock s ms peers (said before) after fresh made.said bare)

abbrev heard_as : Option (Message Entry) → Message Entry
heard_as (Some m) = m
heard_as None = Demote 0

pub message_sent : (size : List Entry → Entry → ℕ) (q : Place) (clock : ℕ) (list : List Entry)
    (s new : Server Entry) (from : ServerId) (w : Wire) (peers : List Peer)
    (before after : Outputs) (own more : List RecordFields)
    → Makes q clock (ruled size q clock list s (input_in from w)) peers s new before after
    → (IsFetch w → StandIn (records_sent before ++ own) (records_sent after))
    → said before ≡ nothing → records_sent before ≡ []
    → StandIn (own ++ more) (records_sent after)
message_sent size q clock list s new from (wire.Invite view) peers before after own more
    made sent fresh none = bare_message q clock s new _ peers before after own more made
    (bare_rule size q clock list s (place_of from) (heard_as (heard (wire.Invite view))) tt) fresh
message_sent size q clock list s new from (wire.Join view has accepted base lb cp top horizon) peers
    before after own more
    made sent fresh none = bare_message q clock s new _ peers before after own more made
    (bare_rule size q clock list s (place_of from)
    (heard_as (heard (wire.Join view has accepted base lb cp top horizon))) tt) fresh
message_sent size q clock list s new from (wire.Form view storers source base cp start horizon)
    peers before after own more
    made sent fresh none = bare_message q clock s new _ peers before after own more made
    (bare_rule size q clock list s (place_of from)
    (heard_as (heard (wire.Form view storers source base cp start horizon))) tt) fresh
message_sent size q clock list s new from (wire.Give view first records) peers before after own more
    made sent fresh none = bare_message q clock s new _ peers before after own more made
    (bare_rule size q clock list s (place_of from) (heard_as (heard (wire.Give view first records)))
    tt) fresh
message_sent size q clock list s new from (wire.Formed view lb) peers before after own more
    made sent fresh none = bare_message q clock s new _ peers before after own more made
    (bare_rule size q clock list s (place_of from) (heard_as (heard (wire.Formed view lb))) tt)
    fresh
message_sent size q clock list s new from (wire.Event view cp base r) peers before after own more
    made sent fresh none = bare_message q clock s new _ peers before after own more made
    (bare_rule size q clock list s (place_of from) (heard_as (heard (wire.Event view cp base r)))
    tt) fresh
message_sent size q clock list s new from (wire.Beat view cp base) peers before after own more
    made sent fresh none = bare_message q clock s new _ peers before after own more made
    (bare_rule size q clock list s (place_of from) (heard_as (heard (wire.Beat view cp base))) tt)
    fresh
message_sent size q clock list s new from (wire.Ack view top lb until) peers before after own more
    made sent fresh none = bare_message q clock s new _ peers before after own more made
    (bare_rule size q clock list s (place_of from) (heard_as (heard (wire.Ack view top lb until)))
    tt) fresh
message_sent size q clock list s new from (wire.Demote view) peers before after own more
    made sent fresh none = bare_message q clock s new _ peers before after own more made
    (bare_rule size q clock list s (place_of from) (heard_as (heard (wire.Demote view))) tt) fresh
message_sent size q clock list s new from (wire.Fetch view first) peers before after own more
    made sent fresh none = stand_first own more (records_sent after)
    (stand_fresh own (records_sent before) (records_sent after) none (sent tt))
message_sent size q clock list s new from (wire.Ask client number cred call) peers before after own
    more
    made sent fresh none = bare_message q clock s new [] peers before after own more made tt fresh
message_sent size q clock list s new from (wire.Answer client number index reply) peers before after
    own more
    made sent fresh none = bare_message q clock s new [] peers before after own more made tt fresh
message_sent size q clock list s new from (wire.CannotServe client number cause) peers before after
    own more
    made sent fresh none = bare_message q clock s new [] peers before after own more made tt fresh

-- ---- listings

pub lists_none : (i : Input) (n : NodeValue) (told : Option Moments) (old new : Option Listing)
    → is_some (input_of i) ≡ false → ListsFor i n told old new
lists_none input.Tick n told old new none = tt
lists_none input.Suspect n told old new none = tt
lists_none (input.Message from message) n told old new none = tt
lists_none (input.Ask peer client number cred call) n told old new none = tt
lists_none (input.Apply most) n told old new none = tt
lists_none input.Flush n told old new none = tt
lists_none input.List n told old new none = cc

pub no_listing : (x : Option Listing) → option_map (λ (l : Listing). l.cp) x ≡ None → x ≡ None
no_listing None is = refl
no_listing (Some l) is = cc

-- outputs that say nothing send no record
pub unsaid_records : (o : Outputs) → said o ≡ nothing → records_sent o ≡ []
unsaid_records o none = by o.sends.items (ap (λ (x : Said). x.sends) none)
  where
    by : (sends : List Sent) → map sent_one sends ≡ []
        → flat_map (λ (s : Sent). carried s.message) sends ≡ []
    by [] is = refl
    by (s ∷ sends) is = cc

-- ---- what a Fetch rests on

sized_to : (list : List Entry) (n : NodeValue) (index : ℕ) (last : Option ℕ)
    → IsOfList list (log_of n) → AreSizedTo entry_size list n index last
sized_to list n index None is = tt
sized_to list n index (Some last) is = are_sized list n index last is

fills_message : (list : List Entry) (n : NodeValue) (w : Wire)
    → (IsFetch w → (n.plain.served ≤ top n.plain) × IsOfList list (log_of n))
    → Fills entry_size list n w
fills_message list n (wire.Fetch view first) h =
    ((h tt).0, sized_to list n first (last_served n.plain (number_of_view view)) (h tt).1)
fills_message list n (wire.Invite view) h = tt
fills_message list n (wire.Join view has accepted base lb cp top horizon) h = tt
fills_message list n (wire.Form view storers source base cp start horizon) h = tt
fills_message list n (wire.Give view first records) h = tt
fills_message list n (wire.Formed view lb) h = tt
fills_message list n (wire.Event view cp base r) h = tt
fills_message list n (wire.Beat view cp base) h = tt
fills_message list n (wire.Ack view top lb until) h = tt
fills_message list n (wire.Demote view) h = tt
fills_message list n (wire.Ask client number cred call) h = tt
fills_message list n (wire.Answer client number index reply) h = tt
fills_message list n (wire.CannotServe client number cause) h = tt

pub fills_sized : (list : List Entry) (n : NodeValue) (clock : ℕ) (told : Option Moments)
    (i : Input) → FillsInput list n clock told i → FillsSized entry_size list n clock told i
fills_sized list n clock told input.Tick h = tt
fills_sized list n clock told input.Suspect h = tt
fills_sized list n clock told (input.Message from message) h = fills_message list n message h
fills_sized list n clock told (input.Ask peer client number cred call) h = h
fills_sized list n clock told (input.Apply most) h = tt
fills_sized list n clock told input.Flush h = tt
fills_sized list n clock told input.List h = tt
