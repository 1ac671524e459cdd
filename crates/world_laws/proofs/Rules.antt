-- Each rule gives to its moves the records that they take.
use Rattle.std.proofs.Common.{◌≡◌, ℕ, ◌+◌, ◌-◌, ◌/◌, ◌<◌, ◌||◌, ◌==◌, true, List, [], ◌∷◌, ◌++◌, length, map, take, Option, None, Some, nat_lt, nat_le, refl, sym, ap, ◌∙◌, subst, inl, inr, arith, append-nil, if◌then◌else◌, length-append}
use Rattle.std.proofs.lemmas.List.{length-map, take_all}
use Rattle.event_record.specs.Record.{entry_of}
use Rattle.event_record.specs.declared.record.RecordFields.{RecordFields}
use Rattle.file_tree.specs.Book.{Entry, last_of}
use Rattle.group_rules.proofs.Tests.{by_if, each_of, is_eq'}
use Rattle.group_rules.specs.Ask.{append, hint_of, new_entry, on_ask, read_entry, read_moves, refuse, update_moves}
use Rattle.group_rules.specs.Choose.{choose, greatest}
use Rattle.group_rules.specs.Disk.{demote_tests, flush_tests, settled_tests}
use Rattle.group_rules.specs.Effects.{report_of, taken}
use Rattle.group_rules.specs.Form.{accept_moves, adopted, fits, form_moves, on_form, on_give, pull_tests, wanted}
use Rattle.group_rules.specs.Joining.{chosen_moves, joined_tests, on_join}
use Rattle.group_rules.specs.Limits.{is_active, is_joins, is_open, limit, room}
use Rattle.group_rules.specs.Misfits.{misfits}
use Rattle.group_rules.specs.Moves.{Choosing, Collecting, Joining, Saying, Sending, act, acts, moved, new_page}
use Rattle.group_rules.specs.Open.{formed_tests, try_open}
use Rattle.group_rules.specs.Places.{Place, Trio, all_of, leader, other_storers, partner, same, with_at}
use Rattle.group_rules.specs.Replicate.{ack_tests, in_view_tests, is_in_view, on_event}
use Rattle.group_rules.specs.Serving.{held_tests, serving_accepted, serving_joined}
use Rattle.group_rules.specs.State.{Ack, Answers, BadClient, Beat, Chose, Collects, Demote, Duty, Event, Fetch, Form, Formed, Give, Group, Invite, Join, Joins, LogFull, Message, Mode, NoDuty, NotLeader, NotYetOpen, Old, Open, Page, Plan, Pulls, Refuses, Report, Say, Server, top}
use Rattle.group_rules.specs.Step.{Apply, Ask, Comes, Crash, Deed, Does, Flush, ListTree, Power, Suspect, Tick, does, on_message, rule, step}
use Rattle.group_rules.specs.Tick.{beats}
use Rattle.group_safety.proofs.Common.{put_same}
use Rattle.group_safety.proofs.Modes.{joins_is, open_is, pulls_is}
use Rattle.group_safety.proofs.Moving.{Good, its}
use Rattle.group_safety.specs.Facts.{BodyOk}
use Rattle.group_safety.specs.Words.{IsActive, IsJoining, Part}
use Rattle.harp_types.specs.declared.call.Call.{Call}
use Rattle.harp_types.specs.Update.{is_update}
use Rattle.harp_types.specs.declared.cred.Cred.{Cred}
use Rattle.record_changes.specs.Records.{history_of}
use Rattle.world_laws.proofs.Moves.{Adopts, ArePulled, Fed, Heeds}
use Rattle.world_laws.proofs.Plain.{fed_base, fed_both, fed_if, fed_none, fed_sends, plain_answers, plain_each, plain_fed, plain_first, plain_if, plain_last, plain_open}
use Rattle.world_laws.proofs.Right.{its_tidy}
use Rattle.world_laws.specs.StockLaws.{GoesOn}
use Rattle.world_laws.specs.Stocks.{AreOfList, Carries}
use Rattle.tree_log.specs.TreeLog.{changes_in}

-- ---- form

joins_not : (m : Mode) → m ≡ Joins → m ≡ Pulls → ⊥
joins_not m a b = absurd (different (sym a ∙ b))
  where
    different : Joins ≡ Pulls → ⊥
    different e = cc

accepts_fed : (g : Group Entry) (q : Place) (s : Server Entry) (list : List Entry)
    (came : List RecordFields) (plan : Plan) (staged : List Entry)
    → (Good g q s → Adopts g.page came q s plan (adopted q s plan staged))
    → Fed g q s list came (accept_moves q s plan staged)
unfolding Fed
accepts_fed g q s list came plan staged a = (
  a,
  plain_fed _ _ q _ list came (plain_if (same q (partner plan.storers)) _ [] (tt, tt) tt),
)

-- a storer that joins accepts at once, or begins to pull
forms_fed : (g : Group Entry) (q : Place) (s : Server Entry) (list : List Entry) (plan : Plan)
    → (g.page s.promised).formed ≡ true → plan ≡ (g.page s.promised).plan
    → Fed g q s list [] (form_moves q s plan)
forms_fed g q s list plan f known = fed_if g q s list [] (all_of (is_joins s.mode ∷ fits q s plan
    ∷ [])) _ []
    (λ t.
    let a = each_of (is_joins s.mode ∷ fits q s plan ∷ []) t in
    let mode = joins_is s.mode a.0 in
    fed_if g q s list [] (same q plan.source || (wanted q s plan == plan.start)) _ _
    (λ _. accepts_fed g q s list [] plan [] (λ h.
    let none = ((its_tidy h).pulls (joins_not s.mode mode)).1 in
    record {
      formed = f;
      joins = subst (λ z. IsJoining z) (sym mode) tt;
      known = known;
      fit = a.1.0;
      log = ap (λ (l : List Entry). adopted q s plan (l ++ [])) (sym none);
      pulled = inl (ap (λ (l : List Entry). length l) none, refl);
    }))
    (λ _. plain_fed _ g q s list [] (tt, (tt, tt))))
    (λ _. fed_none g q s list [])

-- ---- pulling

gives_fed : (g : Group Entry) (q : Place) (s : Server Entry) (list : List Entry)
    (came : List RecordFields) (v index : ℕ) (items : List Entry)
    → map entry_of came ≡ items → AreOfList (g.page v).list (index - 1) came
    → Fed g q s list came (on_give q s v index items)
unfolding Fed
gives_fed g q s list came v index items is of_list =
    fed_if g q s list came (all_of (pull_tests s v index items)) _ []
    (λ t.
    let a = each_of (pull_tests s v index items) t in
    let pulls = pulls_is s.mode a.0 in
    let e : v ≡ s.promised = is_eq' v s.promised a.1.0 in
    let place : index ≡ s.wanted_from + length s.staged + 1 =
    is_eq' index (s.wanted_from + length s.staged + 1) a.1.1.0 in
    let place' : index - 1 ≡ s.wanted_from + length s.staged = omega arith in
    let next : ArePulled g.page came s =
    subst (λ n. Part n (changes_in came) (history_of (g.page s.promised).list)) place'
    (subst (λ n. Part (index - 1) (changes_in came) (history_of (g.page n).list)) e
    of_list.changes) in
    fed_if g q s list came (s.wanted_from + length (s.staged ++ items) == s.plan.start) _ _
    (λ _. accepts_fed g q s list came s.plan (s.staged ++ items) (λ h.
    let ok = (its h).modes.pulls pulls in
    record {
      formed = ok.0;
      joins = subst (λ z. IsJoining z) (sym pulls) tt;
      known = ok.1;
      fit = ok.4;
      log = ap (λ (l : List Entry). adopted q s s.plan (s.staged ++ l)) (sym is);
      pulled = inr (ok.5, next);
    }))
    (λ _. (λ _. (ap (λ (l : List Entry). s.staged ++ l) (sym is), next), (λ _. tt, tt))))
    (λ _. fed_none g q s list came)

-- ---- event and beat

heeds_none : (page : ℕ → Page Entry) (came : List RecordFields) (s : Server Entry)
    → Heeds page came s s.items
heeds_none page came s =
    let z : 0 ≡ length s.items - length s.items = omega arith in
    record {
      entries = subst (λ n. s.items ≡ s.items ++ map entry_of (take n came)) z
          (sym (append-nil s.items));
      changes = subst (λ n. Part (s.base + length s.items) (changes_in (take n came))
          (history_of (page s.accepted).list)) z (λ i (l : i < 0). absurd (omega arith));
    }

heeds_one : (page : ℕ → Page Entry) (came : List RecordFields) (s : Server Entry) (e : Entry)
    → map entry_of came ≡ e ∷ []
    → Part (s.base + length s.items) (changes_in came) (history_of (page s.accepted).list)
    → Heeds page came s (s.items ++ e ∷ [])
heeds_one page came s e is part =
    let a = length-append s.items (e ∷ []) in
    let b : length came ≡ 1 = sym (length-map came entry_of) ∙ ap (λ (l : List Entry). length l)
    is in
    let whole : came ≡ take (length (s.items ++ e ∷ []) - length s.items) came =
    sym (take_all (length (s.items ++ e ∷ []) - length s.items) came (omega arith)) in
    record {
      entries = ap (λ (l : List Entry). s.items ++ l) (sym is ∙ ap (map entry_of) whole);
      changes = subst (λ (l : List RecordFields). Part (s.base + length s.items) (changes_in l)
          (history_of (page s.accepted).list)) whole part;
    }

heeding_fed : (g : Group Entry) (q : Place) (clock : ℕ) (s : Server Entry) (list : List Entry)
    (came : List RecordFields) (from : Place) (v cp base : ℕ) (items : List Entry)
    → (v ≡ s.accepted → Heeds g.page came s items)
    → Fed g q s list came (on_event q clock s from v cp base items)
unfolding Fed
heeding_fed g q clock s list came from v cp base items k =
    fed_if g q s list came (all_of (is_in_view s v ∷ same q (partner s.plan.storers) ∷ [])) _ []
    (λ t.
    let a = each_of (is_in_view s v ∷ same q (partner s.plan.storers) ∷ []) t in
    let b = each_of (in_view_tests s v) a.0 in
    (λ _. k (is_eq' v s.accepted b.1.0), (λ _. tt, tt)))
    (λ _. fed_none g q s list came)

taken_heeds : (page : ℕ → Page Entry) (came : List RecordFields) (s : Server Entry)
    (v index : ℕ) (e : Entry) → map entry_of came ≡ e ∷ []
    → AreOfList (page v).list (index - 1) came → v ≡ s.accepted
    → Heeds page came s (taken s index e)
taken_heeds page came s v index e is of_list same' =
    by_if (λ items. Heeds page came s items) (index == top s + 1) (s.items ++ e ∷ []) s.items
    (λ t.
    let place : index ≡ s.base + length s.items + 1 = is_eq' index (top s + 1) t in
    let place' : index - 1 ≡ s.base + length s.items = omega arith in
    heeds_one page came s e is
    (subst (λ n. Part n (changes_in came) (history_of (page s.accepted).list)) place'
    (subst (λ n. Part (index - 1) (changes_in came) (history_of (page n).list)) same'
    of_list.changes)))
    (λ _. heeds_none page came s)

-- ---- ask

says_fed : (g : Group Entry) (q : Place) (s : Server Entry) (list : List Entry)
    (came : List RecordFields) (say : Say Entry) → Fed g q s list came (Saying say ∷ [])
unfolding Fed
says_fed g q s list came say = (λ _. tt, tt)

append_fed : (g : Group Entry) (q : Place) (s : Server Entry) (list : List Entry)
    (came : List RecordFields) (e : Entry)
    → (Good g q s → (list ≡ (g.page s.accepted).list) × (s.base + length s.items ≡ length list))
    → Fed g q s list came (append s e)
unfolding Fed
append_fed g q s list came e a =
    fed_if g q s list came (nat_le room (length s.items) || nat_le limit (top s))
    (refuse e.client e.number LogFull) _
    (λ _. says_fed g q s list came (Refuses e.client e.number LogFull))
    (λ _. (a, (λ _. tt, tt)))

update_fed : (g : Group Entry) (q : Place) (s : Server Entry) (list : List Entry)
    (came : List RecordFields) (e : Entry) (o : Option Entry)
    → (Good g q s → (list ≡ (g.page s.accepted).list) × (s.base + length s.items ≡ length list))
    → Fed g q s list came (update_moves s e o)
update_fed g q s list came e None a = append_fed g q s list came e a
update_fed g q s list came e (Some last) a = fed_if g q s list came (e.number == last.number) _ _
    (λ _. fed_if g q s list came (nat_le last.index s.cp) _ []
    (λ _. says_fed g q s list came (Answers last.index last)) (λ _. fed_none g q s list came))
    (λ _. fed_if g q s list came (nat_lt e.number last.number) _ _
    (λ _. says_fed g q s list came (Refuses e.client e.number Old))
    (λ _. append_fed g q s list came e a))

-- an open leader has its view's whole list
leads_all : (g : Group Entry) (q : Place) (s : Server Entry) (list : List Entry)
    → list ≡ take (top s) (g.page s.accepted).list → s.mode ≡ Open → Good g q s
    → (list ≡ (g.page s.accepted).list) × (s.base + length s.items ≡ length list)
leads_all g q s list e mode h =
    let fine = its h in
    let active : IsActive s.mode = subst (λ z. IsActive z) (sym mode) tt in
    let held = (fine.modes.active active).0 in
    let all = (fine.logs.log held).holds.all (fine.modes.leads mode).0 in
    let whole : list ≡ (g.page s.accepted).list =
    e ∙ take_all (top s) (g.page s.accepted).list (omega arith) in
    (whole, all ∙ ap (λ (l : List Entry). length l) (sym whole))

ask_fed : (g : Group Entry) (q : Place) (clock : ℕ) (s : Server Entry) (list : List Entry)
    (came : List RecordFields) → list ≡ take (top s) (g.page s.accepted).list
    → (client number : ℕ) (cred : Cred) (c : Call)
    → Fed g q s list came (on_ask q clock list s client number cred c)
ask_fed g q clock s list came e client number cred c =
    fed_if g q s list came (nat_lt 4095 client) _ _
    (λ _. says_fed g q s list came (Refuses client number BadClient))
    (λ _. fed_if g q s list came (all_of (is_active s.mode ∷ same q (leader s.plan.storers) ∷
    [])) _ _
    (λ _. fed_if g q s list came (is_open s.mode) _ _
    (λ o. fed_if g q s list came (is_update c) _ _
    (λ _. update_fed g q s list came (new_entry clock list client number cred c)
    (last_of client list) (leads_all g q s list e (open_is s.mode o)))
    (λ _. plain_fed (read_moves clock s (read_entry s.cp list client number cred c)) g q s list came
    (plain_if (nat_le s.grant clock) _ _ (tt, tt) (tt, tt))))
    (λ _. says_fed g q s list came (Refuses client number NotYetOpen)))
    (λ _. says_fed g q s list came (Refuses client number (NotLeader (hint_of q s.role)))))

-- ---- join

chosen_fed : (g : Group Entry) (q : Place) (s : Server Entry) (list : List Entry)
    (reports : Trio (Option Report)) (o : Option Plan)
    → Fed g q s list [] (chosen_moves q s reports o)
unfolding Fed
chosen_fed g q s list reports None = (λ _. tt, tt)
chosen_fed g q s list reports (Some plan) =
    let g1 = moved g q s (Collecting reports) in
    let s1 = act q (g.clock q) s (Collecting reports) in
    let g2 = moved g1 q s1 (Choosing plan (greatest reports)) in
    let s2 = record s { duty = Chose s.promised plan } in
    let p = new_page plan (greatest reports) (take plan.start (g.page (greatest reports)).list) in
    let is = put_same g.page s.promised p in (
      λ _. tt,
      (
        λ _. tt,
        fed_sends (Form s.promised plan) (other_storers q plan.storers) (form_moves q s2 plan) q
            s2 list []
            g2.page
            (λ x e. forms_fed x q s2 list plan
            (ap (λ (f : ℕ → Page Entry). (f s.promised).formed) e ∙ ap (λ (r : Page Entry).
            r.formed) is)
            (sym (ap (λ (f : ℕ → Page Entry). (f s.promised).plan) e ∙ ap (λ (r : Page Entry).
            r.plan) is)))
            g2 refl,
      ),
    )

join_fed : (g : Group Entry) (q : Place) (s : Server Entry) (list : List Entry) (from : Place)
    (v : ℕ) (t : Report) (d : Duty) → Fed g q s list [] (on_join q s from v t d)
join_fed g q s list from v t NoDuty = fed_none g q s list []
join_fed g q s list from v t (Chose w plan) = fed_none g q s list []
join_fed g q s list from v t (Collects reports) = fed_if g q s list [] (v == s.promised) _ []
    (λ _. chosen_fed g q s list (with_at reports from (Some t))
    (choose (with_at reports from (Some t))))
    (λ _. fed_none g q s list [])

form_fed : (g : Group Entry) (q : Place) (s : Server Entry) (list : List Entry) (v : ℕ)
    (plan : Plan) → (g.page v).formed ≡ true → (g.page v).plan ≡ plan
    → Fed g q s list [] (on_form q s v plan)
form_fed g q s list v plan f known = fed_if g q s list [] (v == s.promised) _ []
    (λ t.
    let e = is_eq' v s.promised t in
    forms_fed g q s list plan (subst (λ n. (g.page n).formed ≡ true) e f)
    (sym (subst (λ n. (g.page n).plan ≡ plan) e known)))
    (λ _. fed_none g q s list [])

-- ---- whole steps

message_fed : (size : List Entry → Entry → ℕ) (g : Group Entry) (q : Place) (s : Server Entry)
    (list : List Entry) (came : List RecordFields) (from : Place) (m : Message Entry)
    → Carries g.page m came → BodyOk g.page g.joins g.committed from q m
    → Fed g q s list came (on_message size q (g.clock q) list s from m)
message_fed size g q s list came from (Invite v) c b = plain_fed _ g q s list came
    (plain_if (nat_lt s.promised v) (Joining v NoDuty ∷ Sending from (Join v (report_of s)) ∷ []) _
    (tt, (tt, tt)) (plain_if (all_of (joined_tests s v)) _ [] (tt, tt) tt))
message_fed size g q s list came from (Join v t) c b =
    subst (λ x. Fed g q s list x (on_join q s from v t s.duty)) (sym c)
    (join_fed g q s list from v t s.duty)
message_fed size g q s list came from (Form v plan) c b =
    subst (λ x. Fed g q s list x (on_form q s v plan)) (sym c)
    (form_fed g q s list v plan b.0 b.1)
message_fed size g q s list came from (Fetch v index) c b = plain_fed _ g q s list came
    (plain_if (all_of (serving_joined s v)) _ _
    (plain_if (all_of (held_tests s index (top s))) _ [] (tt, tt) tt)
    (plain_if (all_of (serving_accepted s v)) _ []
    (plain_if (all_of (held_tests s index s.served)) _ [] (tt, tt) tt) tt))
message_fed size g q s list came from (Give v index items) c b =
    gives_fed g q s list came v index items c.0 c.1
message_fed size g q s list came from (Formed v lb) c b = plain_fed _ g q s list came
    (plain_if (all_of (formed_tests s v)) _ [] (tt, tt) tt)
message_fed size g q s list came from (Event v index cp base e) c b =
    heeding_fed g q (g.clock q) s list came from v cp base (taken s index e)
    (taken_heeds g.page came s v index e c.0 c.1)
message_fed size g q s list came from (Beat v cp base) c b =
    heeding_fed g q (g.clock q) s list came from v cp base s.items
    (λ _. heeds_none g.page came s)
message_fed size g q s list came from (Ack v t lb until) c b = plain_fed _ g q s list came
    (plain_if (all_of (ack_tests s v)) _ []
    (tt, plain_if (nat_lt s.cp t) _ [] (tt, plain_answers _ _) tt) tt)
message_fed size g q s list came from (Demote v) c b = plain_fed _ g q s list came
    (plain_if (all_of (demote_tests q s v)) _ [] (tt, tt) tt)

deed_fed : (g : Group Entry) (q : Place) (s : Server Entry) (list : List Entry)
    (came : List RecordFields) → list ≡ take (top s) (g.page s.accepted).list
    → (d : Deed) → GoesOn d → Fed g q s list came (does q (g.clock q) list s d)
deed_fed g q s list came e Tick o =
    fed_both (if is_open s.mode then beats s else try_open q (g.clock q) s) _ g q s list came
    (plain_fed _ g q s list came (plain_first q (g.clock q) s))
    (plain_fed _ _ q _ list came (plain_last q
    (acts q (g.clock q) s (if is_open s.mode then beats s else try_open q (g.clock q) s))))
deed_fed g q s list came e Suspect o = plain_fed _ g q s list came
    (plain_if (nat_lt (s.promised / 3) limit) _ [] (tt, plain_each _ _) tt)
deed_fed g q s list came e (Ask client number cred c) o =
    ask_fed g q (g.clock q) s list came e client number cred c
deed_fed g q s list came e (Apply n) o = plain_fed _ g q s list came
    (plain_if (all_of (settled_tests q s)) _ [] (tt, tt) tt)
deed_fed g q s list came e Flush o = plain_fed _ g q s list came
    (plain_if (all_of (flush_tests q s)) _ [] (tt, tt) tt)
deed_fed g q s list came e ListTree o = plain_fed _ g q s list came
    (plain_if (all_of (settled_tests q s)) _ [] (tt, tt) tt)
deed_fed g q s list came e Power o = absurd o
deed_fed g q s list came e Crash o = absurd o

pub deed_step_fed : (size : List Entry → Entry → ℕ) (g : Group Entry) (q : Place)
    (s : Server Entry) (list : List Entry) (came : List RecordFields)
    → list ≡ take (top s) (g.page s.accepted).list → (d : Deed) → GoesOn d
    → Fed g q s list came (step size q (g.clock q) list s (Does d))
deed_step_fed size g q s list came e d o =
    fed_both (does q (g.clock q) list s d) _ g q s list came (deed_fed g q s list came e d o)
    (fed_base _ q _ list came)

pub message_step_fed : (size : List Entry → Entry → ℕ) (g : Group Entry) (q : Place)
    (s : Server Entry) (list : List Entry) (came : List RecordFields) (from : Place)
    (m : Message Entry) → Carries g.page m came → BodyOk g.page g.joins g.committed from q m
    → Fed g q s list came (step size q (g.clock q) list s (Comes from m))
message_step_fed size g q s list came from m c b =
    fed_both (rule size q (g.clock q) list s (Comes from m)) _ g q s list came
    (fed_if g q s list came (misfits q s from m) [] _ (λ _. fed_none g q s list came)
    (λ _. fed_both (on_message size q (g.clock q) list s from m) _ g q s list came
    (message_fed size g q s list came from m c b)
    (plain_fed _ _ q _ list came (plain_open q (g.clock q)
    (acts q (g.clock q) s (on_message size q (g.clock q) list s from m))))))
    (fed_base _ q _ list came)
