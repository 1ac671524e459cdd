-- The most bytes that the moves of one step send.
use Rattle.std.proofs.Common.{◌≡◌, ◌≤◌, ◌+◌, ◌*◌, ◌-◌, ◌==◌, ℕ, Bool, true, false, List, [], ◌∷◌, ◌++◌, length, take, drop, Option, Some, None, refl, ap, ◌∙◌, arith, length-append, if◌then◌else◌}
use Rattle.std.specs.Prelude.{nat_lt}
use Rattle.std.specs.List.{sum_by}
use Rattle.std.proofs.lemmas.List.{length-take}
use Rattle.std.proofs.lemmas.List.Concat.{flat_map-append}
use Rattle.std.proofs.lemmas.List.Sums.{sum_by-append}
use Rattle.harp_types.specs.Limits.{last_client}
use Rattle.harp_types.specs.Update.{is_update}
use Rattle.harp_types.specs.declared.call.Call.{Call}
use Rattle.harp_types.specs.declared.cred.Cred.{Cred}
use Rattle.file_tree.specs.Book.{Entry, last_of}
use Rattle.group_rules.specs.Ask.{append, hint_of, new_entry, on_ask, read_entry, read_moves, refuse, update_moves}
use Rattle.group_rules.specs.Choose.{choose}
use Rattle.group_rules.specs.Form.{accept_moves, form_moves, on_form, on_give}
use Rattle.group_rules.specs.Joining.{chosen_moves, on_invite, on_join, suspect, to_each}
use Rattle.group_rules.specs.Limits.{is_active, is_open, is_pulls}
use Rattle.group_rules.specs.Misfits.{misfits}
use Rattle.group_rules.specs.Moves.{Collecting, Move, Saying, Sending, acts}
use Rattle.group_rules.specs.Open.{open_heard, open_moves, rebase, try_open}
use Rattle.group_rules.specs.Places.{Zero, One, Two, Place, Pair, Trio, all_of, get, leader, next_view, other_storers, others, partner, same, is_s01, with_at}
use Rattle.group_rules.specs.Replicate.{answers, on_ack, on_event}
use Rattle.group_rules.specs.Said.{sends_said}
use Rattle.group_rules.specs.Serving.{gives, on_fetch}
use Rattle.group_rules.specs.State.{Ack, Answers, BadClient, Beat, Cause, NotLeader, NotYetOpen, Chose, Collects, Demote, Duty, Event, Fetch, Form, Formed, Give, Invite, Join, Message, NoDuty, Plan, Refuses, Report, Server, top}
use Rattle.group_rules.specs.Step.{Apply, Ask, Comes, Crash, Deed, Does, Flush, Input, ListTree, Power, Suspect, Tick, does, on_message, rule, step}
use Rattle.group_rules.specs.Tick.{again, again_tests, beats, duties, events, invite_again, tick, unacknowledged}

-- the most bytes of a message: a hundred where it carries no record
abbrev pub weight : Message Entry → ℕ
weight (Invite v) = 100
weight (Join v t) = 100
weight (Form v plan) = 100
weight (Fetch v index) = 100
weight (Give v index items) = 60034
weight (Formed v lb) = 100
weight (Event v index cp base e) = 60034
weight (Beat v cp base) = 100
weight (Ack v t lb until) = 100
weight (Demote v) = 100

weight_of : List (Move Entry) → ℕ
weight_of ms = sum_by (λ (p : Place × Message Entry). weight p.1) (sends_said ms)

both : (ms ns : List (Move Entry)) → weight_of (ms ++ ns) ≡ weight_of ms + weight_of ns
unfolding weight_of
both ms ns =
    ap (sum_by (λ (p : Place × Message Entry). weight p.1)) (flat_map-append _ ms ns)
    ∙ sum_by-append (λ (p : Place × Message Entry). weight p.1) (sends_said ms) (sends_said ns)

either : (b : Bool) (n : ℕ) (ms ns : List (Move Entry)) → weight_of ms ≤ n → weight_of ns ≤ n
    → weight_of (if b then ms else ns) ≤ n
either true n ms ns h k = h
either false n ms ns h k = k

none : (n : ℕ) → weight_of [] ≤ n
unfolding weight_of
none n = omega arith

one : (to : Place) (m : Message Entry) (n : ℕ) → weight m ≤ n → weight_of (Sending to m ∷ []) ≤ n
unfolding weight_of
one to m n h = omega (arith, h)

-- ---- moves that send nothing

abbrev IsSilent : Move Entry → Type 0
IsSilent (Sending to m) = ⊥
IsSilent m = Unit {0}

skip : (m : Move Entry) (ms : List (Move Entry)) → IsSilent m → weight_of (m ∷ ms) ≡ weight_of ms
unfolding weight_of
skip (Sending to m) ms h = absurd h
skip m ms h = refl

behind : (m : Move Entry) (ms : List (Move Entry)) (n : ℕ) → IsSilent m → weight_of ms ≤ n
    → weight_of (m ∷ ms) ≤ n
behind m ms n h k = omega (arith, skip m ms h, k)

alone : (m : Move Entry) (n : ℕ) → IsSilent m → weight_of (m ∷ []) ≤ n
alone m n h = behind m [] n h (none n)

says : (n index : ℕ) (es : List Entry) → weight_of (answers index es) ≤ n
says n index [] = none n
says n index (e ∷ es) =
    behind (Saying (Answers (index + 1) e)) (answers (index + 1) es) n tt (says n (index + 1) es)

-- ---- the same message to several

each_of : (m : Message Entry) (places : List Place) → weight m ≤ 100
    → weight_of (to_each m places) ≤ 100 * length places
each_of m [] h = none 0
each_of m (p ∷ ps) h = omega (
  arith,
  both (Sending p m ∷ []) (to_each m ps),
  one p m 100 h,
  each_of m ps h,
)

others_are : (q : Place) → length (others q) ≡ 2
others_are Zero = refl
others_are One = refl
others_are Two = refl

maybe_one : (b : Bool) (p : Place) → let ps : List Place = if b then [] else p ∷ [] in
    length ps ≤ 1
maybe_one true p = omega arith
maybe_one false p = omega arith

two_of : (a b : List Place) → length a ≤ 1 → length b ≤ 1 → length (a ++ b) ≤ 2
two_of a b h k = omega (arith, h, k, length-append a b)

storers_few : (q : Place) (pair : Pair) → length (other_storers q pair) ≤ 2
storers_few q pair = two_of (if same q (leader pair) then [] else leader pair ∷ [])
    (if same q (partner pair) then [] else partner pair ∷ [])
    (maybe_one (same q (leader pair)) (leader pair))
    (maybe_one (same q (partner pair)) (partner pair))

forms : (v : ℕ) (plan : Plan) (q : Place)
    → weight_of (to_each (Form v plan) (other_storers q plan.storers)) ≤ 200
forms v plan q =
    let m : Message Entry = Form v plan in
    let to : List Place = other_storers q plan.storers in
    omega (arith, each_of m to (omega arith), storers_few q plan.storers)

-- ---- a view is formed

suspects : (q : Place) (s : Server Entry) → weight_of (suspect q s) ≤ 200
suspects q s =
    let m : Message Entry = Invite (next_view s.promised q) in
    let sent : weight_of (to_each m (others q)) ≤ 200 =
    omega (arith, each_of m (others q) (omega arith), others_are q) in
    either _ 200 _ [] (behind _ _ 200 tt sent) (none 200)

invites : (s : Server Entry) (from : Place) (v : ℕ) → weight_of (on_invite s from v) ≤ 100
invites s from v = either _ 100 _ _ (behind _ _ 100 tt (one from _ 100 (omega arith)))
    (either _ 100 _ [] (one from _ 100 (omega arith)) (none 100))

accepts : (q : Place) (s : Server Entry) (plan : Plan) (staged : List Entry)
    → weight_of (accept_moves q s plan staged) ≤ 100
accepts q s plan staged =
    behind _ _ 100 tt (either _ 100 _ [] (one _ _ 100 (omega arith)) (none 100))

takes_part : (q : Place) (s : Server Entry) (plan : Plan) → weight_of (form_moves q s plan) ≤ 100
takes_part q s plan = either _ 100 _ []
    (either _ 100 _ _ (accepts q s plan []) (behind _ _ 100 tt (one _ _ 100 (omega arith))))
    (none 100)

takes_form : (q : Place) (s : Server Entry) (v : ℕ) (plan : Plan)
    → weight_of (on_form q s v plan) ≤ 100
takes_form q s v plan = either _ 100 _ [] (takes_part q s plan) (none 100)

chooses : (q : Place) (s : Server Entry) (reports : Trio (Option Report)) (o : Option Plan)
    → weight_of (chosen_moves q s reports o) ≤ 300
chooses q s reports None = alone (Collecting reports) 300 tt
chooses q s reports (Some plan) = behind _ _ 300 tt (behind _ _ 300 tt (omega (
  arith,
  both (to_each (Form s.promised plan) (other_storers q plan.storers))
      (form_moves q (record s { duty = Chose s.promised plan }) plan),
  forms s.promised plan q,
  takes_part q (record s { duty = Chose s.promised plan }) plan,
)))

joins : (q : Place) (s : Server Entry) (from : Place) (v : ℕ) (t : Report) (d : Duty)
    → weight_of (on_join q s from v t d) ≤ 300
joins q s from v t NoDuty = none 300
joins q s from v t (Chose w plan) = none 300
joins q s from v t (Collects reports) =
    let all : Trio (Option Report) = with_at reports from (Some t) in
    either (v == s.promised) 300 (chosen_moves q s all (choose all)) []
    (chooses q s all (choose all)) (none 300)

pulls : (q : Place) (s : Server Entry) (v index : ℕ) (items : List Entry)
    → weight_of (on_give q s v index items) ≤ 100
pulls q s v index items = either _ 100 _ []
    (either _ 100 _ _ (accepts q s s.plan (s.staged ++ items))
    (behind _ _ 100 tt (one _ _ 100 (omega arith)))) (none 100)

gives_one : (size : List Entry → Entry → ℕ) (list : List Entry) (s : Server Entry) (to : Place)
    (v index last : ℕ) → weight_of (gives size list s to v index last) ≤ 60034
gives_one size list s to v index last =
    either _ 60034 _ [] (one to _ 60034 (omega arith)) (none 60034)

serves : (size : List Entry → Entry → ℕ) (list : List Entry) (s : Server Entry) (from : Place)
    (v index : ℕ) → weight_of (on_fetch size list s from v index) ≤ 60034
serves size list s from v index = either _ 60034 _ _ (gives_one size list s from v index (top s))
    (either _ 60034 _ [] (gives_one size list s from v index s.served) (none 60034))

-- ---- a view opens and runs

opened : (s : Server Entry) (lb : ℕ) → weight_of (open_moves s lb) ≤ 200
opened s lb = behind _ _ 200 tt (omega (
  arith,
  both (if is_s01 s.plan.storers then Sending Two (Demote s.accepted) ∷ [] else [])
      (Sending (partner s.plan.storers) (Beat s.accepted (top s) s.base) ∷ []),
  either (is_s01 s.plan.storers) 100 (Sending Two (Demote s.accepted) ∷ []) []
      (one Two (Demote s.accepted) 100 (omega arith)) (none 100),
  one (partner s.plan.storers) (Beat s.accepted (top s) s.base) 100 (omega arith),
))

opens_heard : (clock : ℕ) (s : Server Entry) (o : Option ℕ)
    → weight_of (open_heard clock s o) ≤ 200
opens_heard clock s None = none 200
opens_heard clock s (Some lb) = either _ 200 _ [] (opened s lb) (none 200)

opens : (q : Place) (clock : ℕ) (s : Server Entry) → weight_of (try_open q clock s) ≤ 200
opens q clock s =
    either _ 200 _ [] (opens_heard clock s (get s.heard (partner s.plan.storers))) (none 200)

rebases : (s : Server Entry) → weight_of (rebase s) ≤ 0
rebases s = either _ 0 _ [] (alone _ 0 tt) (none 0)

heeds : (q : Place) (clock : ℕ) (s : Server Entry) (from : Place) (v cp base : ℕ)
    (items : List Entry) → weight_of (on_event q clock s from v cp base items) ≤ 100
heeds q clock s from v cp base items =
    either _ 100 _ [] (behind _ _ 100 tt (one from _ 100 (omega arith))) (none 100)

acknowledged : (s : Server Entry) (v t lb until : ℕ) → weight_of (on_ack s v t lb until) ≤ 0
acknowledged s v t lb until = either _ 0 _ []
    (behind _ _ 0 tt (either _ 0 _ [] (behind _ _ 0 tt (says 0 s.cp _)) (none 0))) (none 0)

-- ---- an ask

refuses : (client number : ℕ) (cause : Cause) → weight_of (refuse client number cause) ≤ 60034
refuses client number cause = alone (Saying (Refuses client number cause)) 60034 tt

appends : (s : Server Entry) (e : Entry) → weight_of (append s e) ≤ 60034
appends s e = either _ 60034 _ _ (alone _ 60034 tt)
    (behind _ _ 60034 tt (one _ _ 60034 (omega arith)))

updates : (s : Server Entry) (e : Entry) (o : Option Entry) → weight_of (update_moves s e o) ≤ 60034
updates s e None = appends s e
updates s e (Some last) = either _ 60034 _ _ (either _ 60034 _ [] (alone _ 60034 tt) (none 60034))
    (either _ 60034 _ _ (alone _ 60034 tt) (appends s e))

reads : (clock : ℕ) (s : Server Entry) (e : Entry) → weight_of (read_moves clock s e) ≤ 60034
reads clock s e = either _ 60034 _ _ (alone _ 60034 tt) (alone _ 60034 tt)

-- ---- a tick

sends_events : (to : Place) (v cp base n : ℕ) (es : List Entry)
    → weight_of (events to v cp base n es) ≤ 60034 * length es
sends_events to v cp base n [] = none 0
sends_events to v cp base n (e ∷ es) = omega (
  arith,
  both (Sending to (Event v (n + 1) cp base e) ∷ []) (events to v cp base (n + 1) es),
  one to (Event v (n + 1) cp base e) 60034 (omega arith),
  sends_events to v cp base (n + 1) es,
)

few_events : (to : Place) (v cp base n : ℕ) (es : List Entry)
    → weight_of (events to v cp base n (take 64 es)) ≤ 3842176
few_events to v cp base n es =
    omega (arith, sends_events to v cp base n (take 64 es), length-take 64 es)

beating : (s : Server Entry) → weight_of (beats s) ≤ 3842276
beating s =
    let to : Place = partner s.plan.storers in
    let n : ℕ = unacknowledged s in
    let es : List Entry = drop (n - s.base) s.items in
    omega (
      arith,
      both (Sending to (Beat s.accepted s.cp s.base) ∷ [])
          (events to s.accepted s.cp s.base n (take 64 es)),
      one to (Beat s.accepted s.cp s.base) 100 (omega arith),
      few_events to s.accepted s.cp s.base n es,
    )

invited : (v : ℕ) (q : Place) (o : Option Report) → weight_of (invite_again v q o) ≤ 100
invited v q None = one q (Invite v) 100 (omega arith)
invited v q (Some t) = none 100

has_duties : (q : Place) (s : Server Entry) (d : Duty) → weight_of (duties q s d) ≤ 300
has_duties q s NoDuty = none 300
has_duties q s (Collects reports) =
    let a : List (Move Entry) = invite_again s.promised Zero (get reports Zero) in
    let b : List (Move Entry) = invite_again s.promised One (get reports One) in
    let c : List (Move Entry) = invite_again s.promised Two (get reports Two) in
    omega (
      arith,
      both a (b ++ c),
      both b c,
      invited s.promised Zero (get reports Zero),
      invited s.promised One (get reports One),
      invited s.promised Two (get reports Two),
    )
has_duties q s (Chose v plan) =
    let sent : weight_of (to_each (Form v plan) (other_storers q plan.storers)) ≤ 300 =
    omega (arith, forms v plan q) in
    either _ 300 _ [] sent (none 300)

sends_again : (q : Place) (s : Server Entry) → weight_of (again q s) ≤ 200
sends_again q s =
    let fetch : Message Entry = Fetch s.promised (s.wanted_from + length s.staged + 1) in
    let pulls : List (Move Entry) =
    if is_pulls s.mode then Sending s.plan.source fetch ∷ [] else [] in
    let formed : Message Entry = Formed s.accepted s.lb in
    let waits : List (Move Entry) =
    if all_of (again_tests q s) then Sending (leader s.plan.storers) formed ∷ [] else [] in
    omega (
      arith,
      both pulls waits,
      either (is_pulls s.mode) 100 (Sending s.plan.source fetch ∷ []) []
          (one s.plan.source fetch 100 (omega arith)) (none 100),
      either (all_of (again_tests q s)) 100 (Sending (leader s.plan.storers) formed ∷ []) []
          (one (leader s.plan.storers) formed 100 (omega arith)) (none 100),
    )

ticks : (q : Place) (clock : ℕ) (s : Server Entry) → weight_of (tick q clock s) ≤ 3842976
ticks q clock s =
    let first : List (Move Entry) = if is_open s.mode then beats s else try_open q clock s in
    let after : Server Entry = acts q clock s first in
    let beaten : weight_of (beats s) ≤ 3842476 = omega (arith, beating s) in
    let opened : weight_of (try_open q clock s) ≤ 3842476 = omega (arith, opens q clock s) in
    let begun : weight_of first ≤ 3842476 = either (is_open s.mode) 3842476 _ _ beaten opened in
    omega (
      arith,
      both first (duties q after after.duty ++ again q after),
      both (duties q after after.duty) (again q after),
      begun,
      has_duties q after after.duty,
      sends_again q after,
    )

-- ---- a step

asks : (q : Place) (clock : ℕ) (list : List Entry) (s : Server Entry) (client number : ℕ)
    (cred : Cred) (c : Call) → weight_of (on_ask q clock list s client number cred c) ≤ 60034
asks q clock list s client number cred c =
    let e : Entry = new_entry clock list client number cred c in
    let r : Entry = read_entry s.cp list client number cred c in
    let runs : weight_of (if is_update c then update_moves s e (last_of client list)
    else read_moves clock s r) ≤ 60034 =
    either (is_update c) 60034 _ _ (updates s e (last_of client list)) (reads clock s r) in
    let led : weight_of (if is_open s.mode then (if is_update c
    then update_moves s e (last_of client list) else read_moves clock s r)
    else refuse client number NotYetOpen) ≤ 60034 =
    either (is_open s.mode) 60034 _ _ runs (refuses client number NotYetOpen) in
    either (nat_lt last_client client) 60034 (refuse client number BadClient) _
    (refuses client number BadClient) (either
    (all_of (is_active s.mode ∷ same q (leader s.plan.storers) ∷ [])) 60034 _ _ led
    (refuses client number (NotLeader (hint_of q s.role))))

within : (n : ℕ) (ms : List (Move Entry)) → n ≤ 3842976 → weight_of ms ≤ n
    → weight_of ms ≤ 3842976
within n ms h k = omega (arith, h, k)

deeds : (q : Place) (clock : ℕ) (list : List Entry) (s : Server Entry) (d : Deed)
    → weight_of (does q clock list s d) ≤ 3842976
deeds q clock list s Tick = ticks q clock s
deeds q clock list s Suspect = within 200 _ (omega arith) (suspects q s)
deeds q clock list s (Ask client number cred c) =
    within 60034 _ (omega arith) (asks q clock list s client number cred c)
deeds q clock list s (Apply n) = either _ 3842976 _ [] (alone _ 3842976 tt) (none 3842976)
deeds q clock list s Flush = either _ 3842976 _ [] (alone _ 3842976 tt) (none 3842976)
deeds q clock list s ListTree = either _ 3842976 _ [] (alone _ 3842976 tt) (none 3842976)
deeds q clock list s Power = alone _ 3842976 tt
deeds q clock list s Crash = alone _ 3842976 tt

small : (n : ℕ) (ms : List (Move Entry)) → n ≤ 60034 → weight_of ms ≤ n → weight_of ms ≤ 60034
small n ms h k = omega (arith, h, k)

messages : (size : List Entry → Entry → ℕ) (q : Place) (clock : ℕ) (list : List Entry)
    (s : Server Entry) (from : Place) (m : Message Entry)
    → weight_of (on_message size q clock list s from m) ≤ 60034
messages size q clock list s from (Invite v) = small 100 _ (omega arith) (invites s from v)
messages size q clock list s from (Join v t) =
    small 300 _ (omega arith) (joins q s from v t s.duty)
messages size q clock list s from (Form v plan) =
    small 100 _ (omega arith) (takes_form q s v plan)
messages size q clock list s from (Fetch v index) = serves size list s from v index
messages size q clock list s from (Give v index items) =
    small 100 _ (omega arith) (pulls q s v index items)
messages size q clock list s from (Formed v lb) =
    either _ 60034 _ [] (alone _ 60034 tt) (none 60034)
messages size q clock list s from (Event v index cp base e) =
    small 100 _ (omega arith) (heeds q clock s from v cp base _)
messages size q clock list s from (Beat v cp base) =
    small 100 _ (omega arith) (heeds q clock s from v cp base s.items)
messages size q clock list s from (Ack v t lb until) =
    small 0 _ (omega arith) (acknowledged s v t lb until)
messages size q clock list s from (Demote v) =
    either _ 60034 _ [] (alone _ 60034 tt) (none 60034)

rules : (size : List Entry → Entry → ℕ) (q : Place) (clock : ℕ) (list : List Entry)
    (s : Server Entry) (i : Input) → weight_of (rule size q clock list s i) ≤ 3842976
rules size q clock list s (Does d) = deeds q clock list s d
rules size q clock list s (Comes from m) =
    let ms : List (Move Entry) = on_message size q clock list s from m in
    let after : Server Entry = acts q clock s ms in
    let taken : weight_of (ms ++ try_open q clock after) ≤ 3842976 =
    omega (
      arith,
      both ms (try_open q clock after),
      messages size q clock list s from m,
      opens q clock after,
    ) in
    either (misfits q s from m) 3842976 [] _ (none 3842976) taken

steps_within : (size : List Entry → Entry → ℕ) (q : Place) (clock : ℕ) (list : List Entry)
    (s : Server Entry) (i : Input) → weight_of (step size q clock list s i) ≤ 3842976
steps_within size q clock list s i =
    let ms : List (Move Entry) = rule size q clock list s i in
    let after : Server Entry = acts q clock s ms in
    omega (arith, both ms (rebase after), rules size q clock list s i, rebases after)

pub steps_weigh : (size : List Entry → Entry → ℕ) (q : Place) (clock : ℕ) (list : List Entry)
    (s : Server Entry) (i : Input)
    → sum_by (λ (p : Place × Message Entry). weight p.1) (sends_said (step size q clock list s i))
    ≤ 3842976
unfolding weight_of
steps_weigh size q clock list s i = steps_within size q clock list s i
