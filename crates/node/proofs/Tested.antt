-- What the tests of messages come to.
use Rattle.std.proofs.Common.{◌≡◌, ℕ, ◌+◌, ◌-◌, ◌<◌, ◌≤◌, ◌==◌, Bool, true, false, not, List, [], ◌∷◌, ◌++◌, length, refl, sym, ap, ◌∙◌, subst, arith, nat_le, if◌then◌else◌}
use Rattle.std.proofs.lemmas.Bool.{eq-eqb, ne_eqb}
use Rattle.std.proofs.lemmas.Bool.Decides.{nat_tests}
use Rattle.std.proofs.lemmas.List.{length-append}
use Rattle.file_tree.specs.Book.{Entry}
use Rattle.group_rules.proofs.Tests.{each_of, if_is, is_le, le_is, not_false}
use Rattle.group_rules.specs.Effects.{taken}
use Rattle.group_rules.specs.Form.{fits}
use Rattle.group_rules.specs.Limits.{is_active, is_joins, room}
use Rattle.group_rules.specs.Misfits.{heard_tests, led_tests, misfits, room_tests, told_tests}
use Rattle.group_rules.specs.Names.{id_of, number_of_view, place_of}
use Rattle.group_rules.specs.Places.{Zero, One, Two, Place, all_of, coordinator, leader, partner, same}
use Rattle.group_rules.specs.Replicate.{is_in_view}
use Rattle.group_rules.specs.State.{Form as SendsForm, Plan, Server, top}
use Rattle.harp_types.specs.Limits.{log_room}
use Rattle.harp_types.specs.View.{View}
use Rattle.harp_types.specs.declared.server.ServerId.{ServerId}
use Rattle.harp_store.specs.Mark.{MarkFields}
use Rattle.idle_log.specs.Kept.{plan_of, with_kept}
use Rattle.idle_log.specs.declared.form.Form.{Form}
use Rattle.idle_log.specs.declared.kept.Kept.{Kept}
use Rattle.node.proofs.Heeds.{no_first}
use Rattle.node.specs.Active.{is_followed, is_led}
use Rattle.node.specs.Node.{NodeValue, value}
use Rattle.node.specs.State.{Fits, IsKept, mode_in}
use Rattle.node.specs.declared.state.Joining.{Joining}
use Rattle.node.specs.declared.state.State.{State}
use Rattle.node.specs.declared.state.State.TheVariants as state
use Rattle.node.specs.declared.state.Task.{Task}
use Rattle.node_outputs.specs.Messages.{pair_heard}
use Rattle.promise.specs.Promise.{HorizonValue}
use Rattle.view_form.proofs.Views.{view_back}
use Rattle.replica.proofs.Lists.{entries_length}
use Rattle.replica.specs.Following.{Following}
use Rattle.replica.specs.Leading.{Leading}
use Rattle.volatile_log.specs.Log.{LogValue, top as top_of}
use Rattle.wire.specs.Storers.{leader_of, partner_of}
use Rattle.wire.specs.declared.storers.Storers.{Storers}
use Rattle.wire.specs.declared.storers.Storers.TheVariants as storers

pub partner_heard : (s : Storers) → place_of (partner_of s) ≡ partner (pair_heard s)
partner_heard storers.ZeroOne = refl
partner_heard storers.ZeroTwo = refl
partner_heard storers.OneTwo = refl

pub leader_heard : (s : Storers) → place_of (leader_of s) ≡ leader (pair_heard s)
leader_heard storers.ZeroOne = refl
leader_heard storers.ZeroTwo = refl
leader_heard storers.OneTwo = refl

-- ---- what the plan of a view says of a server that is active there

-- a test of a server, where another one holds
pub where_in : (inside : Bool) (a b : Bool) → inside ≡ true → a ≡ b
    → a ≡ (if inside then b else true)
where_in true a b is same = same
where_in false a b is same = cc

two_of : (a b : Bool) → all_of (a ∷ b ∷ []) ≡ (if a then b else false)
unfolding all_of
two_of true true = refl
two_of true false = refl
two_of false b = refl

three_of : (a b c : Bool) → all_of (a ∷ b ∷ c ∷ [])
    ≡ (if a then (if b then c else false) else false)
unfolding all_of
three_of true true true = refl
three_of true true false = refl
three_of true false c = refl
three_of false b c = refl

pub and_true : (r x : Bool) → r ≡ true → x ≡ (if r then x else false)
and_true true x known = refl
and_true false x known = cc

pub and_false : (r x : Bool) → r ≡ false → r ≡ (if r then x else false)
and_false true x known = cc
and_false false x known = refl

-- who a message is of
from_partner : (s : Server Entry) (from : Place) (plan : Form) (other : ServerId) (b : Bool)
    → plan_of plan ≡ s.plan → other ≡ partner_of plan.storers → b ≡ same from (place_of other)
    → b ≡ same from (partner s.plan.storers)
from_partner s from plan other b at is test = test
    ∙ ap (λ (p : ServerId). same from (place_of p)) is
    ∙ ap (same from) (partner_heard plan.storers)
    ∙ ap (λ (p : Plan). same from (partner p.storers)) at

from_leader : (s : Server Entry) (from : Place) (plan : Form) (other : ServerId) (b : Bool)
    → plan_of plan ≡ s.plan → other ≡ leader_of plan.storers → b ≡ same from (place_of other)
    → b ≡ same from (leader s.plan.storers)
from_leader s from plan other b at is test = test
    ∙ ap (λ (p : ServerId). same from (place_of p)) is
    ∙ ap (same from) (leader_heard plan.storers)
    ∙ ap (λ (p : Plan). same from (leader p.storers)) at

pub heard_is : (s : Server Entry) (from : Place) (lb : ℕ) (plan : Form) (other : ServerId)
    (b : Bool) → plan_of plan ≡ s.plan → other ≡ partner_of plan.storers
    → b ≡ same from (place_of other)
    → (if b then nat_le lb plan.start else false) ≡ all_of (heard_tests s from lb)
heard_is s from lb plan other b at is test =
    ap (λ (x : Bool). if x then nat_le lb plan.start else false)
    (from_partner s from plan other b at is test)
    ∙ ap (λ (p : Plan). if same from (partner s.plan.storers) then nat_le lb p.start else false) at
    ∙ sym (two_of (same from (partner s.plan.storers)) (nat_le lb s.plan.start))

pub led_is : (s : Server Entry) (from : Place) (base lb : ℕ) (plan : Form) (other : ServerId)
    (b : Bool) → plan_of plan ≡ s.plan → other ≡ leader_of plan.storers
    → b ≡ same from (place_of other) → lb ≡ s.lb
    → (if b then nat_le base lb else false) ≡ all_of (led_tests s from base)
led_is s from base lb plan other b at is test low =
    ap (λ (x : Bool). if x then nat_le base lb else false)
    (from_leader s from plan other b at is test)
    ∙ ap (λ k. if same from (leader s.plan.storers) then nat_le base k else false) low
    ∙ sym (two_of (same from (leader s.plan.storers)) (nat_le base s.lb))

pub told_is : (s : Server Entry) (from : Place) (t lb high : ℕ) (plan : Form) (other : ServerId)
    (b : Bool) → plan_of plan ≡ s.plan → other ≡ partner_of plan.storers
    → b ≡ same from (place_of other) → high ≡ top s
    → (if b then (if nat_le t high then nat_le lb t else false) else false)
    ≡ all_of (told_tests s from t lb)
told_is s from t lb high plan other b at is test same_top =
    ap (λ (x : Bool). if x then (if nat_le t high then nat_le lb t else false) else false)
    (from_partner s from plan other b at is test)
    ∙ ap (λ k. if same from (partner s.plan.storers)
    then (if nat_le t k then nat_le lb t else false) else false) same_top
    ∙ sym (three_of (same from (partner s.plan.storers)) (nat_le t (top s)) (nat_le lb t))

-- ---- a Form at a server that joined

-- what a server that joined keeps
pub joined_kept : (me : Place) (mark : MarkFields) (s : State) (kept : Kept) (joining : Joining)
    → s ≡ state.Joined kept joining → Fits me mark s → IsKept me mark kept
joined_kept me mark s kept joining at fits = (subst (λ (x : State). Fits me mark x) at fits).0

kept_plain : (me : ServerId) (mark : MarkFields) (horizon : HorizonValue) (served : ℕ)
    (duty : Task) (kept : Kept) (joining : Joining) → IsKept (place_of me) mark kept
    → with_kept (record ((value me mark horizon served duty (state.Joined kept joining)).plain) {
      lb = mark.lb;
    }) kept
    ≡ (value me mark horizon served duty (state.Joined kept joining)).plain
kept_plain me mark horizon served duty kept joining is =
    ap (λ k. record ((value me mark horizon served duty (state.Joined kept joining)).plain)
    { lb = k })
    is.lb

joined_then : (a b : Bool) (x : Bool) → a ≡ true → b ≡ true
    → x ≡ (if all_of (a ∷ b ∷ []) then x else true)
unfolding all_of
joined_then a b x h k = rw (h, k) refl

-- what the tests of a Form give
pub fits_joined : (me : ServerId) (mark : MarkFields) (horizon : HorizonValue) (served : ℕ)
    (duty : Task) (s : State) (kept : Kept) (joining : Joining) (n : NodeValue) (v : ℕ)
    (plan : Plan) (lb : ℕ) (r : Bool)
    → value me mark horizon served duty s ≡ n → s ≡ state.Joined kept joining
    → IsKept (place_of me) mark kept → (v == n.plain.promised) ≡ true → lb ≡ mark.lb
    → ((t : Server Entry) → r ≡ fits (place_of me) (with_kept (record t { lb = lb }) kept) plan)
    → r ≡ (if all_of ((v == n.plain.promised) ∷ is_joins n.plain.mode ∷ [])
    then fits n.me n.plain plan else true)
fits_joined me mark horizon served duty s kept joining n v plan lb r of at is test low tested =
    let old = value me mark horizon served duty (state.Joined kept joining) in
    let whole : old ≡ n = ap (value me mark horizon served duty) (sym at) ∙ of in
    let here : r ≡ fits (place_of me) old.plain plan =
    tested old.plain
    ∙ ap (λ k. fits (place_of me) (with_kept (record (old.plain) { lb = k }) kept) plan) low
    ∙ ap (λ (t : Server Entry). fits (place_of me) t plan)
    (kept_plain me mark horizon served duty kept joining is) in
    let there : r ≡ fits n.me n.plain plan =
    here ∙ ap (λ (x : NodeValue). fits x.me x.plain plan) whole in
    there ∙ joined_then (v == n.plain.promised) (is_joins n.plain.mode) (fits n.me n.plain plan)
    test
    (ap (λ (x : NodeValue). is_joins x.plain.mode) (sym whole))

pub promised_test : (me : ServerId) (mark : MarkFields) (horizon : HorizonValue) (served : ℕ)
    (duty : Task) (s : State) (n : NodeValue) (v a : View) (r b : Bool)
    → value me mark horizon served duty s ≡ n → a ≡ mark.promised
    → r ≡ (number_of_view v == number_of_view a) → r ≡ b
    → (number_of_view v == n.plain.promised) ≡ b
promised_test me mark horizon served duty s n v a r b of at is known =
    ap (λ (x : NodeValue). number_of_view v == x.plain.promised) (sym of)
    ∙ ap (λ (x : View). number_of_view v == number_of_view x) (sym at) ∙ sym is ∙ known

-- ---- room

one_test : (b : Bool) → b ≡ all_of (b ∷ [])
unfolding all_of
one_test true = refl
one_test false = refl

abbrev pub HasRoomFor : ℕ → ℕ → ℕ → ℕ → Bool → Type 0
HasRoomFor own high base index r = (items : List Entry) (e : Entry) → own + length items ≡ high
    → r ≡ nat_le (length (if index == high + 1 then items ++ e ∷ [] else items) - (base - own)) room

-- what a log with these numbers has room for is what the server has
pub room_is : (s : Server Entry) (base index own high : ℕ) (e : Entry) (r : Bool)
    → own ≡ s.base → high ≡ top s → HasRoomFor own high base index r
    → r ≡ all_of (room_tests s base (taken s index e))
room_is s base index own high e r low up has =
    let here : HasRoomFor s.base (top s) base index r =
    subst (λ k. HasRoomFor s.base k base index r) up
    (subst (λ k. HasRoomFor k high base index r) low has) in
    here s.items e refl
    ∙ one_test (nat_le (length (taken s index e) - (base - s.base)) room)

room_cases : (b : Bool) (own high base index r d : ℕ) (items : List Entry) (e : Entry)
    → own + length items ≡ high → d ≡ base - own
    → r ≡ (if b then high - own + 1 else high - own) - d
    → nat_le r log_room ≡ nat_le (length (if b then items ++ e ∷ [] else items) - (base - own)) room
unfolding room
room_cases true own high base index r d items e count drop is =
    let same : r ≡ length (items ++ e ∷ []) - (base - own) =
    omega (arith, is, drop, count, length-append items (e ∷ [])) in
    ap (λ k. nat_le k log_room) same
room_cases false own high base index r d items e count drop is =
    let same : r ≡ length items - (base - own) = omega (arith, is, drop, count) in
    ap (λ k. nat_le k log_room) same

pub room_next : (own high base index r d : ℕ) (items : List Entry) (e : Entry)
    → own + length items ≡ high → d ≡ base - own → index ≡ high + 1 → r ≡ high - own + 1 - d
    → nat_le r log_room
    ≡ nat_le (length (if index == high + 1 then items ++ e ∷ [] else items) - (base - own)) room
room_next own high base index r d items e count drop next is =
    room_cases true own high base index r d items e count drop is
    ∙ ap (λ (b : Bool). nat_le (length (if b then items ++ e ∷ [] else items) - (base - own)) room)
    (sym (eq-eqb index (high + 1) next))

pub room_other : (own high base index r d : ℕ) (items : List Entry) (e : Entry)
    → own + length items ≡ high → d ≡ base - own → (index ≡ high + 1 → ⊥) → r ≡ high - own - d
    → nat_le r log_room
    ≡ nat_le (length (if index == high + 1 then items ++ e ∷ [] else items) - (base - own)) room
room_other own high base index r d items e count drop other is =
    room_cases false own high base index r d items e count drop is
    ∙ ap (λ (b : Bool). nat_le (length (if b then items ++ e ∷ [] else items) - (base - own)) room)
    (sym (ne_eqb index (high + 1) other))

-- what the test of room gives
pub room_from : (s : Server Entry) (v base index : ℕ) (e : Entry) (r : Bool) → not r ≡ false
    → r ≡ (if is_in_view s v then all_of (room_tests s base (taken s index e)) else true)
    → is_in_view s v ≡ true → index ≡ top s + 1
    → length s.items < room + (base - s.base)
room_from s v base index e r passed is inside next =
    let tested : all_of (room_tests s base (taken s index e)) ≡ true =
    sym (if_is (is_in_view s v) _ true inside) ∙ sym is ∙ not_false r passed in
    let within = is_le (length (taken s index e) - (base - s.base)) room
    (each_of (room_tests s base (taken s index e)) tested).0 in
    let count : length (taken s index e) ≡ length s.items + 1 =
    ap (λ (b : Bool). length (if b then s.items ++ e ∷ [] else s.items))
    (eq-eqb index (top s + 1) next) ∙ length-append s.items (e ∷ []) in
    omega (arith, within, count)

-- the numbers of a server's log
pub led_numbers : (me : ServerId) (mark : MarkFields) (horizon : HorizonValue) (served : ℕ)
    (duty : Task) (s : State) (l : Leading) (plan : Form) (n : NodeValue) (log : LogValue)
    (own high base index : ℕ) (e : Entry) (r : Bool)
    → value me mark horizon served duty s ≡ n → s ≡ state.Leads l plan → log ≡ l.log
    → own ≡ log.base → high ≡ top_of log → HasRoomFor own high base index r
    → r ≡ all_of (room_tests n.plain base (taken n.plain index e))
led_numbers me mark horizon served duty s l plan n log own high base index e r of at is low up has =
    let whole : value me mark horizon served duty (state.Leads l plan) ≡ n =
    ap (value me mark horizon served duty) (sym at) ∙ of in
    room_is n.plain base index own high e r
    (low ∙ ap (λ (x : LogValue). x.base) is ∙ ap (λ (x : NodeValue). x.plain.base) whole)
    (up ∙ ap top_of is ∙ ap (λ k. l.log.base + k) (sym (entries_length l.log))
    ∙ ap (λ (x : NodeValue). top x.plain) whole) has

pub followed_numbers : (me : ServerId) (mark : MarkFields) (horizon : HorizonValue) (served : ℕ)
    (duty : Task) (s : State) (f : Following) (plan : Form) (n : NodeValue) (log : LogValue)
    (own high base index : ℕ) (e : Entry) (r : Bool)
    → value me mark horizon served duty s ≡ n → s ≡ state.Follows f plan → log ≡ f.log
    → own ≡ log.base → high ≡ top_of log → HasRoomFor own high base index r
    → r ≡ all_of (room_tests n.plain base (taken n.plain index e))
followed_numbers me mark horizon served duty s f plan n log own high base index e r of at is low up
    has =
    let whole : value me mark horizon served duty (state.Follows f plan) ≡ n =
    ap (value me mark horizon served duty) (sym at) ∙ of in
    room_is n.plain base index own high e r
    (low ∙ ap (λ (x : LogValue). x.base) is ∙ ap (λ (x : NodeValue). x.plain.base) whole)
    (up ∙ ap top_of is ∙ ap (λ k. f.log.base + k) (sym (entries_length f.log))
    ∙ ap (λ (x : NodeValue). top x.plain) whole) has

-- outside the view nothing is tested
pub untested : (inside b : Bool) → inside ≡ false → true ≡ (if inside then b else true)
untested true b is = cc
untested false b is = refl

never_active : (s : State) → is_led s ≡ false → is_followed s ≡ false
    → is_active (mode_in s) ≡ false
never_active state.Gone h k = refl
never_active (state.Rests kept) h k = refl
never_active (state.Joined kept joining) h k = refl
never_active (state.Pulls kept joining plan staged) h k = refl
never_active (state.Leads leader plan) h k = cc
never_active (state.Follows partner plan) h k = cc

pub not_active : (me : ServerId) (mark : MarkFields) (horizon : HorizonValue) (served : ℕ)
    (duty : Task) (s : State) (n : NodeValue) (v : ℕ) → value me mark horizon served duty s ≡ n
    → is_led s ≡ false → is_followed s ≡ false → is_in_view n.plain v ≡ false
not_active me mark horizon served duty s n v of led followed =
    no_first (is_active n.plain.mode) ((v == n.plain.accepted) ∷ [])
    (ap (λ (x : NodeValue). is_active x.plain.mode) (sym of) ∙ never_active s led followed)

-- ---- the coordinator of a view

place_back : (s : ServerId) (p : Place) → id_of p ≡ s → p ≡ place_of s
place_back s Zero is = ap place_of is
place_back s One is = ap place_of is
place_back s Two is = ap place_of is

coordinated : (v : View) → coordinator (number_of_view v) ≡ place_of v.coordinator
coordinated v = place_back v.coordinator (coordinator (number_of_view v))
    (ap (λ (w : View). w.coordinator) (view_back v))

form_tested : (own sent x t : Bool) → own ≡ false → sent ≡ true → t ≡ x
    → not t ≡ not (all_of (not own ∷ sent ∷ x ∷ []))
unfolding all_of
form_tested true sent x t h k l = cc
form_tested false true true t h k l = ap not l
form_tested false true false t h k l = ap not l
form_tested false false x t h k l = cc

unsent : (own sent x : Bool) → own ≡ false → sent ≡ false
    → true ≡ not (all_of (not own ∷ sent ∷ x ∷ []))
unfolding all_of
unsent true sent x h k = cc
unsent false true x h k = cc
unsent false false x h k = refl

-- the sender of a Form
pub form_misfits : (n : NodeValue) (from me : ServerId) (v : View) (plan : Plan)
    (c : ServerId) (own sent t : Bool)
    → place_of me ≡ n.me → own ≡ same (place_of from) (place_of me) → own ≡ false
    → c ≡ v.coordinator → sent ≡ same (place_of from) (place_of c) → sent ≡ true
    → t ≡ (if all_of ((number_of_view v == n.plain.promised) ∷ is_joins n.plain.mode ∷ [])
    then fits n.me n.plain plan else true)
    → not t ≡ misfits n.me n.plain (place_of from) (SendsForm (number_of_view v) plan)
form_misfits n from me v plan c own sent t here is other at by coordinates tested =
    form_tested (same (place_of from) n.me) (same (place_of from) (coordinator (number_of_view v)))
    (if all_of ((number_of_view v == n.plain.promised) ∷ is_joins n.plain.mode ∷ [])
    then fits n.me n.plain plan else true) t
    (ap (same (place_of from)) (sym here) ∙ sym is ∙ other)
    (ap (same (place_of from)) (coordinated v)
    ∙ ap (λ (x : ServerId). same (place_of from) (place_of x)) (sym at) ∙ sym by ∙ coordinates)
    tested

pub form_unsent : (n : NodeValue) (from me : ServerId) (v : View) (plan : Plan)
    (c : ServerId) (own sent : Bool)
    → place_of me ≡ n.me → own ≡ same (place_of from) (place_of me) → own ≡ false
    → c ≡ v.coordinator → sent ≡ same (place_of from) (place_of c) → sent ≡ false
    → true ≡ misfits n.me n.plain (place_of from) (SendsForm (number_of_view v) plan)
form_unsent n from me v plan c own sent here is other at by unsent_by =
    unsent (same (place_of from) n.me) (same (place_of from) (coordinator (number_of_view v)))
    (if all_of ((number_of_view v == n.plain.promised) ∷ is_joins n.plain.mode ∷ [])
    then fits n.me n.plain plan else true)
    (ap (same (place_of from)) (sym here) ∙ sym is ∙ other)
    (ap (same (place_of from)) (coordinated v)
    ∙ ap (λ (x : ServerId). same (place_of from) (place_of x)) (sym at) ∙ sym by ∙ unsent_by)

-- ---- an Ack's numbers

above_top : (t high : ℕ) → high < t → nat_le t high ≡ false
above_top t high h = grind (arith, nat_tests)

pub told_by_other : (r : Bool) (t high lb : ℕ) → r ≡ false
    → false ≡ (if r then (if nat_le t high then nat_le lb t else false) else false)
told_by_other r t high lb other = rw other refl

pub told_above : (r : Bool) (t high lb : ℕ) → r ≡ true → high < t
    → false ≡ (if r then (if nat_le t high then nat_le lb t else false) else false)
told_above r t high lb by over = rw (by, above_top t high over) refl

pub told_within : (r : Bool) (t high lb : ℕ) → r ≡ true → t ≤ high
    → nat_le lb t ≡ (if r then (if nat_le t high then nat_le lb t else false) else false)
told_within r t high lb by within = rw (by, le_is t high within) refl
