-- A coordinator's collector and its choice, and the machine's.
use Rattle.std.proofs.Common.{◌≡◌, ℕ, zero, suc, ◌%◌, ◌<◌, ◌==◌, Bool, true, false, List, [], ◌∷◌, ◌++◌, Option, Some, None, option_map, refl, ap, sym, ◌∙◌, subst, arith, ◌||◌, inl, inr, if◌then◌else◌}
use Rattle.std.specs.Prelude.{is_some}
use Rattle.file_tree.specs.Book.{Entry}
use Rattle.group_rules.proofs.Tests.{by_if, if_is, if_not}
use Rattle.group_rules.specs.Choose.{choose, greatest}
use Rattle.group_rules.specs.Form.{accept_moves, adopted, fits, form_moves, wanted}
use Rattle.group_rules.specs.Limits.{is_joins}
use Rattle.group_rules.specs.Joining.{chosen_moves, on_join, to_each}
use Rattle.group_rules.specs.Moves.{Choosing, Collecting, Move, Sending}
use Rattle.group_rules.specs.Names.{id_of, number_of_view, place_of, view_of}
use Rattle.group_rules.specs.Places.{Pair, Place, Trio, all_of, leader, other_storers, partner, place, same, with_at}
use Rattle.group_rules.specs.State.{Chose, Collects, Duty, Form, Message, NoDuty, Plan, Report, Server}
use Rattle.harp_types.specs.Server.{number_of}
use Rattle.harp_types.specs.Trio.{with_value}
use Rattle.harp_types.specs.View.{View}
use Rattle.harp_types.specs.declared.server.ServerId.{ServerId}
use Rattle.harp_types.specs.declared.server.ServerId.TheVariants as id
use Rattle.harp_types.specs.declared.trio.Trio.{Trio as Each}
use Rattle.harp_store.specs.Disk.{Moments, after_step, with_mark}
use Rattle.harp_store.specs.Mark.{MarkFields}
use Rattle.node.proofs.Accepts.{silent_telling}
use Rattle.node.proofs.Calls.{AreSilent, mute}
use Rattle.node.proofs.Saying.{unsaid}
use Rattle.idle_log.specs.Kept.{plan_of}
use Rattle.idle_log.specs.declared.form.Form.{Form as Form'}
use Rattle.node.specs.Collecting.{choosing}
use Rattle.node.specs.Disk.{MayLeave, disk_after, marked_by, write_mark}
use Rattle.node.specs.Node.{NodeValue, server, value}
use Rattle.node.specs.declared.state.State.{State}
use Rattle.node.specs.declared.state.Task.{Task}
use Rattle.node.specs.declared.state.Task.TheVariants as task
use Rattle.node_outputs.proofs.Makes.{makes_then}
use Rattle.node_outputs.specs.Makes.{IsMute, Makes}
use Rattle.node_outputs.specs.Said.{said}
use Rattle.node_outputs.specs.declared.outputs.Outputs.{Outputs}
use Rattle.promise.specs.Promise.{HorizonValue}
use Rattle.view_form.specs.Choice.{Collected, choice, chosen_at, collected, plan, report, reports}
use Rattle.view_form.specs.declared.join.JoinInfo.{JoinInfo}
use Rattle.view_form.specs.declared.plan.Plan.{Plan as Told}

-- ---- views back from their numbers

place_number : (n : ℕ) → n < 3 → number_of (id_of (place n)) ≡ n
place_number zero h = refl
place_number (suc zero) h = refl
place_number (suc (suc zero)) h = refl
place_number (suc (suc (suc n))) h = absurd (omega (arith, h))

pub view_number : (v : ℕ) → number_of_view (view_of v) ≡ v
view_number v =
    let rest : v % 3 < 3 = omega arith in
    omega (arith, place_number (v % 3) rest)

-- ---- joins

pub joins_back : (joins : Each (Option JoinInfo)) (from : ServerId) (t : JoinInfo)
    → reports (with_value joins from (Some t))
    ≡ with_at (reports joins) (place_of from) (Some (report t))
joins_back joins id.Zero t = refl
joins_back joins id.One t = refl
joins_back joins id.Two t = refl

map_none : {A B : Type 0} (f : A → B) (x : Option A) → option_map f x ≡ None → x ≡ None
map_none f None h = refl
map_none f (Some y) h = cc

map_some : {A B : Type 0} (f : A → B) (x : Option A) (z : B) → option_map f x ≡ Some z
    → (y : A) × (x ≡ Some y) × (f y ≡ z)
map_some f None z h = cc
map_some f (Some y) z h = (y, refl, (let same : f y ≡ z = cc in same))

-- the choice of a collector that had none
first : {A B : Type 0} (b : Option A) (x r : Option B) → b ≡ None
    → (if is_some b then None else x) ≡ r → x ≡ r
first None x r none h = h
first (Some a) x r none h = cc

-- the joins after this one
taken : (c : Collected) (from : ServerId) (t : JoinInfo) → choice c.joins ≡ None
    → (collected c from t).joins ≡ with_value c.joins from (Some t)
taken c from t none = rw none refl

at_join : (q : Place) (s : Server Entry) (from : Place) (v : ℕ) (t : Report)
    (r : Trio (Option Report)) → (v == s.promised) ≡ true → s.duty ≡ Collects r
    → on_join q s from v t s.duty
    ≡ chosen_moves q s (with_at r from (Some t)) (choose (with_at r from (Some t)))
at_join q s from v t r view duty =
    ap (on_join q s from v t) duty ∙ if_is (v == s.promised) (chosen_moves q s
    (with_at r from (Some t)) (choose (with_at r from (Some t)))) [] view

-- a join that allows no choice
pub no_choice : (q : Place) (s : Server Entry) (from : ServerId) (v : ℕ) (t : JoinInfo)
    (c : Collected) → (v == s.promised) ≡ true → s.duty ≡ Collects (reports c.joins)
    → choice c.joins ≡ None → chosen_at c from t ≡ None
    → on_join q s (place_of from) v (report t) s.duty
    ≡ Collecting (reports (collected c from t).joins) ∷ []
no_choice q s from v t c view duty none h =
    let joins = with_at (reports c.joins) (place_of from) (Some (report t)) in
    let next = with_value c.joins from (Some t) in
    let none_is : choice next ≡ None = first (choice c.joins) (choice next) None none h in
    let none' : choose joins ≡ None = ap choose (sym (joins_back c.joins from t))
    ∙ map_none (plan (view_of (greatest (reports next)))) (choose (reports next)) none_is in
    let new : reports (collected c from t).joins ≡ joins =
    ap reports (taken c from t none) ∙ joins_back c.joins from t in
    at_join q s (place_of from) v (report t) (reports c.joins) view duty
    ∙ ap (chosen_moves q s joins) none'
    ∙ ap (λ (r : Trio (Option Report)). Collecting r ∷ []) (sym new)

-- the plan that a first choice is of, and the moves that it makes
pub record Chooses (q : Place) (from : Place) (v : ℕ) (t : Report) (joins : Trio (Option Report))
    (p : Told) : Type 0 where
  pub reports : Trio (Option Report)
  pub chosen : Plan
  pub is : p ≡ plan (view_of (greatest reports)) chosen
  pub moves : (s : Server Entry) → (v == s.promised) ≡ true → s.duty ≡ Collects joins
      → on_join q s from v t s.duty ≡ choosing q s reports chosen (greatest reports)

pub a_choice : (q : Place) (from : ServerId) (v : ℕ) (t : JoinInfo) (c : Collected) (p : Told)
    → choice c.joins ≡ None → chosen_at c from t ≡ Some p
    → Chooses q (place_of from) v (report t) (reports c.joins) p
a_choice q from v t c p none h =
    let joins = with_at (reports c.joins) (place_of from) (Some (report t)) in
    let next = with_value c.joins from (Some t) in
    let some_is : choice next ≡ Some p = first (choice c.joins) (choice next) (Some p) none h in
    let is = map_some (plan (view_of (greatest (reports next)))) (choose (reports next)) p
    some_is in
    let same = joins_back c.joins from t in
    record {
      reports = joins;
      chosen = is.0;
      is = sym is.2 ∙ ap (λ (r : Trio (Option Report)). plan (view_of (greatest r)) is.0) same;
      moves = λ s view duty. at_join q s (place_of from) v (report t) (reports c.joins) view duty
          ∙ ap (chosen_moves q s joins) (ap choose (sym same) ∙ is.1);
    }

-- a join of another view
pub other_join : (q : Place) (s : Server Entry) (from : Place) (v : ℕ) (t : Report) (duty : Duty)
    → (v == s.promised) ≡ false → on_join q s from v t duty ≡ []
other_join q s from v t NoDuty other = refl
other_join q s from v t (Chose w plan) other = refl
other_join q s from v t (Collects reports) other =
    if_not (v == s.promised) (chosen_moves q s (with_at reports from (Some t))
    (choose (with_at reports from (Some t)))) [] other

-- ---- what the moves say

pub silent_forms : (m : Message Entry) (ps : List Place) → AreSilent (to_each m ps)
silent_forms m [] = tt
silent_forms m (p ∷ ps) = (tt, silent_forms m ps)

pub each_append : (m : Message Entry) (ps qs : List Place)
    → to_each m (ps ++ qs) ≡ to_each m ps ++ to_each m qs
each_append m [] qs = refl
each_append m (p ∷ ps) qs = ap (λ (ms : List (Move Entry)). Sending p m ∷ ms) (each_append m ps qs)

pub mute_forms : (m : Message Entry) (ps : List Place) → IsMute (to_each m ps)
mute_forms m ps = mute (to_each m ps) (silent_forms m ps)

-- messages leave the mark
pub marks_sent : (mark : MarkFields) (m : Message Entry) (ps : List Place)
    (ms : List (Move Entry)) → marked_by mark (to_each m ps ++ ms) ≡ marked_by mark ms
marks_sent mark m [] ms = refl
marks_sent mark m (p ∷ ps) ms = marks_sent mark m ps ms

pub writes_sent : (m : Message Entry) (ps : List Place) (ms : List (Move Entry))
    → write_mark (to_each m ps ++ ms) ≡ write_mark ms
writes_sent m [] ms = refl
writes_sent m (p ∷ ps) ms = writes_sent m ps ms

pub silent_form : (q : Place) (s : Server Entry) (plan : Plan) → AreSilent (form_moves q s plan)
silent_form q s plan =
    by_if AreSilent (all_of (is_joins s.mode ∷ fits q s plan ∷ [])) _ []
    (λ joins. by_if AreSilent (same q plan.source || (wanted q s plan == plan.start))
    (accept_moves q s plan []) _
    (λ whole. (tt, silent_telling q s.promised plan (adopted q s plan []).lb))
    (λ part. (tt, (tt, tt)))) (λ none_is. tt)

pub mute_form : (q : Place) (s : Server Entry) (plan : Plan) → IsMute (form_moves q s plan)
mute_form q s plan = mute (form_moves q s plan) (silent_form q s plan)

-- ---- a choice

-- the choice, the Forms, and the coordinator's own part
pub chooses : (q : Place) (clock : ℕ) (s mid new : Server Entry) (reports : Trio (Option Report))
    (p : Plan) (from : ℕ) (o chose sent after : Outputs)
    → mid ≡ record s { duty = Chose s.promised p }
    → said chose ≡ record (said o) { chosen = Some (s.promised, from) }
    → Makes q clock (to_each (Form s.promised p) (other_storers q p.storers)) [] mid mid chose sent
    → Makes q clock (form_moves q mid p) [] mid new sent after
    → Makes q clock (choosing q s reports p from) [] s new o after
chooses q clock s mid new reports p from o chose sent after is told forms part =
    let own = Collecting reports ∷ Choosing p from ∷ [] in
    let each = to_each (Form s.promised p) (other_storers q p.storers) in
    let first : Makes q clock own [] s mid o chose = record {
      state = is;
      said = told ∙ unsaid (record (said o) { chosen = Some (s.promised, from) });
    } in
    let sends = makes_then q clock own each [] [] s mid mid o chose sent first forms
    (mute_forms (Form s.promised p) (other_storers q p.storers)) in
    let all = makes_then q clock (own ++ each) (form_moves q mid p) [] [] s mid new o sent after
    sends part (mute_form q mid p) in
    subst (λ (x : Server Entry). Makes q clock ((own ++ each) ++ form_moves q x p) [] s new o
    after)
    is all

pub choosing_marks : (mark : MarkFields) (q : Place) (s : Server Entry)
    (reports : Trio (Option Report)) (p : Plan) (from : ℕ)
    → marked_by mark (choosing q s reports p from)
    ≡ marked_by mark (form_moves q (record s { duty = Chose s.promised p }) p)
choosing_marks mark q s reports p from =
    marks_sent mark (Form s.promised p) (other_storers q p.storers)
    (form_moves q (record s { duty = Chose s.promised p }) p)

pub choosing_writes : (q : Place) (s : Server Entry) (reports : Trio (Option Report)) (p : Plan)
    (from : ℕ) → write_mark (choosing q s reports p from)
    ≡ write_mark (form_moves q (record s { duty = Chose s.promised p }) p)
choosing_writes q s reports p from = writes_sent (Form s.promised p) (other_storers q p.storers)
    (form_moves q (record s { duty = Chose s.promised p }) p)

-- moves that write the same mark
pub same_disk : (ms ns : List (Move Entry)) (mark : MarkFields) (told : Option Moments)
    → write_mark ms ≡ write_mark ns → disk_after ms mark told ≡ disk_after ns mark told
same_disk ms ns mark told is =
    ap (λ (b : Bool). if b then after_step (with_mark mark) told else told) is

pub same_leaves : (ms ns : List (Move Entry)) (m k : MarkFields) (old new : Option Moments)
    → write_mark ms ≡ write_mark ns → m ≡ k → MayLeave ns k old new → MayLeave ms m old new
same_leaves ms ns m k old new writes is (inl h) = inl h
same_leaves ms ns m k old new writes is (inr h) =
    inr (writes ∙ h.0, h.1 ∙ ap (λ (x : MarkFields). after_step (with_mark x) old) (sym is))

-- ---- at a node

-- a Form to each of the storers
pub sends_both : (q a b : Place) (clock : ℕ) (pair : Pair) (m : Message Entry) (s : Server Entry)
    (o p r : Outputs) → a ≡ leader pair → b ≡ partner pair
    → Makes q clock (to_each m (if same q a then [] else a ∷ [])) [] s s o p
    → Makes q clock (to_each m (if same q b then [] else b ∷ [])) [] s s p r
    → Makes q clock (to_each m (other_storers q pair)) [] s s o r
sends_both q a b clock pair m s o p r leads follows first second =
    let one : Place → List Place = λ x. if same q x then [] else x ∷ [] in
    let to_leader = subst (λ (x : Place). Makes q clock (to_each m (one x)) [] s s o p) leads
    first in
    let to_partner = subst (λ (x : Place). Makes q clock (to_each m (one x)) [] s s p r) follows
    second in
    subst (λ (ms : List (Move Entry)). Makes q clock ms [] s s o r)
    (sym (each_append m (one (leader pair)) (one (partner pair))))
    (makes_then q clock (to_each m (one (leader pair))) (to_each m (one (partner pair))) [] []
    s s s o p r to_leader to_partner (mute_forms m (one (partner pair))))

-- the coordinator with its choice
chose_is : (me : ServerId) (mark : MarkFields) (horizon : HorizonValue) (served : ℕ) (duty : Task)
    (st : State) (view : View) (form : Form') (chosen : Plan) (items : List Entry)
    → view ≡ mark.promised → plan_of form ≡ chosen
    → server (value me mark horizon served (task.Chose view form) st) items
    ≡ record (server (value me mark horizon served duty st) items) {
      duty = Chose (number_of_view mark.promised) chosen;
    }
chose_is me mark horizon served duty st view form chosen items same is =
    let s = server (value me mark horizon served duty st) items in
    ap (λ (v : View). record s { duty = Chose (number_of_view v) (plan_of form) }) same
    ∙ ap (λ (p : Plan). record s { duty = Chose (number_of_view mark.promised) p }) is

pub node_chooses : (me : ServerId) (mark : MarkFields) (horizon : HorizonValue) (served : ℕ)
    (duty : Task) (st : State) (n : NodeValue) (view : View) (form : Form') (choice : Told)
    (reports : Trio (Option Report)) (from : ℕ) (chosen : Plan) (items : List Entry) (clock : ℕ)
    (o chose sent after : Outputs) (new : Server Entry)
    → value me mark horizon served duty st ≡ n → view ≡ mark.promised
    → choice ≡ plan (view_of from) chosen → plan_of form ≡ chosen
    → said chose ≡ record (said o) {
      chosen = Some (number_of_view view, number_of_view choice.from);
    }
    → ((s : Server Entry) (clock : ℕ) → Makes (place_of me) clock
    (to_each (Form (number_of_view mark.promised) (plan_of form))
    (other_storers (place_of me) (plan_of form).storers)) [] s s chose sent)
    → (let mid = server (value me mark horizon served (task.Chose view form) st) items in
    Makes (place_of me) clock (form_moves (place_of me) mid (plan_of form)) [] mid new sent after)
    → Makes n.me clock (choosing n.me (server n items) reports chosen from) [] (server n items) new
    o after
node_chooses me mark horizon served duty st n view form choice reports from chosen items clock o
    chose sent after new is same chooses_it plans told forms part =
    let q = place_of me in
    let s = server (value me mark horizon served duty st) items in
    let mid = server (value me mark horizon served (task.Chose view form) st) items in
    let number : number_of_view choice.from ≡ from =
    ap (λ (p : Told). number_of_view p.from) chooses_it ∙ view_number from in
    let tells : said chose ≡ record (said o) { chosen = Some (s.promised, from) } =
    told ∙ ap (λ (v : View). record (said o) {
      chosen = Some (number_of_view v, number_of_view choice.from);
    }) same
    ∙ ap (λ (k : ℕ). record (said o) { chosen = Some (number_of_view mark.promised, k) }) number in
    let sends = subst (λ (p : Plan). Makes q clock
    (to_each (Form (number_of_view mark.promised) p) (other_storers q p.storers)) [] mid mid
    chose sent) plans (forms mid clock) in
    let own = subst (λ (p : Plan). Makes q clock (form_moves q mid p) [] mid new sent after) plans
    part in
    subst (λ (n : NodeValue). Makes n.me clock (choosing n.me (server n items) reports chosen from)
    [] (server n items) new o after) is
    (chooses q clock s mid new reports chosen from o chose sent after
    (chose_is me mark horizon served duty st view form chosen items same plans) tells sends own)

-- the coordinator's own part, whichever way it is seen
pub own_part : (me : ServerId) (mark : MarkFields) (horizon : HorizonValue) (served : ℕ)
    (duty : Task) (st : State) (n : NodeValue) (view : View) (form : Form') (chosen : Plan)
    → value me mark horizon served duty st ≡ n → view ≡ mark.promised → plan_of form ≡ chosen
    → form_moves (place_of me) (value me mark horizon served (task.Chose view form) st).plain
    (plan_of form)
    ≡ form_moves n.me (record (n.plain) { duty = Chose n.plain.promised chosen }) chosen
own_part me mark horizon served duty st n view form chosen is same plans =
    let old = value me mark horizon served duty st in
    ap (λ (v : View). form_moves (place_of me) (value me mark horizon served (task.Chose v form)
    st).plain (plan_of form)) same
    ∙ ap (λ (p : Plan). form_moves (place_of me) (record (old.plain) {
      duty = Chose old.plain.promised p;
    }) p) plans
    ∙ ap (λ (n : NodeValue). form_moves n.me (record (n.plain) {
      duty = Chose n.plain.promised chosen;
    }) chosen) is

pub chosen_marks : (me : ServerId) (mark : MarkFields) (horizon : HorizonValue) (served : ℕ)
    (duty : Task) (st : State) (n : NodeValue) (view : View) (form : Form')
    (reports : Trio (Option Report)) (from : ℕ) (chosen : Plan)
    → value me mark horizon served duty st ≡ n → view ≡ mark.promised → plan_of form ≡ chosen
    → marked_by n.mark (choosing n.me n.plain reports chosen from)
    ≡ marked_by mark (form_moves (place_of me)
    (value me mark horizon served (task.Chose view form) st).plain (plan_of form))
chosen_marks me mark horizon served duty st n view form reports from chosen is same plans =
    choosing_marks n.mark n.me n.plain reports chosen from
    ∙ ap (marked_by n.mark)
    (sym (own_part me mark horizon served duty st n view form chosen is same plans))
    ∙ ap (λ (x : NodeValue). marked_by x.mark (form_moves (place_of me)
    (value me mark horizon served (task.Chose view form) st).plain (plan_of form))) (sym is)

pub chosen_writes : (me : ServerId) (mark : MarkFields) (horizon : HorizonValue) (served : ℕ)
    (duty : Task) (st : State) (n : NodeValue) (view : View) (form : Form')
    (reports : Trio (Option Report)) (from : ℕ) (chosen : Plan)
    → value me mark horizon served duty st ≡ n → view ≡ mark.promised → plan_of form ≡ chosen
    → write_mark (choosing n.me n.plain reports chosen from)
    ≡ write_mark (form_moves (place_of me)
    (value me mark horizon served (task.Chose view form) st).plain (plan_of form))
chosen_writes me mark horizon served duty st n view form reports from chosen is same plans =
    choosing_writes n.me n.plain reports chosen from
    ∙ ap write_mark (sym (own_part me mark horizon served duty st n view form chosen is same
    plans))

pub chosen_disk : (me : ServerId) (mark : MarkFields) (horizon : HorizonValue) (served : ℕ)
    (duty : Task) (st : State) (n : NodeValue) (view : View) (form : Form')
    (reports : Trio (Option Report)) (from : ℕ) (chosen : Plan) (new : MarkFields)
    (told : Option Moments) → value me mark horizon served duty st ≡ n → view ≡ mark.promised
    → plan_of form ≡ chosen
    → disk_after (form_moves (place_of me)
    (value me mark horizon served (task.Chose view form) st).plain (plan_of form)) new told
    ≡ disk_after (choosing n.me n.plain reports chosen from) new told
chosen_disk me mark horizon served duty st n view form reports from chosen new told is same plans =
    sym (same_disk (choosing n.me n.plain reports chosen from) (form_moves (place_of me)
    (value me mark horizon served (task.Chose view form) st).plain (plan_of form)) new told
    (chosen_writes me mark horizon served duty st n view form reports from chosen is same plans))

pub chosen_part : (me : ServerId) (mark : MarkFields) (horizon : HorizonValue) (served : ℕ)
    (duty : Task) (st : State) (n : NodeValue) (view : View) (form : Form')
    (reports : Trio (Option Report)) (from : ℕ) (chosen : Plan) (old told : Option Moments)
    → value me mark horizon served duty st ≡ n → view ≡ mark.promised → plan_of form ≡ chosen
    → (let ms = form_moves (place_of me)
    (value me mark horizon served (task.Chose view form) st).plain (plan_of form) in
    MayLeave ms (marked_by mark ms) old told)
    → (let ms = choosing n.me n.plain reports chosen from in
    MayLeave ms (marked_by n.mark ms) old told)
chosen_part me mark horizon served duty st n view form reports from chosen old told is same plans
    h =
    let own = form_moves (place_of me)
    (value me mark horizon served (task.Chose view form) st).plain (plan_of form) in
    let all = choosing n.me n.plain reports chosen from in
    same_leaves all own (marked_by n.mark all) (marked_by mark own) old told
    (chosen_writes me mark horizon served duty st n view form reports from chosen is same plans)
    (chosen_marks me mark horizon served duty st n view form reports from chosen is same plans) h
