-- Which messages make moves that answer nobody, and which write no mark.
use Rattle.std.proofs.Common.{◌≡◌, ℕ, ◌+◌, Bool, true, false, List, [], ◌∷◌, ◌++◌, length, Option, refl, if◌then◌else◌}
use Rattle.std.specs.Prelude.{None, Some, ◌-◌, ◌==◌, drop, nat_lt, take}
use Rattle.file_tree.specs.Book.{Entry}
use Rattle.group_rules.specs.Choose.{choose}
use Rattle.group_rules.specs.Disk.{demote_tests}
use Rattle.group_rules.specs.Form.{accept_moves, adopted, pull_tests}
use Rattle.group_rules.specs.Joining.{chosen_moves, joined_tests, on_join}
use Rattle.group_rules.specs.Misfits.{misfits}
use Rattle.group_rules.specs.Moves.{Move, acts}
use Rattle.group_rules.specs.Open.{formed_tests}
use Rattle.group_rules.specs.Places.{Place, Trio, all_of, other_storers, partner, same, with_at}
use Rattle.group_rules.specs.Replicate.{ack_tests, answers, is_in_view}
use Rattle.group_rules.specs.Serving.{gives, held_tests, serving_accepted, serving_joined}
use Rattle.group_rules.specs.State.{Ack, Beat, Chose, Collects, Demote, Duty, Event, Fetch, Form, Formed, Give, Invite, Join, Message, NoDuty, Plan, Report, Server, top}
use Rattle.group_rules.specs.Step.{Comes, on_message, rule}
use Rattle.node.proofs.Accepts.{silent_telling}
use Rattle.node.proofs.Calls.{AreSilent, mute}
use Rattle.node.proofs.Collects.{silent_form, silent_forms}
use Rattle.node.proofs.Marks.{none_if, none_then, opens_unmarked}
use Rattle.node.proofs.Takes.{silent_if, silent_open, silent_then}
use Rattle.node.specs.Disk.{write_mark}
use Rattle.node_outputs.specs.Makes.{IsMute}

pub silent_either : (b : Bool) (ms ns : List (Move Entry)) → AreSilent ms → AreSilent ns
    → AreSilent (if b then ms else ns)
silent_either true ms ns h k = h
silent_either false ms ns h k = k

-- ---- each message but an Ack

silent_accept : (q : Place) (s : Server Entry) (plan : Plan) (staged : List Entry)
    → AreSilent (accept_moves q s plan staged)
silent_accept q s plan staged =
    (tt, silent_telling q s.promised plan (adopted q s plan staged).lb)

silent_chosen : (q : Place) (s : Server Entry) (reports : Trio (Option Report))
    (chosen : Option Plan) → AreSilent (chosen_moves q s reports chosen)
silent_chosen q s reports None = (tt, tt)
silent_chosen q s reports (Some plan) = (
  tt,
  (
    tt,
    silent_then _ _
        (silent_forms (Form s.promised plan) (other_storers q plan.storers))
        (silent_form q (record s { duty = Chose s.promised plan }) plan),
  ),
)

silent_join : (q : Place) (s : Server Entry) (from : Place) (v : ℕ) (t : Report) (duty : Duty)
    → AreSilent (on_join q s from v t duty)
silent_join q s from v t NoDuty = tt
silent_join q s from v t (Chose w plan) = tt
silent_join q s from v t (Collects reports) =
    silent_if (v == s.promised) _ (silent_chosen q s (with_at reports from (Some t))
    (choose (with_at reports from (Some t))))

silent_gives : (size : List Entry → Entry → ℕ) (list : List Entry) (s : Server Entry)
    (to : Place) (v index last : ℕ) → AreSilent (gives size list s to v index last)
silent_gives size list s to v index last =
    silent_if (all_of (held_tests s index last)) _ (tt, tt)

-- what an Ack asks for an answer, and no other message does
abbrev pub IsNoAck : Message Entry → Type 0
IsNoAck (Ack v t lb until) = ⊥
IsNoAck m = Unit {0}

pub silent_message : (size : List Entry → Entry → ℕ) (q : Place) (clock : ℕ) (list : List Entry)
    (s : Server Entry) (from : Place) (m : Message Entry) → IsNoAck m
    → AreSilent (on_message size q clock list s from m)
silent_message size q clock list s from (Invite v) none =
    silent_either (nat_lt s.promised v) _ _ (tt, (tt, tt))
    (silent_if (all_of (joined_tests s v)) _ (tt, tt))
silent_message size q clock list s from (Join v t) none = silent_join q s from v t s.duty
silent_message size q clock list s from (Form v plan) none =
    silent_if (v == s.promised) _ (silent_form q s plan)
silent_message size q clock list s from (Fetch v index) none =
    silent_either (all_of (serving_joined s v)) _ _
    (silent_gives size list s from v index (top s))
    (silent_if (all_of (serving_accepted s v)) _ (silent_gives size list s from v index s.served))
silent_message size q clock list s from (Give v index items) none =
    silent_if (all_of (pull_tests s v index items)) _
    (silent_either (s.wanted_from + length (s.staged ++ items) == s.plan.start) _ _
    (silent_accept q s s.plan (s.staged ++ items)) (tt, (tt, tt)))
silent_message size q clock list s from (Formed v lb) none =
    silent_if (all_of (formed_tests s v)) _ (tt, tt)
silent_message size q clock list s from (Event v index cp base e) none =
    silent_if (all_of (is_in_view s v ∷ same q (partner s.plan.storers) ∷ [])) _ (tt, (tt, tt))
silent_message size q clock list s from (Beat v cp base) none =
    silent_if (all_of (is_in_view s v ∷ same q (partner s.plan.storers) ∷ [])) _ (tt, (tt, tt))
silent_message size q clock list s from (Ack v t lb until) none = absurd none
silent_message size q clock list s from (Demote v) none =
    silent_if (all_of (demote_tests q s v)) _ (tt, tt)

pub mute_rule : (size : List Entry → Entry → ℕ) (q : Place) (clock : ℕ) (list : List Entry)
    (s : Server Entry) (from : Place) (m : Message Entry) → IsNoAck m
    → IsMute (rule size q clock list s (Comes from m))
mute_rule size q clock list s from m none = mute _ (silent_either (misfits q s from m) [] _ tt
    (silent_then (on_message size q clock list s from m) _
    (silent_message size q clock list s from m none) (silent_open q clock
    (acts q clock s (on_message size q clock list s from m)))))

-- ---- messages that write no mark

-- what is heard of a running view, or of a log
abbrev pub KeepsMark : Message Entry → Type 0
KeepsMark (Fetch v index) = Unit {0}
KeepsMark (Formed v lb) = Unit {0}
KeepsMark (Event v index cp base e) = Unit {0}
KeepsMark (Beat v cp base) = Unit {0}
KeepsMark (Ack v t lb until) = Unit {0}
KeepsMark m = ⊥

pub none_either : (b : Bool) (ms ns : List (Move Entry)) → write_mark ms ≡ false
    → write_mark ns ≡ false → write_mark (if b then ms else ns) ≡ false
none_either true ms ns h k = h
none_either false ms ns h k = k

none_answers : (n : ℕ) (es : List Entry) → write_mark (answers n es) ≡ false
none_answers n [] = refl
none_answers n (e ∷ es) = none_answers (n + 1) es

none_message : (size : List Entry → Entry → ℕ) (q : Place) (clock : ℕ) (list : List Entry)
    (s : Server Entry) (from : Place) (m : Message Entry) → KeepsMark m
    → write_mark (on_message size q clock list s from m) ≡ false
none_message size q clock list s from (Fetch v index) keeps =
    none_either (all_of (serving_joined s v)) _ _ (none_if (all_of (held_tests s index (top s))) _
    refl)
    (none_if (all_of (serving_accepted s v)) _
    (none_if (all_of (held_tests s index s.served)) _ refl))
none_message size q clock list s from (Formed v lb) keeps =
    none_if (all_of (formed_tests s v)) _ refl
none_message size q clock list s from (Event v index cp base e) keeps =
    none_if (all_of (is_in_view s v ∷ same q (partner s.plan.storers) ∷ [])) _ refl
none_message size q clock list s from (Beat v cp base) keeps =
    none_if (all_of (is_in_view s v ∷ same q (partner s.plan.storers) ∷ [])) _ refl
none_message size q clock list s from (Ack v t lb until) keeps =
    none_if (all_of (ack_tests s v)) _ (none_if (nat_lt s.cp t) _
    (none_answers s.cp (take (t - s.cp) (drop (s.cp - s.base) s.items))))
none_message size q clock list s from (Invite v) keeps = absurd keeps
none_message size q clock list s from (Join v t) keeps = absurd keeps
none_message size q clock list s from (Form v plan) keeps = absurd keeps
none_message size q clock list s from (Give v index items) keeps = absurd keeps
none_message size q clock list s from (Demote v) keeps = absurd keeps

pub rule_unmarked : (size : List Entry → Entry → ℕ) (q : Place) (clock : ℕ) (list : List Entry)
    (s : Server Entry) (from : Place) (m : Message Entry) → KeepsMark m
    → write_mark (rule size q clock list s (Comes from m)) ≡ false
rule_unmarked size q clock list s from m keeps = none_either (misfits q s from m) [] _ refl
    (none_then (on_message size q clock list s from m) _
    (none_message size q clock list s from m keeps) (opens_unmarked q clock
    (acts q clock s (on_message size q clock list s from m))))
