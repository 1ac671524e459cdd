-- Which moves of steps write the mark, whatever the saved log, and which list the tree.
use Rattle.std.proofs.Common.{◌≡◌, ℕ, ◌+◌, ◌||◌, ◌==◌, Bool, true, false, List, [], ◌∷◌, ◌++◌, Option, Some, None, length, refl, sym, ap, ◌∙◌, nat_lt, nat_le, true≢false, if◌then◌else◌}
use Rattle.std.specs.Prelude.{◌-◌, ◌/◌, drop, take}
use Rattle.file_tree.specs.Book.{Entry, last_of}
use Rattle.group_rules.specs.Ask.{append, new_entry, on_ask, update_moves}
use Rattle.group_rules.specs.Choose.{choose}
use Rattle.group_rules.specs.Disk.{flush_tests, settled_tests}
use Rattle.group_rules.specs.Joining.{chosen_moves, on_join, to_each}
use Rattle.group_rules.specs.Limits.{is_active, is_open, limit, room}
use Rattle.group_rules.specs.Misfits.{misfits}
use Rattle.group_rules.specs.Moves.{Move, acts}
use Rattle.group_rules.specs.Open.{base_tests, rebase, try_open}
use Rattle.group_rules.specs.Places.{Place, Trio, all_of, leader, others, same, with_at}
use Rattle.group_rules.specs.Replicate.{ack_tests, answers}
use Rattle.group_rules.specs.State.{Ack, Beat, Chose, Collects, Demote, Duty, Event, Fetch, Form, Formed, Give, Invite, Join, Message, NoDuty, Plan, Report, Saved, Server, top}
use Rattle.group_rules.specs.Step.{Apply, Ask, Comes, Crash, Does, Flush, Input, ListTree, Power, Suspect, Tick, on_message, rule, step}
use Rattle.group_rules.specs.Tick.{tick}
use Rattle.harp_types.specs.Update.{is_update}
use Rattle.harp_types.specs.declared.call.Call.{Call}
use Rattle.harp_types.specs.declared.cred.Cred.{Cred}
use Rattle.node.proofs.Calls.{AreSilent}
use Rattle.node.proofs.Marks.{alike_then, opens_unmarked}
use Rattle.node.proofs.Mute.{silent_message}
use Rattle.node.proofs.Stepped.{silent_tick, step_alike, tick_unmarked}
use Rattle.node.proofs.Takes.{silent_open}
use Rattle.node.specs.Disk.{write_mark, writes_mark}
use Rattle.node_outputs.specs.Said.{listed_by, listed_of}
use Rattle.store_laws.specs.Steps.{any_marks, is_of_cells, marks}
use Rattle.group_rules.specs.Moves.{Accepting, Choosing, Collecting, Demoting, Hearing, Heeding, Joining, Opening, Pulling, Sending, Staging, Basing}

-- ---- both words for a move that writes the mark

one_marks : (m : Move Entry) → marks m ≡ writes_mark m
one_marks (Joining v duty) = refl
one_marks (Accepting plan role n) = refl
one_marks (Demoting v) = refl
one_marks m = refl

pub any_marks_are : (ms : List (Move Entry)) → any_marks ms ≡ write_mark ms
any_marks_are [] = refl
any_marks_are (m ∷ ms) = ap (λ (b : Bool). if b then true else any_marks ms) (one_marks m)
    ∙ ap (λ (b : Bool). if writes_mark m then true else b) (any_marks_are ms)

-- ---- whatever the saved log is

abbrev with_saved : Server Entry → Option (Saved Entry) → Server Entry
with_saved s x = record s { saved = x }

same_choice : (q : Place) (s : Server Entry) (x : Option (Saved Entry))
    (reports : Trio (Option Report)) (o : Option Plan)
    → chosen_moves q (with_saved s x) reports o ≡ chosen_moves q s reports o
same_choice q s x reports None = refl
same_choice q s x reports (Some plan) = refl

same_join : (q : Place) (s : Server Entry) (x : Option (Saved Entry)) (from : Place) (v : ℕ)
    (t : Report) (duty : Duty)
    → on_join q (with_saved s x) from v t duty ≡ on_join q s from v t duty
same_join q s x from v t NoDuty = refl
same_join q s x from v t (Chose w plan) = refl
same_join q s x from v t (Collects reports) = ap
    (λ (ms : List (Move Entry)). if v == s.promised then ms else [])
    (same_choice q s x (with_at reports from (Some t)) (choose (with_at reports from (Some t))))

same_message : (size : List Entry → Entry → ℕ) (q : Place) (clock : ℕ) (list : List Entry)
    (s : Server Entry) (x : Option (Saved Entry)) (from : Place) (m : Message Entry)
    → on_message size q clock list (with_saved s x) from m
    ≡ on_message size q clock list s from m
same_message size q clock list s x from (Invite v) = refl
same_message size q clock list s x from (Join v t) = same_join q s x from v t s.duty
same_message size q clock list s x from (Form v plan) = refl
same_message size q clock list s x from (Fetch v index) = refl
same_message size q clock list s x from (Give v index items) = refl
same_message size q clock list s x from (Formed v lb) = refl
same_message size q clock list s x from (Event v index cp base e) = refl
same_message size q clock list s x from (Beat v cp base) = refl
same_message size q clock list s x from (Ack v t lb until) = refl
same_message size q clock list s x from (Demote v) = refl

same_misfits : (q : Place) (s : Server Entry) (x : Option (Saved Entry)) (from : Place)
    (m : Message Entry) → misfits q (with_saved s x) from m ≡ misfits q s from m
same_misfits q s x from (Invite v) = refl
same_misfits q s x from (Join v t) = refl
same_misfits q s x from (Form v plan) = refl
same_misfits q s x from (Fetch v index) = refl
same_misfits q s x from (Give v index items) = refl
same_misfits q s x from (Formed v lb) = refl
same_misfits q s x from (Event v index cp base e) = refl
same_misfits q s x from (Beat v cp base) = refl
same_misfits q s x from (Ack v t lb until) = refl
same_misfits q s x from (Demote v) = refl

-- a misfit writes no mark, and another message what its own moves do
came_marks : (misfit : Bool) (ms later : List (Move Entry)) → write_mark later ≡ false
    → write_mark (if misfit then [] else ms ++ later)
    ≡ (if misfit then false else write_mark ms)
came_marks true ms later none = refl
came_marks false ms later none = (alike_then ms later none).writes

message_marks : (size : List Entry → Entry → ℕ) (q : Place) (clock : ℕ) (list : List Entry)
    (s : Server Entry) (from : Place) (m : Message Entry)
    → write_mark (rule size q clock list s (Comes from m))
    ≡ (if misfits q s from m then false else write_mark (on_message size q clock list s from m))
message_marks size q clock list s from m =
    let ms = on_message size q clock list s from m in
    came_marks (misfits q s from m) ms (try_open q clock (acts q clock s ms))
    (opens_unmarked q clock (acts q clock s ms))

rule_marks : (size : List Entry → Entry → ℕ) (q : Place) (clock : ℕ) (list : List Entry)
    (s : Server Entry) (x : Option (Saved Entry)) (i : Input) → is_of_cells i ≡ false
    → write_mark (rule size q clock list (with_saved s x) i)
    ≡ write_mark (rule size q clock list s i)
rule_marks size q clock list s x (Does Tick) not_so =
    tick_unmarked q clock (with_saved s x) ∙ sym (tick_unmarked q clock s)
rule_marks size q clock list s x (Does Suspect) not_so = refl
rule_marks size q clock list s x (Does (Ask client number cred call)) not_so = refl
rule_marks size q clock list s x (Does ListTree) not_so = refl
rule_marks size q clock list s x (Does (Apply n)) not_so = absurd (true≢false not_so)
rule_marks size q clock list s x (Does Flush) not_so = absurd (true≢false not_so)
rule_marks size q clock list s x (Does Power) not_so = absurd (true≢false not_so)
rule_marks size q clock list s x (Does Crash) not_so = absurd (true≢false not_so)
rule_marks size q clock list s x (Comes from m) not_so =
    message_marks size q clock list (with_saved s x) from m
    ∙ ap (λ (b : Bool). if b then false
    else write_mark (on_message size q clock list (with_saved s x) from m))
    (same_misfits q s x from m)
    ∙ ap (λ (ms : List (Move Entry)). if misfits q s from m then false else write_mark ms)
    (same_message size q clock list s x from m)
    ∙ sym (message_marks size q clock list s from m)

-- a step of such a server writes the mark just where one of the other does
pub step_marks : (size : List Entry → Entry → ℕ) (q : Place) (clock : ℕ) (list : List Entry)
    (s : Server Entry) (x : Option (Saved Entry)) (i : Input) → is_of_cells i ≡ false
    → any_marks (step size q clock list (record s { saved = x }) i)
    ≡ write_mark (step size q clock list s i)
step_marks size q clock list s x i not_so =
    any_marks_are (step size q clock list (with_saved s x) i)
    ∙ (step_alike size q clock list (with_saved s x) (Some i)).writes
    ∙ rule_marks size q clock list s x i not_so
    ∙ sym (step_alike size q clock list s (Some i)).writes

-- ---- which moves list the tree

listed_if : (b : Bool) (ms ns : List (Move Entry)) (o : Option ℕ) → listed_of ms o ≡ o
    → listed_of ns o ≡ o → listed_of (if b then ms else ns) o ≡ o
listed_if true ms ns o h k = h
listed_if false ms ns o h k = k

listed_then : (ms ns : List (Move Entry)) (o : Option ℕ) → listed_of ms o ≡ o
    → listed_of ns o ≡ o → listed_of (ms ++ ns) o ≡ o
listed_then ms ns o h k = both ms o ∙ ap (listed_of ns) h ∙ k
  where
    both : (ms : List (Move Entry)) (o : Option ℕ)
        → listed_of (ms ++ ns) o ≡ listed_of ns (listed_of ms o)
    both [] o = refl
    both (m ∷ ms) o = both ms (listed_by m o)

silent_listed : (ms : List (Move Entry)) (o : Option ℕ) → AreSilent ms → listed_of ms o ≡ o
silent_listed [] o h = refl
silent_listed (Joining v duty ∷ ms) o h = silent_listed ms o h.1
silent_listed (Collecting reports ∷ ms) o h = silent_listed ms o h.1
silent_listed (Choosing plan from ∷ ms) o h = silent_listed ms o h.1
silent_listed (Pulling plan from ∷ ms) o h = silent_listed ms o h.1
silent_listed (Staging items ∷ ms) o h = silent_listed ms o h.1
silent_listed (Hearing x lb ∷ ms) o h = silent_listed ms o h.1
silent_listed (Accepting plan role n ∷ ms) o h = silent_listed ms o h.1
silent_listed (Opening lb ∷ ms) o h = silent_listed ms o h.1
silent_listed (Heeding items cp base ∷ ms) o h = silent_listed ms o h.1
silent_listed (Basing n ∷ ms) o h = silent_listed ms o h.1
silent_listed (Demoting v ∷ ms) o h = silent_listed ms o h.1
silent_listed (Sending to m ∷ ms) o h = silent_listed ms o h.1
silent_listed (m ∷ ms) o h = absurd h.0

answers_listed : (n : ℕ) (es : List Entry) (o : Option ℕ) → listed_of (answers n es) o ≡ o
answers_listed n [] o = refl
answers_listed n (e ∷ es) o = answers_listed (n + 1) es o

message_listed : (size : List Entry → Entry → ℕ) (q : Place) (clock : ℕ) (list : List Entry)
    (s : Server Entry) (from : Place) (m : Message Entry) (o : Option ℕ)
    → listed_of (on_message size q clock list s from m) o ≡ o
message_listed size q clock list s from (Ack v t lb until) o =
    listed_if (all_of (ack_tests s v)) _ [] o
    (listed_if (nat_lt s.cp t) _ [] o
    (answers_listed s.cp (take (t - s.cp) (drop (s.cp - s.base) s.items)) o) refl) refl
message_listed size q clock list s from (Invite v) o =
    silent_listed (on_message size q clock list s from (Invite v)) o
    (silent_message size q clock list s from (Invite v) tt)
message_listed size q clock list s from (Join v t) o =
    silent_listed (on_message size q clock list s from (Join v t)) o
    (silent_message size q clock list s from (Join v t) tt)
message_listed size q clock list s from (Form v plan) o =
    silent_listed (on_message size q clock list s from (Form v plan)) o
    (silent_message size q clock list s from (Form v plan) tt)
message_listed size q clock list s from (Fetch v index) o =
    silent_listed (on_message size q clock list s from (Fetch v index)) o
    (silent_message size q clock list s from (Fetch v index) tt)
message_listed size q clock list s from (Give v index items) o =
    silent_listed (on_message size q clock list s from (Give v index items)) o
    (silent_message size q clock list s from (Give v index items) tt)
message_listed size q clock list s from (Formed v lb) o =
    silent_listed (on_message size q clock list s from (Formed v lb)) o
    (silent_message size q clock list s from (Formed v lb) tt)
message_listed size q clock list s from (Event v index cp base e) o =
    silent_listed (on_message size q clock list s from (Event v index cp base e)) o
    (silent_message size q clock list s from (Event v index cp base e) tt)
message_listed size q clock list s from (Beat v cp base) o =
    silent_listed (on_message size q clock list s from (Beat v cp base)) o
    (silent_message size q clock list s from (Beat v cp base) tt)
message_listed size q clock list s from (Demote v) o =
    silent_listed (on_message size q clock list s from (Demote v)) o
    (silent_message size q clock list s from (Demote v) tt)

each_listed : (m : Message Entry) (ps : List Place) (o : Option ℕ)
    → listed_of (to_each m ps) o ≡ o
each_listed m [] o = refl
each_listed m (p ∷ ps) o = each_listed m ps o

append_listed : (s : Server Entry) (e : Entry) (o : Option ℕ) → listed_of (append s e) o ≡ o
append_listed s e o =
    listed_if (nat_le room (length s.items) || nat_le limit (top s)) _ _ o refl refl

update_listed : (s : Server Entry) (e : Entry) (last : Option Entry) (o : Option ℕ)
    → listed_of (update_moves s e last) o ≡ o
update_listed s e None o = append_listed s e o
update_listed s e (Some l) o = listed_if (e.number == l.number) _ _ o
    (listed_if (nat_le l.index s.cp) _ [] o refl refl)
    (listed_if (nat_lt e.number l.number) _ _ o refl (append_listed s e o))

ask_listed : (q : Place) (clock : ℕ) (list : List Entry) (s : Server Entry) (client number : ℕ)
    (cred : Cred) (c : Call) (o : Option ℕ)
    → listed_of (on_ask q clock list s client number cred c) o ≡ o
ask_listed q clock list s client number cred c o = listed_if (nat_lt 4095 client) _ _ o refl
    (listed_if (all_of (is_active s.mode ∷ same q (leader s.plan.storers) ∷ [])) _ _ o
    (listed_if (is_open s.mode) _ _ o
    (listed_if (is_update c) _ _ o
    (update_listed s (new_entry clock list client number cred c) (last_of client list) o)
    (listed_if (nat_le s.grant clock) _ _ o refl refl))
    refl)
    refl)

-- a step that doesn't list it
abbrev pub IsNoListing : Input → Type 0
IsNoListing (Does ListTree) = ⊥
IsNoListing i = Unit {0}

rule_listed : (size : List Entry → Entry → ℕ) (q : Place) (clock : ℕ) (list : List Entry)
    (s : Server Entry) (i : Input) (o : Option ℕ) → IsNoListing i
    → listed_of (rule size q clock list s i) o ≡ o
rule_listed size q clock list s (Does Tick) o not_so =
    silent_listed (tick q clock s) o (silent_tick q clock s)
rule_listed size q clock list s (Does Suspect) o not_so =
    listed_if (nat_lt (s.promised / 3) limit) _ [] o (each_listed _ (others q) o) refl
rule_listed size q clock list s (Does (Ask client number cred c)) o not_so =
    ask_listed q clock list s client number cred c o
rule_listed size q clock list s (Does (Apply n)) o not_so =
    listed_if (all_of (settled_tests q s)) _ [] o refl refl
rule_listed size q clock list s (Does Flush) o not_so =
    listed_if (all_of (flush_tests q s)) _ [] o refl refl
rule_listed size q clock list s (Does ListTree) o not_so = absurd not_so
rule_listed size q clock list s (Does Power) o not_so = refl
rule_listed size q clock list s (Does Crash) o not_so = refl
rule_listed size q clock list s (Comes from m) o not_so =
    let ms = on_message size q clock list s from m in
    listed_if (misfits q s from m) [] _ o refl
    (listed_then ms (try_open q clock (acts q clock s ms)) o
    (message_listed size q clock list s from m o)
    (silent_listed (try_open q clock (acts q clock s ms)) o
    (silent_open q clock (acts q clock s ms))))

-- such a step says nothing of a listing
pub step_listed : (size : List Entry → Entry → ℕ) (q : Place) (clock : ℕ) (list : List Entry)
    (s : Server Entry) (i : Input) (o : Option ℕ) → IsNoListing i
    → listed_of (step size q clock list s i) o ≡ o
step_listed size q clock list s i o not_so =
    let ms = rule size q clock list s i in
    let after = acts q clock s ms in
    listed_then ms (rebase after) o (rule_listed size q clock list s i o not_so)
    (listed_if (all_of (base_tests after)) _ [] o refl refl)
