-- Who is answered and refused by a step.
use Rattle.std.proofs.Common.{◌≡◌, ℕ, ◌+◌, ◌-◌, ◌≤◌, ◌||◌, ◌==◌, Bool, List, [], ◌∷◌, ◌++◌, append-nil, length, take, drop, Option, None, Some, nat_le, nat_lt, refl, sym, ap, ◌∙◌, subst, le_refl, zero-le, if◌then◌else◌}
use Rattle.std.specs.Prelude.{⊤}
use Rattle.std.proofs.lemmas.Grind.{flat_map-append}
use Rattle.file_tree.specs.Book.{Entry, last_of}
use Rattle.group_rules.proofs.Tests.{by_if}
use Rattle.group_rules.specs.Ask.{append, new_entry, on_ask, update_moves}
use Rattle.group_rules.specs.Disk.{flush_tests, settled_tests}
use Rattle.group_rules.specs.Limits.{is_active, is_open, limit, room}
use Rattle.group_rules.specs.Misfits.{misfits}
use Rattle.group_rules.specs.Moves.{Move, acts}
use Rattle.group_rules.specs.Open.{rebase, try_open}
use Rattle.group_rules.specs.Places.{Place, all_of, leader, same}
use Rattle.group_rules.specs.Replicate.{ack_tests, answers}
use Rattle.group_rules.specs.Said.{refusals_said, refused_by}
use Rattle.group_rules.specs.State.{Ack, Beat, Demote, Event, Fetch, Form, Formed, Give, Invite, Join, Message, Server, top}
use Rattle.group_rules.specs.Step.{Apply, Ask, Comes, Crash, Does, Flush, Input as Begins, ListTree, Power, Suspect, Tick, on_message, rule, step}
use Rattle.harp_types.specs.Limits.{last_client}
use Rattle.harp_types.specs.Update.{is_update}
use Rattle.harp_types.specs.declared.call.Call.{Call}
use Rattle.harp_types.specs.declared.cred.Cred.{Cred}
use Rattle.node.proofs.Calls.{mute_rebase, mute_suspect}
use Rattle.node.proofs.Mute.{mute_rule}
use Rattle.node.proofs.Stepped.{mute_tick}
use Rattle.node.proofs.Takes.{mute_open}

-- ---- refusals

refusals_both : (a b : List (Move Entry)) → refusals_said (a ++ b)
    ≡ refusals_said a ++ refusals_said b
refusals_both a b = flat_map-append refused_by a b

-- behind moves that refuse nobody
refused_first : (a b : List (Move Entry)) → refusals_said b ≡ [] → refusals_said (a ++ b)
    ≡ refusals_said a
refused_first a b none = refusals_both a b ∙ ap (λ rs. refusals_said a ++ rs) none
    ∙ append-nil (refusals_said a)

-- at most one
abbrev Few : List (Move Entry) → Type 0
Few ms = length (refusals_said ms) ≤ 1

few_if : (b : Bool) (x y : List (Move Entry)) → Few x → Few y → Few (if b then x else y)
few_if b x y h k = by_if Few b x y (λ _. h) (λ _. k)

append_few : (s : Server Entry) (e : Entry) → Few (append s e)
append_few s e = few_if (nat_le room (length s.items) || nat_le limit (top s)) _ _ (le_refl _)
    zero-le

update_few : (s : Server Entry) (e : Entry) (last : Option Entry) → Few (update_moves s e last)
update_few s e None = append_few s e
update_few s e (Some last) = few_if (e.number == last.number) _ _
    (few_if (nat_le last.index s.cp) _ [] zero-le zero-le)
    (few_if (nat_lt e.number last.number) _ _ (le_refl _) (append_few s e))

ask_few : (q : Place) (clock : ℕ) (list : List Entry) (s : Server Entry) (client number : ℕ)
    (cred : Cred) (c : Call) → Few (on_ask q clock list s client number cred c)
ask_few q clock list s client number cred c =
    few_if (nat_lt last_client client) _ _ (le_refl _)
    (few_if (all_of (is_active s.mode ∷ same q (leader s.plan.storers) ∷ [])) _ _
    (few_if (is_open s.mode) _ _
    (few_if (is_update c) _ _
    (update_few s (new_entry clock list client number cred c) (last_of client list))
    (few_if (nat_le s.grant clock) _ _ (le_refl _) zero-le))
    (le_refl _))
    (le_refl _))

-- no other deed and no message is refused
abbrev pub IsNoAsk : Begins → Type 0
IsNoAsk (Does (Ask client number cred call)) = ⊥
IsNoAsk i = ⊤

none_if : (b : Bool) (x : List (Move Entry)) → refusals_said x ≡ []
    → refusals_said (if b then x else []) ≡ []
none_if b x h = by_if (λ ms. refusals_said ms ≡ []) b x [] (λ _. h) (λ _. refl)

none_answered : (n : ℕ) (es : List Entry) → refusals_said (answers n es) ≡ []
none_answered n [] = refl
none_answered n (e ∷ es) = none_answered (n + 1) es

ack_none : (size : List Entry → Entry → ℕ) (q : Place) (clock : ℕ) (list : List Entry)
    (s : Server Entry) (from : Place) (v t lb until : ℕ)
    → refusals_said (rule size q clock list s (Comes from (Ack v t lb until))) ≡ []
ack_none size q clock list s from v t lb until =
    let ms = on_message size q clock list s from (Ack v t lb until) in
    by_if (λ ms. refusals_said ms ≡ []) (misfits q s from (Ack v t lb until)) [] _ (λ _. refl)
    (λ _. refused_first ms (try_open q clock (acts q clock s ms))
    (mute_open q clock (acts q clock s ms)).refusals
    ∙ none_if (all_of (ack_tests s v)) _
    (none_if (nat_lt s.cp t) _
    (none_answered s.cp (take (t - s.cp) (drop (s.cp - s.base) s.items)))))

message_none : (size : List Entry → Entry → ℕ) (q : Place) (clock : ℕ) (list : List Entry)
    (s : Server Entry) (from : Place) (m : Message Entry)
    → refusals_said (rule size q clock list s (Comes from m)) ≡ []
message_none size q clock list s from (Ack v t lb until) =
    ack_none size q clock list s from v t lb until
message_none size q clock list s from (Invite v) =
    (mute_rule size q clock list s from (Invite v) tt).refusals
message_none size q clock list s from (Join v t) =
    (mute_rule size q clock list s from (Join v t) tt).refusals
message_none size q clock list s from (Form v plan) =
    (mute_rule size q clock list s from (Form v plan) tt).refusals
message_none size q clock list s from (Fetch v index) =
    (mute_rule size q clock list s from (Fetch v index) tt).refusals
message_none size q clock list s from (Give v index items) =
    (mute_rule size q clock list s from (Give v index items) tt).refusals
message_none size q clock list s from (Formed v lb) =
    (mute_rule size q clock list s from (Formed v lb) tt).refusals
message_none size q clock list s from (Event v index cp base e) =
    (mute_rule size q clock list s from (Event v index cp base e) tt).refusals
message_none size q clock list s from (Beat v cp base) =
    (mute_rule size q clock list s from (Beat v cp base) tt).refusals
message_none size q clock list s from (Demote v) =
    (mute_rule size q clock list s from (Demote v) tt).refusals

rule_none : (size : List Entry → Entry → ℕ) (q : Place) (clock : ℕ) (list : List Entry)
    (s : Server Entry) (i : Begins) → IsNoAsk i
    → refusals_said (rule size q clock list s i) ≡ []
rule_none size q clock list s (Does Tick) n = (mute_tick q clock s).refusals
rule_none size q clock list s (Does Suspect) n = (mute_suspect q s).refusals
rule_none size q clock list s (Does (Ask client number cred call)) n = absurd n
rule_none size q clock list s (Does (Apply k)) n = none_if (all_of (settled_tests q s)) _ refl
rule_none size q clock list s (Does Flush) n = none_if (all_of (flush_tests q s)) _ refl
rule_none size q clock list s (Does ListTree) n = none_if (all_of (settled_tests q s)) _ refl
rule_none size q clock list s (Does Power) n = refl
rule_none size q clock list s (Does Crash) n = refl
rule_none size q clock list s (Comes from m) n = message_none size q clock list s from m

step_refusals : (size : List Entry → Entry → ℕ) (q : Place) (clock : ℕ) (list : List Entry)
    (s : Server Entry) (i : Begins) → refusals_said (step size q clock list s i)
    ≡ refusals_said (rule size q clock list s i)
step_refusals size q clock list s i =
    let ms = rule size q clock list s i in
    refused_first ms (rebase (acts q clock s ms)) (mute_rebase (acts q clock s ms)).refusals

pub others_refuse_none : (size : List Entry → Entry → ℕ) (q : Place) (clock : ℕ)
    (list : List Entry) (s : Server Entry) (i : Begins) → IsNoAsk i
    → length (refusals_said (step size q clock list s i)) ≡ 0
others_refuse_none size q clock list s i n =
    ap (λ rs. length rs) (step_refusals size q clock list s i ∙ rule_none size q clock list s i n)

pub asks_refuse_one : (size : List Entry → Entry → ℕ) (q : Place) (clock : ℕ) (list : List Entry)
    (s : Server Entry) (client number : ℕ) (cred : Cred) (call : Call)
    → length (refusals_said (step size q clock list s (Does (Ask client number cred call)))) ≤ 1
asks_refuse_one size q clock list s client number cred call =
    subst (λ rs. length rs ≤ 1)
    (sym (step_refusals size q clock list s (Does (Ask client number cred call))))
    (ask_few q clock list s client number cred call)
