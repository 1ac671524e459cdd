-- Each rule has at most one move that makes calls.
use Rattle.std.proofs.Common.{ℕ, ◌||◌, ◌==◌, Bool, List, [], ◌∷◌, ◌++◌, append_assoc, Option, Some, None, length, sym, subst, nat_lt, if◌then◌else◌}
use Rattle.std.specs.Prelude.{◌+◌, ◌/◌, ⊤}
use Rattle.std.specs.List.{AllByRecursion}
use Rattle.file_tree.specs.Book.{Entry}
use Rattle.group_rules.specs.Choose.{choose}
use Rattle.group_rules.specs.Disk.{demote_tests, flush_tests, settled_tests}
use Rattle.group_rules.specs.Form.{accept_moves, adopted, fits, form_moves, on_give, pull_tests, role_of, wanted}
use Rattle.group_rules.specs.Joining.{chosen_moves, joined_tests, on_join, to_each}
use Rattle.group_rules.specs.Limits.{is_joins, limit}
use Rattle.group_rules.specs.Misfits.{misfits}
use Rattle.group_rules.specs.Moves.{Basing, Accepting, Choosing, Collecting, Demoting, Falling, Flushing, Joining, Move, Saving, acts, Booting, Applying}
use Rattle.group_rules.specs.Open.{try_open}
use Rattle.group_rules.specs.Places.{Place, Trio, all_of, other_storers, partner, same, with_at}
use Rattle.group_rules.specs.State.{Ack, Beat, Chose, Collects, Demote, Duty, Event, Fetch, Form, Formed, Give, Invite, Join, Message, NoDuty, Plan, Report, Server}
use Rattle.group_rules.specs.Step.{Apply, Ask, Comes, Crash, Deed, Does, Flush, Input, ListTree, Power, Suspect, Tick, does, on_message, rule}
use Rattle.group_rules.proofs.Tests.{by_if}
use Rattle.trace_laws.proofs.MoveKinds.{each-append}
use Rattle.trace_laws.proofs.StepKinds.{end_open}
use Rattle.trace_laws.proofs.StopLaws.{AreFree, IsFree, free_if, rule_free, message_free, ends_free}

-- moves that make no calls, and at most one that makes some and is of a kind
pub data Once (P : Move Entry → Type 0) : List (Move Entry) → Type 0 where
  free : (ms : List (Move Entry)) → AreFree ms → Once P ms
  calls : (before after : List (Move Entry)) (move : Move Entry) → AreFree before → P move
      → AreFree after → Once P (before ++ move ∷ after)

-- a move that may come in any mode: the server stays up, and its mark's LB, its base and the
-- cells of its disk stay
abbrev pub IsSteady : Move Entry → Type 0
IsSteady Saving = ⊥
IsSteady Falling = ⊥
IsSteady (Booting delta) = ⊥
IsSteady (Basing n) = ⊥
IsSteady Flushing = ⊥
IsSteady (Applying n) = ⊥
IsSteady m = ⊤

-- what a step's calling move may be
abbrev pub MayCall : Input → Move Entry → Type 0
MayCall (Does Power) m = ⊤
MayCall (Does Crash) m = ⊤
MayCall (Does Flush) m = ⊤
MayCall (Does (Apply n)) m = ⊤
MayCall i m = IsSteady m

once_if : (P : Move Entry → Type 0) (b : Bool) (x y : List (Move Entry)) → Once P x → Once P y
    → Once P (if b then x else y)
once_if P b x y h k = by_if (Once P) b x y (λ _. h) (λ _. k)

once_then : (P : Move Entry → Type 0) (ms after : List (Move Entry)) → Once P ms → AreFree after
    → Once P (ms ++ after)
once_then P _ after (free ms h) t = free (ms ++ after) (each-append IsFree ms after h t)
once_then P _ after (calls before rest move h p k) t =
    subst (Once P) (sym (append_assoc before (move ∷ rest) after))
    (calls before (rest ++ after) move h p (each-append IsFree rest after k t))

once_behind : (P : Move Entry → Type 0) (front ms : List (Move Entry)) → AreFree front → Once P ms
    → Once P (front ++ ms)
once_behind P front _ f (free ms h) = free (front ++ ms) (each-append IsFree front ms f h)
once_behind P front _ f (calls before rest move h p k) =
    subst (Once P) (append_assoc front before (move ∷ rest))
    (calls (front ++ before) rest move (each-append IsFree front before f h) p k)

each_free : (m : Message Entry) (ps : List Place) → AreFree (to_each m ps)
each_free m [] = tt
each_free m (p ∷ ps) = (tt, each_free m ps)

-- ---- the rules

accept_once : (q : Place) (s : Server Entry) (plan : Plan) (staged : List Entry)
    → Once IsSteady (accept_moves q s plan staged)
accept_once q s plan staged = calls [] _
    (Accepting plan (role_of plan.storers q) (adopted q s plan staged)) tt tt
    (free_if (same q (partner plan.storers)) _ [] (tt, tt) tt)

form_once : (q : Place) (s : Server Entry) (plan : Plan) → Once IsSteady (form_moves q s plan)
form_once q s plan = once_if IsSteady (all_of (is_joins s.mode ∷ fits q s plan ∷ [])) _ []
    (once_if IsSteady (same q plan.source || (wanted q s plan == plan.start)) _ _
    (accept_once q s plan [])
    (free _ (tt, (tt, tt))))
    (free [] tt)

choice_once : (q : Place) (s : Server Entry) (reports : Trio (Option Report)) (o : Option Plan)
    → Once IsSteady (chosen_moves q s reports o)
choice_once q s reports None = free (Collecting reports ∷ []) (tt, tt)
choice_once q s reports (Some plan) =
    let forms = to_each (Form s.promised plan) (other_storers q plan.storers) in
    once_behind IsSteady (Collecting reports ∷ Choosing plan _ ∷ []) _ (tt, (tt, tt))
    (once_behind IsSteady forms _ (each_free _ (other_storers q plan.storers))
    (form_once q (record s { duty = Chose s.promised plan }) plan))

join_once : (q : Place) (s : Server Entry) (from : Place) (v : ℕ) (t : Report) (d : Duty)
    → Once IsSteady (on_join q s from v t d)
join_once q s from v t NoDuty = free [] tt
join_once q s from v t (Chose w plan) = free [] tt
join_once q s from v t (Collects reports) = once_if IsSteady (v == s.promised) _ []
    (choice_once q s (with_at reports from (Some t)) (choose (with_at reports from (Some t))))
    (free [] tt)

give_once : (q : Place) (s : Server Entry) (v index : ℕ) (items : List Entry)
    → Once IsSteady (on_give q s v index items)
give_once q s v index items = once_if IsSteady (all_of (pull_tests s v index items)) _ []
    (once_if IsSteady (s.wanted_from + length (s.staged ++ items) == s.plan.start) _ _
    (accept_once q s s.plan (s.staged ++ items))
    (free _ (tt, (tt, tt))))
    (free [] tt)

message_once : (size : List Entry → Entry → ℕ) (q : Place) (clock : ℕ) (list : List Entry)
    (s : Server Entry) (from : Place) (m : Message Entry)
    → Once IsSteady (on_message size q clock list s from m)
message_once size q clock list s from (Invite v) = once_if IsSteady (nat_lt s.promised v) _ _
    (calls [] _ (Joining v NoDuty) tt tt (tt, tt))
    (once_if IsSteady (all_of (joined_tests s v)) _ [] (free _ (tt, tt)) (free [] tt))
message_once size q clock list s from (Join v t) = join_once q s from v t s.duty
message_once size q clock list s from (Form v plan) = once_if IsSteady (v == s.promised) _ []
    (form_once q s plan) (free [] tt)
message_once size q clock list s from (Give v index items) = give_once q s v index items
message_once size q clock list s from (Demote v) =
    once_if IsSteady (all_of (demote_tests q s v)) _ []
    (calls [] [] (Demoting v) tt tt tt) (free [] tt)
message_once size q clock list s from (Fetch v index) =
    free _ (message_free size q clock list s from (Fetch v index) tt)
message_once size q clock list s from (Formed v lb) =
    free _ (message_free size q clock list s from (Formed v lb) tt)
message_once size q clock list s from (Event v index cp base e) =
    free _ (message_free size q clock list s from (Event v index cp base e) tt)
message_once size q clock list s from (Beat v cp base) =
    free _ (message_free size q clock list s from (Beat v cp base) tt)
message_once size q clock list s from (Ack v t lb until) =
    free _ (message_free size q clock list s from (Ack v t lb until) tt)

deed_once : (size : List Entry → Entry → ℕ) (q : Place) (clock : ℕ) (list : List Entry)
    (s : Server Entry) (d : Deed) → Once (MayCall (Does d)) (does q clock list s d)
deed_once size q clock list s Tick = free _ (rule_free size q clock list s (Does Tick) tt)
deed_once size q clock list s Suspect = once_if IsSteady (nat_lt (s.promised / 3) limit) _ []
    (calls [] _ _ tt tt (each_free _ _)) (free [] tt)
deed_once size q clock list s (Ask client number cred c) =
    free _ (rule_free size q clock list s (Does (Ask client number cred c)) tt)
deed_once size q clock list s (Apply n) = once_if (MayCall (Does (Apply n)))
    (all_of (settled_tests q s)) _ []
    (calls [] [] _ tt tt tt) (free [] tt)
deed_once size q clock list s Flush =
    once_if (MayCall (Does Flush)) (all_of (flush_tests q s)) _ []
    (calls [] [] Flushing tt tt tt) (free [] tt)
deed_once size q clock list s ListTree =
    free _ (rule_free size q clock list s (Does ListTree) tt)
deed_once size q clock list s Power = calls [] [] Saving tt tt tt
deed_once size q clock list s Crash = calls [] [] Falling tt tt tt

-- each rule
pub rule_once : (size : List Entry → Entry → ℕ) (q : Place) (clock : ℕ) (list : List Entry)
    (s : Server Entry) (i : Input) → Once (MayCall i) (rule size q clock list s i)
rule_once size q clock list s (Does d) = deed_once size q clock list s d
rule_once size q clock list s (Comes from m) =
    let ms = on_message size q clock list s from m in
    once_if IsSteady (misfits q s from m) [] _ (free [] tt)
    (once_then IsSteady ms (try_open q clock (acts q clock s ms))
    (message_once size q clock list s from m)
    (ends_free _ (end_open q clock (acts q clock s ms))))

-- ---- steady rules

free_steady : (m : Move Entry) → IsFree m → IsSteady m
free_steady (Saving) f = absurd f
free_steady (Falling) f = absurd f
free_steady (Booting d) f = absurd f
free_steady (Basing n) f = absurd f
free_steady Flushing f = absurd f
free_steady (Applying n) f = absurd f
free_steady m f = tt

all_steady : (ms : List (Move Entry)) → AreFree ms → AllByRecursion IsSteady ms
all_steady [] h = tt
all_steady (m ∷ ms) h = (free_steady m h.0, all_steady ms h.1)

pub once_steady : (ms : List (Move Entry)) → Once IsSteady ms → AllByRecursion IsSteady ms
once_steady _ (free ms h) = all_steady ms h
once_steady _ (calls before after move h p k) = each-append IsSteady before (move ∷ after)
    (all_steady before h) (p, all_steady after k)
