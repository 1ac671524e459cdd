-- Steps that may be cut behind a call that changes the disk, and their moves: what these send are
-- numbers alone, and nobody is answered.
use Rattle.std.proofs.Common.{◌≡◌, ℕ, ◌+◌, ◌/◌, ◌==◌, ◌||◌, Bool, true, false, List, [], ◌∷◌, ◌++◌, length, Option, None, Some, refl, nat_le, nat_lt, if◌then◌else◌}
use Rattle.std.specs.Prelude.{⊤}
use Rattle.std.specs.List.{AllByRecursion}
use Rattle.file_tree.specs.Book.{Entry}
use Rattle.group_rules.proofs.Tests.{by_if}
use Rattle.group_rules.specs.Choose.{choose}
use Rattle.group_rules.specs.Disk.{demote_tests, flush_tests, settled_tests}
use Rattle.group_rules.specs.Form.{accept_moves, fits, form_moves, on_give, pull_tests, wanted}
use Rattle.group_rules.specs.Joining.{chosen_moves, joined_tests, on_invite, on_join, to_each}
use Rattle.group_rules.specs.Limits.{is_joins, limit}
use Rattle.group_rules.specs.Misfits.{misfits}
use Rattle.group_rules.specs.Moves.{Accepting, Applying, Basing, Choosing, Collecting, Demoting, Flushing, Joining, Move, Opening, Pulling, Reading, Saying, Sending, Staging, acts}
use Rattle.group_rules.specs.Open.{base_tests, open_heard, open_tests, rebase, try_open}
use Rattle.group_rules.specs.Places.{Place, Trio, all_of, get, is_s01, next_view, other_storers, others, partner, same, with_at}
use Rattle.group_rules.specs.State.{Chose, Collects, Demote, Duty, Event, Form, Give, Invite, Join, Message, NoDuty, Plan, Report, Server}
use Rattle.group_rules.specs.Step.{Apply, Comes, Does, Flush, Input as Begins, Suspect, on_message, rule, step}
use Rattle.harp_types.specs.Limits.{clock_skew}
use Rattle.trace_laws.proofs.Answering.{AreSilent, IsSilent}
use Rattle.trace_laws.proofs.MoveKinds.{each-append}

-- ---- which they are

-- a step that flushes
abbrev pub is_flush : Begins → Bool
is_flush (Does Flush) = true
is_flush i = false

-- suspicion, an apply, a flush, and messages by which a server takes part in a view or leaves it
abbrev pub MayWrite : Begins → Type 0
MayWrite (Does Suspect) = ⊤
MayWrite (Does (Apply most)) = ⊤
MayWrite (Does Flush) = ⊤
MayWrite (Comes from (Invite v)) = ⊤
MayWrite (Comes from (Join v t)) = ⊤
MayWrite (Comes from (Form v plan)) = ⊤
MayWrite (Comes from (Give v index items)) = ⊤
MayWrite (Comes from (Demote v)) = ⊤
MayWrite i = ⊥

-- a message without records
abbrev pub HasNoRecords : Message Entry → Type 0
HasNoRecords (Give v index items) = ⊥
HasNoRecords (Event v index cp base e) = ⊥
HasNoRecords m = ⊤

-- the moves of which such steps are made
abbrev pub IsBare : (flushes : Bool) → Move Entry → Type 0
IsBare flushes (Joining v duty) = ⊤
IsBare flushes (Collecting reports) = ⊤
IsBare flushes (Choosing plan from) = ⊤
IsBare flushes (Pulling plan from) = ⊤
IsBare flushes (Staging items) = ⊤
IsBare flushes (Accepting plan role n) = ⊤
IsBare flushes (Opening lb) = ⊤
IsBare flushes (Basing n) = ⊤
IsBare flushes (Applying n) = ⊤
IsBare flushes Flushing = flushes ≡ true
IsBare flushes (Demoting v) = ⊤
IsBare flushes (Sending to m) = HasNoRecords m
IsBare flushes m = ⊥

abbrev pub AreBare : Bool → List (Move Entry) → Type 0
AreBare flushes ms = AllByRecursion (IsBare flushes) ms

-- ---- their parts

bare_if : (f b : Bool) (xs ys : List (Move Entry)) → AreBare f xs → AreBare f ys
    → AreBare f (if b then xs else ys)
bare_if f b xs ys h k = by_if (AreBare f) b xs ys (λ _. h) (λ _. k)

bare_then : (f : Bool) (xs ys : List (Move Entry)) → AreBare f xs → AreBare f ys
    → AreBare f (xs ++ ys)
bare_then f xs ys h k = each-append (IsBare f) xs ys h k

bare_each : (f : Bool) (m : Message Entry) (ps : List Place) → HasNoRecords m
    → AreBare f (to_each m ps)
bare_each f m [] h = tt
bare_each f m (p ∷ ps) h = (h, bare_each f m ps h)

bare_heard : (f : Bool) (clock : ℕ) (s : Server Entry) (o : Option ℕ)
    → AreBare f (open_heard clock s o)
bare_heard f clock s None = tt
bare_heard f clock s (Some lb) = bare_if f (nat_le (s.plan.horizon + clock_skew) clock) _ [] (
  tt,
  bare_then f _ _ (bare_if f (is_s01 s.plan.storers) _ [] (tt, tt) tt) (tt, tt),
) tt

bare_open : (f : Bool) (q : Place) (clock : ℕ) (s : Server Entry) → AreBare f (try_open q clock s)
bare_open f q clock s = bare_if f (all_of (open_tests q s)) _ []
    (bare_heard f clock s (get s.heard (partner s.plan.storers))) tt

bare_base : (f : Bool) (s : Server Entry) → AreBare f (rebase s)
bare_base f s = bare_if f (all_of (base_tests s)) _ [] (tt, tt) tt

bare_accept : (f : Bool) (q : Place) (s : Server Entry) (plan : Plan) (staged : List Entry)
    → AreBare f (accept_moves q s plan staged)
bare_accept f q s plan staged =
    (tt, bare_if f (same q (partner plan.storers)) _ [] (tt, tt) tt)

bare_form : (f : Bool) (q : Place) (s : Server Entry) (plan : Plan)
    → AreBare f (form_moves q s plan)
bare_form f q s plan = bare_if f (all_of (is_joins s.mode ∷ fits q s plan ∷ [])) _ []
    (bare_if f (same q plan.source || (wanted q s plan == plan.start)) _ _
    (bare_accept f q s plan []) (tt, (tt, tt))) tt

bare_choice : (f : Bool) (q : Place) (s : Server Entry) (reports : Trio (Option Report))
    (o : Option Plan) → AreBare f (chosen_moves q s reports o)
bare_choice f q s reports None = (tt, tt)
bare_choice f q s reports (Some plan) = (
  tt,
  (
    tt,
    bare_then f _ _ (bare_each f (Form s.promised plan) (other_storers q plan.storers) tt)
        (bare_form f q (record s { duty = Chose s.promised plan }) plan),
  ),
)

bare_join : (f : Bool) (q : Place) (s : Server Entry) (from : Place) (v : ℕ) (t : Report)
    (duty : Duty) → AreBare f (on_join q s from v t duty)
bare_join f q s from v t NoDuty = tt
bare_join f q s from v t (Chose w plan) = tt
bare_join f q s from v t (Collects reports) = bare_if f (v == s.promised) _ []
    (bare_choice f q s (with_at reports from (Some t)) (choose (with_at reports from (Some t)))) tt

bare_invite : (f : Bool) (s : Server Entry) (from : Place) (v : ℕ) → AreBare f (on_invite s from v)
bare_invite f s from v = bare_if f (nat_lt s.promised v) _ _ (tt, (tt, tt))
    (bare_if f (all_of (joined_tests s v)) _ [] (tt, tt) tt)

bare_give : (f : Bool) (q : Place) (s : Server Entry) (v index : ℕ) (items : List Entry)
    → AreBare f (on_give q s v index items)
bare_give f q s v index items = bare_if f (all_of (pull_tests s v index items)) _ []
    (bare_if f (s.wanted_from + length (s.staged ++ items) == s.plan.start) _ _
    (bare_accept f q s s.plan (s.staged ++ items)) (tt, (tt, tt))) tt

-- ---- all of them

bare_message : (f : Bool) (size : List Entry → Entry → ℕ) (q : Place) (clock : ℕ)
    (list : List Entry) (s : Server Entry) (from : Place) (m : Message Entry)
    → AreBare f (on_message size q clock list s from m)
    → AreBare f (rule size q clock list s (Comes from m))
bare_message f size q clock list s from m h = bare_if f (misfits q s from m) [] _ tt
    (bare_then f (on_message size q clock list s from m) _ h
    (bare_open f q clock (acts q clock s (on_message size q clock list s from m))))

bare_rule : (size : List Entry → Entry → ℕ) (q : Place) (clock : ℕ) (list : List Entry)
    (s : Server Entry) (i : Begins) → MayWrite i → AreBare (is_flush i) (rule size q clock list s i)
bare_rule size q clock list s (Does Suspect) may = bare_if false (nat_lt (s.promised / 3) limit)
    _ [] (tt, bare_each false (Invite (next_view s.promised q)) (others q) tt) tt
bare_rule size q clock list s (Does (Apply most)) may =
    bare_if false (all_of (settled_tests q s)) _ [] (tt, tt) tt
bare_rule size q clock list s (Does Flush) may =
    bare_if true (all_of (flush_tests q s)) _ [] (refl, tt) tt
bare_rule size q clock list s (Comes from (Invite v)) may =
    bare_message false size q clock list s from (Invite v) (bare_invite false s from v)
bare_rule size q clock list s (Comes from (Join v t)) may =
    bare_message false size q clock list s from (Join v t) (bare_join false q s from v t s.duty)
bare_rule size q clock list s (Comes from (Form v plan)) may =
    bare_message false size q clock list s from (Form v plan)
    (bare_if false (v == s.promised) _ [] (bare_form false q s plan) tt)
bare_rule size q clock list s (Comes from (Give v index items)) may =
    bare_message false size q clock list s from (Give v index items)
    (bare_give false q s v index items)
bare_rule size q clock list s (Comes from (Demote v)) may =
    bare_message false size q clock list s from (Demote v)
    (bare_if false (all_of (demote_tests q s v)) _ [] (tt, tt) tt)
bare_rule size q clock list s i may = absurd may

-- A STEP THAT MAY BE CUT SO is made of such moves
pub bare_step : (size : List Entry → Entry → ℕ) (q : Place) (clock : ℕ) (list : List Entry)
    (s : Server Entry) (i : Begins) → MayWrite i → AreBare (is_flush i) (step size q clock list s i)
bare_step size q clock list s i may = bare_then (is_flush i) (rule size q clock list s i) _
    (bare_rule size q clock list s i may)
    (bare_base (is_flush i) (acts q clock s (rule size q clock list s i)))

-- ---- nobody is answered

one_silent : (f : Bool) (m : Move Entry) → IsBare f m → IsSilent m
one_silent f (Saying say) h = absurd h
one_silent f (Reading n e) h = absurd h
one_silent f m h = tt

pub bare_silent : (f : Bool) (ms : List (Move Entry)) → AreBare f ms → AreSilent ms
bare_silent f [] h = tt
bare_silent f (m ∷ ms) h = (one_silent f m h.0, bare_silent f ms h.1)
