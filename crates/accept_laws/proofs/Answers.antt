-- A step answers what it is asked, or records of its log that its server had not committed; these
-- came by asks too.
use Rattle.std.proofs.Common.{◌≡◌, ℕ, ◌+◌, ◌-◌, ◌<◌, ◌≤◌, ◌&&◌, Bool, true, false, List, [], ◌∷◌, ◌++◌, length, Option, Some, None, nat_lt, refl, sym, ap, subst, arith, if◌then◌else◌}
use Rattle.std.specs.Prelude.{⊤}
use Rattle.std.specs.List.{AllByRecursion}
use Rattle.std.proofs.lemmas.List.{length-append, length-drop}
use Rattle.file_tree.specs.Book.{Entry}
use Rattle.group_rules.specs.Effects.{booted, demoted_by, lengthened, load_tests, loaded}
use Rattle.group_rules.specs.Form.{role_of}
use Rattle.group_rules.specs.Limits.{can_have, is_open, is_outside}
use Rattle.group_rules.specs.Moves.{Accepting, Appending, Basing, Booting, Committing, Demoting, Move, Noting, Opening, Reading, Saying, act, acts, moved}
use Rattle.group_rules.specs.Places.{Place, all_of, is_p2}
use Rattle.group_rules.specs.Replicate.{answers}
use Rattle.group_rules.specs.State.{Answers, Group, Lists, Refuses, Mark, Open, Saved, Server, mark_of}
use Rattle.group_rules.specs.Step.{Input}
use Rattle.group_rules.proofs.Tests.{by_if}
use Rattle.group_safety.specs.Words.{IsActive}
use Rattle.group_safety.proofs.Moving.{Goes, its}
use Rattle.group_trace.specs.Lines.{answered_lines}
use Rattle.accept_laws.proofs.Counts.{asks}
use Rattle.trace_laws.proofs.Amid.{goes_later, goes_now}
use Rattle.trace_laws.proofs.MoveKinds.{AreMild, AreTail, IsMild, Kind, Plain, accepts, appends, commits, each-append, heeds, mild, notes, plain, reads, repeats, fronts_mild, tails_mild}

-- how many records of its log an open leader has not committed
unfoldable pub pending : Server Entry → ℕ
pending s = if is_open s.mode then length s.items - (s.cp - s.base) else 0

open_pending : (s : Server Entry) → s.mode ≡ Open → pending s ≡ length s.items - (s.cp - s.base)
unfolding pending
open_pending s o = rw o refl

less : (b : Bool) (x y : ℕ) → x ≤ y → (if b then x else 0) ≤ (if b then y else 0)
less true x y l = l
less false x y l = omega arith

-- ---- moves that answer and commit nothing, and append nothing

abbrev IsStill : Move Entry → Type 0
IsStill (Appending e) = ⊥
IsStill (Committing n) = ⊥
IsStill (Reading n e) = ⊥
IsStill (Saying (Answers n e)) = ⊥
IsStill m = ⊤

abbrev AreStill : List (Move Entry) → Type 0
AreStill ms = AllByRecursion IsStill ms

demoted_none : (s : Server Entry) (v : ℕ) (b : Bool) → pending (demoted_by b s v) ≤ pending s
unfolding pending
demoted_none s v true = less (is_open s.mode) _ _ (omega arith)
demoted_none s v false = omega arith

booted_none : (q : Place) (c d : ℕ) (m : Mark Entry) → pending (booted q c d m) ≤ 0
unfolding pending
booted_none q c d m =
    by_if (λ (s : Server Entry). pending s ≤ 0) (is_p2 q && is_outside m.role) _ _
    (λ _. omega arith) (λ _. loads m.saved)
  where
    loads : (o : Option (Saved Entry)) → pending (loaded q c d (lengthened d m) o) ≤ 0
    loads None = omega arith
    loads (Some v) =
        by_if (λ (s : Server Entry). pending s ≤ 0) (all_of (can_have q m.role ∷ load_tests m.lb v))
        _ _ (λ _. omega arith) (λ _. omega arith)

still : (q : Place) (clock : ℕ) (s : Server Entry) (m : Move Entry) → IsStill m
    → pending (act q clock s m) ≤ pending s
unfolding pending
still q clock s (Appending e) h = absurd h
still q clock s (Committing n) h = absurd h
still q clock s (Opening lb) h = omega arith
still q clock s (Basing n) h =
    let cut = length-drop (n - s.base) s.items in
    less (is_open s.mode) _ _ (omega (arith, cut))
still q clock s (Demoting v) h = demoted_none s v (nat_lt v s.promised)
still q clock s (Booting d) h =
    let none = booted_none q clock d (mark_of s) in omega (arith, none)
still q clock s m h = omega arith

stills : (ms : List (Move Entry)) (q : Place) (clock : ℕ) (s : Server Entry) → AreStill ms
    → length (answered_lines q ms) + pending (acts q clock s ms) ≤ pending s
stills [] q clock s h = omega arith
stills (Saying (Answers n e) ∷ ms) q clock s h = absurd h.0
stills (Reading n e ∷ ms) q clock s h = absurd h.0
stills (Saying (Refuses client number cause) ∷ ms) q clock s h = stills ms q clock s h.1
stills (Saying (Lists n) ∷ ms) q clock s h = stills ms q clock s h.1
stills (m ∷ ms) q clock s h =
    let one = still q clock s m h.0 in
    let rest = stills ms q clock (act q clock s m) h.1 in
    omega (arith, one, rest)

mild_one : (m : Move Entry) → IsMild m → IsStill m
mild_one (Appending e) h = absurd h
mild_one (Committing n) h = absurd h
mild_one (Reading n e) h = absurd h
mild_one (Saying (Answers n e)) h = absurd h
mild_one m h = tt

milds : (ms : List (Move Entry)) → AreMild ms → AreStill ms
milds [] h = tt
milds (m ∷ ms) h = (mild_one m h.0, milds ms h.1)

tails : (ms : List (Move Entry)) → AreTail ms → AreStill ms
tails ms h = milds ms (tails_mild ms h)

plain_still : (q : Place) (ms : List (Move Entry)) → Plain q ms → AreStill ms
plain_still q _ (mild ms h) = milds ms h
plain_still q _ (accepts plan n before after f t) =
    each-append IsStill before (Accepting plan (role_of plan.storers q) n ∷ after)
    (milds before (fronts_mild before f)) (tt, tails after t)
plain_still q _ (heeds items cp base after t) = (tt, tails after t)

-- ---- a step

-- the answers of committed records
answers_few : (es : List Entry) (n : ℕ) (after : List (Move Entry)) (q : Place) (clock : ℕ)
    (s : Server Entry) → AreStill after
    → length (answered_lines q (answers n es ++ after))
    + pending (acts q clock s (answers n es ++ after)) ≤ length es + pending s
answers_few [] n after q clock s h = let none = stills after q clock s h in omega (arith, none)
answers_few (e ∷ es) n after q clock s h =
    let rest = answers_few es (n + 1) after q clock s h in omega (arith, rest)

-- an Ack commits records that were not committed
commits_few : (g : Group Entry) (q : Place) (s : Server Entry) (t k : ℕ)
    (after : List (Move Entry)) → Goes g q s (Committing t ∷ after) → s.mode ≡ Open → s.cp < t
    → k ≤ t - s.cp → k + pending (act q (g.clock q) s (Committing t)) ≤ pending s
commits_few g q s t k after goes o lt few =
    let a : IsActive s.mode = subst IsActive (sym o) tt in
    let here = its (goes_now (Committing t ∷ after) g q s goes) in
    let next = its (goes_now after (moved g q s (Committing t)) q
    (act q (g.clock q) s (Committing t)) (goes_later (Committing t) after g q s goes)) in
    let held = (here.modes.active a).0 in
    let low = (here.logs.log held).base_cp in
    let high = (next.logs.log held).cp_top in
    let now = open_pending s o in
    let then' = open_pending (act q (g.clock q) s (Committing t)) o in
    omega (arith, low, high, now, then', lt, few)

pub kind_answers : (g : Group Entry) (q : Place) (s : Server Entry) (i : Input)
    (ms : List (Move Entry)) → Kind q (g.clock q) s i ms → Goes g q s ms
    → length (answered_lines q ms) + pending (acts q (g.clock q) s ms) ≤ pending s + asks i
kind_answers g q s i _ (plain ms p) goes =
    let none = stills ms q (g.clock q) s (plain_still q ms p) in omega (arith, none)
kind_answers g q s i _ (appends e after o a u t) goes =
    let s' = act q (g.clock q) s (Appending e) in
    let none = stills after q (g.clock q) s' (tails after t) in
    let one : asks i ≡ 1 = ap asks a in
    let now = open_pending s o in
    let then' = open_pending s' o in
    let more = length-append s.items (e ∷ []) in
    omega (arith, none, one, now, then', more)
kind_answers g q s i _ (reads e after o a u l t) goes =
    let none = stills after q (g.clock q) s (tails after t) in
    let one : asks i ≡ 1 = ap asks a in
    omega (arith, none, one)
kind_answers g q s i _ (repeats index e client number cred call after o a u l t) goes =
    let none = stills after q (g.clock q) s (tails after t) in
    let one : asks i ≡ 1 = ap asks a in
    omega (arith, none, one)
kind_answers g q s i _ (notes from t lb until after o a tail) goes =
    let none = stills (Noting t lb until ∷ after) q (g.clock q) s (tt, tails after tail) in
    omega (arith, none)
kind_answers g q s i _ (commits from t lb until es after o a lt few tail) goes =
    let s' = act q (g.clock q) s (Noting t lb until) in
    let more = goes_later (Noting t lb until) _ g q s goes in
    let one = commits_few (moved g q s (Noting t lb until)) q s' t (length es) _ more o lt few in
    let note = still q (g.clock q) s (Noting t lb until) tt in
    let rest = answers_few es s.cp after q (g.clock q) (act q (g.clock q) s' (Committing t))
    (tails after tail) in
    omega (arith, one, note, rest)
