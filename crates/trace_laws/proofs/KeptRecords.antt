-- What a boot gives back is no more than a server had.
use Rattle.std.proofs.Common.{◌≡◌, ℕ, ◌≤◌, ◌&&◌, Bool, true, false, List, [], ◌∷◌, ◌++◌, length, Option, Some, None, refl, sym, ap, ◌∙◌, subst, arith, le_refl, nat_lt, if◌then◌else◌}
use Rattle.std.specs.Prelude.{⊤}
use Rattle.std.specs.List.{AllByRecursion}
use Rattle.std.proofs.lemmas.List.{length-append}
use Rattle.file_tree.specs.Book.{Entry}
use Rattle.group_rules.specs.Disk.{apply, flush, flush_tests, settled_tests}
use Rattle.group_rules.specs.Effects.{booted, demoted_by, down, empty_log, lengthened, load_tests, loaded, lost_log, resting, saving}
use Rattle.group_rules.specs.Limits.{can_have, is_log, is_outside}
use Rattle.group_rules.specs.Moves.{Accepting, Appending, Basing, Booting, Demoting, Falling, Flushing, Heeding, Move, Saving, act, acts, moved, moved_by, Applying}
use Rattle.group_rules.specs.Open.{base_tests, rebase}
use Rattle.group_rules.specs.Places.{Place, all_of, is_p2}
use Rattle.group_rules.specs.State.{Empty, Group, Lost, Mark, Role, Saved, Server, mark_of}
use Rattle.group_rules.specs.Step.{Apply, Crash, Does, Flush, Input, Power, list_of, rule, step_of}
use Rattle.group_rules.proofs.Tests.{by_if, each_of}
use Rattle.group_safety.proofs.Modes.{open_is, settled_is}
use Rattle.group_safety.specs.Words.{IsActive}
use Rattle.group_safety.proofs.Moving.{Goes, Good, May, its}
use Rattle.trace_laws.proofs.After.{acts_both, moved_clock}
use Rattle.trace_laws.proofs.Amid.{goes_later, goes_may, goes_now, goes_rest, goes_first}
use Rattle.trace_laws.proofs.StepCalls.{once_steady, IsSteady, rule_once}
use Rattle.trace_laws.proofs.Turns.{Made, boot, fell, whole}

-- ---- the records that a boot would give back

abbrev pub given_back : Place → Role → ℕ → Option (Saved Entry) → List Entry
given_back q role lb None = []
given_back q role lb (Some v) =
    if is_p2 q && is_outside role then []
    else (if all_of (can_have q role ∷ load_tests lb v) then v.items else [])

-- of a server's mark
abbrev pub kept : Place → Server Entry → List Entry
kept q s = given_back q s.role s.lb s.saved

both : (b : Bool) (x y : Server Entry) (xs ys : List Entry) → x.items ≡ xs → y.items ≡ ys
    → (if b then x else y).items ≡ (if b then xs else ys)
both true x y xs ys h k = h
both false x y xs ys h k = k

pub boots_with : (q : Place) (c d : ℕ) (m : Mark Entry)
    → (booted q c d m).items ≡ given_back q m.role m.lb m.saved
boots_with q c d m = by m.saved
  where
    by : (o : Option (Saved Entry)) → (if is_p2 q && is_outside m.role
        then resting c d (lengthened d m) Empty (empty_log m.lb)
        else loaded q c d (lengthened d m) o).items ≡ given_back q m.role m.lb o
    by None = by_if (λ (s : Server Entry). s.items ≡ []) (is_p2 q && is_outside m.role) _ _
        (λ _. refl) (λ _. refl)
    by (Some v) = both (is_p2 q && is_outside m.role) _ _ [] _ refl
        (both (all_of (can_have q m.role ∷ load_tests m.lb v)) _ _ v.items [] refl refl)

saved_most : (q : Place) (role : Role) (lb : ℕ) (v : Saved Entry)
    → length (given_back q role lb (Some v)) ≤ length v.items
saved_most q role lb v = by_if (λ (es : List Entry). length es ≤ length v.items)
    (is_p2 q && is_outside role) [] _ (λ _. omega arith)
    (λ _. by_if (λ (es : List Entry). length es ≤ length v.items)
    (all_of (can_have q role ∷ load_tests lb v)) v.items [] (λ _. le_refl _) (λ _. omega arith))

-- ---- a server that is up has as many

abbrev pub HasKept : Place → Server Entry → Type 0
HasKept q s = length (kept q s) ≤ length s.items

none_kept : (q : Place) (s : Server Entry) → s.saved ≡ None → HasKept q s
none_kept q s e = subst (λ o. length (given_back q s.role s.lb o) ≤ length s.items) (sym e)
    (omega arith)

pub active_kept : (g : Group Entry) (q : Place) (s : Server Entry) → Good g q s → IsActive s.mode
    → s.saved ≡ None
active_kept g q s k a = ((its k).modes.active a).2

-- a move of a rule that may come anywhere
abbrev pub IsCalm : Server Entry → Move Entry → Type 0
IsCalm s Saving = ⊥
IsCalm s Falling = ⊥
IsCalm s (Booting d) = ⊥
IsCalm s (Basing n) = IsActive s.mode
IsCalm s Flushing = IsActive s.mode
IsCalm s m = ⊤

demoted_kept : (q : Place) (s : Server Entry) (v : ℕ) (b : Bool) → HasKept q (demoted_by b s v)
demoted_kept q s v true = omega arith
demoted_kept q s v false = omega arith

pub calm_kept : (g : Group Entry) (q : Place) (s : Server Entry) (m : Move Entry) → Good g q s
    → May g q s m → IsCalm s m → HasKept q s → HasKept q (act q (g.clock q) s m)
calm_kept g q s (Accepting plan role n) k may c h = omega arith
calm_kept g q s (Heeding items cp base) k may c h =
    none_kept q (act q (g.clock q) s (Heeding items cp base))
    (active_kept g q s k may.0.1)
calm_kept g q s (Appending e) k may c h = more s.items e h
  where
    more : (es : List Entry) (e : Entry) → length (kept q s) ≤ length es
        → length (kept q s) ≤ length (es ++ e ∷ [])
    more es e h = omega (arith, length-append es (e ∷ []), h)
calm_kept g q s (Basing n) k may c h =
    none_kept q (act q (g.clock q) s (Basing n)) (active_kept g q s k c)
calm_kept g q s Flushing k may c h =
    none_kept q (act q (g.clock q) s Flushing) (active_kept g q s k c)
calm_kept g q s (Demoting v) k may c h = demoted_kept q s v (nat_lt v s.promised)
calm_kept g q s Saving k may c h = absurd c
calm_kept g q s Falling k may c h = absurd c
calm_kept g q s (Booting d) k may c h = absurd c
calm_kept g q s m k may c h = h

-- ---- a boot

boots_kept : (q : Place) (c d : ℕ) (m : Mark Entry) → HasKept q (booted q c d m)
boots_kept q c d m = by m.saved refl
  where
    outside : (o : Option (Saved Entry)) → (is_p2 q && is_outside m.role) ≡ true
        → given_back q m.role m.lb o ≡ []
    outside None e = refl
    outside (Some v) e = rw e refl

    fails : (v : Saved Entry) → all_of (can_have q m.role ∷ load_tests m.lb v) ≡ false
        → given_back q m.role m.lb (Some v) ≡ []
    fails v e = rw e (by_if (λ (es : List Entry). es ≡ []) (is_p2 q && is_outside m.role) [] []
        (λ _. refl) (λ _. refl))

    by : (o : Option (Saved Entry)) → m.saved ≡ o → HasKept q (if is_p2 q && is_outside m.role
        then resting c d (lengthened d m) Empty (empty_log m.lb)
        else loaded q c d (lengthened d m) o)
    by None e = by_if (HasKept q) (is_p2 q && is_outside m.role) _ _
        (λ _. none_kept q (resting c d (lengthened d m) Empty (empty_log m.lb)) e)
        (λ _. none_kept q (resting c d (lengthened d m) Lost (lost_log m.lb)) e)
    by (Some v) e = by_if (HasKept q) (is_p2 q && is_outside m.role) _ _
        (λ t. let none = ap length (outside m.saved t) in omega arith)
        (λ _. by_if (HasKept q) (all_of (can_have q m.role ∷ load_tests m.lb v)) _ _
        (λ _. subst (λ o. length (given_back q m.role
        (if is_p2 q then v.base else m.lb) o) ≤ length v.items) (sym e)
        (saved_most q m.role (if is_p2 q then v.base else m.lb) v))
        (λ f. let none = ap (λ o. length (given_back q m.role m.lb o)) e
        ∙ ap length (fails v f) in omega arith))

-- ---- a step

-- a server is up with no more to give back than it has, or down with no more than it had
pub data Ends (q : Place) (s s' : Server Entry) : Type 0 where
  ends_up : s'.up ≡ true → HasKept q s' → Ends q s s'
  ends_down : s'.up ≡ false → s.up ≡ true → length (kept q s') ≤ length s.items → Ends q s s'

steady_calm : (s : Server Entry) (m : Move Entry) → IsSteady m → IsCalm s m
steady_calm s Saving h = absurd h
steady_calm s Falling h = absurd h
steady_calm s (Booting d) h = absurd h
steady_calm s (Basing n) h = absurd h
steady_calm s Flushing h = absurd h
steady_calm s (Applying n) h = absurd h
steady_calm s m h = tt

demoted_up : (s : Server Entry) (v : ℕ) (b : Bool) → (demoted_by b s v).up ≡ s.up
demoted_up s v true = refl
demoted_up s v false = refl

steady_up : (q : Place) (clock : ℕ) (s : Server Entry) (m : Move Entry) → IsSteady m
    → (act q clock s m).up ≡ s.up
steady_up q clock s Saving h = absurd h
steady_up q clock s Falling h = absurd h
steady_up q clock s (Booting d) h = absurd h
steady_up q clock s (Demoting v) h = demoted_up s v (nat_lt v s.promised)
steady_up q clock s m h = refl

abbrev IsUpWith : Place → Server Entry → Type 0
IsUpWith q s = (s.up ≡ true) × HasKept q s

steady_stays : (ms : List (Move Entry)) (g : Group Entry) (q : Place) (s : Server Entry)
    → Goes g q s ms → AllByRecursion IsSteady ms → IsUpWith q s
    → IsUpWith q (acts q (g.clock q) s ms)
steady_stays [] g q s k a h = h
steady_stays (m ∷ ms) g q s k a h =
    steady_stays ms (moved g q s m) q (act q (g.clock q) s m) (goes_later m ms g q s k) a.1 (
      steady_up q (g.clock q) s m a.0 ∙ h.0,
      calm_kept g q s m (goes_now (m ∷ ms) g q s k)
          (goes_may m ms g q s k) (steady_calm s m a.0) h.1,
    )

-- the base is tried at the end
base_stays : (g : Group Entry) (q : Place) (s : Server Entry) → Good g q s → IsUpWith q s
    → IsUpWith q (acts q (g.clock q) s (rebase s))
base_stays g q s k h = by_if (λ ms. IsUpWith q (acts q (g.clock q) s ms)) (all_of (base_tests s))
    _ []
    (λ t. let open' = open_is s.mode (each_of (base_tests s) t).0 in (
      h.0,
      none_kept q (act q (g.clock q) s (Basing _))
          (active_kept g q s k (subst IsActive (sym open') tt)),
    ))
    (λ _. h)

-- a rule that leaves it up, and the end of its step
rule_stays : (g : Group Entry) (q : Place) (ms : List (Move Entry))
    → Goes g q (g.server q) (ms ++ rebase (acts q (g.clock q) (g.server q) ms))
    → IsUpWith q (acts q (g.clock q) (g.server q) ms)
    → IsUpWith q (acts q (g.clock q) (g.server q)
    (ms ++ rebase (acts q (g.clock q) (g.server q) ms)))
rule_stays g q ms k h =
    let s = g.server q in
    let s1 = acts q (g.clock q) s ms in
    let later = goes_now (rebase s1) (moved_by g q s ms) q s1 (goes_rest ms (rebase s1) g q s k) in
    let ends = base_stays (moved_by g q s ms) q s1 later h in
    subst (IsUpWith q) (sym (acts_both q (g.clock q) ms (rebase s1) s
    ∙ sym (ap (λ (c : Place → ℕ). acts q (c q) s1 (rebase s1)) (moved_clock ms g q s)))) ends

flush_stays : (q : Place) (clock : ℕ) (s : Server Entry) → (IsActive s.mode → s.saved ≡ None)
    → IsUpWith q s → IsUpWith q (acts q clock s (flush q s))
flush_stays q clock s a h = by_if (λ ms. IsUpWith q (acts q clock s ms)) (all_of (flush_tests q s))
    _ []
    (λ t. (
      h.0,
      none_kept q (act q clock s Flushing)
          (a (settled_is s.mode (each_of (flush_tests q s) t).0)),
    ))
    (λ _. h)

apply_stays : (q : Place) (clock : ℕ) (s : Server Entry) (n : ℕ) → IsUpWith q s
    → IsUpWith q (acts q clock s (apply q s n))
apply_stays q clock s n h = by_if (λ ms. IsUpWith q (acts q clock s ms))
    (all_of (settled_tests q s))
    _ [] (λ _. h) (λ _. h)

-- what a save leaves
save_most : (q : Place) (s : Server Entry) → HasKept q s
    → length (kept q (down (mark_of (saving q s s.saved)))) ≤ length s.items
save_most q s h = by s.saved refl
  where
    by : (o : Option (Saved Entry)) → s.saved ≡ o
        → length (kept q (down (mark_of (saving q s o)))) ≤ length s.items
    by None e = by_if (λ (x : Server Entry). length (kept q (down (mark_of x))) ≤ length s.items)
        (is_log s.held) _ s (λ _. saved_most q s.role _ _) (λ _. h)
    by (Some v) e = h

power_ends : (size : List Entry → Entry → ℕ) (g : Group Entry) (q : Place)
    → IsUpWith q (g.server q)
    → Ends q (g.server q) (acts q (g.clock q) (g.server q) (step_of size g q (Does Power)))
unfolding all_of
power_ends size g q h = ends_down refl h.0 (save_most q (g.server q) h.1)

crash_ends : (size : List Entry → Entry → ℕ) (g : Group Entry) (q : Place)
    → IsUpWith q (g.server q)
    → Ends q (g.server q) (acts q (g.clock q) (g.server q) (step_of size g q (Does Crash)))
unfolding all_of
crash_ends size g q h = ends_down refl h.0 h.1

whole_ends : (size : List Entry → Entry → ℕ) (g : Group Entry) (q : Place) (i : Input)
    → Goes g q (g.server q) (step_of size g q i) → IsUpWith q (g.server q)
    → Ends q (g.server q) (acts q (g.clock q) (g.server q) (step_of size g q i))
whole_ends size g q (Does Power) k h = power_ends size g q h
whole_ends size g q (Does Crash) k h = crash_ends size g q h
whole_ends size g q (Does Flush) k h =
    let s = g.server q in
    let good = goes_now (step_of size g q (Does Flush)) g q s k in
    let ends = rule_stays g q (flush q s) k
    (flush_stays q (g.clock q) s (active_kept g q s good) h) in
    ends_up ends.0 ends.1
whole_ends size g q (Does (Apply n)) k h =
    let ends = rule_stays g q (apply q (g.server q) n) k
    (apply_stays q (g.clock q) (g.server q) n h) in
    ends_up ends.0 ends.1
whole_ends size g q i k h =
    let s = g.server q in
    let ms = rule size q (g.clock q) (list_of g q) s i in
    let steady = once_steady ms (rule_once size q (g.clock q) (list_of g q) s i) in
    let ends = rule_stays g q ms k
    (steady_stays ms g q s (goes_first ms (rebase (acts q (g.clock q) s ms)) g q s k) steady h) in
    ends_up ends.0 ends.1

boot_up : (q : Place) (c d : ℕ) (m : Mark Entry) → (booted q c d m).up ≡ true
boot_up q c d m = by_if (λ (s : Server Entry). s.up ≡ true) (is_p2 q && is_outside m.role) _ _
    (λ _. refl) (λ _. loads m.saved)
  where
    loads : (o : Option (Saved Entry)) → (loaded q c d (lengthened d m) o).up ≡ true
    loads None = refl
    loads (Some v) = by_if (λ (s : Server Entry). s.up ≡ true)
        (all_of (can_have q m.role ∷ load_tests m.lb v)) _ _ (λ _. refl) (λ _. refl)

-- each step of a server
pub step_ends : (g : Group Entry) (q : Place) (i : Input) (ms : List (Move Entry)) → Made g q i ms
    → Goes g q (g.server q) ms → ((g.server q).up ≡ true → HasKept q (g.server q))
    → Ends q (g.server q) (acts q (g.clock q) (g.server q) ms)
step_ends g q i _ (whole size up) k h = whole_ends size g q i k (up, h up)
step_ends g q i _ (fell up) k h = ends_down refl up (h up)
step_ends g q i _ (boot down) k h =
    ends_up (boot_up q (g.clock q) g.delta (mark_of (g.server q)))
    (boots_kept q (g.clock q) g.delta (mark_of (g.server q)))
