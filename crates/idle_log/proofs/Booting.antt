-- What a boot makes of a mark.
use Rattle.std.proofs.Common.{◌≡◌, ℕ, ◌+◌, ◌≤◌, ◌&&◌, Bool, true, false, Some, [], ◌∷◌, length, refl, ap, sym, ◌∙◌, arith, if◌then◌else◌}
use Rattle.std.specs.Prelude.{map}
use Rattle.std.proofs.lemmas.List.{length-map}
use Rattle.event_record.specs.Record.{entry_of}
use Rattle.file_tree.specs.Book.{Entry}
use Rattle.group_rules.proofs.Tests.{all_true, if_is, if_not, le_is}
use Rattle.group_rules.specs.Effects.{load_tests, loaded, rested, resting, saved_log}
use Rattle.group_rules.specs.Limits.{can_have, is_outside, room}
use Rattle.group_rules.specs.Places.{Place, all_of, is_p2}
use Rattle.group_rules.specs.State.{Follows, Leads, Log, Mark, Outside, Role}
use Rattle.idle_log.specs.Boots.{rests, saved_of}
use Rattle.idle_log.specs.declared.kept.Kept.TheVariants as kept
use Rattle.volatile_log.specs.Log.{IsLog, LogValue}

never : (b : Bool) → (b && false) ≡ false
never true = refl
never false = refl

-- only server 2 outside has no log
pub not_outside : (q : Place) (r : Role) → is_outside r ≡ false → (is_p2 q && is_outside r) ≡ false
not_outside q r inside = ap (λ b. is_p2 q && b) inside ∙ never (is_p2 q)

stands : (q : Place) (r : Role) → can_have q r ≡ true → is_outside r ≡ false
stands q (Leads p) can = refl
stands q (Follows p) can = refl
stands q Outside can = cc

-- a saved log that is one is taken
taken : (q : Place) (m : Mark Entry) (log : LogValue) → IsLog log → log.lb ≡ m.lb
    → can_have q m.role ≡ true
    → all_of (can_have q m.role ∷ load_tests m.lb (saved_of log)) ≡ true
unfolding room
taken q m log h low can =
    let same = length-map log.records entry_of in
    let base : log.base ≤ m.lb = omega (arith, low, h.base) in
    let cp : m.lb ≤ log.cp = omega (arith, low, h.lb, h.ap) in
    let top : log.cp ≤ log.base + length (map entry_of log.records) = omega (arith, same, h.cp) in
    let few : length (map entry_of log.records) ≤ 32768 = omega (arith, same, h.few) in
    all_true (can_have q m.role ∷ load_tests m.lb (saved_of log))
    (can, (le_is _ _ base, (le_is _ _ cp, (le_is _ _ top, (le_is _ _ few, tt)))))

-- with LB and AP at the base at server 2
pub rests_held : (q : Place) (clock delta : ℕ) (m : Mark Entry) (log : LogValue) (low : ℕ)
    → IsLog log → can_have q m.role ≡ true → log.lb ≡ m.lb → m.saved ≡ Some (saved_of log)
    → (if is_p2 q then log.base else m.lb) ≡ low
    → rested q clock delta m ≡ rests clock delta m (kept.Held (record log { lb = low; ap = low }))
rests_held q clock delta m log low h can at saved from =
    if_not (is_p2 q && is_outside m.role) _ _ (not_outside q m.role (stands q m.role can))
    ∙ ap (loaded q clock delta m) saved
    ∙ if_is (all_of (can_have q m.role ∷ load_tests m.lb (saved_of log)))
    (resting clock delta m Log (saved_log q m.lb (saved_of log))) _ (taken q m log h at can)
    ∙ ap (λ n. rests clock delta m (kept.Held (record log { lb = n; ap = n }))) from

-- the log with LB and AP of the mark
pub rests_loaded : (q : Place) (clock delta : ℕ) (m : Mark Entry) (log : LogValue) → IsLog log
    → can_have q m.role ≡ true → log.lb ≡ m.lb → log.ap ≡ m.lb → m.saved ≡ Some (saved_of log)
    → is_p2 q ≡ false → rested q clock delta m ≡ rests clock delta m (kept.Held log)
rests_loaded q clock delta m log h can at applied saved stores =
    rests_held q clock delta m log m.lb h can at saved (if_not (is_p2 q) log.base m.lb stores)
    ∙ ap (λ n. rests clock delta m (kept.Held (record log { lb = n; ap = m.lb }))) (sym at)
    ∙ ap (λ n. rests clock delta m (kept.Held (record log { ap = n }))) (sym applied)
