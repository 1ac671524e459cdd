-- Event, beat and acknowledgement keep the facts.
use Rattle.std.proofs.Common.{◌≡◌, ℕ, zero, suc, ◌+◌, ◌-◌, ◌<◌, ◌≤◌, true, List, [], ◌∷◌, ◌++◌, length, Some, slice_get, take, drop, max, refl, sym, ap, ◌∙◌, subst, arith, le_of_lt, le_refl, nat_lt, ◌==◌, if◌then◌else◌, length-append}
use Rattle.std.proofs.lemmas.Option.{slice_get_within}
use Rattle.std.proofs.lemmas.List.{length-take, length-drop}
use Rattle.file_tree.specs.Book.{Entry}
use Rattle.group_rules.specs.Effects.{taken}
use Rattle.group_safety.specs.Entered.{AnswerOk}
use Rattle.group_rules.specs.Limits.{room}
use Rattle.group_rules.specs.Misfits.{led_tests}
use Rattle.group_rules.specs.Moves.{Committing, Heeding, Noting, act, moved, raised_page}
use Rattle.group_rules.specs.Places.{One, Place, S01, all_of, partner, same}
use Rattle.group_rules.specs.Replicate.{ack_tests, answers, in_view_tests, is_in_view, on_ack, on_event}
use Rattle.group_rules.specs.State.{Answers, Group, Log, Page, Plan, Server, top}
use Rattle.group_safety.specs.Words.{IsActive, Part, Sure, Under}
use Rattle.group_safety.proofs.Lists.{part_append, get_take, get_drop}
use Rattle.group_rules.proofs.Tests.{by_if, each_of, is_le, is_lt, is_eq'}
use Rattle.group_safety.proofs.Common.{sure_less}
use Rattle.group_safety.proofs.Common.{put_same as put_is}
use Rattle.group_safety.proofs.Accepting.{same_is}
use Rattle.group_safety.proofs.Raising.{leader_not_partner}
use Rattle.group_safety.proofs.Modes.{open_is, active_is}
use Rattle.group_safety.proofs.Quiet.{note_kept}
use Rattle.group_safety.proofs.Moving.{Good, its, its_within, Goes, goes_done, goes_more, heeding', committing}
use Rattle.group_safety.proofs.Adopting.{if_true}
use Rattle.group_safety.proofs.Bases.{lbs_of}
use Rattle.group_safety.proofs.Sends.{Steady, goes_send, goes_where, partner_lb, steady_goes, steady_none, steady_say}

-- event and beat
pub heeded : (g : Group Entry) (q : Place) (s : Server Entry) → Good g q s → s.up ≡ true → (from : Place) (v cp base : ℕ) (items : List Entry) → (g.page v).formed ≡ true → (g.page v).opened ≡ true → Sure g.page g.committed v cp → (g.page v).plan.start ≤ cp → Under (lbs_of g.server) base
    → (if is_in_view s v then all_of (led_tests s from base) else true) ≡ true → (is_in_view s v ≡ true → length items - (base - s.base) ≤ room)
    → (IsActive s.mode → v ≡ s.accepted → (length s.items ≤ length items) × (s.base + length items ≤ length (g.page s.accepted).list) × Part s.base items (g.page s.accepted).list)
    → Goes g q s (on_event q (g.clock q) s from v cp base items)
heeded g q s h up from v cp base items f o sure start low led space more = goes_where g q s (all_of (is_in_view s v ∷ same q (partner s.plan.storers) ∷ [])) _ h (λ t.
    let a = each_of (is_in_view s v ∷ same q (partner s.plan.storers) ∷ []) t in
    let i = each_of (in_view_tests s v) a.0 in
    let active = active_is s.mode i.0 in
    let e : v ≡ s.accepted = is_eq' v s.accepted i.1.0 in
    let tests = each_of (led_tests s from base) (if_true _ _ _ led a.0) in
    let plan = (its h).modes.plan active in
    let follows : q ≡ partner (g.page s.accepted).plan.storers = same_is _ _ a.1.0 ∙ ap (λ (p : Plan). partner p.storers) plan in
    let new = more active e in
    goes_more g q s (Heeding items cp base) _ h (
      (
        subst
            (λ (n : ℕ). (g.page n).plan.start ≤ cp) e start,
        active,
        new.0,
      ),
      low,
      (
        space a.0,
        active,
        (λ o. leader_not_partner _ (sym ((its h).modes.leads o).0
            ∙ follows)),
        ((its h).modes.active active).0,
      ),
      active,
    )
    (heeding' h items cp base (record {
      active = active;
      follows = follows;
      up = up;
      opened = subst (λ (n : ℕ). (g.page n).opened ≡ true) e o;
      cp_sure = subst (λ (n : ℕ). Sure g.page g.committed n cp) e sure;
      base_lb = is_le base s.lb tests.1.0;
      lasts = ((its_within h).delta up).1;
      longer = new.0;
      within = new.1;
      part = new.2;
    }))
    (λ k.
    let p' = put_is g.page s.accepted (raised_page (g.page s.accepted) (max (g.page s.accepted).held_twice (s.base + length items)) (max (g.page s.accepted).until (g.clock q + s.delta))) in
    let g1 = moved g q s (Heeding items cp base) in
    let s1 = act q (g.clock q) s (Heeding items cp base) in
    let known = its k in
    let old = (its h).logs.log ((its h).modes.active active).0 in
    let order = (its h).logs.order ((its h).modes.active active).0 in
    let most = old.cp_top in
    let longer = new.0 in
    let low : s.lb ≤ s.base + length items = omega arith in
    goes_send g1 q s1 from _ [] k
    (subst (λ (n : ℕ). ((g1.page n).formed ≡ true) × ((g1.page n).opened ≡ true) × (q ≡ partner (g1.page n).plan.storers) × (s.base + length items ≤ (g1.page n).held_twice) × (g.clock q + s.delta ≤ (g1.page n).until) × (s.lb ≤ s.base + length items)) (sym e) (
      known.views.formed,
      (known.modes.follows refl).1,
      (known.modes.follows refl).0,
      subst (λ (p : Page _). s.base + length items ≤ p.held_twice) (sym p') (omega arith),
      subst (λ (p : Page _). g.clock q + s.delta ≤ p.until) (sym p') (omega arith),
      low,
    ))
    (tt, subst (λ (n : ℕ). ((g1.page n).formed ≡ true) × ((g1.page n).plan.storers ≡ S01 → s.lb ≤ lbs_of g1.server One)) (sym e) (known.views.formed, partner_lb g1 q s1 k (known.modes.follows refl).0), tt) goes_done))

pub event_taken : (g : Group Entry) (q : Place) (s : Server Entry) → Good g q s → (v index : ℕ) (e : Entry) → slice_get (g.page v).list (index - 1) ≡ Some e → IsActive s.mode → v ≡ s.accepted
    → (length s.items ≤ length (taken s index e)) × (s.base + length (taken s index e) ≤ length (g.page s.accepted).list) × Part s.base (taken s index e) (g.page s.accepted).list
event_taken g q s h v index e at' a same' =
    let log = (its h).logs.log ((its h).modes.active a).0 in
    by_if (λ (xs : List Entry). (length s.items ≤ length xs) × (s.base + length xs ≤ length (g.page s.accepted).list) × Part s.base xs (g.page s.accepted).list) (index == top s + 1) (s.items ++ e ∷ []) s.items
    (λ t.
    let i : index ≡ top s + 1 = is_eq' index (top s + 1) t in
    let i' : index - 1 ≡ s.base + length s.items = omega arith in
    let here : slice_get (g.page s.accepted).list (s.base + length s.items) ≡ Some e = subst (λ (n : ℕ). slice_get (g.page s.accepted).list n ≡ Some e) i' (subst (λ (n : ℕ). slice_get (g.page n).list (index - 1) ≡ Some e) same' at') in
    let size = length-append s.items (e ∷ []) in
    let within = slice_get_within (g.page s.accepted).list (s.base + length s.items) e here in
    (omega arith, omega arith, part_append s.base s.items (e ∷ []) (g.page s.accepted).list log.part (one e (s.base + length s.items) (g.page s.accepted).list here)))
    (λ _. (le_refl _, log.holds.within, log.part))
  where
    one : (e : Entry) (n : ℕ) (xs : List Entry) → slice_get xs n ≡ Some e → Part n (e ∷ []) xs
    one e n xs x zero l = let z : n + 0 ≡ n = omega arith in sym (rw z x)
    one e n xs x (suc k) l = absurd (omega arith)

-- an entry of the accepted view's list within CP may be answered
pub answer_at : (g : Group Entry) (q : Place) (s : Server Entry) → Good g q s → s.held ≡ Log → (n : ℕ) (e : Entry) → n < s.cp → slice_get (g.page s.accepted).list n ≡ Some e
    → AnswerOk g.page g.committed (record { view = s.accepted; index = n + 1; entry = e })
answer_at g q s h l n e lt i =
    let fine = its h in
    let sure = (fine.logs.log l).sure in
    let back : n + 1 - 1 ≡ n = omega arith in
    record {
      formed = fine.views.formed;
      sure = sure_less g.page g.committed s.accepted s.cp (n + 1) (omega arith) sure;
      positive = omega arith;
      entry = ap (slice_get g.committed) back ∙ sym (sure.same n lt) ∙ i;
    }

-- the answers of records of the log within CP
answers_steady : (q : Place) (s : Server Entry) (n : ℕ) (es : List Entry) → ((g : Group Entry) → Good g q s → (k : ℕ) (e : Entry) → slice_get es k ≡ Some e → AnswerOk g.page g.committed (record { view = s.accepted; index = n + k + 1; entry = e })) → Steady q s (answers n es)
answers_steady q s n [] h = steady_none q s
answers_steady q s n (e ∷ es) h =
    let z : n + 0 + 1 ≡ n + 1 = omega arith in
    steady_say q s (Answers (n + 1) e) (answers (n + 1) es) (λ g k. subst (λ (i : ℕ). AnswerOk g.page g.committed (record { view = s.accepted; index = i; entry = e })) z (h g k 0 e refl))
    (answers_steady q s (n + 1) es (λ g k i x y. let z' : n + suc i + 1 ≡ n + 1 + i + 1 = omega arith in subst (λ (j : ℕ). AnswerOk g.page g.committed (record { view = s.accepted; index = j; entry = x })) z' (h g k (suc i) x y)))

-- acknowledgement
pub acked : (g : Group Entry) (q : Place) (s : Server Entry) → Good g q s → (v t lb until : ℕ) → t ≤ (g.page v).held_twice → until ≤ (g.page v).until → ((g.page v).plan.storers ≡ S01 → lb ≤ lbs_of g.server One) → Goes g q s (on_ack s v t lb until)
acked g q s h v t lb until held_twice til low = goes_where g q s (all_of (ack_tests s v)) _ h (λ x.
    let a = each_of (ack_tests s v) x in
    let open' = open_is s.mode a.0 in
    let v_is : v ≡ s.accepted = is_eq' v s.accepted a.1.0 in
    let active : IsActive s.mode = subst (λ z. IsActive z) (sym open') tt in
    let twice : t ≤ (g.page s.accepted).held_twice = subst (λ (n : ℕ). t ≤ (g.page n).held_twice) v_is held_twice in
    let log = (its h).logs.log ((its h).modes.active active).0 in
    goes_more g q s (Noting t lb until) _ h (
      tt,
      (λ p. low
          (ap (λ (n : ℕ). (g.page n).plan.storers) v_is
          ∙ ap (λ (l : Plan). l.storers) (sym ((its h).modes.plan active)) ∙ p)),
      open',
      active,
    )
    (note_kept g h.ok q s h.is t lb until (subst (λ (n : ℕ). until ≤ (g.page n).until) v_is til)) (λ k.
    goes_where _ q _ (nat_lt s.cp t) _ k (λ y.
    let s1 = act q (g.clock q) s (Noting t lb until) in
    let g1 = moved g q s (Noting t lb until) in
    let forward : s.cp ≤ t = le_of_lt (is_lt s.cp t y) in
    goes_more g1 q s1 (Committing t) _ k (
      (open', forward, twice),
      tt,
      ((its h).modes.active active).0,
      active,
    ) (committing k.ok k.is t
    (record { open' = open'; forward = forward; held_twice = twice })) (λ k2.
    let s2 = act q (g.clock q) s1 (Committing t) in
    let g2 = moved g1 q s1 (Committing t) in
    steady_goes q s2 _ (answers_steady q s2 s.cp (take (t - s.cp) (drop (s.cp - s.base) s.items)) (λ g' k' i e z.
    let base_cp = log.base_cp in
    let most = log.cp_top in
    let l : s.held ≡ Log = ((its h).modes.active active).0 in
    let size = length-take (t - s.cp) (drop (s.cp - s.base) s.items) in
    let size' = length-drop (s.cp - s.base) s.items in
    let lt = slice_get_within (take (t - s.cp) (drop (s.cp - s.base) s.items)) i e z in
    let lt' : i < t - s.cp = omega arith in
    let back : s.cp - s.base + i < length s.items = omega arith in
    let here : slice_get s.items (s.cp - s.base + i) ≡ Some e = sym (get_drop (s.cp - s.base) s.items i) ∙ sym (get_take (t - s.cp) (drop (s.cp - s.base) s.items) i lt') ∙ z in
    let place : s.base + (s.cp - s.base + i) ≡ s.cp + i = omega arith in
    let in_list : slice_get (g'.page s.accepted).list (s.cp + i) ≡ Some e = sym (((its k').logs.log l).part (s.cp - s.base + i) back ∙ ap (slice_get (g'.page s.accepted).list) place) ∙ here in
    answer_at g' q s2 k' l (s.cp + i) e (omega arith) in_list)) g2 k2))))
