-- Form, pulling, accepting and serving keep the facts.
use Rattle.std.proofs.Common.{◌≡◌, ℕ, suc, ◌+◌, ◌-◌, ◌≤◌, ◌||◌, Bool, true, false, List, [], ◌∷◌, ◌++◌, length, take, drop, refl, sym, ap, ◌∙◌, subst, arith, true≢false, ⊎_elim, le_of_eq, le_refl, nat_le, ◌==◌, if◌then◌else◌, length-append}
use Rattle.std.proofs.lemmas.List.{length-take}
use Rattle.file_tree.specs.Book.{Entry}
use Rattle.group_rules.specs.Form.{accept_moves, adopted, fits, form_moves, keeps, on_form, on_give, pull_tests, role_of, wanted}
use Rattle.group_rules.specs.Limits.{by_held, can_have, give_bytes, is_joins, is_log, is_pulls, room}
use Rattle.group_rules.specs.Misfits.{given_tests}
use Rattle.group_rules.specs.Moves.{Accepting, Pulling, Staging, act, moved}
use Rattle.group_rules.specs.Places.{IsIn, Zero, One, Two, Pair, Place, S01, S02, S12, all_of, is_p2, partner, same}
use Rattle.group_rules.specs.Serving.{front, gives, held_tests, on_fetch, one_or_more, serving_accepted, serving_joined}
use Rattle.group_rules.specs.State.{Group, Held, Plan, Server, top}
use Rattle.group_safety.specs.Words.{IsJoining, Part, Under}
use Rattle.group_safety.proofs.Lists.{part_drop, part_append, part_take}
use Rattle.group_rules.proofs.Tests.{by_if, each_of, all_true, one_of, is_le, is_lt, is_eq'}
use Rattle.group_safety.proofs.Accepting.{same_is}
use Rattle.group_safety.proofs.Raising.{leader_not_partner}
use Rattle.group_safety.proofs.Modes.{joins_is, pulls_is, joining_is}
use Rattle.group_safety.proofs.Quiet.{pull_kept, stage_kept, log_is}
use Rattle.group_safety.proofs.Moving.{Good, its, Goes, goes_done, goes_more, accepting'}
use Rattle.group_safety.proofs.Adopting.{if_true, adopt_may, fits_is, keeps_held, source_from, source_part}
use Rattle.group_safety.proofs.Bases.{lbs_of}
use Rattle.group_safety.proofs.Sends.{goes_if, goes_send, goes_where, partner_lb}

pub adopted_lb : (q : Place) (s : Server Entry) (plan : Plan) → is_p2 q ≡ false → s.lb ≤ (if is_p2 q then plan.base else s.lb)
adopted_lb q s plan f = by_if (λ (n : ℕ). s.lb ≤ n) (is_p2 q) plan.base s.lb (λ t. absurd (true≢false (sym t ∙ f))) (λ _. le_refl _)

-- a data server's LB and AP stay, and its AP is its LB where its log was lost
adopted_numbers : (q : Place) (s : Server Entry) (plan : Plan) → is_p2 q ≡ false
    → ((if is_p2 q then plan.base else s.lb) ≡ s.lb)
    × ((if is_p2 q then plan.base else (if is_log s.held then s.ap else s.lb))
    ≡ (if is_log s.held then s.ap else s.lb))
adopted_numbers q s plan f = (
  by_if (λ (n : ℕ). n ≡ s.lb) (is_p2 q) plan.base s.lb (λ t. absurd (true≢false (sym t ∙ f)))
      (λ _. refl),
  by_if (λ (n : ℕ). n ≡ (if is_log s.held then s.ap else s.lb)) (is_p2 q) plan.base
      (if is_log s.held then s.ap else s.lb) (λ t. absurd (true≢false (sym t ∙ f))) (λ _. refl),
)

-- a storer's role is one that a choice gives
role_can : (pair : Pair) (q : Place) → IsIn pair q → can_have q (role_of pair q) ≡ true
role_can S01 Zero i = refl
role_can S01 One i = refl
role_can S01 Two i = absurd i
role_can S02 Zero i = refl
role_can S02 One i = absurd i
role_can S02 Two i = refl
role_can S12 Zero i = absurd i
role_can S12 One i = refl
role_can S12 Two i = refl

witness_lb : (q : Place) (s : Server Entry) (plan : Plan) → q ≡ Two
    → (if is_p2 q then plan.base else s.lb) ≤ plan.base
witness_lb q s plan two = by_if (λ (n : ℕ). n ≤ plan.base) (is_p2 q) plan.base s.lb
    (λ _. le_refl _)
    (λ f. absurd (true≢false (ap is_p2 (sym two) ∙ f)))

-- the storer's own part: it accepts
pub accepts : (g : Group Entry) (q : Place) (s : Server Entry) → Good g q s → (plan : Plan) (staged : List Entry) → IsJoining s.mode → (g.page s.promised).formed ≡ true → plan ≡ (g.page s.promised).plan → fits q s plan ≡ true
    → (same q plan.source ≡ false → Part (wanted q s plan) staged (g.page s.promised).list × (wanted q s plan + length staged ≡ plan.start)) → Goes g q s (accept_moves q s plan staged)
accepts g q s h plan staged j f known fit pulled =
    let n = adopted q s plan staged in
    let role = role_of plan.storers q in
    let may = adopt_may g q s h plan staged j f known fit pulled in
    let whole = may.whole in
    let start : plan.start ≡ (g.page s.promised).plan.start = ap (λ (p : Plan). p.start) known in
    let most = (fits_is q s plan fit).space in
    let space : length n.items ≤ room = omega arith in
    let inside : IsIn plan.storers q = subst (λ (p : Plan). IsIn p.storers q)
    (sym known) may.storer in
    goes_more g q s (Accepting plan role n) _ h (
      adopted_numbers q s plan,
      (
        f,
        subst (λ (p : Plan). Under (lbs_of g.server) p.base) (sym known)
            (h.bases.page s.promised f),
        adopted_lb q s plan,
      ),
      (space, j),
      (role_can plan.storers q inside, witness_lb q s plan),
    ) (accepting' h plan role n may)
    (λ k.
    let g1 = moved g q s (Accepting plan role n) in
    let s1 = act q (g.clock q) s (Accepting plan role n) in
    goes_where g1 q s1 (same q (partner plan.storers)) _ k (λ t.
    let m = (its k).modes in
    let partner' : q ≡ partner (g1.page s1.accepted).plan.storers = same_is _ _ t ∙ ap (λ (p : Plan). partner p.storers) (m.plan tt) in
    goes_send g1 q s1 _ _ [] k ((its k).views.formed, partner', ⊎_elim (λ i. absurd (leader_not_partner _ (sym i.0 ∙ partner'))) (λ i. i.1) (m.active tt).3) (tt, ((its k).views.formed, partner_lb g1 q s1 k partner'), tt) goes_done))

no_part : (n : ℕ) (xs : List Entry) → Part n [] xs
no_part n xs k l = absurd (omega arith)

-- form and pulling: the storer heeds a Form
pub forms : (g : Group Entry) (q : Place) (s : Server Entry) → Good g q s → (plan : Plan) → (g.page s.promised).formed ≡ true → plan ≡ (g.page s.promised).plan → Goes g q s (form_moves q s plan)
forms g q s h plan f known = goes_where g q s (all_of (is_joins s.mode ∷ fits q s plan ∷ [])) _ h (λ t.
    let a = each_of (is_joins s.mode ∷ fits q s plan ∷ []) t in
    let fit = a.1.0 in
    let fits' = fits_is q s plan fit in
    let j : IsJoining s.mode = subst (λ z. IsJoining z) (sym (joins_is s.mode a.0)) tt in
    let low : wanted q s plan ≤ plan.start = by_if (λ (n : ℕ). n ≤ plan.start) (keeps q s plan) s.cp plan.base
    (λ t. subst (λ (x : Held). by_held x s.cp s.lb ≤ plan.start) (keeps_held q s plan t) fits'.own_cp) (λ _. fits'.base) in
    goes_if g q s (same q plan.source || (wanted q s plan == plan.start)) _ _
    (λ t. accepts g q s h plan [] j f known fit (λ n. (no_part _ _, ⊎_elim (λ y. absurd (true≢false (sym y ∙ n))) (λ y. let z = is_eq' (wanted q s plan) plan.start y in omega arith) (one_of _ _ t))))
    (λ t. goes_more g q s (Pulling plan (wanted q s plan)) _ h (tt, tt, j, tt)
    (pull_kept g h.ok q s h.is plan (wanted q s plan) j (f, known, no_part _ _, subst (λ (p : Plan). wanted q s plan + 0 ≤ p.start) known (omega arith), fit, refl, not_either (same q plan.source) _ t))
    (λ k. goes_send _ q _ _ _ [] k (f, ap (λ (p : Plan). p.source) known) (tt, tt, tt) goes_done)))
  where
    not_either : (a b : Bool) → (a || b) ≡ false → a ≡ false
    not_either true b e = e
    not_either false b e = refl

-- form
pub form_heeded : (g : Group Entry) (q : Place) (s : Server Entry) → Good g q s → (v : ℕ) (plan : Plan) → ((g.page v).formed ≡ true) × ((g.page v).plan ≡ plan) → Goes g q s (on_form q s v plan)
form_heeded g q s h v plan b = goes_where g q s (v == s.promised) _ h (λ t.
    let b' = subst (λ (n : ℕ). ((g.page n).formed ≡ true) × ((g.page n).plan ≡ plan)) (is_eq' v s.promised t) b in
    forms g q s h plan b'.0 (sym b'.1))

-- pulling
pub given : (g : Group Entry) (q : Place) (s : Server Entry) → Good g q s → (from : Place) (v index : ℕ) (items : List Entry) → Part (index - 1) items (g.page v).list
    → (if all_of ((v == s.promised) ∷ is_pulls s.mode ∷ []) then all_of (given_tests s from index items) else true) ≡ true → Goes g q s (on_give q s v index items)
given g q s h from v index items part test = goes_where g q s (all_of (pull_tests s v index items)) _ h (λ t.
    let a = each_of (pull_tests s v index items) t in
    let pulls = pulls_is s.mode a.0 in
    let j : IsJoining s.mode = subst (λ z. IsJoining z) (sym pulls) tt in
    let e : v ≡ s.promised = is_eq' v s.promised a.1.0 in
    let place : index ≡ s.wanted_from + length s.staged + 1 = is_eq' index (s.wanted_from + length s.staged + 1) a.1.1.0 in
    let place' : index - 1 ≡ s.wanted_from + length s.staged = omega arith in
    let b = each_of (given_tests s from index items) (if_true _ _ _ test (all_true ((v == s.promised) ∷ is_pulls s.mode ∷ []) (a.1.0, (a.0, tt)))) in
    let space = is_le (index + length items) (s.plan.start + 1) b.1.0 in
    let ok = (its h).modes.pulls pulls in
    let size = length-append s.staged items in
    let more : Part s.wanted_from (s.staged ++ items) (g.page s.promised).list = part_append s.wanted_from s.staged items (g.page s.promised).list ok.2
    (subst (λ (n : ℕ). Part n items (g.page s.promised).list) place' (subst (λ (n : ℕ). Part (index - 1) items (g.page n).list) e part)) in
    goes_if g q s (s.wanted_from + length (s.staged ++ items) == s.plan.start) _ _
    (λ x. accepts g q s h s.plan (s.staged ++ items) j ok.0 ok.1 ok.4 (λ _.
    (subst (λ (n : ℕ). Part n (s.staged ++ items) (g.page s.promised).list) (sym ok.5) more, subst (λ (n : ℕ). n + length (s.staged ++ items) ≡ s.plan.start) (sym ok.5) (is_eq' (s.wanted_from + length (s.staged ++ items)) s.plan.start x))))
    (λ _. goes_more g q s (Staging (s.staged ++ items)) _ h (tt, tt, pulls, tt)
    (stage_kept g h.ok q s h.is (s.staged ++ items) (ok.0, ok.1, more, subst (λ (p : Plan). s.wanted_from + length (s.staged ++ items) ≤ p.start) ok.1 (omega arith), ok.4, ok.5, ok.6))
    (λ k. goes_send _ q _ _ _ [] k (ok.0, ap (λ (p : Plan). p.source) ok.1) (tt, tt, tt) goes_done)))

-- what a Give has is a front of what may be given
front_takes : (size : List Entry → Entry → ℕ) (before : List Entry) (used : ℕ) (xs : List Entry) → (n : ℕ) × (front size before used xs ≡ take n xs)
front_takes size before used [] = (0, refl)
front_takes size before used (x ∷ xs) = by_if (λ (l : List Entry). (n : ℕ) × (l ≡ take n (x ∷ xs))) (nat_le (used + size before x) give_bytes) _ []
    (λ _. let r = front_takes size (before ++ x ∷ []) (used + size before x) xs in (suc r.0, ap (λ (l : List Entry). x ∷ l) r.1))
    (λ _. (0, refl))

given_takes : (size : List Entry → Entry → ℕ) (before xs : List Entry) → (n : ℕ) × (one_or_more size before xs ≡ take n xs)
given_takes size before [] = (0, refl)
given_takes size before (x ∷ xs) = let r = front_takes size (before ++ x ∷ []) (size before x) xs in (suc r.0, ap (λ (l : List Entry). x ∷ l) r.1)

-- serving
give_goes : (size : List Entry → Entry → ℕ) (list : List Entry) (g : Group Entry) (q : Place) (s : Server Entry) → Good g q s → (to : Place) (v index last : ℕ) → (g.page v).formed ≡ true → Part s.base s.items (g.page v).list → last ≤ (g.page v).plan.start → Goes g q s (gives size list s to v index last)
give_goes size list g q s h to v index last f part le = goes_where g q s (all_of (held_tests s index last)) _ h (λ t.
    let a = each_of (held_tests s index last) t in
    let low = is_lt s.base index a.0 in
    let high = is_le index last a.1.0 in
    let first = index - 1 in
    let items = take (last - first) (drop (first - s.base) s.items) in
    let takes = given_takes size (take first list) items in
    let size' = length-take (last - first) (drop (first - s.base) s.items) in
    let size'' = length-take takes.0 items in
    let fine : Part first (take takes.0 items) (g.page v).list = part_take first takes.0 items (g.page v).list (part_take first (last - first) (drop (first - s.base) s.items) (g.page v).list (part_drop s.base first (first - s.base) s.items (g.page v).list (omega arith) part)) in
    let within : first + length (take takes.0 items) ≤ (g.page v).plan.start = omega arith in
    goes_send g q s to _ [] h
    (f, (omega arith), subst (λ (l : List Entry). Part first l (g.page v).list) (sym takes.1) fine, subst (λ (l : List Entry). first + length l ≤ (g.page v).plan.start) (sym takes.1) within) (tt, tt, tt)
    goes_done)

pub fetched : (size : List Entry → Entry → ℕ) (list : List Entry) (g : Group Entry) (q : Place) (s : Server Entry) → Good g q s → (from : Place) (v index : ℕ) → (g.page v).formed ≡ true → q ≡ (g.page v).plan.source → Goes g q s (on_fetch size list s from v index)
fetched size list g q s h from v index f src = goes_if g q s (all_of (serving_joined s v)) _ _
    (λ t.
    let a = each_of (serving_joined s v) t in
    let e : v ≡ s.promised = is_eq' v s.promised a.0 in
    let j = joining_is s.mode a.1.0 in
    let l = log_is s.held a.1.1.0 in
    let f' = subst (λ (n : ℕ). (g.page n).formed ≡ true) e f in
    let src' : (g.page s.promised).plan.source ≡ q = sym (subst (λ (n : ℕ). q ≡ (g.page n).plan.source) e src) in
    give_goes size list g q s h from v index (top s) f
    (subst (λ (n : ℕ). Part s.base s.items (g.page n).list) (sym e) (source_part g q s h j f' l src'))
    (subst (λ (n : ℕ). top s ≤ (g.page n).plan.start) (sym e) (le_of_eq (source_from g q s h j f' l src').1)))
    (λ _. goes_where g q s (all_of (serving_accepted s v)) _ h (λ t.
    let a = each_of (serving_accepted s v) t in
    let e : v ≡ s.accepted = is_eq' v s.accepted a.0 in
    let l = log_is s.held a.1.0 in
    let log = (its h).logs.log l in
    give_goes size list g q s h from v index s.served f
    (subst (λ (n : ℕ). Part s.base s.items (g.page n).list) (sym e) log.part)
    (subst (λ (n : ℕ). s.served ≤ (g.page n).plan.start) (sym e) ((its h).logs.served l))))
