-- What a storer has when it accepts is what the page says: the log that `adopted` gives.
use Rattle.file_tree.specs.Book.{Entry}
use Rattle.std.proofs.Common.{◌≡◌, ℕ, ◌+◌, ◌-◌, ◌<◌, ◌≤◌, Bool, true, false, List, ◌++◌, length, slice_get, take, max, refl, sym, ap, ◌∙◌, subst, arith, lt_of_le_of_lt, true≢false, le_of_lt, le_refl, zero-le, if◌then◌else◌, length-append}
use Rattle.std.proofs.lemmas.List.{length-drop, length-take-le}
use Rattle.group_safety.proofs.May.{MayAccept}
use Rattle.group_rules.specs.Form.{adopted, fits, fits_tests, keeps, role_of, source_tests, wanted}
use Rattle.group_rules.specs.Limits.{by_held, is_log, room}
use Rattle.group_rules.specs.Places.{IsIn, Two, Place, is_p2, same}
use Rattle.group_rules.specs.State.{Empty, Group, Log, Plan, Server}
use Rattle.group_safety.specs.Words.{IsJoining, Part, Sure}
use Rattle.group_safety.proofs.Lists.{part_drop, part_append, get_take}
use Rattle.group_rules.proofs.Tests.{by_if, each_of, is_le, is_eq'}
use Rattle.group_safety.proofs.Common.{sure_up, sure_max}
use Rattle.group_safety.proofs.Joining.{sure_zero, by_cases}
use Rattle.group_safety.proofs.Accepting.{same_is}
use Rattle.group_safety.proofs.Quiet.{log_is}
use Rattle.group_safety.proofs.Moving.{Good, its}
use Rattle.group_safety.proofs.Modes.{in_is, role_inside}

-- what `fits` says
pub record Fits (q : Place) (s : Server Entry) (plan : Plan) : Type 0 where
  pub storer : IsIn plan.storers q
  pub base : plan.base ≤ plan.start
  pub cp : plan.cp ≤ plan.start
  pub space : plan.start ≤ plan.base + room
  pub own_cp : by_held s.held s.cp s.lb ≤ plan.start
  pub lb : is_p2 q ≡ false → plan.base ≤ s.lb
  pub above : keeps q s plan ≡ true → s.base ≤ plan.base
  pub source : same q plan.source ≡ true → (s.held ≡ Log) × (s.base + length s.items ≡ plan.start)

pub if_true : (b x y : Bool) → (if b then x else y) ≡ true → b ≡ true → x ≡ true
if_true true x y e f = e
if_true false x y e f = absurd (true≢false (sym f))

if_false : (b x y : Bool) → (if b then x else y) ≡ true → b ≡ false → y ≡ true
if_false true x y e f = absurd (true≢false f)
if_false false x y e f = e

pub fits_is : (q : Place) (s : Server Entry) (plan : Plan) → fits q s plan ≡ true → Fits q s plan
fits_is q s plan e =
    let a = each_of (fits_tests q s plan) e in
    record {
      storer = in_is _ _ a.0;
      base = is_le _ _ a.1.0;
      cp = is_le _ _ a.1.1.0;
      space = is_le _ _ a.1.1.1.1.0;
      own_cp = is_le _ _ a.1.1.1.1.1.0;
      lb = λ f. is_le _ _ (if_false _ _ _ a.1.1.1.1.1.1.0 f);
      above = λ f. is_le _ _ (if_true (keeps q s plan) _ _ a.1.1.1.1.1.1.1.0 f);
      source = λ f. let x = each_of (source_tests s plan) (if_true (same q plan.source) _ _ a.1.1.1.1.1.1.1.1.0 f) in (log_is s.held x.0, is_eq' _ _ x.1.0);
    }

pub keeps_held : (q : Place) (s : Server Entry) (plan : Plan) → keeps q s plan ≡ true → s.held ≡ Log
keeps_held q s plan e = log_is s.held (if_then (is_log s.held) _ e)
  where
    if_then : (b x : Bool) → (if b then x else false) ≡ true → b ≡ true
    if_then true x e = refl
    if_then false x e = e

source_keeps : (q : Place) (s : Server Entry) (plan : Plan) → s.held ≡ Log → same q plan.source ≡ true → keeps q s plan ≡ true
source_keeps q s plan e f = rw e (by_if (λ (b : Bool). b ≡ true) (is_p2 q) _ _ (λ _. f) (λ _. refl))

wanted_cp : (q : Place) (s : Server Entry) (plan : Plan) → keeps q s plan ≡ true → (F : ℕ → Type 0) → F (wanted q s plan) → F s.cp
wanted_cp q s plan t F = by_if (λ (n : ℕ). F n → F s.cp) (keeps q s plan) s.cp plan.base (λ _ x. x) (λ f. absurd (true≢false (sym t ∙ f)))

wanted_base : (q : Place) (s : Server Entry) (plan : Plan) → keeps q s plan ≡ false → (F : ℕ → Type 0) → F (wanted q s plan) → F plan.base
wanted_base q s plan t F = by_if (λ (n : ℕ). F n → F plan.base) (keeps q s plan) s.cp plan.base (λ f. absurd (true≢false (sym f ∙ t))) (λ _ x. x)

-- the numbers stand in their order
orders : (q : Place) (s : Server Entry) (plan : Plan) → (is_p2 q ≡ false → plan.base ≤ s.lb) → (s.held ≡ Log → (s.base ≤ s.lb) × (s.lb ≤ s.ap) × (s.ap ≤ s.cp)) → (s.held ≡ Empty → q ≡ Two)
    → (plan.base ≤ (if is_p2 q then plan.base else s.lb)) × ((if is_p2 q then plan.base else s.lb) ≤ (if is_p2 q then plan.base else (if is_log s.held then s.ap else s.lb)))
    × ((if is_p2 q then plan.base else (if is_log s.held then s.ap else s.lb)) ≤ max (by_held s.held s.cp s.lb) (max plan.base plan.cp))
orders q s plan low order empty = split (is_p2 q) (λ t. low t) (λ e f. true≢false (sym (ap is_p2 (empty e)) ∙ f))
  where
    split : (b : Bool) → (b ≡ false → plan.base ≤ s.lb) → (s.held ≡ Empty → b ≡ false → ⊥)
        → (plan.base ≤ (if b then plan.base else s.lb)) × ((if b then plan.base else s.lb) ≤ (if b then plan.base else (if is_log s.held then s.ap else s.lb)))
        × ((if b then plan.base else (if is_log s.held then s.ap else s.lb)) ≤ max (by_held s.held s.cp s.lb) (max plan.base plan.cp))
    split true a c = (le_refl _, le_refl _, omega arith)
    split false a c = (
      a refl,
      by_cases s.held (λ x. s.lb ≤ (if is_log x then s.ap else s.lb)) (λ e. (order e).1) (λ _. le_refl _) (λ _. le_refl _),
      by_cases s.held (λ x. (if is_log x then s.ap else s.lb) ≤ max (by_held x s.cp s.lb) (max plan.base plan.cp)) (λ e. let o = (order e).2 in omega arith) (λ _. omega arith) (λ e. absurd (c e refl)),
    )

-- the source's log is that of the view which the new one starts from
pub source_from : (g : Group Entry) (q : Place) (s : Server Entry) → Good g q s → IsJoining s.mode → (g.page s.promised).formed ≡ true → s.held ≡ Log → (g.page s.promised).plan.source ≡ q
    → (s.accepted ≡ (g.page s.promised).from) × (s.base + length s.items ≡ (g.page s.promised).plan.start)
source_from g q s h j f l e =
    let fine = its h in
    let src = (h.ok.page s.promised f).source (lt_of_le_of_lt zero-le (fine.modes.joining j).0) in
    let t = fine.tells j (record { from = (g.page s.promised).plan.source; view = s.promised; report = src.0 }) src.1 e refl l in
    (sym t.0 ∙ src.2, sym t.1 ∙ src.3)

-- a source's records are the new view's
pub source_part : (g : Group Entry) (q : Place) (s : Server Entry) → Good g q s → IsJoining s.mode → (g.page s.promised).formed ≡ true → s.held ≡ Log → (g.page s.promised).plan.source ≡ q → Part s.base s.items (g.page s.promised).list
source_part g q s h j f l e k b =
    let fine = its h in
    let known = source_from g q s h j f l e in
    let log = fine.logs.log l in
    let within : s.base + k < (g.page s.promised).plan.start = omega (arith, known.1) in
    log.part k b ∙ ap (λ (n : ℕ). slice_get (g.page n).list (s.base + k)) known.0 ∙ (h.ok.page s.promised f).begins (s.base + k) within

-- committed records are the new view's
kept_part : (g : Group Entry) (q : Place) (s : Server Entry) → Good g q s → (w : ℕ) → s.accepted ≤ w → (g.page w).formed ≡ true → s.held ≡ Log → Part s.base (take (s.cp - s.base) s.items) (g.page w).list
kept_part g q s h w le f l k b =
    let fine = its h in
    let log = fine.logs.log l in
    let base_cp' = log.base_cp in
    let cp_top' = log.cp_top in
    let size : length (take (s.cp - s.base) s.items) ≡ s.cp - s.base = length-take-le (s.cp - s.base) s.items (omega arith) in
    let x : k < s.cp - s.base = omega arith in
    let y : k < length s.items = omega arith in
    let z : s.base + k < s.cp = omega arith in
    let up = sure_up g h.ok s.accepted w s.cp le fine.views.formed f log.sure in
    get_take (s.cp - s.base) s.items k x ∙ log.part k y ∙ log.sure.same (s.base + k) z ∙ sym (up.same (s.base + k) z)

-- The wanted range was empty, or the staged records fill it
pub adopt_may : (g : Group Entry) (q : Place) (s : Server Entry) → Good g q s → (plan : Plan) (staged : List Entry) → IsJoining s.mode → (g.page s.promised).formed ≡ true → plan ≡ (g.page s.promised).plan → fits q s plan ≡ true
    → (same q plan.source ≡ false → Part (wanted q s plan) staged (g.page s.promised).list × (wanted q s plan + length staged ≡ plan.start)) → MayAccept g q s plan (role_of plan.storers q) (adopted q s plan staged)
adopt_may g q s h plan staged j f known fit pulled =
    let fine = its h in
    let fits' = fits_is q s plan fit in
    let base_start = fits'.base in
    let cp_start = fits'.cp in
    let own_start = fits'.own_cp in
    let w = s.promised in
    let page = h.ok.page w f in
    let joining = fine.modes.joining j in
    let lt = joining.0 in
    let log = fine.logs.log in
    let new = adopted q s plan staged in
    let up : (c : ℕ) → Sure g.page g.committed s.accepted c → Sure g.page g.committed w c = λ c x. sure_up g h.ok s.accepted w c (le_of_lt lt) fine.views.formed f x in
    let own : Sure g.page g.committed w (by_held s.held s.cp s.lb) = by_cases s.held (λ x. Sure g.page g.committed w (by_held x s.cp s.lb)) (λ e. up s.cp (log e).sure) (λ _. up s.lb fine.logs.lb_sure) (λ _. sure_zero g.page g.committed w f) in
    let base : Sure g.page g.committed w plan.base = subst (λ (p : Plan). Sure g.page g.committed w p.base) (sym known) page.base_sure in
    let cp : Sure g.page g.committed w plan.cp = subst (λ (p : Plan). Sure g.page g.committed w p.cp) (sym known) page.cp_sure in
    let from_source : same q plan.source ≡ true → (g.page w).plan.source ≡ q = λ t. sym (same_is q plan.source t ∙ ap (λ (p : Plan). p.source) known) in
    let whole : plan.base + length new.items ≡ plan.start = by_if (λ (xs : List _). plan.base + length xs ≡ plan.start) (same q plan.source) _ _
    (λ t.
    let held = fits'.source t in
    let top' = held.1 in
    let above = fits'.above (source_keeps q s plan held.0 t) in
    let size = length-drop (plan.base - s.base) s.items in
    omega arith)
    (λ n. by_if (λ (xs : List _). plan.base + length xs ≡ plan.start) (keeps q s plan) _ _
    (λ t.
    let held = keeps_held q s plan t in
    let above = fits'.above t in
    let base_cp' = (log held).base_cp in
    let cp_top' = (log held).cp_top in
    let a : length (take (s.cp - s.base) s.items) ≡ s.cp - s.base = length-take-le (s.cp - s.base) s.items (omega arith) in
    let b = length-append (take (s.cp - s.base) s.items) staged in
    let c = length-drop (plan.base - s.base) (take (s.cp - s.base) s.items ++ staged) in
    let d : s.cp + length staged ≡ plan.start = wanted_cp q s plan t (λ n. n + length staged ≡ plan.start) (pulled n).1 in
    omega arith)
    (λ t. wanted_base q s plan t (λ n. n + length staged ≡ plan.start) (pulled n).1)) in
    record {
      inside = role_inside plan.storers q;
      known = known;
      formed = f;
      storer = subst (λ (p : Plan). IsIn p.storers q) known fits'.storer;
      earlier = lt;
      base_cp = omega arith;
      order = orders q s plan (λ t. fits'.lb t) (λ e. fine.logs.order e) (λ e. (fine.logs.empty e).0);
      cp_top = let e = whole in omega arith;
      whole = whole ∙ ap (λ (p : Plan). p.start) known;
      part = by_if (λ (xs : List _). Part plan.base xs (g.page w).list) (same q plan.source) _ _
          (λ t.
          let held = fits'.source t in
          let above = fits'.above (source_keeps q s plan held.0 t) in
          part_drop s.base plan.base (plan.base - s.base) s.items (g.page w).list (omega arith) (source_part g q s h j f held.0 (from_source t)))
          (λ n. by_if (λ (xs : List _). Part plan.base xs (g.page w).list) (keeps q s plan) _ _
          (λ t.
          let held = keeps_held q s plan t in
          let above = fits'.above t in
          let base_cp' = (log held).base_cp in
          let cp_top' = (log held).cp_top in
          let a : length (take (s.cp - s.base) s.items) ≡ s.cp - s.base = length-take-le (s.cp - s.base) s.items (omega arith) in
          let b : s.cp ≡ s.base + length (take (s.cp - s.base) s.items) = omega arith in
          let c : Part s.cp staged (g.page w).list = wanted_cp q s plan t (λ n. Part n staged (g.page w).list) (pulled n).0 in
          part_drop s.base plan.base (plan.base - s.base) (take (s.cp - s.base) s.items ++ staged) (g.page w).list (omega arith)
          (part_append s.base (take (s.cp - s.base) s.items) staged (g.page w).list (kept_part g q s h w (le_of_lt lt) f held) (subst (λ (n : ℕ). Part n staged (g.page w).list) b c)))
          (λ t. wanted_base q s plan t (λ n. Part n staged (g.page w).list) (pulled n).0));
      sure = sure_max g.page g.committed w _ _ own (sure_max g.page g.committed w _ _ base cp);
    }
