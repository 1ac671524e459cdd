-- An open leader that commits keeps the facts, and the book stays the beginning of its list.
use Rattle.std.proofs.Common.{◌≡◌, ℕ, ◌+◌, ◌-◌, ◌<◌, ◌≤◌, true, List, length, slice_get, take, drop, max, refl, sym, ap, ◌∙◌, subst, arith, le_trans, lt_of_lt_of_le, true≢false, ⊎_elim, le_refl, length-append}
use Rattle.std.proofs.lemmas.Bool.{cases_lt}
use Rattle.std.proofs.lemmas.List.{length-drop, length-take-le}
use Rattle.group_safety.proofs.May.{MayCommit, committing_group}
use Rattle.group_safety.specs.Facts.{Ok, ServerOk, ViewsOk}
use Rattle.group_safety.specs.Laws.{Grows}
use Rattle.group_rules.specs.Moves.{entered}
use Rattle.group_rules.specs.Places.{Place, partner}
use Rattle.group_rules.specs.State.{Group}
use Rattle.group_safety.specs.Words.{IsActive, Part, Sure}
use Rattle.group_safety.proofs.Common.{each_other, sure_up}
use Rattle.group_safety.proofs.Lists.{get_take, get_drop, get_front, get_back}
use Rattle.group_safety.proofs.Active.{active_put}
use Rattle.group_safety.proofs.Grow.{page_same, sure_grow, body_grow, each_map, server_more, join_more, page_grow, puts_none}

-- what is kept of a view and stands in the book is the same there
pub book_agrees : {E : Type 0} (g : Group E) → Ok g → (w k : ℕ) → (g.page w).formed ≡ true → k < (g.page w).held_twice → k < length g.committed → slice_get (g.page w).list k ≡ slice_get g.committed k
book_agrees g ok w k f a b =
    let v = ok.committed.0 in
    let sure = ok.committed.2 in
    ⊎_elim
    (λ (lt : w < v). (ok.pair w v lt f ok.committed.1).agree k a ∙ sure.same k b)
    (λ (le : v ≤ w). (sure_up g ok v w (length g.committed) le ok.committed.1 f sure).same k b)
    (cases_lt w v)

-- the length of the book afterwards, what stays, and what comes
pub entered_length : {E : Type 0} (committed items : List E) (base n : ℕ) → base ≤ length committed → base ≤ n → n ≤ base + length items → length (entered committed base items n) ≡ max (length committed) n
entered_length committed items base n a b c =
    let t : length (take (n - base) items) ≡ n - base = length-take-le (n - base) items (omega arith) in
    let d : length (drop (length committed - base) (take (n - base) items)) ≡ length (take (n - base) items) - (length committed - base) = length-drop (length committed - base) (take (n - base) items) in
    let l : length (entered committed base items n) ≡ length committed + length (drop (length committed - base) (take (n - base) items)) = length-append committed (drop (length committed - base) (take (n - base) items)) in
    omega arith

entered_new : {E : Type 0} (committed items list : List E) (base n k : ℕ) → base ≤ length committed → length committed ≤ k → k < n → n ≤ base + length items → Part base items list → slice_get (entered committed base items n) k ≡ slice_get list k
entered_new committed items list base n k a b c d part =
    let j = k - length committed in
    let e : k ≡ length committed + j = omega arith in
    let i : (length committed - base) + j ≡ k - base = omega arith in
    let x : k - base < n - base = omega arith in
    let y : k - base < length items = omega arith in
    let z : base + (k - base) ≡ k = omega arith in
    ap (slice_get (entered committed base items n)) e
    ∙ get_back committed (drop (length committed - base) (take (n - base) items)) j
    ∙ get_drop (length committed - base) (take (n - base) items) j
    ∙ ap (slice_get (take (n - base) items)) i
    ∙ get_take (n - base) items (k - base) x
    ∙ part (k - base) y
    ∙ ap (slice_get list) z

pub commit_kept : {E : Type 0} (g : Group E) → Ok g → (q : Place) (n : ℕ) → MayCommit g q (g.server q) n → Ok (committing_group g q n)
commit_kept {E = E} g ok q n m =
    let s = g.server q in
    let w = s.accepted in
    let h = ok.server q in
    let act = h.modes.active (subst (λ z. IsActive z) (sym m.open') tt) in
    let f : (g.page w).formed ≡ true = h.views.formed in
    let log = h.logs.log act.0 in
    let promised_w : s.promised ≡ w = act.1 in
    let committed' = entered g.committed s.base s.items n in
    let base_book : s.base ≤ length g.committed = le_trans log.base_cp log.sure.in_book in
    let base_n : s.base ≤ n = le_trans log.base_cp m.forward in
    let n_top : n ≤ s.base + length s.items = le_trans m.held_twice log.holds.held_twice in
    let size : length committed' ≡ max (length g.committed) n = entered_length g.committed s.items s.base n base_book base_n n_top in
    let grows : Grows g.page g.page g.committed committed' g.joins g.joins = record { each = λ v f. page_same (g.page v) f; longer = omega arith; agree = λ k l. sym (get_front g.committed _ k l); more = λ j i. i } in
    let within : (v : ℕ) → (g.page v).formed ≡ true → (g.page v).plan.start ≤ length (g.page v).list = λ v f. (ok.page v f).start_within in
    let sure : Sure g.page committed' w n = record {
      in_book = omega arith;
      same = λ k l. ⊎_elim
          (λ (a : k < length g.committed). book_agrees g ok w k f (lt_of_lt_of_le l m.held_twice) a ∙ grows.agree k a)
          (λ (b : length g.committed ≤ k). sym (entered_new g.committed s.items (g.page w).list s.base n k base_book b l n_top log.part))
          (cases_lt k (length g.committed));
      within = le_trans n_top log.holds.within;
      twice = w;
      formed = f;
      not_above = le_refl w;
      held_twice = m.held_twice;
    } in
    record {
      server = each_other (λ x s. ServerOk g.page g.joins committed' (g.clock x) x s) g.server q _
          (λ x ne. server_more grows x (g.server x) within (λ j i _. i) (ok.server x))
          (active_put w grows (puts_none w g.page) q _ promised_w refl (subst (λ (n : ℕ). ViewsOk g.page g.joins q n w) promised_w h.views) (record {
            formed = f;
            views = let v = subst (λ (n : ℕ). ViewsOk g.page g.joins q n w) promised_w h.views in
                record { promises = v.promises w; into = v.into w; own = v.own w; above = λ V. (v.ahead_of_leader V w, v.ahead_of_partner V w); below = λ u. (v.ahead_of_leader w u, v.ahead_of_partner w u) };
            held = act.0;
            saved = act.2;
            base_cp = base_n;
            cp_top = n_top;
            holds = log.holds;
            part = log.part;
            sure = sure;
            order = let o = h.logs.order act.0 in (o.0, o.1, le_trans o.2 m.forward);
            into = act.3;
            inside = act.4;
            served = h.logs.served act.0;
            plan = h.modes.plan (subst (λ z. IsActive z) (sym m.open') tt);
            chose = λ v plan e. subst (λ (n : ℕ). (v ≤ n) × ((g.page v).formed ≡ true) × ((g.page v).plan ≡ plan)) promised_w (h.chose v plan e);
            active = subst (λ z. IsActive z) (sym m.open') tt;
            leads = h.modes.leads;
            follows = λ x. cc (m.open', x);
            waits = λ x. cc (m.open', x);
            heard = λ y lb x. let z = h.modes.heard y lb x in subst (λ (n : ℕ). (y ≡ partner (g.page n).plan.storers) × ((g.page n).partner_in ≡ true)) promised_w (z.1, z.2);
            duty = λ reports x. true≢false (sym f ∙ ap (λ (k : ℕ). (g.page k).formed) (sym promised_w) ∙ (h.duty reports x).unformed);
            here = h.promise w;
            promise = h.promise;
          }));
      page = λ v f'. page_grow grows v (ok.page v f');
      pair = ok.pair;
      join = λ j i. join_more grows j (ok.join j i);
      packet = each_map _ _ (λ x. body_grow grows within x.from x.to x.body) g.packets ok.packet;
      first_view = ok.first_view;
      late = ok.late;
      committed = ⊎_elim
          (λ (a : length g.committed < n). (w, f, subst (λ (k : ℕ). Sure g.page committed' w k) (let e : n ≡ length committed' = omega arith in e) sure))
          (λ (b : n ≤ length g.committed). (ok.committed.0, ok.committed.1, subst (λ (k : ℕ). Sure g.page committed' ok.committed.0 k) (let e : length g.committed ≡ length committed' = omega arith in e) (sure_grow grows _ _ ok.committed.1 ok.committed.2)))
          (cases_lt (length g.committed) n);
    }
