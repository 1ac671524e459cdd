-- Each move lets the history grow: pages keep their plan and origin, lists and the book are prolonged, flags stay.
use Rattle.std.proofs.Common.{◌≡◌, ◌∙◌, ℕ, ◌≤◌, true, List, [], ◌∷◌, ◌++◌, refl, sym, subst, inr, arith, le_trans, true≢false, le_refl, zero-le, length-append}
use Rattle.group_safety.specs.Facts.{Ok}
use Rattle.group_safety.specs.Laws.{Grows, PageGrows}
use Rattle.group_rules.specs.Moves.{Accepting, Appending, Choosing, Committing, Heeding, Joining, Move, Opening, into_page, moved, raised_page}
use Rattle.group_rules.specs.Places.{Place, put}
use Rattle.group_rules.specs.State.{Group, JoinMade, Page, Server}
use Rattle.group_safety.proofs.Lists.{get_front}
use Rattle.group_safety.proofs.Grow.{page_same, grows_put}
use Rattle.group_safety.proofs.Quiet.{fine}
use Rattle.group_safety.proofs.Accepting.{flag_keeps}
use Rattle.group_safety.proofs.Settled.{SettledMay}
use Rattle.group_safety.proofs.Bases.{BasesMay}

pub grows_same : {E : Type 0} (page : ℕ → Page E) (committed : List E) (joins : List JoinMade) → Grows page page committed committed joins joins
grows_same page committed joins = record { each = λ v f. page_same (page v) f; longer = le_refl _; agree = λ k l. refl; more = λ j i. i }

pub grows_then : {E : Type 0} {p p' p'' : ℕ → Page E} {c c' c'' : List E} {j j' j'' : List JoinMade} → Grows p p' c c' j j' → Grows p' p'' c' c'' j' j'' → Grows p p'' c c'' j j''
grows_then a b = record {
  each = λ v f. let x = a.each v f in let y = b.each v x.formed in record {
    formed = y.formed;
    plan = y.plan ∙ x.plan;
    from = y.from ∙ x.from;
    longer = le_trans x.longer y.longer;
    agree = λ k l. x.agree k l ∙ y.agree k (le_trans l x.longer);
    held_twice = le_trans x.held_twice y.held_twice;
    until = le_trans x.until y.until;
    leader_in = λ h. y.leader_in (x.leader_in h);
    partner_in = λ h. y.partner_in (x.partner_in h);
    opened = λ h. y.opened (x.opened h);
  };
  longer = le_trans a.longer b.longer;
  agree = λ k l. a.agree k l ∙ b.agree k (le_trans l a.longer);
  more = λ j i. b.more j (a.more j i);
}

grows_page : {E : Type 0} (page : ℕ → Page E) (committed : List E) (joins : List JoinMade) (w : ℕ) (p : Page E) → ((page w).formed ≡ true → PageGrows (page w) p) → Grows page (put page w p) committed committed joins joins
grows_page page committed joins w p h = record { each = λ v f. grows_put page w p v h f; longer = le_refl _; agree = λ k l. refl; more = λ j i. i }

grows_book : {E : Type 0} (page : ℕ → Page E) (committed new : List E) (joins : List JoinMade) → Grows page page committed (committed ++ new) joins joins
grows_book page committed new joins = record { each = λ v f. page_same (page v) f; longer = (let l = length-append committed new in omega arith); agree = λ k l. sym (get_front committed new k l); more = λ j i. i }

raised_grows : {E : Type 0} (p : Page E) (k u : ℕ) → p.formed ≡ true → p.held_twice ≤ k → p.until ≤ u → PageGrows p (raised_page p k u)
raised_grows p k u f a b = record { formed = f; plan = refl; from = refl; longer = le_refl _; agree = λ k l. refl; held_twice = a; until = b; leader_in = λ h. h; partner_in = λ h. h; opened = λ _. refl }

into_grows : {E : Type 0} (p : Page E) (q : Place) → p.formed ≡ true → PageGrows p (into_page p q)
into_grows p q f = record { formed = f; plan = refl; from = refl; longer = le_refl _; agree = λ k l. refl; held_twice = le_refl _; until = le_refl _; leader_in = λ h. flag_keeps _ _ h; partner_in = λ h. flag_keeps _ _ h; opened = λ h. h }

appended_grows : {E : Type 0} (p : Page E) (e : E) → p.formed ≡ true → PageGrows p (record p { list = p.list ++ e ∷ [] })
appended_grows p e f = record {
  formed = f;
  plan = refl;
  from = refl;
  longer = (let l = length-append p.list (e ∷ []) in omega arith);
  agree = λ k l. sym (get_front p.list (e ∷ []) k l);
  held_twice = le_refl _;
  until = le_refl _;
  leader_in = λ h. h;
  partner_in = λ h. h;
  opened = λ h. h;
}

pub grows_moved : {E : Type 0} (g : Group E) → Ok g → (q : Place) (s : Server E) → g.server q ≡ s → (m : Move E) → SettledMay g q s m → BasesMay g q s m
    → Grows g.page (moved g q s m).page g.committed (moved g q s m).committed g.joins (moved g q s m).joins
grows_moved g ok q s e (Joining v duty) more low = record { each = λ v f. page_same (g.page v) f; longer = le_refl _; agree = λ k l. refl; more = λ j i. inr i }
grows_moved g ok q s e (Choosing plan from) more low = grows_page g.page g.committed g.joins s.promised _ (λ f. absurd (true≢false (sym f ∙ more)))
grows_moved g ok q s e (Accepting plan role n) more low = grows_page g.page g.committed g.joins s.promised _ (λ f. into_grows (g.page s.promised) q f)
grows_moved g ok q s e (Opening lb) more low =
    let h = fine g ok q s e in
    let none = (ok.page s.accepted h.views.formed).kept_later (h.modes.waits more.0 more.1) in
    let raised = grows_page g.page g.committed g.joins s.accepted (raised_page (g.page s.accepted) (g.page s.accepted).plan.start (g.page s.accepted).until)
    (λ f. raised_grows (g.page s.accepted) _ _ f (subst (λ (n : ℕ). n ≤ (g.page s.accepted).plan.start) (sym none) zero-le) (le_refl _)) in
    grows_then raised (grows_book _ g.committed _ g.joins)
grows_moved g ok q s e (Heeding items cp base) more low = grows_page g.page g.committed g.joins s.accepted _ (λ f. raised_grows (g.page s.accepted) _ _ f (omega arith) (omega arith))
grows_moved g ok q s e (Appending x) more low = grows_page g.page g.committed g.joins s.accepted _ (λ f. appended_grows (g.page s.accepted) x f)
grows_moved g ok q s e (Committing n) more low = grows_book g.page g.committed _ g.joins
grows_moved g ok q s e m more low = grows_same g.page g.committed g.joins
