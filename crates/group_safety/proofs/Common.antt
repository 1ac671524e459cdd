-- What the steps' proofs share.
use Rattle.std.proofs.Common.{Option, None, Some, nat_le, ◌≡◌, ℕ, ◌<◌, ◌≤◌, ◌⊎◌, ◌≢◌, true, List, length, refl, sym, ◌∙◌, subst, inl, inr, arith, le_trans, lt_of_lt_of_le, ⊎_elim, eq-or-lt_of_le, max}
use Rattle.std.proofs.lemmas.Bool.{cases_lt}
use Rattle.group_rules.specs.Effects.{fitting}
use Rattle.group_safety.specs.Facts.{Ok}
use Rattle.group_rules.specs.Places.{IsIn, Zero, One, Two, Pair, Place, S01, S02, S12, Trio, at, get, leader, nobody, partner, put, with_at}
use Rattle.group_rules.specs.State.{Group, Page, Plan}
use Rattle.group_rules.proofs.Tests.{by_if}
use Rattle.group_safety.specs.Words.{Agree, Sure}

-- what holds at each place holds after one is replaced
pub each_at : {A : Type 0} (F : Place → A → Type 0) (f : Place → A) (s : Place) (x : A) → ((q : Place) → F q (f q)) → F s x → (q : Place) → F q (at f s x q)
each_at F f Zero x old new Zero = new
each_at F f Zero x old new One = old One
each_at F f Zero x old new Two = old Two
each_at F f One x old new Zero = old Zero
each_at F f One x old new One = new
each_at F f One x old new Two = old Two
each_at F f Two x old new Zero = old Zero
each_at F f Two x old new One = old One
each_at F f Two x old new Two = new

-- the same for a trio
pub each_with : {A : Type 0} (F : Place → A → Type 0) (t : Trio A) (s : Place) (x : A) → ((q : Place) → F q (get t q)) → F s x → (q : Place) → F q (get (with_at t s x) q)
each_with F t Zero x old new Zero = new
each_with F t Zero x old new One = old One
each_with F t Zero x old new Two = old Two
each_with F t One x old new Zero = old Zero
each_with F t One x old new One = new
each_with F t One x old new Two = old Two
each_with F t Two x old new Zero = old Zero
each_with F t Two x old new One = old One
each_with F t Two x old new Two = new

-- the same, where the fact before is asked of the other places alone
pub each_other : {A : Type 0} (F : Place → A → Type 0) (f : Place → A) (s : Place) (x : A) → ((q : Place) → (q ≡ s → ⊥) → F q (f q)) → F s x → (q : Place) → F q (at f s x q)
each_other F f Zero x old new Zero = new
each_other F f Zero x old new One = old One (λ e. cc)
each_other F f Zero x old new Two = old Two (λ e. cc)
each_other F f One x old new Zero = old Zero (λ e. cc)
each_other F f One x old new One = new
each_other F f One x old new Two = old Two (λ e. cc)
each_other F f Two x old new Zero = old Zero (λ e. cc)
each_other F f Two x old new One = old One (λ e. cc)
each_other F f Two x old new Two = new

-- the same for a table by numbers, each place's fact under a guard
pub put_same : {A : Type 0} (f : ℕ → A) (w : ℕ) (x : A) → put f w x w ≡ x
put_same f w x = grind arith

pub put_other : {A : Type 0} (f : ℕ → A) (w : ℕ) (x : A) (v : ℕ) → v ≢ w → put f w x v ≡ f v
put_other f w x v h = grind arith

-- two pairs of storers share one
pub share : (a b : Pair) → (x : Place) × IsIn a x × IsIn b x
share S01 S01 = (Zero, tt, tt)
share S01 S02 = (Zero, tt, tt)
share S01 S12 = (One, tt, tt)
share S02 S01 = (Zero, tt, tt)
share S02 S02 = (Zero, tt, tt)
share S02 S12 = (Two, tt, tt)
share S12 S01 = (One, tt, tt)
share S12 S02 = (Two, tt, tt)
share S12 S12 = (One, tt, tt)

-- a storer leads or is the partner
pub either : (a : Pair) (q : Place) → IsIn a q → (q ≡ leader a) ⊎ (q ≡ partner a)
either S01 Zero h = inl refl
either S01 One h = inr refl
either S01 Two h = elim h [ ]
either S02 Zero h = inl refl
either S02 One h = elim h [ ]
either S02 Two h = inr refl
either S12 Zero h = elim h [ ]
either S12 One h = inl refl
either S12 Two h = inr refl

-- nothing was heard of anybody
pub none_heard : {A : Type 0} (x : Place) (a : A) → get nobody x ≡ Some a → ⊥
none_heard Zero a e = cc
none_heard One a e = cc
none_heard Two a e = cc

-- of what was heard, the fitting one is the partner's
pub fitting_is : (plan : Plan) (o : Option ℕ) (x : Place) (lb : ℕ) → get (fitting plan o) x ≡ Some lb → (x ≡ partner plan.storers) × (o ≡ Some lb)
fitting_is plan None x lb e = absurd (none_heard x lb e)
fitting_is plan (Some n) x lb e = by_if (λ (t : Trio (Option ℕ)). get t x ≡ Some lb → (x ≡ partner plan.storers) × (Some n ≡ Some lb)) (nat_le n plan.start) _ _
    (λ _ e. one (partner plan.storers) x n lb e)
    (λ _ e. absurd (none_heard x lb e)) e
  where
    one : (p x : Place) (n lb : ℕ) → get (with_at nobody p (Some n)) x ≡ Some lb → (x ≡ p) × (Some n ≡ Some lb)
    one Zero Zero n lb e = (refl, e)
    one Zero One n lb e = cc
    one Zero Two n lb e = cc
    one One Zero n lb e = cc
    one One One n lb e = (refl, e)
    one One Two n lb e = cc
    one Two Zero n lb e = cc
    one Two One n lb e = cc
    one Two Two n lb e = (refl, e)

-- what is kept of a view stands in each formed view from it on
pub kept_up : {E : Type 0} (g : Group E) → Ok g → (V v : ℕ) → V ≤ v → (g.page V).formed ≡ true → (g.page v).formed ≡ true
    → ((g.page V).held_twice ≤ length (g.page v).list) × Agree (g.page V).held_twice (g.page V).list (g.page v).list
kept_up g ok V v le fV fv = ⊎_elim
    (λ (e : V ≡ v). subst (λ (n : ℕ). ((g.page V).held_twice ≤ length (g.page n).list) × Agree (g.page V).held_twice (g.page V).list (g.page n).list) e ((ok.page V fV).kept_within, λ k l. refl))
    (λ (lt : V < v). (le_trans (ok.pair V v lt fV fv).kept_start (ok.page v fv).start_within, (ok.pair V v lt fV fv).agree))
    (eq-or-lt_of_le le)

-- what is sure in a view is sure in each later formed one
pub sure_up : {E : Type 0} (g : Group E) → Ok g → (v w c : ℕ) → v ≤ w → (g.page v).formed ≡ true → (g.page w).formed ≡ true → Sure g.page g.committed v c → Sure g.page g.committed w c
sure_up g ok v w c le fv fw s =
    let low = kept_up g ok s.twice v s.not_above s.formed fv in
    let high = kept_up g ok s.twice w (le_trans s.not_above le) s.formed fw in
    record {
      in_book = s.in_book;
      same = λ k l. sym (high.1 k (lt_of_lt_of_le l s.held_twice)) ∙ low.1 k (lt_of_lt_of_le l s.held_twice) ∙ s.same k l;
      within = le_trans s.held_twice high.0;
      twice = s.twice;
      formed = s.formed;
      not_above = le_trans s.not_above le;
      held_twice = s.held_twice;
    }

pub sure_less : {E : Type 0} (page : ℕ → Page E) (committed : List E) (v c d : ℕ) → d ≤ c → Sure page committed v c → Sure page committed v d
sure_less page committed v c d le s = record {
  in_book = le_trans le s.in_book;
  same = λ k l. s.same k (lt_of_lt_of_le l le);
  within = le_trans le s.within;
  twice = s.twice;
  formed = s.formed;
  not_above = s.not_above;
  held_twice = le_trans le s.held_twice;
}

pub sure_max : {E : Type 0} (page : ℕ → Page E) (committed : List E) (v c d : ℕ) → Sure page committed v c → Sure page committed v d → Sure page committed v (max c d)
sure_max page committed v c d a b = ⊎_elim
    (λ (l : c < d). subst (λ (n : ℕ). Sure page committed v n) (let e : d ≡ max c d = omega arith in e) b)
    (λ (l : d ≤ c). subst (λ (n : ℕ). Sure page committed v n) (let e : c ≡ max c d = omega arith in e) a)
    (cases_lt c d)
