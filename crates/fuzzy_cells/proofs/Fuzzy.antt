-- The laws of fuzzy cells.
use Rattle.std.proofs.Common.{◌≡◌, ℕ, ◌+◌, ◌-◌, ◌≤◌, ◌<◌, List, take, drop, max, Option, None, sym, ap, ◌∙◌, subst, ⊎_elim, arith, le_refl, le_trans, le_of_lt}
use Rattle.std.specs.Prelude.{fold}
use Rattle.std.proofs.lemmas.Bool.{cases_lt}
use Rattle.std.proofs.lemmas.List.{length-take, take-take}
use Rattle.std.proofs.lemmas.List.Sums.{fold-append}
use Rattle.harp_cells.specs.declared.cell.Cell.{Cell}
use Rattle.harp_cells.specs.declared.value.Value.{Value}
use Rattle.harp_cells.specs.declared.change.Change.{Change}
use Rattle.harp_cells.specs.Effect.{after, changed}
use Rattle.fuzzy_cells.specs.History.{History, between, cells_at, in_a_row}
use Rattle.fuzzy_cells.specs.Fuzzy.{IsOfMoment}
use Rattle.fuzzy_cells.specs.Laws.{AppliesOn, EachMomentIsBetween, GivesExactly, IsProlonged, IsWider, LeftIsBetween}
use Rattle.fuzzy_cells.proofs.Spans.{again, between_split, cells_from, part_once, settles, whole_records}

-- ---- one cell

-- a value of a moment up to k, with the records from a to k, is that after k
exactly : (history : History) (a b k : ℕ) (c : Cell) (v : Option Value)
    → (m : IsOfMoment history a b c v) → m.count ≤ k → fold (changed c) v (between history a k) ≡
    cells_at history k c
exactly history a b k c v m le =
    let i = m.count in
    let first = between history a i in
    let made : v ≡ fold (changed c) (cells_at history a c) first = m.is
    ∙ cells_from history a i c m.from in
    let same : fold (changed c) v first ≡ v =
    ap (λ (x : Option Value). fold (changed c) x first) made
    ∙ again c first (cells_at history a c) ∙ sym made in
    ap (λ (l : List Change). fold (changed c) v l) (between_split history a i k m.from le)
    ∙ fold-append (changed c) v first (between history i k)
    ∙ ap (λ (x : Option Value). fold (changed c) x (between history i k)) (same ∙ m.is)
    ∙ sym (cells_from history i k c le)

applied_cell : (history : History) (a b k : ℕ) (c : Cell) (v : Option Value)
    → IsOfMoment history a b c v → a ≤ k
    → IsOfMoment history k (max b k) c (fold (changed c) v (between history a k))
applied_cell history a b k c v m le = ⊎_elim
    (λ (past : k < m.count).
    let to = m.to in
    ⊎_elim
    (λ (stays : (v : Option Value) → fold (changed c) v (between history a k) ≡ v).
    let r : IsOfMoment history k (max b k) c (fold (changed c) v (between history a k)) =
    record { count = m.count; from = le_of_lt past; to = omega arith; is = stays v ∙ m.is } in
    r)
    (λ (set : (w : Option Value) × ((v : Option Value) → fold (changed c) v (between history a k) ≡
    w)).
    let r : IsOfMoment history k (max b k) c (fold (changed c) v (between history a k)) =
    record {
      count = k;
      from = le_refl k;
      to = omega arith;
      is = set.1 v
          ∙ sym (set.1 (cells_at history a c)) ∙ sym (cells_from history a k c le);
    } in r)
    (settles c (between history a k)))
    (λ (within : m.count ≤ k).
    let r : IsOfMoment history k (max b k) c (fold (changed c) v (between history a k)) =
    record {
      count = k;
      from = le_refl k;
      to = omega arith;
      is =
          exactly history a b k c v m within;
    } in r)
    (cases_lt k m.count)

wider_cell : (history : History) (a b low high : ℕ) (c : Cell) (v : Option Value)
    → IsOfMoment history a b c v → low ≤ a → b ≤ high → IsOfMoment history low high c v
wider_cell history a b low high c v m l h = record {
  count = m.count;
  from =
      le_trans l m.from;
  to = le_trans m.to h;
  is = m.is;
}

-- ---- the laws

pub applies_on : AppliesOn
applies_on history a b k cells fuzzy le c s = applied_cell history a b k c (cells c) (fuzzy c s) le

pub is_wider : IsWider
is_wider history a b low high cells fuzzy l h c s = wider_cell history a b low high c (cells c)
    (fuzzy c s) l h

pub gives_exactly : GivesExactly
gives_exactly history base a b upto cells fuzzy low order high c s =
    let m = wider_cell history a b base upto c (cells c) (fuzzy c s) low high in
    exactly history base upto upto c (cells c) m m.to

pub each_moment : EachMomentIsBetween
each_moment history a b k cells once fuzzy le n c s =
    let part = take (k - a) (drop a history) in
    let whole = whole_records part (part_once history a (k - a) once) n cells c in
    let p = whole.0 in
    let few : p ≤ k - a = let x = whole.1 in let y = length-take (k - a) (drop a history) in
    omega arith in
    let size : a + p - a ≡ p = omega arith in
    let e : in_a_row (take p part) ≡ between history a (a + p) = ap (λ (h : History). in_a_row h)
    (take-take p (k - a) (drop a history) few ∙ ap (λ (j : ℕ). take j (drop a history))
    (sym size)) in
    let m = applied_cell history a b (a + p) c (cells c) (fuzzy c s) (omega arith) in
    let w = wider_cell history (a + p) (max b (a + p)) a (max b k) c _ m (omega arith)
    (omega arith) in
    subst (λ (v : Option Value). IsOfMoment history a (max b k) c v)
    (sym (whole.2 ∙ ap (λ (l : List Change). after l cells c) e)) w

pub left_is_between : LeftIsBetween
left_is_between history a b synced changes left moments may c s =
    let l = may c in
    subst (λ (v : Option Value). IsOfMoment history a b c v) (sym l.1) (moments l.0 c s)

pub is_prolonged : IsProlonged
is_prolonged history other a b cells fuzzy same c s =
    let m = fuzzy c s in
    let front : take m.count history ≡ take m.count other = sym (take-take m.count b history m.to)
    ∙ ap (λ (h : History). take m.count h) same ∙ take-take m.count b other m.to in
    record {
      count = m.count;
      from = m.from;
      to = m.to;
      is = m.is
          ∙ ap (λ (h : History). fold (changed c) None (in_a_row h)) front;
    }
