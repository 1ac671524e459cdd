-- Entries by their indices, and which of them are new to a book.
use Rattle.std.proofs.Common.{◌≡◌, ℕ, suc, ◌+◌, ◌-◌, ◌<◌, ◌≤◌, Bool, true, false, List, [], ◌∷◌, ◌++◌, length, take, drop, Some, slice_get, refl, sym, ap, ◌∙◌, arith, ⊎_elim, nat_le, if◌then◌else◌}
use Rattle.std.proofs.Math.Seq.{drop-nil}
use Rattle.std.proofs.lemmas.Bool.{cases_lt}
use Rattle.std.proofs.lemmas.Bool.Decides.{nat_tests}
use Rattle.std.proofs.lemmas.List.{length-take}
use Rattle.std.proofs.lemmas.Option.{slice_get_within}
use Rattle.file_tree.specs.Book.{Entry}
use Rattle.world_lines.specs.Book.{new_updates}
use Rattle.group_rules.proofs.Tests.{if_is, if_not, le_is}
use Rattle.group_safety.proofs.Lists.{get_drop, get_take}

-- the entries are the updates after the n-th
abbrev pub AreNumbered : ℕ → List Entry → Type 0
AreNumbered n es = (k : ℕ) (e : Entry) → slice_get es k ≡ Some e → e.index ≡ n + k + 1

pub numbered_drop : (d n : ℕ) (es : List Entry) → AreNumbered n es → AreNumbered (n + d) (drop d es)
numbered_drop d n es h k e is =
    let one : e.index ≡ n + (d + k) + 1 = h (d + k) e (sym (get_drop d es k) ∙ is) in
    omega (arith, one)

pub numbered_take : (m n : ℕ) (es : List Entry) → AreNumbered n es → AreNumbered n (take m es)
numbered_take m n es h k e is =
    let within : k < length (take m es) = slice_get_within (take m es) k e is in
    let size = length-take m es in
    h k e (sym (get_take m es k (omega (arith, within, size))) ∙ is)

numbered_rest : (n : ℕ) (e : Entry) (es : List Entry) → AreNumbered n (e ∷ es)
    → AreNumbered (n + 1) es
numbered_rest n e es h k x is =
    let one : x.index ≡ n + suc k + 1 = h (suc k) x is in
    omega (arith, one)

above : (a b : ℕ) → b < a → nat_le a b ≡ false
above a b l = grind (arith, nat_tests)

-- of updates after the n-th, those are new to a book with c of them that come after the c-th
pub new_are : (c n : ℕ) (es : List Entry) → n ≤ c → AreNumbered n es
    → new_updates c es ≡ drop (c - n) es
unfolding new_updates
new_are c n [] le h = sym (drop-nil (c - n))
new_are c n (e ∷ es) le h =
    let here : e.index ≡ n + 0 + 1 = h 0 e refl in
    ⊎_elim
    (λ (l : n < c).
    let stands = if_is (nat_le e.index c) (new_updates c es) (e ∷ new_updates (c + 1) es)
    (le_is e.index c (omega (arith, here, l))) in
    let rest = new_are c (n + 1) es (omega (arith, l)) (numbered_rest n e es h) in
    let more : c - n ≡ suc (c - (n + 1)) = omega (arith, l) in
    stands ∙ rest ∙ sym (ap (λ k. drop k (e ∷ es)) more))
    (λ (l : c ≤ n).
    let comes = if_not (nat_le e.index c) (new_updates c es) (e ∷ new_updates (c + 1) es)
    (above e.index c (omega (arith, here, l))) in
    let rest = new_are (c + 1) (n + 1) es (omega (arith, le)) (numbered_rest n e es h) in
    let none : c - n ≡ 0 = omega (arith, l) in
    let none' : (c + 1) - (n + 1) ≡ 0 = omega (arith, l) in
    comes ∙ ap (λ l. e ∷ l) (rest ∙ ap (λ k. drop k es) none')
    ∙ sym (ap (λ k. drop k (e ∷ es)) none))
    (cases_lt n c)

-- those that are new of some, and then of others
pub new_append : (n : ℕ) (xs ys : List Entry) → new_updates n (xs ++ ys)
    ≡ new_updates n xs ++ new_updates (n + length (new_updates n xs)) ys
unfolding new_updates
new_append n [] ys = ap (λ k. new_updates k ys) (omega arith)
new_append n (x ∷ xs) ys =
    by (nat_le x.index n) (new_append n xs ys) (new_append (n + 1) xs ys)
  where
    behind : Bool → List Entry → List Entry
    behind b es = if b then new_updates n es else x ∷ new_updates (n + 1) es

    by : (b : Bool)
        → new_updates n (xs ++ ys)
        ≡ new_updates n xs ++ new_updates (n + length (new_updates n xs)) ys
        → new_updates (n + 1) (xs ++ ys)
        ≡ new_updates (n + 1) xs ++ new_updates (n + 1 + length (new_updates (n + 1) xs)) ys
        → behind b (xs ++ ys) ≡ behind b xs ++ new_updates (n + length (behind b xs)) ys
    by true stands comes = stands
    by false stands comes =
        let news = new_updates (n + 1) xs in
        let size : n + 1 + length news ≡ n + suc (length news) = omega arith in
        ap (λ l. x ∷ l) (comes ∙ ap (λ k. news ++ new_updates k ys) size)
