-- The answers that are kept are those that records had.
use Rattle.std.proofs.Common.{◌≡◌, ℕ, zero, suc, Bool, true, false, cond, is_some, List, [], ◌∷◌, Option, Some, refl, subst, sym, take}
use Rattle.std.specs.List.{AllByRecursion}
use Rattle.std.specs.Map.{remove_entry}
use Rattle.std.specs.Cmp.Lexicographic.{same_text}
use Rattle.door_seats.specs.Answers.{IsAnswered}
use Rattle.door_seats.specs.Events.{Event}
use Rattle.door_seats.specs.Kept.{Kept, answer_of, is_bytes, with_answer}
use Rattle.door_seats.specs.declared.rule.Rule.{Rule}
use Rattle.door_seats.proofs.Later.{answered_later}

-- each record that is kept was answered so
abbrev pub AreKept : Rule → List Event → Kept → Type 0
AreKept rule es kept = AllByRecursion (λ x. IsAnswered rule es x.0 x.1) kept

pub kept_later : (rule : Rule) (e : Event) (es : List Event) (kept : Kept) → AreKept rule es kept
    → AreKept rule (e ∷ es) kept
kept_later rule e es [] h = h
kept_later rule e es (x ∷ xs) h =
    (answered_later rule e es x.0 x.1 h.0, kept_later rule e es xs h.1)

-- ---- an answer that is given again

abbrev answer_as : List ℕ → Option (List ℕ)
answer_as answer = Some answer

same_answer : (a b : List ℕ) → answer_as a ≡ Some b → a ≡ b
same_answer a b e = cc

module _ (rule : Rule) (es : List Event) (request answer : List ℕ) where
  found_at : (x : List ℕ × List ℕ) (xs : Kept) (b : Bool) → is_bytes request x.0 ≡ b
      → IsAnswered rule es x.0 x.1
      → (answer_of request xs ≡ Some answer → IsAnswered rule es request answer)
      → cond b (Some x.1) (answer_of request xs) ≡ Some answer → IsAnswered rule es request answer
  found_at x xs true same h behind is =
      subst (λ (r : List ℕ). IsAnswered rule es r answer) (sym (same_text request x.0 (sym same)))
      (subst (IsAnswered rule es x.0) (same_answer x.1 answer is) h)
  found_at x xs false other h behind is = behind is

  pub kept_answer : (kept : Kept) → AreKept rule es kept → answer_of request kept ≡ Some answer
      → IsAnswered rule es request answer
  kept_answer [] h is = absurd cc
  kept_answer (x ∷ xs) h is =
      found_at x xs (is_bytes request x.0) refl h.0 (kept_answer xs h.1) is

-- ---- one more is kept

module _ (rule : Rule) (es : List Event) where
  kept_front : (n : ℕ) (kept : Kept) → AreKept rule es kept → AreKept rule es (take n kept)
  kept_front zero kept h = tt
  kept_front (suc n) [] h = tt
  kept_front (suc n) (x ∷ xs) h = (h.0, kept_front n xs h.1)

  other_at : (x : List ℕ × List ℕ) (xs rest : Kept) (b : Bool) → IsAnswered rule es x.0 x.1
      → AreKept rule es xs → AreKept rule es rest → AreKept rule es (cond b xs (x ∷ rest))
  other_at x xs rest true a h behind = h
  other_at x xs rest false a h behind = (a, behind)

  kept_other : (test : List ℕ → Bool) (kept : Kept) → AreKept rule es kept
      → AreKept rule es (remove_entry test kept)
  kept_other test [] h = tt
  kept_other test (x ∷ xs) h =
      other_at x xs (remove_entry test xs) (test x.0) h.0 h.1 (kept_other test xs h.1)

  either : (b : Bool) (xs ys : Kept) → AreKept rule es xs → AreKept rule es ys
      → AreKept rule es (cond b xs ys)
  either true xs ys p q = p
  either false xs ys p q = q

  pub kept_more : (request answer : List ℕ) (kept : Kept) → IsAnswered rule es request answer
      → AreKept rule es kept → AreKept rule es (with_answer request answer kept)
  kept_more request answer kept a h = (
    a,
    either (is_some (answer_of request kept)) (remove_entry (is_bytes request) kept)
        (take 1023 kept) (kept_other (is_bytes request) kept h) (kept_front 1023 kept h),
  )
