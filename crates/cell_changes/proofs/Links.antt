-- How the links and the parent of a directory change.
use Rattle.std.proofs.Common.{◌≡◌, ℕ, suc, ◌+◌, ◌<◌, ◌≤◌, ◌==◌, Bool, cond, [], ◌∷◌, length, get_or, set, sum_by, count_by, Option, Some, None, refl, sym, ap, arith}
use Rattle.std.proofs.lemmas.Bool.{eq-eqb}
use Rattle.std.proofs.lemmas.List.Sums.{sum_by-cons, sum_by-set}
use Rattle.file_tree.specs.declared.object.Slot.{Slot}
use Rattle.file_tree.specs.declared.object.Object.{Object}
use Rattle.file_tree.specs.declared.object.Body.TheVariants as body
use Rattle.file_tree.specs.Tree.{Tree, Slots, place, names_in, names_at, names_of, is_directory_at, is_subdirectory, links_of, holder_from, parent_of, with_entry}
use Rattle.file_tree.proofs.SlotLaws.{share, sum_by-with_entry}

-- a number's kind is the same in both trees
abbrev pub IsSameKind : Tree → Tree → ℕ → Type 0
IsSameKind old new number = is_directory_at (place new number) ≡ is_directory_at (place old number)

-- all that slots name have the same kinds in both trees
abbrev pub NameSameKinds : Tree → Tree → Slots → Type 0
NameSameKinds old new slots = (k : ℕ) → 1 ≤ names_in k slots → IsSameKind old new k

-- 1 where a slot names a directory
abbrev pub directory_share : Tree → Option Slot → ℕ
directory_share tree s = cond (is_subdirectory tree s) 1 0

-- ---- links

named_here : (s : Slot) (slots : Slots) → 1 ≤ names_in s.number (Some s ∷ slots)
named_here s slots =
    let it : share s.number (Some s) ≡ 1 = rw (eq-eqb s.number s.number refl) refl in
    omega (arith, it, sum_by-cons (share s.number) (Some s) slots)

named_behind : (k : ℕ) (s : Option Slot) (slots : Slots) → 1 ≤ names_in k slots
    → 1 ≤ names_in k (s ∷ slots)
named_behind k s slots h = omega (arith, h, sum_by-cons (share k) s slots)

pub same_subdirectories : (old new : Tree) (slots : Slots) → NameSameKinds old new slots
    → count_by (is_subdirectory new) slots ≡ count_by (is_subdirectory old) slots
same_subdirectories old new [] kinds = refl
same_subdirectories old new (None ∷ slots) kinds =
    let rest = same_subdirectories old new slots (λ k h. kinds k (named_behind k None slots h)) in
    omega (
      arith,
      rest,
      sum_by-cons (directory_share new) None slots,
      sum_by-cons (directory_share old) None slots,
    )
same_subdirectories old new (Some s ∷ slots) kinds =
    let rest =
    same_subdirectories old new slots (λ k h. kinds k (named_behind k (Some s) slots h)) in
    let here : directory_share new (Some s) ≡ directory_share old (Some s) =
    ap (λ (b : Bool). cond b 1 0) (kinds s.number (named_here s slots)) in
    let now = sum_by-cons (directory_share new) (Some s) slots in
    let before = sum_by-cons (directory_share old) (Some s) slots in
    omega (arith, rest, here)

-- the links of a directory whose slots stay
pub links_kept : (old new : Tree) (dir : ℕ) (slots : Slots) → NameSameKinds old new slots
    → links_of new dir (body.Directory slots) ≡ links_of old dir (body.Directory slots)
unfolding links_of
links_kept old new dir slots kinds = ap (λ (n : ℕ). 2 + n) (same_subdirectories old new slots kinds)

-- one more where a new entry names a directory
pub links_entered : (old new : Tree) (dir : ℕ) (slots : Slots) (s : Slot)
    → NameSameKinds old new slots
    → links_of new dir (body.Directory (with_entry slots s))
    ≡ links_of old dir (body.Directory slots) + directory_share new (Some s)
unfolding links_of
links_entered old new dir slots s kinds =
    omega (
      arith,
      sum_by-with_entry (directory_share new) slots s refl,
      same_subdirectories old new slots kinds,
    )

-- ---- entries and parents

-- as many slots of each directory name a number in both trees
abbrev pub IsNamedAlike : Tree → Tree → ℕ → Type 0
IsNamedAlike old new number = (dir : ℕ)
    → names_at number (place new dir) ≡ names_at number (place old dir)

same_sum : (f : Option Object → ℕ) (xs ys : Tree) → f None ≡ 0
    → ((i : ℕ) → f (get_or xs i None) ≡ f (get_or ys i None)) → sum_by f xs ≡ sum_by f ys
same_sum f [] [] none same = refl
same_sum f [] (y ∷ ys) none same =
    omega (arith, none, same 0, same_sum f [] ys none (λ i. same (suc i)), sum_by-cons f y ys)
same_sum f (x ∷ xs) [] none same =
    omega (arith, none, same 0, same_sum f xs [] none (λ i. same (suc i)), sum_by-cons f x xs)
same_sum f (x ∷ xs) (y ∷ ys) none same =
    omega (
      arith,
      same 0,
      same_sum f xs ys none (λ i. same (suc i)),
      sum_by-cons f x xs,
      sum_by-cons f y ys,
    )

pub names_alike : (old new : Tree) (number : ℕ) → IsNamedAlike old new number
    → names_of new number ≡ names_of old number
unfolding names_of
names_alike old new number same = same_sum (names_at number) new old refl same

same_holder : (i : ℕ) (xs ys : Tree) (number found : ℕ)
    → ((j : ℕ) → names_at number (get_or xs j None) ≡ names_at number (get_or ys j None))
    → holder_from i xs number found ≡ holder_from i ys number found
unfolding holder_from
same_holder i [] [] number found same = refl
same_holder i [] (y ∷ ys) number found same =
    let z : names_at number y ≡ 0 = sym (same 0) in
    rw z (same_holder (i + 1) [] ys number found (λ j. same (suc j)))
same_holder i (x ∷ xs) [] number found same =
    let z : names_at number x ≡ 0 = same 0 in
    rw z (same_holder (i + 1) xs [] number found (λ j. same (suc j)))
same_holder i (x ∷ xs) (y ∷ ys) number found same =
    let z : names_at number x ≡ names_at number y = same 0 in
    rw z (same_holder (i + 1) xs ys number _ (λ j. same (suc j)))

-- a number that is named alike, and is of the same kind, has the same parent
pub parent_kept : (old new : Tree) (number : ℕ) → IsSameKind old new number
    → IsNamedAlike old new number
    → parent_of new number ≡ parent_of old number
unfolding parent_of
parent_kept old new number kind same =
    rw kind (ap (λ (n : ℕ). cond (is_directory_at (place old number)) (cond (number == 1) 1 n) 0)
    (same_holder 0 new old number 0 same))
