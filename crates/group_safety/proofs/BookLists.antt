-- Lists of updates, and the book that reads stand in beside them.
use Rattle.std.proofs.Common.{◌≡◌, ℕ, zero, suc, Bool, true, false, List, [], ◌∷◌, ◌++◌, append_assoc, append-nil, Some, slice_get, take, refl, sym, ap, ◌∙◌, subst, ⊎_elim}
use Rattle.std.specs.Prelude.{MatchBool}
use Rattle.std.proofs.lemmas.Bool.{cases_Bool}
use Rattle.std.proofs.lemmas.List.Elements.{filter-append}
use Rattle.file_tree.specs.Tree.{Tree}
use Rattle.file_tree.specs.Calls.{outcome}
use Rattle.harp_types.specs.Update.{is_update}
use Rattle.file_tree.specs.Book.{Entry, updates, tree_after, MayFollow, MayFollowAll, IsNextUpdate, IsRead}
use Rattle.file_tree.proofs.BookLaws.{tree_of_updates}
use Rattle.group_safety.specs.Entered.{UpdatesFrom}

-- an entry, and the others
pub joined_up : {X : Type 0} (xs : List X) (x : X) (ys : List X) → (xs ++ x ∷ []) ++ ys ≡ xs ++ x ∷ ys
joined_up xs x ys = rw append_assoc refl

pub only_updates : (earlier xs : List Entry) → UpdatesFrom earlier xs → updates xs ≡ xs
only_updates earlier [] h = refl
only_updates earlier (e ∷ es) h = rw h.0 (ap (λ (l : List Entry). e ∷ l) (only_updates (earlier ++ e ∷ []) es h.2))

pub from_append : (earlier xs ys : List Entry) → UpdatesFrom earlier xs → UpdatesFrom (earlier ++ xs) ys → UpdatesFrom earlier (xs ++ ys)
from_append earlier [] ys a b = subst (λ (l : List Entry). UpdatesFrom l ys) (append-nil earlier) b
from_append earlier (x ∷ xs) ys a b = (a.0, a.1, from_append (earlier ++ x ∷ []) xs ys a.2 (subst (λ (l : List Entry). UpdatesFrom l ys) (sym (joined_up earlier x xs)) b))

pub from_back : (earlier xs ys : List Entry) → UpdatesFrom earlier (xs ++ ys) → UpdatesFrom (earlier ++ xs) ys
from_back earlier [] ys a = subst (λ (l : List Entry). UpdatesFrom l ys) (sym (append-nil earlier)) a
from_back earlier (x ∷ xs) ys a = subst (λ (l : List Entry). UpdatesFrom l ys) (joined_up earlier x xs) (from_back (earlier ++ x ∷ []) xs ys a.2)

pub from_take : (n : ℕ) (earlier xs : List Entry) → UpdatesFrom earlier xs → UpdatesFrom earlier (take n xs)
from_take zero earlier xs h = tt
from_take (suc n) earlier [] h = tt
from_take (suc n) earlier (x ∷ xs) h = (h.0, h.1, from_take n (earlier ++ x ∷ []) xs h.2)

-- one of them
pub from_at : (earlier xs : List Entry) (k : ℕ) (e : Entry) → UpdatesFrom earlier xs → slice_get xs k ≡ Some e → (is_update e.call ≡ true) × MayFollow (earlier ++ take k xs) e
from_at earlier [] k e h i = cc
from_at earlier (x ∷ xs) zero e h i = let z : x ≡ e = cc in subst (λ (y : Entry). (is_update y.call ≡ true) × MayFollow (earlier ++ []) y) z (h.0, subst (λ (l : List Entry). MayFollow l x) (sym (append-nil earlier)) h.1)
from_at earlier (x ∷ xs) (suc k) e h i = subst (λ (l : List Entry). (is_update e.call ≡ true) × MayFollow l e) (joined_up earlier x (take k xs)) (from_at (earlier ++ x ∷ []) xs k e h.2 i)

-- an update that may follow updates alone is the next one
pub next_is : (earlier : List Entry) (e : Entry) → updates earlier ≡ earlier → is_update e.call ≡ true → MayFollow earlier e → IsNextUpdate earlier e
next_is earlier e u i m = subst (λ (l : List Entry). IsNextUpdate l e) u (subst (λ (b : Bool). MatchBool b (IsNextUpdate (updates earlier) e) (IsRead e)) i m.order)

pub follows_all : (earlier xs : List Entry) → UpdatesFrom earlier xs → MayFollowAll earlier xs
follows_all earlier [] h = tt
follows_all earlier (x ∷ xs) h = (h.1, follows_all (earlier ++ x ∷ []) xs h.2)

-- updates that follow the committed ones may follow a book with these updates
pub enter : (book c new : List Entry) → updates book ≡ c → UpdatesFrom c new → MayFollowAll book new × (updates (book ++ new) ≡ c ++ new)
enter book c [] u h = (tt, ap updates (append-nil book) ∙ u ∙ sym (append-nil c))
enter book c (e ∷ es) u h =
    let cc' : updates c ≡ c = sym (ap updates u) ∙ twice book ∙ u in
    let next : IsNextUpdate (updates book) e = subst (λ (l : List Entry). IsNextUpdate l e) (sym u) (next_is c e cc' h.0 h.1) in
    let tree : tree_after c ≡ tree_after book = ap tree_after (sym u) ∙ sym (tree_of_updates book) in
    let more : updates (book ++ e ∷ []) ≡ c ++ e ∷ [] = filter-append (λ x. is_update x.call) book (e ∷ []) ∙ ap (λ (l : List Entry). l ++ updates (e ∷ [])) u ∙ ap (λ (l : List Entry). c ++ l) (only_updates c (e ∷ []) (h.0, h.1, tt)) in
    let rest = enter (book ++ e ∷ []) (c ++ e ∷ []) es more h.2 in (
      (
        record {
          reply = h.1.reply ∙ ap (λ (t : Tree). (outcome t e.cred e.call e.stamp).0) tree;
          order = subst (λ (b : Bool). MatchBool b (IsNextUpdate (updates book) e) (IsRead e)) (sym h.0) next;
        },
        rest.0,
      ),
      ap updates (sym (joined_up book e es)) ∙ rest.1 ∙ joined_up c e es,
    )
  where
    twice : (xs : List Entry) → updates (updates xs) ≡ updates xs
    twice [] = refl
    twice (x ∷ xs) = ⊎_elim
        (λ (y : is_update x.call ≡ true). rw y (rw y (ap (λ (l : List Entry). x ∷ l) (twice xs))))
        (λ (y : is_update x.call ≡ false). rw y (twice xs))
        (cases_Bool (is_update x.call))

pub book_append : (earlier xs ys : List Entry) → MayFollowAll earlier xs → MayFollowAll (earlier ++ xs) ys → MayFollowAll earlier (xs ++ ys)
book_append earlier [] ys a b = subst (λ (l : List Entry). MayFollowAll l ys) (append-nil earlier) b
book_append earlier (x ∷ xs) ys a b = (a.0, book_append (earlier ++ x ∷ []) xs ys a.1 (subst (λ (l : List Entry). MayFollowAll l ys) (sym (joined_up earlier x xs)) b))
