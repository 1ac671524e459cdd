-- The updates of a book, two by two, and the beginnings of a book.
use Rattle.std.proofs.Common.{◌≡◌, ℕ, ◌<◌, ◌≤◌, List, [], ◌∷◌, ◌++◌, length, get_or, arith, inl, inr}
use Rattle.std.specs.List.{AllByRecursion}
use Rattle.std.proofs.lemmas.Bool.{cases_Bool, cases_lt}
use Rattle.std.proofs.lemmas.List.{length_push, get_or_append_left, get_or_push}
use Rattle.std.proofs.lemmas.List.Elements.{All-get_or, All-from_recursion}
use Rattle.harp_types.specs.Update.{is_update}
use Rattle.file_tree.specs.Book.{Entry, updates, IsNextUpdate, MayFollow, MayFollowAll, IsBook, IsBefore}
use Rattle.file_tree.proofs.BookLaws.{updates_push_update, updates_push_read}
use Rattle.file_tree.proofs.BookOrder.{book_grows, order_of}

abbrev pub AreInOrder : List Entry → Type 0
AreInOrder entries = (i j : ℕ) (d : Entry) → i < j → j < length (updates entries)
    → IsBefore (get_or (updates entries) i d) (get_or (updates entries) j d)

at_all : (P : Entry → Type 0) (xs : List Entry) (i : ℕ) (d : Entry) → i < length xs
    → AllByRecursion P xs → P (get_or xs i d)
at_all P xs i d lt all = All-get_or P xs i d lt (All-from_recursion P xs all)

pushed_order : (xs : List Entry) (e : Entry) → IsNextUpdate xs e
    → ((i j : ℕ) (d : Entry) → i < j → j < length xs → IsBefore (get_or xs i d) (get_or xs j d))
    → (i j : ℕ) (d : Entry) → i < j → j < length (xs ++ e ∷ [])
    → IsBefore (get_or (xs ++ e ∷ []) i d) (get_or (xs ++ e ∷ []) j d)
pushed_order xs e next h i j d lt within = elim (cases_lt j (length xs)) [
  | inl before ↦
      let first = get_or_append_left xs (e ∷ []) d i (omega (arith, lt, before)) in
      let second = get_or_append_left xs (e ∷ []) d j before in
      rw (first, second) (h i j d lt before)
  | inr after ↦
      let last : length xs ≡ j = omega (arith, within, after, length_push xs e) in
      let early : i < length xs = omega (arith, last, lt) in
      let first = get_or_append_left xs (e ∷ []) d i early in
      let second = get_or_push xs e d j last in
      rw (first, second) (record {
        stamp = at_all (λ x. x.stamp ≤ e.stamp) xs i d early next.stamp;
        number = at_all (λ x. x.client ≡ e.client → x.number < e.number) xs i d early next.number;
      })
]

order_more : (earlier : List Entry) (e : Entry) → AreInOrder earlier → MayFollow earlier e
    → AreInOrder (earlier ++ e ∷ [])
order_more earlier e h f = elim (cases_Bool (is_update e.call)) [
  | inl u ↦
      rw (updates_push_update earlier e u)
      (pushed_order (updates earlier) e (order_of earlier e u f) h)
  | inr u ↦ rw (updates_push_read earlier e u) h
]

-- the stamps of the updates don't fall, and the numbers of a client's updates rise
pub book_in_order : (entries : List Entry) → IsBook entries → AreInOrder entries
book_in_order entries h =
    book_grows AreInOrder (λ i j d lt within. absurd (omega (arith, within))) order_more entries h

follow_first : (earlier entries more : List Entry) → MayFollowAll earlier (entries ++ more)
    → MayFollowAll earlier entries
follow_first earlier [] more h = tt
follow_first earlier (e ∷ entries) more h = (h.0, follow_first (earlier ++ e ∷ []) entries more h.1)

-- a book begins with books
pub book_first : (entries more : List Entry) → IsBook (entries ++ more) → IsBook entries
book_first entries more h = follow_first [] entries more h
