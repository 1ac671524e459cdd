-- A client's last update in a list of updates, and what may follow it.
use Rattle.std.proofs.Common.{◌≡◌, ◌⊎◌, ◌&&◌, ◌==◌, ℕ, suc, ◌+◌, ◌<◌, true, List, [], ◌∷◌, length, fold, Option, None, Some, slice_get, take, refl, sym, ap, ◌∙◌, inl, inr, arith, ⊎_elim, le_of_lt}
use Rattle.std.specs.Prelude.{IfSome}
use Rattle.std.proofs.lemmas.Option.{slice_get_within}
use Rattle.std.proofs.lemmas.List.{length-take-le}
use Rattle.harp_types.specs.declared.call.Call.{Call}
use Rattle.harp_types.specs.Update.{is_update}
use Rattle.harp_types.specs.declared.cred.Cred.{Cred}
use Rattle.file_tree.specs.Book.{Entry, MayFollow, last_next, last_of}
use Rattle.file_tree.proofs.BookOrder.{next_follows}
use Rattle.group_rules.specs.Ask.{new_entry}
use Rattle.group_safety.specs.Entered.{UpdatesFrom}
use Rattle.group_rules.specs.Places.{number}
use Rattle.group_rules.proofs.Tests.{by_if}
use Rattle.group_safety.proofs.BookLists.{only_updates, from_at, from_take, next_is, follows_all}

-- the last one that is found stands in the list, or was there before
last_among : (client : ℕ) (xs : List Entry) (o : Option Entry) (l : Entry) → fold (last_next client) o xs ≡ Some l → (o ≡ Some l) ⊎ ((k : ℕ) × (slice_get xs k ≡ Some l))
last_among client [] o l e = inl e
last_among client (x ∷ xs) o l e = ⊎_elim
    (λ (h : last_next client o x ≡ Some l). by_if (λ (y : Option Entry). y ≡ Some l → (o ≡ Some l) ⊎ ((k : ℕ) × (slice_get (x ∷ xs) k ≡ Some l))) (is_update x.call && (x.client == client)) (Some x) o
    (λ _ y. inr (0, y))
    (λ _ y. inl y) h)
    (λ h. inr (suc h.0, h.1))
    (last_among client xs (last_next client o x) l e)

pub last_place : (client : ℕ) (xs : List Entry) (l : Entry) → last_of client xs ≡ Some l → (k : ℕ) × (slice_get xs k ≡ Some l)
last_place client xs l e = ⊎_elim (λ x. cc) (λ h. h) (last_among client xs None l e)

-- an update's index is its place from 1
pub index_is : (xs : List Entry) (k : ℕ) (e : Entry) → UpdatesFrom [] xs → slice_get xs k ≡ Some e → e.index ≡ k + 1
index_is xs k e h i =
    let at' = from_at [] xs k e h i in
    let n = next_is (take k xs) e (only_updates [] (take k xs) (from_take k [] xs h)) at'.0 at'.1 in
    let size : length (take k xs) ≡ k = length-take-le k xs (le_of_lt (slice_get_within xs k e i)) in
    n.index ∙ ap (λ (m : ℕ). m + 1) size

-- the entry of an update with a number above its client's last one may follow
pub new_follows : (clock : ℕ) (list : List Entry) (client number : ℕ) (cred : Cred) (c : Call) → UpdatesFrom [] list → is_update c ≡ true → IfSome (last_of client list) (λ l. l.number < number)
    → MayFollow list (new_entry clock list client number cred c)
new_follows clock list client number cred c f u new = next_follows list (new_entry clock list client number cred c) (follows_all [] list f) (record {
  update = u;
  reply = refl;
  index = ap (λ (l : List Entry). length l + 1) (sym (only_updates [] list f));
  stamp = omega arith;
  number = new;
})
