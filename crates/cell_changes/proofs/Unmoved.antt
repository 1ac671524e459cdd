-- What is unmoved where one object changes, where a directory's slots change and where an object is
-- new.
use Rattle.std.proofs.Common.{◌≡◌, ℕ, ◌≤◌, ◌<◌, [], ◌∷◌, ◌++◌, length, set, Some, None, refl, sym, ap, ◌∙◌, arith, inl, inr}
use Rattle.std.proofs.lemmas.Bool.{cases_eq, cases_lt}
use Rattle.std.proofs.lemmas.List.{get_or-set_other, get_or_past, get_or_push, length_push}
use Rattle.file_tree.specs.declared.object.Object.{Object}
use Rattle.file_tree.specs.Tree.{Tree, Slots, place, names_in, names_at, names_of, slots_within, is_directory, is_directory_at}
use Rattle.file_tree.specs.Sound.{IsSound}
use Rattle.file_tree.proofs.Kept.{place_within, place_push}
use Rattle.file_tree.proofs.Reslots.{Reslots, other_place, own_names, own_names_after, kinds_reslots}
use Rattle.file_tree.proofs.SoundChanges.{kinds_set, names_at_set, live_from}
use Rattle.file_tree.proofs.SoundMoves.{names_at-le}
use Rattle.cell_changes.specs.Stands.{IsUnmoved}

-- what is unmoved by two changes is by both in a row
pub unmoved_twice : (old mid new : Tree) (number : ℕ) → IsUnmoved old mid number
    → IsUnmoved mid new number
    → IsUnmoved old new number
unmoved_twice old mid new number first second = record {
  stays = second.stays ∙ first.stays;
  named = λ dir. second.named dir ∙ first.named dir;
  names = λ k h.
      let same : names_at k (place mid number) ≡ names_at k (place old number) =
      ap (names_at k) first.stays in
      second.names k (omega (arith, h, same)) ∙ first.names k h;
}

-- another object changes, and keeps its kind and its entries
pub unmoved_set : (tree : Tree) (at : ℕ) (o new : Object) (number : ℕ) → place tree at ≡ Some o
    → is_directory new.body ≡ is_directory o.body
    → ((k : ℕ) → names_in k (slots_within new.body) ≡ names_in k (slots_within o.body))
    → (number ≡ at → ⊥)
    → IsUnmoved tree (set tree at (Some new)) number
unmoved_set tree at o new number is kind same other = record {
  stays = get_or-set_other tree at number (Some new) None other;
  named = λ dir. names_at_set tree at o new is same dir number;
  names = λ k h. kinds_set tree at o new is kind k;
}

-- the slots of another directory change, as many of which name the number as before
pub unmoved_reslots : (old new : Tree) (dir : ℕ) (slots after : Slots) (number : ℕ)
    → Reslots old new dir slots after
    → (number ≡ dir → ⊥)
    → names_in number after ≡ names_in number slots → IsUnmoved old new number
unmoved_reslots old new dir slots after number r other same = record {
  stays = other_place old new dir slots after r number other;
  named = λ d. elim (cases_eq d dir) [
    | inl e ↦ rw e (own_names_after old new dir slots after r number ∙ same
        ∙ sym (own_names old new dir slots after r number))
    | inr ne ↦ ap (names_at number) (other_place old new dir slots after r d ne)
  ];
  names = λ k h. kinds_reslots old new dir slots after r k;
}

-- a push leaves each number but its own
pub place_beside : (tree : Tree) (o : Object) (number : ℕ) → (number ≡ length tree → ⊥)
    → place (tree ++ Some o ∷ []) number ≡ place tree number
place_beside tree o number other = elim (cases_lt number (length tree)) [
  | inl lt ↦ place_push tree (Some o) number lt
  | inr le ↦
      get_or_past (tree ++ Some o ∷ []) number None
      (omega (arith, length_push tree (Some o), le, other))
      ∙ sym (get_or_past tree number None le)
]

-- what an object of a sound tree names lives
named_within : (tree : Tree) (number k : ℕ) → IsSound tree → 1 ≤ names_at k (place tree number)
    → k < length tree
named_within tree number k is h =
    let live = live_from k (place tree k) (names_of tree k) (is.entries k)
    (omega (arith, h, names_at-le tree number k)) in
    place_within tree k live.0 live.1

-- an object without entries is new
pub unmoved_pushed : (tree : Tree) (o : Object) (number : ℕ) → IsSound tree
    → ((k : ℕ) → names_in k (slots_within o.body) ≡ 0)
    → (number ≡ length tree → ⊥) → IsUnmoved tree (tree ++ Some o ∷ []) number
unmoved_pushed tree o number is bare other = record {
  stays = place_beside tree o number other;
  named = λ dir. elim (cases_eq dir (length tree)) [
    | inl e ↦
        rw e (ap (names_at number) (get_or_push tree (Some o) None (length tree) refl) ∙ bare number
        ∙ sym (ap (names_at number) (get_or_past tree (length tree) None (omega arith))))
    | inr ne ↦ ap (names_at number) (place_beside tree o dir ne)
  ];
  names = λ k h. ap is_directory_at (place_push tree (Some o) k (named_within tree number k is h));
}
