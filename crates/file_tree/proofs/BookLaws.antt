-- A book that grows by one entry.
use Rattle.std.proofs.Common.{◌≡◌, ℕ, Bool, true, false, List, [], ◌∷◌, ◌++◌, fold, None, refl, sym, ap, ◌∙◌, subst, append_assoc, inl, inr}
use Rattle.std.specs.Prelude.{◌↔◌}
use Rattle.std.proofs.lemmas.Bool.{cases_Bool}
use Rattle.std.proofs.lemmas.List.{append-nil}
use Rattle.std.proofs.lemmas.List.Sums.{fold_push}
use Rattle.std.proofs.lemmas.List.Elements.{filter-append}
use Rattle.harp_types.specs.Update.{is_update}
use Rattle.file_tree.specs.Tree.{Tree, first_tree}
use Rattle.file_tree.specs.Book.{Entry, tree_next, tree_after, updates, MayFollow, MayFollowAll, IsBook, last_next, last_of, stamp_next, last_stamp}
use Rattle.file_tree.proofs.ReadLaw.{read_keeps}

abbrev IsUpdate : Entry → Bool
IsUpdate e = is_update e.call

push_follow : (earlier entries : List Entry) (e : Entry) → MayFollowAll earlier (entries ++ e ∷ [])
    → MayFollowAll earlier entries × MayFollow (earlier ++ entries) e
push_follow earlier [] e h = (tt, rw (append-nil earlier) h.0)
push_follow earlier (x ∷ entries) e h =
    let r = push_follow (earlier ++ x ∷ []) entries e h.1 in (
      (h.0, r.0),
      subst (λ (es : List Entry). MayFollow es e)
          (append_assoc earlier (x ∷ []) entries) r.1,
    )

follow_push : (earlier entries : List Entry) (e : Entry) → MayFollowAll earlier entries
    → MayFollow (earlier ++ entries) e → MayFollowAll earlier (entries ++ e ∷ [])
follow_push earlier [] e h f = (rw (append-nil earlier) at f, tt)
follow_push earlier (x ∷ entries) e h f = (
  h.0,
  follow_push (earlier ++ x ∷ []) entries e h.1
      (subst (λ (es : List Entry). MayFollow es e) (sym (append_assoc earlier (x ∷ []) entries)) f),
)

-- a book with a further entry is a book that the entry may follow
pub book_push : (entries : List Entry) (e : Entry)
    → IsBook (entries ++ e ∷ []) ↔ (IsBook entries × MayFollow entries e)
book_push entries e = (push_follow [] entries e, λ h. follow_push [] entries e h.0 h.1)

pub tree_push : (entries : List Entry) (e : Entry)
    → tree_after (entries ++ e ∷ []) ≡ tree_next (tree_after entries) e
tree_push entries e = fold_push tree_next first_tree entries e

pub updates_push_update : (entries : List Entry) (e : Entry) → is_update e.call ≡ true
    → updates (entries ++ e ∷ []) ≡ updates entries ++ e ∷ []
updates_push_update entries e u =
    let one : updates (e ∷ []) ≡ e ∷ [] = rw u refl in
    filter-append IsUpdate entries (e ∷ []) ∙ ap (λ (es : List Entry). updates entries ++ es) one

pub updates_push_read : (entries : List Entry) (e : Entry) → is_update e.call ≡ false
    → updates (entries ++ e ∷ []) ≡ updates entries
updates_push_read entries e u =
    let none : updates (e ∷ []) ≡ [] = rw u refl in
    filter-append IsUpdate entries (e ∷ []) ∙ ap (λ (es : List Entry). updates entries ++ es) none
    ∙ append-nil (updates entries)

pub last_push : (client : ℕ) (entries : List Entry) (e : Entry)
    → last_of client (entries ++ e ∷ []) ≡ last_next client (last_of client entries) e
last_push client entries e = fold_push (last_next client) None entries e

pub stamp_push : (entries : List Entry) (e : Entry)
    → last_stamp (entries ++ e ∷ []) ≡ stamp_next (last_stamp entries) e
stamp_push entries e = fold_push stamp_next 0 entries e

-- the tree is that of the updates
folded_updates : (tree : Tree) (entries : List Entry)
    → fold tree_next tree entries ≡ fold tree_next tree (updates entries)
folded_updates tree [] = refl
folded_updates tree (e ∷ entries) = elim (cases_Bool (is_update e.call)) [
  | inl u ↦
      let more : updates (e ∷ entries) ≡ e ∷ updates entries = rw u refl in
      folded_updates (tree_next tree e) entries ∙ ap (fold tree_next tree) (sym more)
  | inr u ↦
      let same : updates (e ∷ entries) ≡ updates entries = rw u refl in
      let kept : tree_next tree e ≡ tree = read_keeps tree e.cred e.call e.stamp u in
      ap (λ (t : Tree). fold tree_next t entries) kept ∙ folded_updates tree entries
      ∙ ap (fold tree_next tree) (sym same)
]

pub tree_of_updates : (entries : List Entry) → tree_after entries ≡ tree_after (updates entries)
tree_of_updates entries = folded_updates first_tree entries
