-- What each move brings to the committed updates and to the book.
use Rattle.std.proofs.Common.{◌≡◌, false, List, [], ◌∷◌, ◌++◌, append-nil, length, sym, ap, ◌∙◌, subst}
use Rattle.std.specs.Prelude.{MatchBool}
use Rattle.harp_types.specs.Update.{is_update}
use Rattle.file_tree.specs.Book.{Entry, IsNextUpdate, IsRead, MayFollow, updates}
use Rattle.world_lines.specs.Book.{new_updates}
use Rattle.group_rules.specs.Moves.{Committing, Move, Opening, Reading, book_after, committed_after}
use Rattle.group_rules.specs.Places.{Place}
use Rattle.group_rules.specs.Said.{committed_by, read_by}
use Rattle.group_rules.specs.State.{Group, Server}
use Rattle.group_safety.proofs.Moving.{Good, May}
use Rattle.world_laws.proofs.BookLogs.{new_of_all, new_up_to}

-- the updates that a move brings within CP at an open leader, without those that were entered
-- before
abbrev pub brought : Group Entry → Server Entry → Move Entry → List Entry
brought g s m = new_updates (length g.committed) (committed_by s m)

pub commits_more : (m : Move Entry) (g : Group Entry) (q : Place) (s : Server Entry) → Good g q s
    → May g q s m → committed_after g.committed s m ≡ g.committed ++ brought g s m
unfolding new_updates
commits_more (Committing n) g q s h may =
    ap (λ es. g.committed ++ es) (new_up_to g q s n h may.2 may.0.1)
commits_more (Opening lb) g q s h may =
    ap (λ es. g.committed ++ es) (new_of_all g q s h may.2.1)
commits_more m g q s h may = sym (append-nil g.committed)

-- a read's entry has no index and no stamp
is_read : (book : List Entry) (e : Entry) → MayFollow book e → is_update e.call ≡ false → IsRead e
is_read book e h reads =
    subst (λ b. MatchBool b (IsNextUpdate (updates book) e) (IsRead e)) reads h.order

read_is : (e : Entry) → IsRead e → e ≡ record e { index = 0; stamp = 0 }
read_is e h = ap (λ i. record e { index = i }) h.0 ∙ ap (λ t. record e { index = 0; stamp = t }) h.1

pub enters_more : (m : Move Entry) (g : Group Entry) (q : Place) (s : Server Entry) → Good g q s
    → May g q s m
    → book_after g.book g.committed s m ≡ g.book ++ (brought g s m ++ read_by m)
unfolding new_updates
enters_more (Committing n) g q s h may = ap (λ es. g.book ++ es)
    (new_up_to g q s n h may.2 may.0.1 ∙ sym (append-nil (brought g s (Committing n))))
enters_more (Opening lb) g q s h may = ap (λ es. g.book ++ es)
    (new_of_all g q s h may.2.1 ∙ sym (append-nil (brought g s (Opening lb))))
enters_more (Reading n e) g q s h may = ap (λ x. g.book ++ x ∷ [])
    (read_is e (is_read g.book e may.2.0 may.2.1))
enters_more m g q s h may = sym (append-nil g.book)
