-- What a step brings to the book.
use Rattle.std.specs.Prelude.{◌≡◌, ℕ, true, List, ◌++◌, length, Some}
use Rattle.file_tree.specs.Book.{Entry}
use Rattle.world_lines.specs.Book.{new_updates}
use Rattle.group_rules.specs.Moves.{Move, moved_by}
use Rattle.group_rules.specs.Places.{Place}
use Rattle.group_rules.specs.Said.{committed_of, reads_said}
use Rattle.group_rules.specs.State.{Group, Packet}
use Rattle.group_rules.specs.Step.{Comes, Deed, Does, Input as Begins, numbered, step_of}
use Rattle.group_safety.specs.Laws.{Whole}

-- the updates that moves of a server bring within CP at an open leader, without those that were
-- entered before
abbrev pub updates_brought : Group Entry → Place → List (Move Entry) → List Entry
updates_brought g q ms =
    new_updates (length g.committed) (committed_of q (g.clock q) (g.server q) ms)

-- THE BOOK GROWS in a step by the updates that came within CP at an open leader and weren't entered
-- yet, and then by the reads that are answered
pub record BookGrows (size : List Entry → Entry → ℕ) (g : Group Entry) (q : Place) (i : Begins)
    : Type 0 where
  pub committed : (moved_by g q (g.server q) (step_of size g q i)).committed
      ≡ g.committed ++ updates_brought g q (step_of size g q i)
  pub book : (moved_by g q (g.server q) (step_of size g q i)).book
      ≡ g.book ++ (updates_brought g q (step_of size g q i) ++ reads_said (step_of size g q i))

-- in each deed of a server
abbrev pub DeedsGrow : Type 0
DeedsGrow = (size : List Entry → Entry → ℕ) (g : Group Entry) → Whole g → (q : Place)
    → (g.server q).up ≡ true → (d : Deed) → BookGrows size g q (Does d)

-- in each delivery of a message that was sent
abbrev pub DeliveriesGrow : Type 0
DeliveriesGrow = (size : List Entry → Entry → ℕ) (g : Group Entry) → Whole g → (n : ℕ)
    (p : Packet Entry) → numbered g.packets n ≡ Some p → (g.server p.to).up ≡ true
    → BookGrows size g p.to (Comes p.from p.body)
