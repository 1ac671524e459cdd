-- Cells after the records of a history.
use Rattle.std.specs.Prelude.{◌≡◌, ℕ, ◌-◌, ◌⊎◌, List, [], ◌∷◌, take, drop, None}
use Rattle.std.specs.List.{flat_map}
use Rattle.harp_cells.specs.declared.cell.Cell.{Cell}
use Rattle.harp_cells.specs.declared.change.Change.{Change}
use Rattle.harp_cells.specs.Effect.{Cells, after}

-- the changes of each record, from the first one on
abbrev pub History : Type 0
History = List (List Change)

-- the changes of records, one after the other
abbrev pub in_a_row : History → List Change
in_a_row history = flat_map (λ changes. changes) history

-- those of the records after the first `from`, up to `upto`
abbrev pub between : History → ℕ → ℕ → List Change
between history from upto = in_a_row (take (upto - from) (drop from history))

-- cells before the first record
abbrev pub no_cells : Cells
no_cells c = None

-- the cells after the first n records
abbrev pub cells_at : History → ℕ → Cells
cells_at history n = after (in_a_row (take n history)) no_cells

-- changes set each cell at once: at each moment of them it holds what it held before them, or what
-- it holds after them
abbrev pub SetsOnce : List Change → Type 0
SetsOnce changes = (n : ℕ) (cells : Cells) (c : Cell)
    → (after (take n changes) cells c ≡ cells c) ⊎ (after (take n changes) cells c ≡
    after changes cells c)

-- each record's changes do
abbrev pub AllSetOnce : History → Type 0
AllSetOnce [] = Unit {0}
AllSetOnce (changes ∷ history) = SetsOnce changes × AllSetOnce history
