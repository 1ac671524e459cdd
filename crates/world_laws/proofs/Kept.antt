-- A book that takes in what a step tells stays the group's.
use Rattle.std.proofs.Common.{◌≡◌, ℕ, ◌+◌, List, ◌++◌, append_assoc, length, sym, ap, ◌∙◌, length-append}
use Rattle.file_tree.specs.Book.{Entry}
use Rattle.group_rules.specs.Moves.{moved_by}
use Rattle.group_rules.specs.Places.{Place}
use Rattle.group_rules.specs.Said.{committed_of, reads_said}
use Rattle.group_rules.specs.State.{Group}
use Rattle.group_rules.specs.Step.{Input, step_of}
use Rattle.world_lines.specs.Book.{BookValue, new_updates, with_reads, with_updates}
use Rattle.world_laws.specs.Books.{BookGrows, updates_brought}

-- the book is the group's, and so many of its calls are updates
abbrev pub HasBook : Group Entry → BookValue → Type 0
HasBook g b = (b.entries ≡ g.book) × (b.updates ≡ length g.committed)

-- it takes the updates that were told without those that were entered before, and then the reads
pub book_kept : (size : List Entry → Entry → ℕ) (g : Group Entry) (q : Place) (i : Input)
    → BookGrows size g q i → (b : BookValue) → HasBook g b → (told reads : List Entry)
    → told ≡ committed_of q (g.clock q) (g.server q) (step_of size g q i)
    → reads ≡ reads_said (step_of size g q i)
    → HasBook (moved_by g q (g.server q) (step_of size g q i))
    (with_reads (with_updates b (new_updates b.updates told)) reads)
book_kept size g q i h b has told reads t r =
    let ms = step_of size g q i in
    let new : new_updates b.updates told ≡ updates_brought g q ms =
    ap (λ n. new_updates n told) has.1 ∙ ap (new_updates (length g.committed)) t in (
      ap (λ es. (es ++ new_updates b.updates told) ++ reads) has.0
          ∙ ap (λ es. (g.book ++ es) ++ reads) new
          ∙ ap (λ es. (g.book ++ updates_brought g q ms) ++ es) r
          ∙ append_assoc g.book (updates_brought g q ms) (reads_said ms) ∙ sym h.book,
      ap (λ n. n + length (new_updates b.updates told)) has.1
          ∙ ap (λ es. length g.committed + length es) new
          ∙ sym (ap length h.committed ∙ length-append g.committed (updates_brought g q ms)),
    )
