-- What a step brings to the book of the world is what it brings to the group's.
use Rattle.std.proofs.Common.{◌≡◌, ◌+◌, List, [], ◌∷◌, ◌++◌, drop, length, map, refl, sym, ap, ◌∙◌, append_assoc}
use Rattle.std.proofs.lemmas.List.{length-append}
use Rattle.file_tree.specs.Book.{Entry}
use Rattle.world_lines.specs.Book.{BookValue, new_updates}
use Rattle.world_lines.specs.Given.{book_given, reads_in, updates_in}
use Rattle.group_rules.specs.State.{Group}
use Rattle.group_trace.specs.Lines.{entered_lines}
use Rattle.node_outputs.specs.Said.{entered}
use Rattle.node_outputs.specs.declared.outputs.Outputs.{Outputs}
use Rattle.world.specs.World.{HasBook}

dropped : (xs ys : List Entry) → drop (length xs) (xs ++ ys) ≡ ys
dropped [] ys = refl
dropped (x ∷ xs) ys = dropped xs ys

-- the outputs have these updates and reads, by which the group's book grows
pub record Brings (g g' : Group Entry) (outs : Outputs) : Type 0 where
  pub committed : List Entry
  pub reads : List Entry
  pub has_committed : map entered outs.committed.items ≡ committed
  pub has_reads : reads_in outs.answers.items ≡ reads
  pub updates : g'.committed ≡ g.committed ++ new_updates (length g.committed) committed
  pub book : g'.book ≡ g.book ++ (new_updates (length g.committed) committed ++ reads)

updates_are : (g g' : Group Entry) (outs : Outputs) (b : BookValue) → (h : Brings g g' outs)
    → HasBook g b → updates_in b outs ≡ new_updates (length g.committed) h.committed
updates_are g g' outs b h has = ap (λ n. new_updates n (map entered outs.committed.items)) has.updates
    ∙ ap (new_updates (length g.committed)) h.has_committed

pub book_brought : (g g' : Group Entry) (outs : Outputs) (b : BookValue) → Brings g g' outs
    → HasBook g b → HasBook g' (book_given b outs)
book_brought g g' outs b h has =
    let new = new_updates (length g.committed) h.committed in
    let are = updates_are g g' outs b h has in
    record {
      entries = append_assoc b.entries (updates_in b outs) (reads_in outs.answers.items)
          ∙ ap (λ es. es ++ (updates_in b outs ++ reads_in outs.answers.items)) has.entries
          ∙ ap (λ es. g.book ++ (es ++ reads_in outs.answers.items)) are
          ∙ ap (λ es. g.book ++ (new ++ es)) h.has_reads ∙ sym h.book;
      updates = ap (λ n. n + length (updates_in b outs)) has.updates
          ∙ ap (λ es. length g.committed + length es) are
          ∙ sym (length-append g.committed new) ∙ sym (ap length h.updates);
    }

pub book_lines : (g g' : Group Entry) (outs : Outputs) (b : BookValue) → Brings g g' outs
    → HasBook g b
    → entered_lines (length b.entries) (updates_in b outs ++ reads_in outs.answers.items)
    ≡ entered_lines (length g.book) (drop (length g.book) g'.book)
book_lines g g' outs b h has =
    let new = new_updates (length g.committed) h.committed in
    ap (λ es. entered_lines (length es) (updates_in b outs ++ reads_in outs.answers.items))
    has.entries
    ∙ ap (λ es. entered_lines (length g.book) (es ++ reads_in outs.answers.items))
    (updates_are g g' outs b h has)
    ∙ ap (λ es. entered_lines (length g.book) (new ++ es)) h.has_reads
    ∙ sym (ap (entered_lines (length g.book)) (ap (drop (length g.book)) h.book
    ∙ dropped g.book (new ++ h.reads)))
