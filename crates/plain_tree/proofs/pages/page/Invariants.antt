use Rattle.std.proofs.Common.{◌≡◌, ◌≤◌, ◌+◌, ◌*◌, length, drop}
use Rattle.file_tree.specs.Outcome.{page_of}
use Rattle.plain_tree.proofs.PageLemmas.{with_front}
use Rattle.plain_tree.proofs.pages.page.Given as goal

abbrev pub invariant-loop-entry : goal.invariant-loop-entry
invariant-loop-entry l =
    (with_front l.page.items (page_of l.above l.room (drop l.entry-index l.entries))
    ≡ page_of l.above l.fits l.entries) × (16 * length l.page.items + l.room ≤ 8192)
