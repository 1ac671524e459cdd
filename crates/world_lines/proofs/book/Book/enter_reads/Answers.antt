use Rattle.std.proofs.Common.{◌≡◌, ◌+◌, ◌∙◌, ap, length}
use Rattle.std.proofs.lemmas.List.{length-append}
use Rattle.world_lines.specs.Book.{BookValue, with_reads}
use Rattle.world_lines.specs.Given.{read_in, reads_in}
use Rattle.world_lines.proofs.Loops.{ended, moved}
use Rattle.world_lines.proofs.Made.{lines_ended, lines_moved, makes_reads, reads_made}
use Rattle.world_lines.proofs.book.Book.enter_reads.Goals as goal

pub loop-answer-preserved : goal.loop-answer-preserved
loop-answer-preserved c =
    let e = c.in_ok-enter_read.ensures in
    let l = c.loop-answer in
    let one = read_in c.answer-item.result in
    let more : length c.enter_read.new.self.entries ≡ length l.self.entries + length one =
    ap (λ (b : BookValue). length b.entries) e.book ∙ length-append l.self.entries one in
    record {
      entries = rw e.book (moved makes_reads reads_made l.self.entries 0
          c.args.answers.now l.answer-index c.answer-item.result _ c.loop-answer-test.true
          c.answer-item.is l.invariant.entries);
      updates = ap (λ (b : BookValue). b.updates) e.book ∙ l.invariant.updates;
      lines = rw (e.lines, more) (lines_moved makes_reads reads_made l.lines.items
          (length l.self.entries) 0 c.args.answers.now l.answer-index
          c.answer-item.result _ c.loop-answer-test.true c.answer-item.is l.invariant.lines);
    }

pub returns-clause-book : goal.returns-clause-book
returns-clause-book c =
    let l = c.loop-answer in
    let b = c.args.self.now in
    ap (λ es. record { entries = es; updates = l.self.updates })
    (ended makes_reads reads_made l.self.entries 0 c.args.answers.now
    l.answer-index _ c.loop-answer-test.false l.invariant.entries)
    ∙ ap (λ n. record (with_reads b (reads_in c.args.answers.now)) { updates = n })
    l.invariant.updates

pub returns-clause-lines : goal.returns-clause-lines
returns-clause-lines c =
    let l = c.loop-answer in
    lines_ended makes_reads reads_made l.lines.items (length l.self.entries) 0
    c.args.answers.now l.answer-index _ c.loop-answer-test.false l.invariant.lines
