use Rattle.std.proofs.Common.{◌++◌, ◌∙◌, ap, length}
use Rattle.std.proofs.lemmas.List.{length-append}
use Rattle.std.specs.Prelude.{map}
use Rattle.group_trace.specs.Lines.{entered_lines}
use Rattle.node_outputs.specs.Said.{entered}
use Rattle.world_lines.specs.Book.{BookValue, new_updates}
use Rattle.world_lines.specs.Given.{answered_lines, reads_in, refused_lines, sent_lines}
use Rattle.world_lines.proofs.Made.{put_together}
use Rattle.world_lines.proofs.given.give.Goals as goal

pub returns-clause-lines : goal.returns-clause-lines
returns-clause-lines c =
    let o = c.args.outs.now in
    let b = c.args.book.now in
    let n = length b.entries in
    let us = new_updates b.updates (map entered o.committed.items) in
    let m = length c.enter_updates.new.self.entries in
    put_together c.args.lines.now.items c.enter_updates.new.lines.items
    c.enter_reads.new.lines.items c.show_answers.new.lines.items c.show_refusals.new.lines.items
    c.post_all.new.lines.items n m
    us (reads_in o.answers.items)
    (answered_lines c.args.server o.answers.items) (refused_lines c.args.server o.refusals.items)
    (sent_lines c.args.server (length c.args.packets.now) o.sends.items)
    (ap (λ (z : BookValue). length z.entries) c.in_ok-enter_updates.ensures.book
    ∙ length-append b.entries us)
    c.in_ok-enter_updates.ensures.lines
    (c.in_ok-enter_reads.ensures.lines ∙ ap (λ xs. c.enter_updates.new.lines.items
    ++ entered_lines m (reads_in xs)) c.as_slice.ensures.value)
    c.in_ok-show_answers.ensures.lines
    (c.in_ok-show_refusals.ensures ∙ ap (λ xs. c.show_answers.new.lines.items
    ++ refused_lines c.args.server xs) c.as_slice-2.ensures.value)
    c.in_ok-post_all.ensures.lines
