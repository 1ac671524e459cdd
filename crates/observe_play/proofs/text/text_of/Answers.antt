use Rattle.observed_text.specs.declared.line.ObservedLine.TheVariants as lines
use Rattle.observe_play.specs.Watch.{as_lines}
use Rattle.observe_play.proofs.TraceTexts.{one-told}
use Rattle.observe_play.proofs.text.text_of.Goals as goal

pub returns : goal.returns
returns c =
    one-told c.new-out.result.items c.append_event.new.out.items c.append_given.new.out.items
    (lines.Event c.args.act) (as_lines c.args.given) c.new-out.ensures.items
    c.in_ok-append_event.ensures c.in_ok-append_given.ensures
