use Rattle.std.proofs.Common.{subst}
use Rattle.schedule_text.specs.Fields.{Gives}
use Rattle.trace_text.proofs.MeaningLaws.{explained, found, line_again}
use Rattle.trace_text.proofs.reading.read_line.Goals as goal

pub returns-clause-grammar : goal.returns-clause-grammar
returns-clause-grammar c = explained c.args.line.now

pub returns-clause-only : goal.returns-clause-only
returns-clause-only c =
    λ l is. subst (λ m. Gives (λ x. x) c.meaning_of.result m) (line_again c.args.line.now l is)
    c.meaning_of.ensures

pub returns-clause-found : goal.returns-clause-found
returns-clause-found c = found c.args.line.now c.meaning_of.result c.meaning_of.ensures
