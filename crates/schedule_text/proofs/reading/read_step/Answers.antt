use Rattle.std.proofs.Common.{subst}
use Rattle.schedule_text.specs.Fields.{Gives}
use Rattle.schedule_text.proofs.MeaningLaws.{explained, means_step, means_blank}
use Rattle.schedule_text.proofs.reading.read_step.Goals as goal

pub returns-clause-grammar : goal.returns-clause-grammar
returns-clause-grammar c = explained c.args.line.now

pub returns-clause-only_step : goal.returns-clause-only_step
returns-clause-only_step c =
    λ s is. subst (λ m. Gives (λ x. x) c.meaning_of.result m) (means_step s c.args.line.now is)
    c.meaning_of.ensures

pub returns-clause-only_blank : goal.returns-clause-only_blank
returns-clause-only_blank c =
    λ is. subst (λ m. Gives (λ x. x) c.meaning_of.result m) (means_blank c.args.line.now is)
    c.meaning_of.ensures
