use Rattle.std.proofs.Common.{subst}
use Rattle.schedule_text.specs.Fields.{Gives}
use Rattle.observed_text.proofs.ObservedLaws.{explained_observed, means_observed, means_blank, means_played}
use Rattle.observed_text.proofs.reading.read_observed.Goals as goal

pub returns-clause-grammar : goal.returns-clause-grammar
returns-clause-grammar c = explained_observed c.args.line.now

pub returns-clause-only_step : goal.returns-clause-only_step
returns-clause-only_step c =
    λ s is. subst (λ m. Gives (λ x. x) c.observed_meaning.result m)
    (means_observed s c.args.line.now is) c.observed_meaning.ensures

pub returns-clause-only_blank : goal.returns-clause-only_blank
returns-clause-only_blank c =
    λ is. subst (λ m. Gives (λ x. x) c.observed_meaning.result m)
    (means_blank c.args.line.now is) c.observed_meaning.ensures

pub returns-clause-played : goal.returns-clause-played
returns-clause-played c =
    λ s is. subst (λ m. Gives (λ x. x) c.observed_meaning.result m)
    (means_played s c.args.line.now is) c.observed_meaning.ensures
