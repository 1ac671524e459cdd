use Rattle.trace_check.proofs.BreachLaws.{accepts_nothing, accepts_less, accepts_more, first_breaks}
use Rattle.trace_check.proofs.breach.breach_laws.Goals as goal

pub returns : goal.returns
returns c = record {
  nothing = accepts_nothing;
  grown = λ before l. (λ a. accepts_less before l a, λ h. accepts_more before l h.0 h.1);
  broken = λ before l b first. first_breaks before l b first;
}
