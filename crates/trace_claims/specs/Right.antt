-- All that is asked of a trace.
use Rattle.std.specs.Prelude.{[]}
use Rattle.trace_types.specs.declared.line.Line.{Line}
use Rattle.trace_claims.specs.Acknowledged.{AnswersAtOnce, AreAcknowledged, AreAnsweredAtOnce}
use Rattle.trace_claims.specs.Faithful.{IsFaithful}
use Rattle.trace_claims.specs.LaterViews.{AllSurvive}
use Rattle.trace_claims.specs.Listing.{AllListTheTree, ListsTree}
use Rattle.trace_claims.specs.LocalSteps.{StepsAreLocal}
use Rattle.trace_claims.specs.Reading.{AreExclusive, PromisesAreUsed, ReadsAreOwn}
use Rattle.trace_claims.specs.Trace.{AtPlacesAmid, HasStep, IsClosed, Trace}

-- of a whole trace
pub record IsRight (trace : Trace) : Type 0 where
  pub closed : IsClosed trace
  pub faithful : IsFaithful trace
  pub acknowledged : AreAcknowledged trace
  pub answered_at_once : AreAnsweredAtOnce trace
  pub own_reads : ReadsAreOwn trace
  pub promises : PromisesAreUsed trace
  pub exclusive : AreExclusive trace
  pub later_views : AllSurvive trace
  pub listings : AllListTheTree trace
  pub local : StepsAreLocal trace

-- in each step that another one follows
abbrev pub InStepsBefore : (Trace → Line → Trace → Type 0) → Trace → Type 0
InStepsBefore P trace = AtPlacesAmid (λ before l later. HasStep later → P before l later) [] trace

-- Of a first part of one: its last step alone may lack answers, or the end of a listing
pub record IsRightSoFar (part : Trace) : Type 0 where
  pub faithful : IsFaithful part
  pub acknowledged : AreAcknowledged part
  pub answered_at_once : InStepsBefore AnswersAtOnce part
  pub own_reads : ReadsAreOwn part
  pub promises : PromisesAreUsed part
  pub exclusive : AreExclusive part
  pub later_views : AllSurvive part
  pub listings : InStepsBefore ListsTree part
  pub local : StepsAreLocal part
