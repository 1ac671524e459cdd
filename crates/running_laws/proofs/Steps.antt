-- The step of a run that an input of a server is, beside the messages of others.
use Rattle.std.proofs.Common.{◌≡◌, true, List, ◌∷◌, Some, refl, sym, subst}
use Rattle.file_tree.specs.Book.{Entry}
use Rattle.group_rules.specs.Names.{place_of}
use Rattle.group_rules.specs.State.{Server}
use Rattle.group_rules.specs.Step.{Apply, Ask, Deed, Does, Flush, Suspect, Tick}
use Rattle.group_trace.specs.DiskCalls.{measures_of}
use Rattle.group_trace.specs.DiskRun.{DiskScene, disk_next}
use Rattle.group_trace.specs.Refusals.{own_refusal, where_down}
use Rattle.group_trace.specs.Run.{is_elementary, step_lines}
use Rattle.harp_types.specs.declared.peer.Peer.{Peer}
use Rattle.harp_types.specs.declared.server.ServerId.{ServerId}
use Rattle.node.specs.Input.{input_of}
use Rattle.node.specs.Stock.{Stock}
use Rattle.node.specs.declared.input.Input.{Input}
use Rattle.node.specs.declared.input.Input.TheVariants as input
use Rattle.trace_types.specs.declared.line.Line.TheVariants as line
use Rattle.trace_types.specs.declared.step.Step.{Step}
use Rattle.trace_types.specs.declared.step.Step.TheVariants as step
use Rattle.wire.specs.declared.message.Message.{Message}
use Rattle.world.specs.Turns.{after_armed_turn, turn_lines}
use Rattle.world_laws.specs.StockLaws.{GoesOn}
use Rattle.world_rules.specs.Spellings.{spellings}
use Rattle.world_rules.specs.Steps.{peers_by}
use Rattle.running_laws.specs.Books.{WasAsked}
use Rattle.running_laws.specs.Events.{Event}
use Rattle.running_laws.specs.Follows.{IsAskedStep}
use Rattle.running_laws.specs.Lives.{IsOwn}
use Rattle.running_laws.proofs.Owed.{AnswersTo}
use Rattle.running_laws.proofs.Spelled.{IsAsked}

-- AN INPUT IS A DEED of its server, and a step of a run has it
pub record IsDeed (es : List Event) (place : ServerId) (given : Input) : Type 0 where
  pub step : Step
  pub asks : IsAskedStep es step
  pub deed : Deed
  pub begins : input_of given ≡ Some (Does deed)
  pub goes : GoesOn deed
  pub to : (k : Stock) (s : Server Entry) → AnswersTo es (peers_by k given) s (Does deed)
  pub elementary : is_elementary step ≡ true
  pub same : (w : DiskScene) → own_refusal (measures_of spellings) w.scene.group step
      ≡ where_down w.scene.group place
  pub leads : (w : DiskScene) → disk_next spellings w step
      ≡ after_armed_turn w (place_of place) (Does deed)
  pub says : (w : DiskScene) → step_lines (measures_of spellings) w.scene step ≡ line.Event step
      ∷ turn_lines w (w.scene.armed (place_of place)) (place_of place) (Does deed)

pub own_deed : (es : List Event) (place : ServerId) (given : Input) → IsOwn given
    → IsDeed es place given
own_deed es place input.Tick own = record {
  step = step.Tick place;
  asks = tt;
  deed = Tick;
  begins = refl;
  goes = tt;
  to = λ k s. tt;
  elementary = refl;
  same = λ w. refl;
  leads = λ w. refl;
  says = λ w. refl;
}
own_deed es place input.Suspect own = record {
  step = step.Suspect place;
  asks = tt;
  deed = Suspect;
  begins = refl;
  goes = tt;
  to = λ k s. tt;
  elementary = refl;
  same = λ w. refl;
  leads = λ w. refl;
  says = λ w. refl;
}
own_deed es place (input.Message from message) own = absurd own
own_deed es place (input.Ask peer client number cred call) own = absurd own
own_deed es place (input.Apply most) own = record {
  step = step.Apply place most;
  asks = tt;
  deed = Apply most;
  begins = refl;
  goes = tt;
  to = λ k s. tt;
  elementary = refl;
  same = λ w. refl;
  leads = λ w. refl;
  says = λ w. refl;
}
own_deed es place input.Flush own = record {
  step = step.Flush place;
  asks = tt;
  deed = Flush;
  begins = refl;
  goes = tt;
  to = λ k s. tt;
  elementary = refl;
  same = λ w. refl;
  leads = λ w. refl;
  says = λ w. refl;
}
own_deed es place input.List own = absurd own

-- a call that was asked for, whoever asks it
pub asked_deed : (es : List Event) (place : ServerId) (from : Peer) (m : Message) (given : Input)
    → (a : IsAsked from m given) → WasAsked es a.client a.number a.cred a.call from
    → IsDeed es place given
asked_deed es place from m given a was = subst (IsDeed es place) (sym a.is) (record {
  step = step.Ask place a.client a.number a.cred a.call;
  asks = (from, was);
  deed = Ask a.client a.number a.cred a.call;
  begins = refl;
  goes = tt;
  to = λ k s. (from, refl, was);
  elementary = refl;
  same = λ w. refl;
  leads = λ w. refl;
  says = λ w. refl;
})
