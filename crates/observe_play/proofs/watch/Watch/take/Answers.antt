use Rattle.std.proofs.Common.{Option, Result, sym, ap, subst, ◌∙◌}
use Rattle.std.specs.Prelude.{IfOk}
use Rattle.observe_play.specs.Watch.{Does, WatchValue}
use Rattle.observe_play.proofs.WatchActs.{take_does}
use Rattle.observe_laws.specs.Run.{top_lines}
use Rattle.observed_text.specs.declared.line.ObservedLine.{ObservedLine}
use Rattle.observed_text.specs.declared.step.Act.TheVariants as act
use Rattle.observer.specs.Progress.{taken}
use Rattle.observer.specs.Sound.{IsSoundObserver}
use Rattle.record_changes.specs.Records.{history_of}
use Rattle.schedule_play.specs.declared.refusal.Refusal.{Refusal}
use Rattle.observe_play.proofs.watch.Watch.take.Goals as goal
use Rattle.observe_play.proofs.watch.Watch.take.Goals.{in-Ok-take, in-Err-take}

pub returns-clause-done : goal.returns-clause-done
returns-clause-done c =
    let x = c.args.self.now in
    let shown = c.in-Ok.shown in
    let y : WatchValue = record {
      observer = c.take.new.self;
      shown = c.self.inside.shown.items;
    } in
    elim c.match-take.branch [
      | in-Ok-take w ↦
          subst (λ (r : Result (Option ObservedLine) Refusal).
          IfOk r (Does x y (act.Take c.args.packet))) (sym w.result-is)
          (take_does x y c.args.packet shown w.newer.result c.in-Ok.ensures.found
          (ap (λ (v : WatchValue). v.shown) c.self.view_is)
          (w.in-Ok-take.ensures.progress
          ∙ ap (λ (v : WatchValue). taken v.observer.progress shown) c.self.view_is)
          (λ entries updates told sound. w.in-Ok-take.ensures.sound entries updates told
          (subst (λ (v : WatchValue). IsSoundObserver (history_of entries) v.observer)
          (sym c.self.view_is) sound))
          (w.newer.ensures
          ∙ (λ i. top_lines ((c.top-before.ensures
          ∙ ap (λ (v : WatchValue). v.observer.progress.finished) c.self.view_is) i)
          (w.top.ensures i))))
      | in-Err-take w ↦
          subst (λ (r : Result (Option ObservedLine) Refusal).
          IfOk r (Does x y (act.Take c.args.packet))) (sym w.result-is) tt
    ]
