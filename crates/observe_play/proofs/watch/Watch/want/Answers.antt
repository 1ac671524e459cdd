use Rattle.std.proofs.Common.{length, Option, Some, sym, ap, subst, ◌∙◌}
use Rattle.observe_play.specs.OnTheWay.{Makes}
use Rattle.observe_play.specs.Watch.{WatchValue}
use Rattle.observe_play.proofs.WatchWants.{kept_makes, shown_makes, want_line, with_packet}
use Rattle.observed_text.specs.declared.step.Act.TheVariants as act
use Rattle.observer.specs.Progress.{want_of}
use Rattle.shown.specs.declared.shown.Shown.{Shown}
use Rattle.observe_play.proofs.watch.Watch.want.Goals as goal

pub returns-in-Ok-Some-clause-made : goal.returns-in-Ok-Some-clause-made
returns-in-Ok-Some-clause-made g c =
    let f = g.W.Stage.spellings in
    let old = g.W.Stage.stands c.args.world.now in
    let new = g.W.Stage.stands c.show.new.self in
    let x = c.args.self.now in
    let makes = shown_makes f old new x c.args.server c.in-Some.want c.in-Ok-Some.field-0
    c.if-not-is_up.ensures
    (ap (λ (v : WatchValue). want_of v.observer.progress) (sym c.self.view_is)
    ∙ sym c.in-Some.ensures)
    c.in-Ok-Some.ensures.rule c.in-Ok-Some.ensures.truly c.in-Ok-Some.ensures.stands in
    kept_makes f old new x c.keep.new.self c.args.server c.in-Ok-Some.shown c.keep.result
    c.keep.ensures.line c.keep.ensures.kept
    (subst (λ (s : Option Shown). Makes f old new x (with_packet x s) (act.Want c.args.server)
    (Some (want_line (length x.shown) c.args.server s))) c.in-Ok-Some.field-0-is makes)

pub returns-in-Ok-None-clause-made : goal.returns-in-Ok-None-clause-made
returns-in-Ok-None-clause-made g c =
    let f = g.W.Stage.spellings in
    let old = g.W.Stage.stands c.args.world.now in
    let new = g.W.Stage.stands c.show.new.self in
    let x = c.args.self.now in
    subst (λ (s : Option Shown). Makes f old new x (with_packet x s) (act.Want c.args.server)
    (Some (want_line (length x.shown) c.args.server s))) c.in-Ok-None.field-0-is
    (shown_makes f old new x c.args.server c.in-Some.want c.in-Ok-None.field-0
    c.if-not-is_up.ensures
    (ap (λ (v : WatchValue). want_of v.observer.progress) (sym c.self.view_is)
    ∙ sym c.in-Some.ensures)
    c.in-Ok-None.ensures.rule c.in-Ok-None.ensures.truly c.in-Ok-None.ensures.stands)
