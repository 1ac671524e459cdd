use Rattle.std.proofs.Common.{rules, ◌∷◌, [], ◌++◌, append-nil, append_assoc, sym, ap, subst, ◌∙◌}
use Rattle.std.proofs.lemmas.Iterator.Adapters.{YieldsList-from_vec}
use Rattle.std.proofs.lemmas.Iterator.Consumers.{YieldsList-end}
use Rattle.std.proofs.lemmas.List.{append_cancel_left, map-id}
use Rattle.group_trace.specs.DiskCalls.{measures_of}
use Rattle.door_play.specs.OnTheWay.{AreReadable, HasHeard, clocks_behind, taken_then}
use Rattle.door_play.proofs.Pumps.{all-read, first-read, readable-next}
use Rattle.door_play.proofs.stepping.play_steps.Goals as goal

pub play_step-requires-clause-readings : goal.play_step-requires-clause-readings
play_step-requires-clause-readings g c =
    readable-next (g.W.Stage.clocks c.loop-step.world) c.in-Some.step c.next.new.self.rest.items
    (subst (AreReadable (g.W.Stage.clocks c.loop-step.world)) c.in-Some.ensures.steps.0
    c.loop-step.invariant.readable)

pub loop-step-preserved : goal.loop-step-preserved
loop-step-preserved g c =
    let f = g.W.Stage.spellings in
    let m = measures_of f in
    let left = c.next.new.self.rest.items in
    let clocks = g.W.Stage.clocks c.loop-step.world in
    let are = c.in-Some.ensures.steps.0 in
    let told = c.in-Ok.ensures.clocks in
    record {
      heard = λ all rest before h. c.in-Ok.ensures.ends all (taken_then m left rest) before
          (first-read f all c.in-Some.step left rest (before ++ c.loop-step.ear.heard.items)
          (g.W.Stage.stands c.loop-step.world)
          (subst (λ ss. HasHeard f all (taken_then m ss rest) (before ++ c.loop-step.ear.heard.items)
          (g.W.Stage.stands c.loop-step.world)) are
          (c.loop-step.invariant.heard all rest before h)));
      readable = subst (λ t. AreReadable t left) (sym told)
          (subst (AreReadable clocks) are c.loop-step.invariant.readable).1;
      clocks = ap (λ t. clocks_behind t left) told
          ∙ sym (ap (clocks_behind clocks) are) ∙ c.loop-step.invariant.clocks;
      left = c.loop-step.invariant.left ∙ ap (λ ss. c.loop-step.yielded ++ ss) are
          ∙ sym (append_assoc c.loop-step.yielded (c.in-Some.step ∷ []) left);
    }

pub returns-in-Err-clause-ends : goal.returns-in-Err-clause-ends
returns-in-Err-clause-ends g c = λ all rest before h.
    let f = g.W.Stage.spellings in
    let m = measures_of f in
    let left = c.next.new.self.rest.items in
    c.in-Err.ensures.ends all (taken_then m left rest) before
    (first-read f all c.in-Some.step left rest (before ++ c.loop-step.ear.heard.items)
    (g.W.Stage.stands c.loop-step.world)
    (subst (λ ss. HasHeard f all (taken_then m ss rest) (before ++ c.loop-step.ear.heard.items)
    (g.W.Stage.stands c.loop-step.world)) c.in-Some.ensures.steps.0
    (c.loop-step.invariant.heard all rest before h)))

pub returns-clause-ends : goal.returns-clause-ends
returns-clause-ends g c = λ all rest before h.
    let f = g.W.Stage.spellings in
    let m = measures_of f in
    let all_ = YieldsList-end (YieldsList-from_vec {s = c.into_iter-step-iterator.result}
    c.args.steps.items (search rules) (search rules))
    c.loop-step.yielded c.loop-step.step-iterator c.loop-step.yielded_by c.next.result
    c.next.new.self c.in-None.is c.next.ensures.steps in
    let left = c.loop-step.step-iterator.rest.items in
    let none = append_cancel_left c.loop-step.yielded left []
    (sym c.loop-step.invariant.left ∙ sym (sym (map-id c.loop-step.yielded) ∙ all_.0)
    ∙ sym (append-nil c.loop-step.yielded)) in
    all-read f all rest (before ++ c.loop-step.ear.heard.items) (g.W.Stage.stands c.loop-step.world)
    (subst (λ ss. HasHeard f all (taken_then m ss rest) (before ++ c.loop-step.ear.heard.items)
    (g.W.Stage.stands c.loop-step.world)) none (c.loop-step.invariant.heard all rest before h))
