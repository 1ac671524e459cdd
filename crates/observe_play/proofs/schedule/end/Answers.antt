use Rattle.std.proofs.Common.{◌≡◌, ◌∙◌, ℕ, List, sym, ap, length, None, Option}
use Rattle.std.specs.Prelude.{Err}
use Rattle.trace_claims.specs.Trace.{Trace, entries}
use Rattle.group_trace.specs.DiskCalls.{Spellings, measures_of}
use Rattle.group_trace.specs.DiskRun.{DiskScene}
use Rattle.group_trace.specs.Scene.{Scene, first_scene}
use Rattle.trace_laws.proofs.RightRuns.{run_right}
use Rattle.trace_laws.proofs.RunLaws.{can_follow}
use Rattle.schedule_play.specs.Stage.{IsReached}
use Rattle.observe_laws.specs.Reading.{ObservedReading}
use Rattle.observe_laws.specs.Run.{played_steps}
use Rattle.observe_laws.specs.Scene.{ObservedScene, first_observed}
use Rattle.observe_laws.proofs.Traced.{lines_played, scene_played, taken_played}
use Rattle.observe_play.specs.OnTheWay.{HasObserved}
use Rattle.observe_play.specs.Watch.{WatchValue}
use Rattle.observe_play.proofs.Parts.{ends-whole, entered_by, last-stopped, refused-is}
use Rattle.observe_play.proofs.Runs.{disks_after, reached_there, scene_there}
use Rattle.observe_play.proofs.schedule.end.Goals as goal

-- the world tells how many calls were entered
told-entered : (f : Spellings) (told : ℕ) (stands : DiskScene → Type 0) (all : ObservedReading)
    (rest : ObservedScene → ObservedReading) (before mid : Option (List ℕ)) (x : WatchValue)
    → (h : HasObserved f all rest before mid stands x)
    → ((w : DiskScene) → IsReached f w → stands w → told ≡ length w.scene.group.book)
    → entered_by (measures_of f) h.done ≡ told
told-entered f told stands all rest before mid x h tells =
    let m = measures_of f in
    let follow = can_follow m first_scene (played_steps h.done)
    (taken_played m first_observed h.done h.taken) in
    ap (λ (t : Trace). length (entries t)) (lines_played m first_observed h.done)
    ∙ ap length (run_right m (played_steps h.done) follow).book
    ∙ sym (ap (λ (w : Scene). length w.group.book)
    (scene_there f h.done ∙ scene_played m first_observed h.done))
    ∙ sym (tells (disks_after f h.done) (reached_there f h.done h.taken) h.left)

pub returns-in-Ok-clause-ends : goal.returns-in-Ok-clause-ends
returns-in-Ok-clause-ends g c = λ all before x h.
    let f = g.W.Stage.spellings in
    let here = g.W.Stage.stands c.args.world.now in
    let mid = g.K.Sink.written c.args.sink.now in (
      refused-is f all before mid here x None h,
      ends-whole f all before mid (g.K.Sink.written c.write_last.new.sink) here x None
          c.entered.result h
          (told-entered f c.entered.result here all _ before mid x h c.entered.ensures)
          c.in-Ok.ensures.all,
    )

pub returns-in-Err-clause-ends : goal.returns-in-Err-clause-ends
returns-in-Err-clause-ends g c = λ all before x h.
    let f = g.W.Stage.spellings in
    let here = g.W.Stage.stands c.args.world.now in
    let mid = g.K.Sink.written c.args.sink.now in
    last-stopped f all before mid (g.K.Sink.written c.write_last.new.sink) here x None
    c.entered.result c.in-Err.stop h
    (told-entered f c.entered.result here all _ before mid x h c.entered.ensures)
    (λ e. c.in-Err.ensures.own (ap Err e)) c.in-Err.ensures.part
