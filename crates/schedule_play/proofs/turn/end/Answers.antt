use Rattle.std.proofs.Common.{◌≡◌, ◌∙◌, ℕ, List, sym, ap, length, None, Option}
use Rattle.std.specs.Prelude.{Err}
use Rattle.trace_claims.specs.Trace.{entries}
use Rattle.group_trace.specs.DiskCalls.{Spellings, measures_of}
use Rattle.group_trace.specs.DiskRun.{DiskScene, disk_run, first_disk_scene}
use Rattle.group_trace.specs.Run.{run_lines}
use Rattle.group_trace.specs.Scene.{Scene, first_scene}
use Rattle.trace_laws.proofs.RightRuns.{run_right}
use Rattle.trace_laws.proofs.RunLaws.{can_follow}
use Rattle.schedule_play.specs.OnTheWay.{HasCome}
use Rattle.schedule_play.specs.Reading.{Reading}
use Rattle.schedule_play.specs.Stage.{IsReached}
use Rattle.schedule_play.proofs.Parts.{ends-whole, last-stopped, refused-is}
use Rattle.schedule_play.proofs.Runs.{disk_scene, reached}
use Rattle.schedule_play.proofs.turn.end.Goals as goal

-- the world tells how many lines were entered
told-entered : (f : Spellings) (told : ℕ) (stands : DiskScene → Type 0) (all : Reading)
    (rest : Scene → Reading) (before mid : Option (List ℕ))
    → (h : HasCome f all rest before mid stands)
    → ((w : DiskScene) → IsReached f w → stands w → told ≡ length w.scene.group.book)
    → length (entries (run_lines (measures_of f) first_scene h.done)) ≡ told
told-entered f told stands all rest before mid h tells =
    let follow = can_follow (measures_of f) first_scene h.done h.taken in
    ap length (run_right (measures_of f) h.done follow).book
    ∙ sym (ap (λ (w : Scene). length w.group.book) (disk_scene f h.done))
    ∙ sym (tells (disk_run f first_disk_scene h.done) (reached f h.done h.taken) h.left)

pub returns-in-Ok-clause-ends : goal.returns-in-Ok-clause-ends
returns-in-Ok-clause-ends g c = λ all before h.
    let f = g.W.Stage.spellings in
    let here = g.W.Stage.stands c.args.world.now in
    let mid = g.K.Sink.written c.args.sink.now in (
      refused-is f all before mid here None h,
      ends-whole f all before mid (g.K.Sink.written c.write_last.new.sink) here None
          c.entered.result h
          (told-entered f c.entered.result here all _ before mid h c.entered.ensures)
          c.in-Ok.ensures.all,
    )

pub returns-in-Err-clause-ends : goal.returns-in-Err-clause-ends
returns-in-Err-clause-ends g c = λ all before h.
    let f = g.W.Stage.spellings in
    let here = g.W.Stage.stands c.args.world.now in
    let mid = g.K.Sink.written c.args.sink.now in
    last-stopped f all before mid (g.K.Sink.written c.write_last.new.sink) here None
    c.entered.result c.in-Err.stop h
    (told-entered f c.entered.result here all _ before mid h c.entered.ensures)
    (λ e. c.in-Err.ensures.own (ap Err e)) c.in-Err.ensures.part
