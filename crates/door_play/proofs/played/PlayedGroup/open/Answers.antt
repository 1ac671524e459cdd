use Rattle.std.proofs.Common.{◌≡◌, [], ◌++◌, true, refl, sym, subst}
use Rattle.group_trace.specs.DiskCalls.{measures_of}
use Rattle.group_trace.specs.DiskRun.{first_disk_scene}
use Rattle.schedule_play.specs.Reading.{all_read}
use Rattle.schedule_play.specs.Stage.{AreReadings}
use Rattle.door_play.specs.Played.{reading_of_calls}
use Rattle.door_play.specs.Steps.{opening}
use Rattle.door_play.specs.OnTheWay.{AreReadable, StopGives}
use Rattle.door_play.proofs.Pumps.{asks-steps, readable-first, readable-last}
use Rattle.door_play.proofs.Tells.{DoorLaws, begins, given_up, opened}
use Rattle.door_play.proofs.played.PlayedGroup.open.Goals as goal

pub play_steps-requires : goal.play_steps-requires
play_steps-requires g c =
    let clocks = g.W.Stage.clocks c.self.inside.world in
    subst (AreReadable clocks) (sym c.in-Ok.ensures)
    (readable-first clocks
    (g.met.W.Stage.clocks_are c.self.inside.world first_disk_scene
    (subst (λ v. g.W.Stage.stands v.world first_disk_scene) (sym c.self.view_is) c.requires)))

pub returns-in-Ok-play_steps-clause-told : goal.returns-in-Ok-play_steps-clause-told
returns-in-Ok-play_steps-clause-told g c = λ cred bytes of_.
    let f = g.W.Stage.spellings in
    let laws : DoorLaws = record {
      answers = c.played_calls.ensures.answers;
      full = c.played_calls.ensures.refused;
      taken = c.played_calls.ensures.taken;
      more = c.one_call_more.ensures.further;
      fits = c.replies_fit.ensures.forms;
    } in
    let here = g.W.Stage.stands c.self.inside.world in
    let there = g.W.Stage.stands c.play_steps.new.world in
    let all = reading_of_calls (measures_of f) cred [] in
    opened laws f cred there (true ≡ true) ([] ++ c.play_steps.new.ear.heard.items)
    (c.in-Ok-play_steps.ensures.ends all (λ w. all_read) []
    (asks-steps f all c.in-Ok.steps.items opening (λ w. all_read) [] c.new-ear.result.heard.items here
    c.in-Ok.ensures c.new-ear.ensures (begins f cred here
    (subst (λ v. g.W.Stage.stands v.world first_disk_scene) (sym c.self.view_is) c.requires)))) bytes of_

pub returns-in-Ok-play_steps-clause-runs : goal.returns-in-Ok-play_steps-clause-runs
returns-in-Ok-play_steps-clause-runs g c =
    let clocks = g.W.Stage.clocks c.self.inside.world in (
      refl,
      subst AreReadings (sym c.in-Ok-play_steps.ensures.clocks)
          (readable-last clocks c.in-Ok.steps.items
          (subst (AreReadable clocks) (sym c.in-Ok.ensures) (readable-first clocks
          (g.met.W.Stage.clocks_are c.self.inside.world first_disk_scene
          (subst (λ v. g.W.Stage.stands v.world first_disk_scene) (sym c.self.view_is) c.requires))))),
    )

pub returns-in-Err-Refused-clause-refused : goal.returns-in-Err-Refused-clause-refused
returns-in-Err-Refused-clause-refused g c = λ failed cred bytes.
    let f = g.W.Stage.spellings in
    let laws : DoorLaws = record {
      answers = c.played_calls.ensures.answers;
      full = c.played_calls.ensures.refused;
      taken = c.played_calls.ensures.taken;
      more = c.one_call_more.ensures.further;
      fits = c.replies_fit.ensures.forms;
    } in
    let here = g.W.Stage.stands c.self.inside.world in
    let there = g.W.Stage.stands c.play_steps.new.world in
    let all = reading_of_calls (measures_of f) cred [] in
    given_up laws f cred [] there
    (subst (StopGives f all there) c.in-Err-Refused.field-0-is
    (c.in-Err-Refused.ensures.ends all (λ w. all_read) []
    (asks-steps f all c.in-Ok.steps.items opening (λ w. all_read) [] c.new-ear.result.heard.items here
    c.in-Ok.ensures c.new-ear.ensures (begins f cred here
    (subst (λ v. g.W.Stage.stands v.world first_disk_scene) (sym c.self.view_is) c.requires))))) bytes
