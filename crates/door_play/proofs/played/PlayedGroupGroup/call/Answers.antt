use Rattle.std.proofs.Common.{◌≡◌, refl, ◌+◌, ◌∷◌, [], ◌++◌, map, length, length-append, true, sym, subst, ◌∙◌, Some, None, arith}
use Rattle.harp_types.specs.declared.cred.Cred.{Cred}
use Rattle.group_trace.specs.DiskCalls.{measures_of}
use Rattle.rpc_door.specs.declared.group.Exchange.{Exchange}
use Rattle.schedule_play.specs.Reading.{all_read}
use Rattle.door_play.specs.Played.{HasGivenUp, calls_of, reading_of_calls}
use Rattle.door_play.specs.Replies.{numbered_from}
use Rattle.door_play.specs.Steps.{steps_of_call}
use Rattle.door_play.specs.OnTheWay.{HasHeard, StopGives, taken_then}
use Rattle.door_play.specs.Told.{HasTold, HasToldOf}
use Rattle.door_play.proofs.Pumps.{unheard}
use Rattle.door_play.proofs.Tells.{DoorLaws, asks, given_up, last_fits, last_of, last_reply, of_before, one_heard, tells-same, tells_more}
use Rattle.door_play.proofs.played.PlayedGroupGroup.call.Goals as goal

pub returns-in-Some-clause-told : goal.returns-in-Some-clause-told
returns-in-Some-clause-told g c = λ start before told bytes of_.
    let f = g.W.Stage.spellings in
    let m = measures_of f in
    let laws : DoorLaws = record {
      answers = c.played_calls.ensures.answers;
      full = c.played_calls.ensures.refused;
      taken = c.played_calls.ensures.taken;
      more = c.one_call_more.ensures.further;
      fits = c.replies_fit.ensures.forms;
    } in
    let x : Exchange =
    record { cred = c.args.cred; call = c.args.call.now; reply = c.in-Some.reply } in
    let next = c.self.inside.next in
    let opens = c.self.inside.is_open ≡ true in
    let here = g.W.Stage.stands c.self.inside.world in
    let there = g.W.Stage.stands c.ask.new.world in
    let is = sym c.self.view_is in
    let open_now : opens = subst (λ v. v.is_open ≡ true) is c.requires.0 in
    let t = subst
    (λ v. HasToldOf f v.next (v.is_open ≡ true) (g.W.Stage.stands v.world) start before) is
    (told bytes (of_before start before x of_)) in
    let all = reading_of_calls m start (calls_of before ++ c.args.call.now ∷ []) in
    let known = numbered_from 1 (map (λ (y : Exchange). y.reply) before) in
    let after = c.in-Ok.ensures.ends all known
    (unheard f all _ known c.emptied-ear.result.heard.items here c.emptied-ear.ensures
    (subst (λ (who : Cred). HasHeard f all
    (taken_then m (steps_of_call who next c.args.call.now) (λ w. all_read)) known here)
    (sym (last_of start before x of_))
    (asks laws f start before next c.args.call.now opens here open_now t))) in
    let r = last_reply start (calls_of before) c.args.call.now in
    let said = c.last_reply-last.ensures.one (1 + length before) r
    (one_heard laws f start before c.args.call.now there c.ask.new.ear.heard.items bytes
    t.answered after)
    (last_fits laws start (calls_of before) c.args.call.now) in
    let both : Some c.in-Some.reply ≡ Some r = sym c.in-Some.is ∙ said in
    let same : c.in-Some.reply ≡ r = cc in
    let few = of_.few in
    let counted = length-append before (x ∷ []) in
    let number = t.next_is in
    let raised = c.saturating_add-self-inside.ensures in
    let next_is : c.saturating_add-self-inside.result ≡ next + 1 =
    omega (arith, few, counted, number, raised) in
    subst (λ n. HasToldOf f n opens there start (before ++ x ∷ [])) (sym next_is)
    (tells_more laws f start before x next opens opens here there
    (known ++ c.ask.new.ear.heard.items) bytes t same after)

pub returns-in-None-clause-unanswered : goal.returns-in-None-clause-unanswered
returns-in-None-clause-unanswered g c = λ start before told bytes of_ who failed.
    let f = g.W.Stage.spellings in
    let m = measures_of f in
    let laws : DoorLaws = record {
      answers = c.played_calls.ensures.answers;
      full = c.played_calls.ensures.refused;
      taken = c.played_calls.ensures.taken;
      more = c.one_call_more.ensures.further;
      fits = c.replies_fit.ensures.forms;
    } in
    let next = c.self.inside.next in
    let opens = c.self.inside.is_open ≡ true in
    let here = g.W.Stage.stands c.self.inside.world in
    let there = g.W.Stage.stands c.ask.new.world in
    let is = sym c.self.view_is in
    let open_now : opens = subst (λ v. v.is_open ≡ true) is c.requires.0 in
    let t = subst
    (λ v. HasToldOf f v.next (v.is_open ≡ true) (g.W.Stage.stands v.world) start before) is
    (told bytes of_) in
    let all = reading_of_calls m start (calls_of before ++ c.args.call.now ∷ []) in
    let known = numbered_from 1 (map (λ (y : Exchange). y.reply) before) in
    let after = c.in-Ok.ensures.ends all known
    (unheard f all _ known c.emptied-ear.result.heard.items here c.emptied-ear.ensures
    (subst (λ (by : Cred). HasHeard f all
    (taken_then m (steps_of_call by next c.args.call.now) (λ w. all_read)) known here)
    (sym who)
    (asks laws f start before next c.args.call.now opens here open_now t))) in
    let r = last_reply start (calls_of before) c.args.call.now in
    let said = c.last_reply-last.ensures.one (1 + length before) r
    (one_heard laws f start before c.args.call.now there c.ask.new.ear.heard.items bytes
    t.answered after)
    (last_fits laws start (calls_of before) c.args.call.now) in
    let no : None ≡ Some r = sym c.in-None.is ∙ said in
    absurd cc

pub returns-in-Err-Refused-clause-unanswered : goal.returns-in-Err-Refused-clause-unanswered
returns-in-Err-Refused-clause-unanswered g c = λ start before told bytes of_ who failed.
    let f = g.W.Stage.spellings in
    let m = measures_of f in
    let laws : DoorLaws = record {
      answers = c.played_calls.ensures.answers;
      full = c.played_calls.ensures.refused;
      taken = c.played_calls.ensures.taken;
      more = c.one_call_more.ensures.further;
      fits = c.replies_fit.ensures.forms;
    } in
    let next = c.self.inside.next in
    let opens = c.self.inside.is_open ≡ true in
    let here = g.W.Stage.stands c.self.inside.world in
    let there = g.W.Stage.stands c.ask.new.world in
    let is = sym c.self.view_is in
    let open_now : opens = subst (λ v. v.is_open ≡ true) is c.requires.0 in
    let t = subst
    (λ v. HasToldOf f v.next (v.is_open ≡ true) (g.W.Stage.stands v.world) start before) is
    (told bytes of_) in
    let calls = calls_of before ++ c.args.call.now ∷ [] in
    let all = reading_of_calls m start calls in
    let known = numbered_from 1 (map (λ (y : Exchange). y.reply) before) in
    let gives = c.in-Err-Refused.ensures.ends all known
    (unheard f all _ known c.emptied-ear.result.heard.items here c.emptied-ear.ensures
    (subst (λ (by : Cred). HasHeard f all
    (taken_then m (steps_of_call by next c.args.call.now) (λ w. all_read)) known here)
    (sym who)
    (asks laws f start before next c.args.call.now opens here open_now t))) in
    subst (λ v. HasGivenUp f start calls (g.W.Stage.stands v.world))
    (sym c.fail.ensures.stops)
    (given_up laws f start calls there
    (subst (StopGives f all there) c.in-Err-Refused.field-0-is gives) bytes)

pub returns-in-None-clause-told : goal.returns-in-None-clause-told
returns-in-None-clause-told g c = λ start before told.
    let f = g.W.Stage.spellings in
    let was = c.args.self.now in
    let there = g.W.Stage.stands c.ask.new.world in
    let next = subst (λ v. v.next ≡ was.next) (sym c.self.view_is) refl in
    subst
    (λ v. HasTold f v.next (v.is_open ≡ true) (g.W.Stage.stands v.world) start (before ++ []))
    (sym c.fail-in-None.ensures.stops)
    (tells-same f was.next c.self.inside.next (was.is_open ≡ true)
    (g.W.Stage.stands was.world) there start before next told)

pub returns-in-Err-Refused-clause-told : goal.returns-in-Err-Refused-clause-told
returns-in-Err-Refused-clause-told g c = λ start before told.
    let f = g.W.Stage.spellings in
    let was = c.args.self.now in
    let there = g.W.Stage.stands c.ask.new.world in
    let next = subst (λ v. v.next ≡ was.next) (sym c.self.view_is) refl in
    subst
    (λ v. HasTold f v.next (v.is_open ≡ true) (g.W.Stage.stands v.world) start (before ++ []))
    (sym c.fail.ensures.stops)
    (tells-same f was.next c.self.inside.next (was.is_open ≡ true)
    (g.W.Stage.stands was.world) there start before next told)

pub returns-in-Err-NoMemory-clause-told : goal.returns-in-Err-NoMemory-clause-told
returns-in-Err-NoMemory-clause-told g c = λ start before told.
    let f = g.W.Stage.spellings in
    let was = c.args.self.now in
    let there = g.W.Stage.stands c.ask.new.world in
    let next = subst (λ v. v.next ≡ was.next) (sym c.self.view_is) refl in
    tells-same f was.next c.self.inside.next (was.is_open ≡ true)
    (g.W.Stage.stands was.world) there start before next told
