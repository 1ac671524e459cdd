use Rattle.std.proofs.Common.{rules, ◌≡◌, ◌++◌, ◌%◌, ◌==◌, false, subst}
use Rattle.group_trace.specs.DiskCalls.{measures_of}
use Rattle.schedule_play.specs.Reading.{all_read}
use Rattle.door_play.specs.OnTheWay.{HasHeard, taken_then}
use Rattle.door_play.proofs.Pumps.{all-read, behind, call-asked, upkeep-not}
use Rattle.door_play.proofs.played.ask.Goals as goal

pub returns-in-Err-clause-ends : goal.returns-in-Err-clause-ends
returns-in-Err-clause-ends g c = λ all before h.
    c.in-Err.ensures.ends all (behind c.args.number) (λ w. all_read) before
    (call-asked g.W.Stage.spellings all c.args.cred c.args.number c.args.call.now
    c.in_ok-copy.field-0 c.cut-call.result (λ w. all_read) (before ++ c.args.ear.now.heard.items)
    (g.W.Stage.stands c.args.world.now) c.cut-call.ensures c.in_ok-copy.ensures h)

-- no upkeep stands behind it
pub returns-then-not-is_upkept-clause-ends : goal.returns-then-not-is_upkept-clause-ends
returns-then-not-is_upkept-clause-ends g c = λ all before h.
    let f = g.W.Stage.spellings in
    let there = g.W.Stage.stands c.play_call.new.world in
    let now = before ++ c.play_call.new.ear.heard.items in
    let none : (c.args.number % 64 == 0) ≡ false = search rules in
    let asked = c.in-Ok.ensures.ends all (behind c.args.number) (λ w. all_read) before
    (call-asked f all c.args.cred c.args.number c.args.call.now
    c.in_ok-copy.field-0 c.cut-call.result (λ w. all_read) (before ++ c.args.ear.now.heard.items)
    (g.W.Stage.stands c.args.world.now) c.cut-call.ensures c.in_ok-copy.ensures h) in
    all-read f all (λ w. all_read) now there
    (subst (λ ss. HasHeard f all (taken_then (measures_of f) ss (λ w. all_read)) now there)
    (upkeep-not c.args.number none) asked)
