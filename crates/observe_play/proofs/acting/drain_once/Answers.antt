use Rattle.std.proofs.Common.{sym, subst, ◌∙◌}
use Rattle.group_trace.specs.DiskCalls.{measures_of}
use Rattle.observe_play.specs.OnTheWay.{ObservedTurn, with_drain}
use Rattle.observe_play.proofs.Drains.{after_want, drain-first, drain-next, drain-over}
use Rattle.observe_play.proofs.acting.drain_once.Goals as goal

pub returns-in-Ok-Ended-clause-ends : goal.returns-in-Ok-Ended-clause-ends
returns-in-Ok-Ended-clause-ends g c = λ most all rest before h.
    let f = g.W.Stage.spellings in
    let packet = c.count-packet.result in
    let later = after_want (measures_of f) c.args.number most c.args.server packet rest in
    let first = drain-first f all c.args.number most c.args.server packet rest before
    (g.K.Sink.written c.args.sink.now) (g.W.Stage.stands c.args.world.now) c.args.watch.now
    c.count-packet.ensures h in
    subst (ObservedTurn f all later before (g.K.Sink.written c.act_once.new.sink)
    (g.W.Stage.stands c.act_once.new.world) c.act_once.new.watch)
    c.in-Ok-Ended.field-0-is (c.in-Ok-Ended.ensures.ends all later before first)

pub returns-in-Ok-Refused-clause-ends : goal.returns-in-Ok-Refused-clause-ends
returns-in-Ok-Refused-clause-ends g c = λ most all rest before h.
    let f = g.W.Stage.spellings in
    let packet = c.count-packet.result in
    let later = after_want (measures_of f) c.args.number most c.args.server packet rest in
    let first = drain-first f all c.args.number most c.args.server packet rest before
    (g.K.Sink.written c.args.sink.now) (g.W.Stage.stands c.args.world.now) c.args.watch.now
    c.count-packet.ensures h in
    subst (ObservedTurn f all later before (g.K.Sink.written c.act_once.new.sink)
    (g.W.Stage.stands c.act_once.new.world) c.act_once.new.watch)
    c.in-Ok-Refused.field-0-is (c.in-Ok-Refused.ensures.ends all later before first)

pub returns-in-Err-clause-ends : goal.returns-in-Err-clause-ends
returns-in-Err-clause-ends g c = λ most all rest before h.
    let f = g.W.Stage.spellings in
    let packet = c.count-packet.result in
    let later = after_want (measures_of f) c.args.number most c.args.server packet rest in
    let first = drain-first f all c.args.number most c.args.server packet rest before
    (g.K.Sink.written c.args.sink.now) (g.W.Stage.stands c.args.world.now) c.args.watch.now
    c.count-packet.ensures h in
    c.in-Err.ensures.ends all later before first

pub returns-then-count-packet-clause-ends : goal.returns-then-count-packet-clause-ends
returns-then-count-packet-clause-ends g c = λ most all rest before h.
    let f = g.W.Stage.spellings in
    let packet = c.count-packet.result in
    let later = after_want (measures_of f) c.args.number most c.args.server packet rest in
    let first = drain-first f all c.args.number most c.args.server packet rest before
    (g.K.Sink.written c.args.sink.now) (g.W.Stage.stands c.args.world.now) c.args.watch.now
    c.count-packet.ensures h in
    drain-over f all c.args.number most c.args.server packet rest before
    (g.K.Sink.written c.act_once.new.sink) (g.W.Stage.stands c.act_once.new.world)
    c.act_once.new.watch (sym c.count.ensures ∙ c.if-count-packet.true)
    (subst (ObservedTurn f all later before (g.K.Sink.written c.act_once.new.sink)
    (g.W.Stage.stands c.act_once.new.world) c.act_once.new.watch)
    c.in-Ok-GoesOn.field-0-is (c.in-Ok-GoesOn.ensures.ends all later before first))

pub returns-in-Ok-GoesOn-act_once-clause-ends : goal.returns-in-Ok-GoesOn-act_once-clause-ends
returns-in-Ok-GoesOn-act_once-clause-ends g c = λ most all rest before h.
    let f = g.W.Stage.spellings in
    let packet = c.count-packet.result in
    let later = after_want (measures_of f) c.args.number most c.args.server packet rest in
    let first = drain-first f all c.args.number most c.args.server packet rest before
    (g.K.Sink.written c.args.sink.now) (g.W.Stage.stands c.args.world.now) c.args.watch.now
    c.count-packet.ensures h in
    let more = with_drain (measures_of f) c.args.number most c.args.server rest in
    let next = drain-next f all c.args.number most c.args.server packet rest before
    (g.K.Sink.written c.act_once.new.sink) (g.W.Stage.stands c.act_once.new.world)
    c.act_once.new.watch (λ same. c.if-count-packet.false (c.count.ensures ∙ same))
    (subst (ObservedTurn f all later before (g.K.Sink.written c.act_once.new.sink)
    (g.W.Stage.stands c.act_once.new.world) c.act_once.new.watch)
    c.in-Ok-GoesOn.field-0-is (c.in-Ok-GoesOn.ensures.ends all later before first)) in
    subst (ObservedTurn f all more before (g.K.Sink.written c.act_once-2.new.sink)
    (g.W.Stage.stands c.act_once-2.new.world) c.act_once-2.new.watch)
    c.in-Ok-GoesOn-act_once.field-0-is (c.in-Ok-GoesOn-act_once.ensures.ends all more before next)

pub returns-in-Ok-Ended-act_once-clause-ends : goal.returns-in-Ok-Ended-act_once-clause-ends
returns-in-Ok-Ended-act_once-clause-ends g c = λ most all rest before h.
    let f = g.W.Stage.spellings in
    let packet = c.count-packet.result in
    let later = after_want (measures_of f) c.args.number most c.args.server packet rest in
    let first = drain-first f all c.args.number most c.args.server packet rest before
    (g.K.Sink.written c.args.sink.now) (g.W.Stage.stands c.args.world.now) c.args.watch.now
    c.count-packet.ensures h in
    let more = with_drain (measures_of f) c.args.number most c.args.server rest in
    let next = drain-next f all c.args.number most c.args.server packet rest before
    (g.K.Sink.written c.act_once.new.sink) (g.W.Stage.stands c.act_once.new.world)
    c.act_once.new.watch (λ same. c.if-count-packet.false (c.count.ensures ∙ same))
    (subst (ObservedTurn f all later before (g.K.Sink.written c.act_once.new.sink)
    (g.W.Stage.stands c.act_once.new.world) c.act_once.new.watch)
    c.in-Ok-GoesOn.field-0-is (c.in-Ok-GoesOn.ensures.ends all later before first)) in
    subst (ObservedTurn f all more before (g.K.Sink.written c.act_once-2.new.sink)
    (g.W.Stage.stands c.act_once-2.new.world) c.act_once-2.new.watch)
    c.in-Ok-Ended-act_once.field-0-is (c.in-Ok-Ended-act_once.ensures.ends all more before next)

pub returns-in-Ok-Refused-act_once-clause-ends : goal.returns-in-Ok-Refused-act_once-clause-ends
returns-in-Ok-Refused-act_once-clause-ends g c = λ most all rest before h.
    let f = g.W.Stage.spellings in
    let packet = c.count-packet.result in
    let later = after_want (measures_of f) c.args.number most c.args.server packet rest in
    let first = drain-first f all c.args.number most c.args.server packet rest before
    (g.K.Sink.written c.args.sink.now) (g.W.Stage.stands c.args.world.now) c.args.watch.now
    c.count-packet.ensures h in
    let more = with_drain (measures_of f) c.args.number most c.args.server rest in
    let next = drain-next f all c.args.number most c.args.server packet rest before
    (g.K.Sink.written c.act_once.new.sink) (g.W.Stage.stands c.act_once.new.world)
    c.act_once.new.watch (λ same. c.if-count-packet.false (c.count.ensures ∙ same))
    (subst (ObservedTurn f all later before (g.K.Sink.written c.act_once.new.sink)
    (g.W.Stage.stands c.act_once.new.world) c.act_once.new.watch)
    c.in-Ok-GoesOn.field-0-is (c.in-Ok-GoesOn.ensures.ends all later before first)) in
    subst (ObservedTurn f all more before (g.K.Sink.written c.act_once-2.new.sink)
    (g.W.Stage.stands c.act_once-2.new.world) c.act_once-2.new.watch)
    c.in-Ok-Refused-act_once.field-0-is (c.in-Ok-Refused-act_once.ensures.ends all more before next)

pub returns-in-Err-act_once-clause-ends : goal.returns-in-Err-act_once-clause-ends
returns-in-Err-act_once-clause-ends g c = λ most all rest before h.
    let f = g.W.Stage.spellings in
    let packet = c.count-packet.result in
    let later = after_want (measures_of f) c.args.number most c.args.server packet rest in
    let first = drain-first f all c.args.number most c.args.server packet rest before
    (g.K.Sink.written c.args.sink.now) (g.W.Stage.stands c.args.world.now) c.args.watch.now
    c.count-packet.ensures h in
    let more = with_drain (measures_of f) c.args.number most c.args.server rest in
    let next = drain-next f all c.args.number most c.args.server packet rest before
    (g.K.Sink.written c.act_once.new.sink) (g.W.Stage.stands c.act_once.new.world)
    c.act_once.new.watch (λ same. c.if-count-packet.false (c.count.ensures ∙ same))
    (subst (ObservedTurn f all later before (g.K.Sink.written c.act_once.new.sink)
    (g.W.Stage.stands c.act_once.new.world) c.act_once.new.watch)
    c.in-Ok-GoesOn.field-0-is (c.in-Ok-GoesOn.ensures.ends all later before first)) in
    c.in-Err-act_once.ensures.ends all more before next
