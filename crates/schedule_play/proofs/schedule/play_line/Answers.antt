use Rattle.std.proofs.Common.{ap, Err, ◌+◌, ◌∷◌, ◌++◌, [], List, ℕ, sym, subst}
use Rattle.line_reader.specs.Reading.{text_left, GivesKnown}
use Rattle.line_reader.specs.Lines.{lines_of}
use Rattle.line_reader.specs.declared.reader.Next.TheVariants as next
use Rattle.group_trace.specs.DiskCalls.{measures_of}
use Rattle.schedule_play.specs.OnTheWay.{HasCome}
use Rattle.schedule_play.specs.Reading.{Reading, given_by, reading, reading_from, reading_of, with_given}
use Rattle.schedule_play.proofs.LineLeads.{grew, source-fails, stopped, turn-last, turn-line}
use Rattle.schedule_play.proofs.NextLines.{end-comes, line-comes, long-comes, read-out}
use Rattle.schedule_play.proofs.NextSteps.{gave-fault, next-line}
use Rattle.schedule_play.proofs.Parts.{refuses}
use Rattle.schedule_play.proofs.schedule.play_line.Goals as goal

pub returns-in-Ok-clause-ends : goal.returns-in-Ok-clause-ends
returns-in-Ok-clause-ends g c = λ text before h.
    let f = g.W.Stage.spellings in
    let here = g.W.Stage.stands c.args.world.now in
    let mid = g.K.Sink.written c.args.sink.now in
    let old = text_left c.args.reader.now (g.S.Source.left c.args.source.now) in
    let source = g.S.Source.left c.next.new.source in
    let gives = subst (λ n. GivesKnown old (text_left c.next.new.self source) n)
    c.in-Ok-End.field-0-is
    c.in-Ok-End.ensures.ok in
    let ends = c.in-Ok.ensures.ends (reading (measures_of f) text) before
    (end-comes f text c.args.number old (text_left c.next.new.self source) before mid here h gives)
    in (
      read-out f text c.args.number c.next.new.self old source before mid here h gives,
      ends.0,
      ends.1,
    )

pub returns-in-Err-clause-ends : goal.returns-in-Err-clause-ends
returns-in-Err-clause-ends g c = λ text before h.
    let f = g.W.Stage.spellings in
    let here = g.W.Stage.stands c.args.world.now in
    let old = text_left c.args.reader.now (g.S.Source.left c.args.source.now) in
    let source = g.S.Source.left c.next.new.source in
    let gives = subst (λ n. GivesKnown old (text_left c.next.new.self source) n)
    c.in-Ok-End.field-0-is
    c.in-Ok-End.ensures.ok in
    stopped f text source before (g.K.Sink.written c.end.new.sink) here c.in-Err.stop
    (c.in-Err.ensures.ends (reading (measures_of f) text) before
    (end-comes f text c.args.number old (text_left c.next.new.self source) before
    (g.K.Sink.written c.args.sink.now) here h gives))

pub returns-in-Ok-TooLong-clause-ends : goal.returns-in-Ok-TooLong-clause-ends
returns-in-Ok-TooLong-clause-ends g c = λ text before h.
    let f = g.W.Stage.spellings in
    let m = measures_of f in
    let here = g.W.Stage.stands c.args.world.now in
    let mid = g.K.Sink.written c.args.sink.now in
    let after = g.K.Sink.written c.refuse.new.sink in
    let source = g.S.Source.left c.next.new.source in
    let left = text_left c.next.new.self source in
    let old = text_left c.args.reader.now (g.S.Source.left c.args.source.now) in
    let come = long-comes f text c.args.number old left before mid here h
    (subst (λ n. GivesKnown old left n) c.in-Ok-TooLong.field-0-is c.in-Ok-TooLong.ensures.ok) in
    let rest = reading_from m (c.args.number + 1) come.lines in
    let refused = gave-fault f (reading m text) c.args.number _ c.fault_of_long_line.result rest
    before mid here
    (next-line f (reading m text) c.args.number come.line come.lines before mid here come.come)
    (c.fault_of_long_line.ensures come.line come.long) in
    turn-last f text c.args.number rest source left before after here c.refuse.result
    (refuses f (reading m text) rest before mid after here c.args.number
    c.fault_of_long_line.result c.refuse.result refused c.refuse.ensures.refused
    c.refuse.ensures.wrote c.refuse.ensures.part c.refuse.ensures.own)
    c.refuse.ensures.refused

pub returns-in-Ok-Line-clause-ends : goal.returns-in-Ok-Line-clause-ends
returns-in-Ok-Line-clause-ends g c = λ text before h.
    let f = g.W.Stage.spellings in
    let m = measures_of f in
    let here = g.W.Stage.stands c.args.world.now in
    let mid = g.K.Sink.written c.args.sink.now in
    let source = g.S.Source.left c.next.new.source in
    let left = text_left c.take_back.new.self source in
    let old = text_left c.args.reader.now (g.S.Source.left c.args.source.now) in
    let line = c.in-Ok-Line.line.items in
    let come = line-comes f text c.args.number old left before mid here c.in-Ok-Line.line h
    (subst (λ (r : List ℕ). GivesKnown old (text_left r source) (next.Line c.in-Ok-Line.line))
    (sym c.take_back.ensures)
    (subst (λ n. GivesKnown old (text_left c.next.new.self source) n) c.in-Ok-Line.field-0-is
    c.in-Ok-Line.ensures.ok)) in
    let given : (all : Reading) (lines : List (List ℕ))
    → HasCome f all (reading_from m c.args.number (line ∷ lines)) before mid here
    → HasCome f all (with_given m c.args.number (given_by c.args.number c.as_slice.result.now)
    (reading_from m (c.args.number + 1) lines)) before mid here
    = λ all lines comes. subst (λ l. HasCome f all
    (with_given m c.args.number (given_by c.args.number l)
    (reading_from m (c.args.number + 1) lines)) before mid here)
    (sym c.as_slice.ensures.value)
    (next-line f all c.args.number line lines before mid here comes) in
    let read = reading_of m (come.read ++ line ∷ []) in
    turn-line f text c.args.number line source left before mid
    (g.K.Sink.written c.take_line-turn.new.sink) here (g.W.Stage.stands c.take_line-turn.new.world) come
    c.take_line-turn.result
    (c.take_line-turn.ensures.ends (reading m text)
    (reading_from m (c.args.number + 1) (lines_of come.rest)) before
    (given (reading m text) (lines_of come.rest) come.whole))
    (c.take_line-turn.ensures.ends read (reading_from m (c.args.number + 1) []) before
    (given read [] come.alone))

pub returns-in-Err-Failed-clause-ends : goal.returns-in-Err-Failed-clause-ends
returns-in-Err-Failed-clause-ends g c = λ text before h.
    source-fails g.W.Stage.spellings text c.args.number c.next.new.self
    (text_left c.args.reader.now (g.S.Source.left c.args.source.now))
    (g.S.Source.left c.next.new.source) before (g.K.Sink.written c.args.sink.now)
    (g.W.Stage.stands c.args.world.now) h c.in-Err-Failed.ensures.err
    (c.in-Err-Failed.ensures.begun (ap Err c.in-Err-Failed.field-0-is))

pub returns-in-Err-NoMemory-clause-ends : goal.returns-in-Err-NoMemory-clause-ends
returns-in-Err-NoMemory-clause-ends g c = λ text before h.
    grew g.W.Stage.spellings text c.args.number _ before _ (g.W.Stage.stands c.args.world.now) h
