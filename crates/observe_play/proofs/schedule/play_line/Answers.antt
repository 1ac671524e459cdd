use Rattle.std.proofs.Common.{ap, Err, ◌+◌, ◌∷◌, ◌++◌, [], List, ℕ, sym, subst}
use Rattle.line_reader.specs.Reading.{text_left, GivesKnown}
use Rattle.line_reader.specs.Lines.{lines_of}
use Rattle.line_reader.specs.declared.reader.Next.TheVariants as next
use Rattle.group_trace.specs.DiskCalls.{measures_of}
use Rattle.observe_laws.specs.Reading.{ObservedReading, observed_by, observed_from, observed_reading, observed_reading_of, with_observed_given}
use Rattle.observe_play.specs.OnTheWay.{HasObserved}
use Rattle.observe_play.proofs.LineLeads.{grew, source-fails, turn-ended, turn-last, turn-line}
use Rattle.observe_play.proofs.NextLines.{end-comes, gave-fault, line-comes, long-alike, long-comes, next-line, read-out}
use Rattle.observe_play.proofs.Parts.{refuses}
use Rattle.observe_play.proofs.schedule.play_line.Goals as goal

pub returns-in-Ok-End-clause-ends : goal.returns-in-Ok-End-clause-ends
returns-in-Ok-End-clause-ends g c = λ text before h.
    let f = g.W.Stage.spellings in
    let here = g.W.Stage.stands c.args.world.now in
    let mid = g.K.Sink.written c.args.sink.now in
    let after = g.K.Sink.written c.end.new.sink in
    let watch = c.args.kept.now.watch in
    let old = text_left c.args.kept.now.reader (g.S.Source.left c.args.source.now) in
    let source = g.S.Source.left c.next.new.source in
    let left = text_left c.next.new.self source in
    let gives = subst (λ n. GivesKnown old left n) c.in-Ok-End.field-0-is c.in-Ok-End.ensures.ok in
    turn-ended f text c.args.number source left before after here watch c.end.result
    (read-out f text c.args.number c.next.new.self old source before mid here watch h gives)
    (c.end.ensures.ends (observed_reading (measures_of f) text) before watch
    (end-comes f text c.args.number old left before mid here watch h gives))
    c.end.ensures.ended

pub returns-in-Ok-TooLong-clause-ends : goal.returns-in-Ok-TooLong-clause-ends
returns-in-Ok-TooLong-clause-ends g c = λ text before h.
    let f = g.W.Stage.spellings in
    let all = observed_reading (measures_of f) text in
    let number = c.args.number in
    let here = g.W.Stage.stands c.args.world.now in
    let mid = g.K.Sink.written c.args.sink.now in
    let after = g.K.Sink.written c.refuse.new.sink in
    let watch = c.args.kept.now.watch in
    let source = g.S.Source.left c.next.new.source in
    let left = text_left c.next.new.self source in
    let old = text_left c.args.kept.now.reader (g.S.Source.left c.args.source.now) in
    let why = c.fault_of_long_line.result in
    let come = long-comes f text number old left before mid here watch h
    (subst (λ n. GivesKnown old left n) c.in-Ok-TooLong.field-0-is c.in-Ok-TooLong.ensures.ok) in
    let rest = observed_from (measures_of f) (number + 1) come.lines in
    let refused = gave-fault f all number _ why rest before mid here watch
    (next-line f all number come.line come.lines before mid here watch come.come)
    (long-alike number come.line why come.long
    (c.fault_of_long_line.ensures come.line come.long)) in
    turn-last f text number rest source left before after here watch c.refuse.result
    (refuses f all rest before mid after here watch watch number why c.refuse.result refused
    c.refuse.ensures.refused c.refuse.ensures.wrote c.refuse.ensures.part c.refuse.ensures.own)
    c.refuse.ensures.refused

pub returns-in-Ok-Line-clause-ends : goal.returns-in-Ok-Line-clause-ends
returns-in-Ok-Line-clause-ends g c = λ text before h.
    let f = g.W.Stage.spellings in
    let m = measures_of f in
    let number = c.args.number in
    let here = g.W.Stage.stands c.args.world.now in
    let mid = g.K.Sink.written c.args.sink.now in
    let watch = c.args.kept.now.watch in
    let source = g.S.Source.left c.next.new.source in
    let left = text_left c.take_back.new.self source in
    let old = text_left c.args.kept.now.reader (g.S.Source.left c.args.source.now) in
    let line = c.in-Ok-Line.line.items in
    let come = line-comes f text number old left before mid here watch c.in-Ok-Line.line h
    (subst (λ (r : List ℕ). GivesKnown old (text_left r source) (next.Line c.in-Ok-Line.line))
    (sym c.take_back.ensures)
    (subst (λ n. GivesKnown old (text_left c.next.new.self source) n) c.in-Ok-Line.field-0-is
    c.in-Ok-Line.ensures.ok)) in
    let given : (all : ObservedReading) (lines : List (List ℕ))
    → HasObserved f all (observed_from m number (line ∷ lines)) before mid here watch
    → HasObserved f all
    (with_observed_given m number (observed_by number c.as_slice.result.now)
    (observed_from m (number + 1) lines)) before mid here watch
    = λ all lines comes. subst (λ l. HasObserved f all
    (with_observed_given m number (observed_by number l) (observed_from m (number + 1) lines))
    before mid here watch)
    (sym c.as_slice.ensures.value)
    (next-line f all number line lines before mid here watch comes) in
    let read = observed_reading_of m (come.read ++ line ∷ []) in
    turn-line f text number line source left before mid
    (g.K.Sink.written c.take_line-turn.new.sink) here
    (g.W.Stage.stands c.take_line-turn.new.world) watch c.take_line-turn.new.watch come
    c.take_line-turn.result
    (c.take_line-turn.ensures.ends (observed_reading m text)
    (observed_from m (number + 1) (lines_of come.rest)) before
    (given (observed_reading m text) (lines_of come.rest) come.whole))
    (c.take_line-turn.ensures.ends read (observed_from m (number + 1) []) before
    (given read [] come.alone))

pub returns-in-Err-Failed-clause-ends : goal.returns-in-Err-Failed-clause-ends
returns-in-Err-Failed-clause-ends g c = λ text before h.
    source-fails g.W.Stage.spellings text c.args.number c.next.new.self
    (text_left c.args.kept.now.reader (g.S.Source.left c.args.source.now))
    (g.S.Source.left c.next.new.source) before (g.K.Sink.written c.args.sink.now)
    (g.W.Stage.stands c.args.world.now) c.args.kept.now.watch h c.in-Err-Failed.ensures.err
    (c.in-Err-Failed.ensures.begun (ap Err c.in-Err-Failed.field-0-is))

pub returns-in-Err-NoMemory-clause-ends : goal.returns-in-Err-NoMemory-clause-ends
returns-in-Err-NoMemory-clause-ends g c = λ text before h.
    grew g.W.Stage.spellings text c.args.number _ before _ (g.W.Stage.stands c.args.world.now)
    c.args.kept.now.watch h
