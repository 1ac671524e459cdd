use Rattle.std.proofs.Common.{sym, arith, ◌∙◌, ap}
use Rattle.std.specs.Prelude.{Result, Ok, Err, OnErr, Some}
use Rattle.line_reader.proofs.ReaderLemmas.{looked, gives-ended, gives-last, gives-long}
use Rattle.line_reader.proofs.reader.LineReader.next.Goals as goal

-- a fact that holds anyway holds after an error
always : {X E P : Type 0} (r : Result X E) → P → OnErr r P
always (Ok x) p = tt
always (Err e) p = p

pub returns-in_err-peek-clause-err : goal.returns-in_err-peek-clause-err
returns-in_err-peek-clause-err g c =
    always c.from_residual.result
    (looked _ c.loop-alloc.self-inside.line.items c.loop-alloc.self-inside.chunk _ (g.S.Source.left c.loop-alloc.source) _ c.loop-alloc.invariant.reads_on.kept c.peek.ensures.left)

pub returns-in_err-take_plain-in-Some-clause-err : goal.returns-in_err-take_plain-in-Some-clause-err
returns-in_err-take_plain-in-Some-clause-err g c =
    always c.from_residual-in_err-take_plain-in-Some.result
    (rw c.take_plain.ensures.whole
    (looked _ c.loop-alloc.self-inside.line.items c.loop-alloc.self-inside.chunk c.peek.new.self (g.S.Source.left c.loop-alloc.source) (g.S.Source.left c.peek.new.source)
    c.loop-alloc.invariant.reads_on.kept c.peek.ensures.left))

pub returns-in-None-2-clause-ok : goal.returns-in-None-2-clause-ok
returns-in-None-2-clause-ok g c =
    rw (c.hand_out.ensures.empty, c.hand_out.ensures.line)
    (gives-last _ c.loop-alloc.self-inside.line c.loop-alloc.self-inside.chunk c.peek.new.self (g.S.Source.left c.loop-alloc.source) (g.S.Source.left c.peek.new.source)
    c.in_ok-peek.field-0 c.loop-alloc.invariant.reads_on.feedless (omega arith) (sym c.if-is_empty.ensures) c.loop-alloc.invariant.reads_on.kept c.peek.ensures.left
    c.in-None-2.is c.in_ok-peek.ensures.ok)

pub returns-in-Some-eq10-clause-ok : goal.returns-in-Some-eq10-clause-ok
returns-in-Some-eq10-clause-ok g c =
    rw (c.hand_out-in-Some-eq10.ensures.empty, c.hand_out-in-Some-eq10.ensures.line)
    (gives-ended _ c.loop-alloc.self-inside.line c.peek.new.self c.take.new.self (g.S.Source.left c.peek.new.source) c.loop-alloc.self-inside.chunk
    (g.S.Source.left c.loop-alloc.source) c.in_ok-peek.field-0 c.loop-alloc.invariant.reads_on.feedless (omega arith)
    (looked _ c.loop-alloc.self-inside.line.items c.loop-alloc.self-inside.chunk c.peek.new.self (g.S.Source.left c.loop-alloc.source) (g.S.Source.left c.peek.new.source)
    c.loop-alloc.invariant.reads_on.kept c.peek.ensures.left)
    (c.in-Some-eq10.is ∙ ap Some c.in-Some-eq10.field-0-test) c.in_ok-peek.ensures.ok c.take.ensures)

pub returns-clause-ok : goal.returns-clause-ok
returns-clause-ok g c =
    gives-long _ c.loop-alloc.self-inside.line.items c.loop-alloc.self-inside.chunk (g.S.Source.left c.loop-alloc.source)
    c.loop-alloc.invariant.reads_on.feedless (omega arith) c.loop-alloc.invariant.reads_on.kept
