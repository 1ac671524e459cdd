use Rattle.std.proofs.Common.{le_refl, sym, ◌∙◌}
use Rattle.file_tree.specs.Book.{Entry}
use Rattle.group_rules.specs.Names.{number_of_view, place_of}
use Rattle.group_rules.specs.State.{Message}
use Rattle.std.specs.Prelude.{map}
use Rattle.event_record.specs.Record.{entry_of}
use Rattle.group_rules.specs.State.{Give}
use Rattle.node.proofs.Handled.{fails_as, fails_memory}
use Rattle.node.proofs.Opening.{misfit_acts, opened_acts, proper_acts, proper_fails, proper_part}
use Rattle.node.proofs.node.Node.take_give.Goals as goal

pub returns-then-misfits_give-clause-handles : goal.returns-then-misfits_give-clause-handles
returns-then-misfits_give-clause-handles g c size list =
    let n = c.args.self.now in
    let from = place_of c.args.from in
    let m : Message Entry = Give (number_of_view c.args.view) c.args.first (map entry_of
    c.args.records) in
    misfit_acts size c.args.now list from m n c.args.records c.args.outs.now
    (g.D.Store.told c.args.store.now) c.requires.up
    (sym c.misfits_give.ensures.test ∙ c.if-misfits_give.true)

pub returns-then-misfits_give-clause-count : goal.returns-then-misfits_give-clause-count
returns-then-misfits_give-clause-count g c = le_refl _

pub returns-in_err-give-clause-handles : goal.returns-in_err-give-clause-handles
returns-in_err-give-clause-handles g c size list =
    let n = c.args.self.now in
    let from = place_of c.args.from in
    let m : Message Entry = Give (number_of_view c.args.view) c.args.first (map entry_of
    c.args.records) in
    let why = c.in_err-give.field-0.0 in
    fails_as c.from_residual.result why _ _ _ _ _ _ _ _ _ _ _ _ _ c.from_residual.ensures.1
    (proper_fails size c.args.now list from m n c.give.new.self (g.D.Store.told c.args.store.now)
    (g.D.Store.told c.give.new.store) (g.D.Store.faults c.args.store.now)
    (g.D.Store.faults c.give.new.store) why
    (sym c.misfits_give.ensures.test ∙ c.if-misfits_give.false)
    (c.in_err-give.ensures.handles c.args.now))

pub returns-in_err-give-clause-count : goal.returns-in_err-give-clause-count
returns-in_err-give-clause-count g c = c.give.ensures.count

pub returns-in_err-try_open-clause-handles : goal.returns-in_err-try_open-clause-handles
returns-in_err-try_open-clause-handles g c size list =
    let n = c.args.self.now in
    let from = place_of c.args.from in
    let m : Message Entry = Give (number_of_view c.args.view) c.args.first (map entry_of
    c.args.records) in
    let first = (c.in_ok-give.ensures.handles c.args.now) in
    fails_memory c.from_residual-in_err-try_open.result _ _ _ _ _ _ _ _ _ _ _ _ _
    c.from_residual-in_err-try_open.ensures.1
    (c.try_open.ensures.me ∙ first.me)
    (proper_part size c.args.now list from m n c.args.records c.give.new.self c.args.outs.now
    c.give.new.outs
    (g.D.Store.told c.args.store.now) (g.D.Store.told c.give.new.store)
    (sym c.misfits_give.ensures.test ∙ c.if-misfits_give.false) first)

pub returns-in_err-try_open-clause-count : goal.returns-in_err-try_open-clause-count
returns-in_err-try_open-clause-count g c = c.give.ensures.count

pub returns-clause-handles : goal.returns-clause-handles
returns-clause-handles g c size list =
    let n = c.args.self.now in
    let from = place_of c.args.from in
    let m : Message Entry = Give (number_of_view c.args.view) c.args.first (map entry_of
    c.args.records) in
    let left = g.D.Store.told c.give.new.store in
    proper_acts size c.args.now list from m n c.args.records c.give.new.self c.try_open.new.self
    c.args.outs.now c.give.new.outs c.try_open.new.outs (g.D.Store.told c.args.store.now) left
    (sym c.misfits_give.ensures.test ∙ c.if-misfits_give.false)
    (c.in_ok-give.ensures.handles c.args.now)
    (opened_acts c.args.now c.args.records c.give.new.self c.try_open.new.self c.give.new.outs
    c.try_open.new.outs left c.in_ok-try_open.ensures.makes c.try_open.ensures.me
    c.in_ok-try_open.ensures.up c.in_ok-try_open.ensures.stock c.in_ok-try_open.ensures.cached
    c.try_open.ensures.mark)

pub returns-clause-count : goal.returns-clause-count
returns-clause-count g c = c.give.ensures.count

pub try_open-requires : goal.try_open-requires
try_open-requires g c = (c.in_ok-give.ensures.handles c.args.now).up
