use Rattle.std.proofs.Common.{◌≡◌, [], Some, arith, subst, sym, ◌∙◌}
use Rattle.harp_store.specs.Disk.{cells_told, reads}
use Rattle.node.proofs.Faults.{once_as, once_done, once_later}
use Rattle.node.proofs.Booting.{booted_whole, boots_as, cells_stay, lost_as, rests_from}
use Rattle.node.specs.Boot.{HoldWhole}
use Rattle.harp_store.specs.Mark.{MarkFields}
use Rattle.node.proofs.node.Node.boot.Goals as goal

pub returns-clause-boots : goal.returns-clause-boots
returns-clause-boots g c = λ h items told held.
    let cells = reads h.now in
    let mark = c.in_ok-mark.mark in
    let there : cells_told (g.D.Store.told c.first_write.new.store) ≡ Some cells =
    cells_stay c.args.me c.args.delta (g.D.Store.told c.args.store.now)
    (g.D.Store.told c.first_write.new.store) h c.in_ok-mark.ensures.written told in
    c.resting.ensures.server items
    ∙ rests_from items mark c.lowered.result c.boot-horizon.result c.args.now c.args.delta
    c.longest_of.result c.in_ok-kept.kept c.lowered.ensures c.boot-horizon.ensures
    c.longest_of.ensures
    ∙ boots_as c.args.me c.args.now c.args.delta cells items h.now.mark mark c.in_ok-kept.kept
    (c.in_ok-mark.ensures.mark h told) held
    (λ holds. c.in_ok-kept.ensures.boots cells items c.args.now c.args.delta there holds)

pub returns-clause-lost : goal.returns-clause-lost
returns-clause-lost g c = λ h items told lacks.
    let cells = reads h.now in
    let mark = c.in_ok-mark.mark in
    let there : cells_told (g.D.Store.told c.first_write.new.store) ≡ Some cells =
    cells_stay c.args.me c.args.delta (g.D.Store.told c.args.store.now)
    (g.D.Store.told c.first_write.new.store) h c.in_ok-mark.ensures.written told in
    c.resting.ensures.server items
    ∙ rests_from items mark c.lowered.result c.boot-horizon.result c.args.now c.args.delta
    c.longest_of.result c.in_ok-kept.kept c.lowered.ensures c.boot-horizon.ensures
    c.longest_of.ensures
    ∙ lost_as c.args.me c.args.now c.args.delta cells items h.now.mark mark c.in_ok-kept.kept
    (c.in_ok-mark.ensures.mark h told) lacks
    (λ not. c.in_ok-kept.ensures.lost cells items c.args.now c.args.delta there not)

pub returns-clause-records : goal.returns-clause-records
returns-clause-records g c = λ h saved told whole.
    let cells = reads h.now in
    let there : cells_told (g.D.Store.told c.first_write.new.store) ≡ Some cells =
    cells_stay c.args.me c.args.delta (g.D.Store.told c.args.store.now)
    (g.D.Store.told c.first_write.new.store) h c.in_ok-mark.ensures.written told in
    booted_whole c.resting.result c.lowered.result c.boot-horizon.result c.in_ok-kept.kept saved
    c.resting.ensures.stock (c.resting.ensures.server [])
    (c.in_ok-kept.ensures.records cells saved there
    (subst (λ (m : MarkFields). HoldWhole cells m saved) (sym (c.in_ok-mark.ensures.mark h told))
    whole))

pub returns-clause-fresh : goal.returns-clause-fresh
returns-clause-fresh g c = c.resting.ensures.fresh

pub returns-clause-faults : goal.returns-clause-faults
returns-clause-faults g c = once_done _ _ _
    (omega (arith, c.first_write.ensures.faults.counts.count, c.found.ensures.faults.counts.count))

pub returns-in_err-kept-clause-faults : goal.returns-in_err-kept-clause-faults
returns-in_err-kept-clause-faults g c = once_later _ _ _ _ c.first_write.ensures.faults.counts.count
    (once_as c.from_residual-in_err-kept.result c.in_err-kept.field-0.0 c.found.result _ _
    c.from_residual-in_err-kept.ensures.1 c.in_err-kept.was c.found.ensures.faults)

pub returns-in_err-mark-clause-faults : goal.returns-in_err-mark-clause-faults
returns-in_err-mark-clause-faults g c = once_as c.from_residual.result c.in_err-mark.field-0.0
    c.first_write.result _ _ c.from_residual.ensures.1 c.in_err-mark.was
    c.first_write.ensures.faults
