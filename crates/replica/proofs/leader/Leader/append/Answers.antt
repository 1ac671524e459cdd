use Rattle.std.proofs.Common.{sym, ◌∙◌, subst}
use Rattle.cell_cache.specs.Entries.{AreOf}
use Rattle.harp_store.specs.Disk.{cells_told}
use Rattle.replica.proofs.Asked.{appended_so}
use Rattle.replica.specs.Leading.{Leading}
use Rattle.replica.proofs.leader.Leader.append.Goals as goal

pub returns-in_err-append_record-clause-cached : goal.returns-in_err-append_record-clause-cached
returns-in_err-append_record-clause-cached g c =
    subst (λ (l : Leading). AreOf (cells_told (g.D.Store.told c.next_record.new.store)) l.cached)
    (sym c.in_err-append_record.ensures.still) c.next_record.ensures.cached

pub returns-clause-cached : goal.returns-clause-cached
returns-clause-cached g c =
    subst (λ (l : Leading). AreOf (cells_told (g.D.Store.told c.next_record.new.store)) l.cached)
    (sym c.in_ok-append_record.ensures.state) c.next_record.ensures.cached

pub returns-clause-asked : goal.returns-clause-asked
returns-clause-asked g c o list h =
    let a = c.args in
    let full = sym c.is_full.ensures.tests ∙ c.if-is_full.false in
    appended_so a.now a.asker.client a.asker.number a.asker.cred a.call.now list a.asker.peer o
    a.self.now c.next_record.new.self c.append_record.new.self c.in_ok-item.item a.outs.now
    c.append_record.new.outs c.requires.update full h.of_list.long c.in_ok-item.ensures.same
    (c.in_ok-item.ensures.record list h) c.in_ok-append_record.ensures.state
    c.in_ok-append_record.ensures.said c.in_ok-append_record.ensures.records
    c.in_ok-append_record.ensures.tree
