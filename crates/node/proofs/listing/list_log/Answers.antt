use Rattle.std.proofs.Common.{◌≡◌, Some, ap, subst, sym}
use Rattle.std.proofs.lemmas.Result.{on_ok_weaker}
use Rattle.cell_cache.specs.Entries.{AreOf}
use Rattle.harp_store.specs.Disk.{cells_told}
use Rattle.node.proofs.Stores.{any_outer, said_listed}
use Rattle.node.specs.State.{cached_in}
use Rattle.node.specs.Stored.{log_in, with_log}
use Rattle.node.specs.declared.state.State.{State}
use Rattle.node.specs.declared.state.State.TheVariants as state
use Rattle.node_outputs.specs.Said.{said}
use Rattle.replica.specs.Following.{Following}
use Rattle.replica.specs.Leading.{Leading}
use Rattle.node.proofs.listing.list_log.Goals as goal

pub list-requires : goal.list-requires
list-requires g c =
    subst (λ (s : State). AreOf (cells_told (g.D.Store.told c.args.store.now)) (cached_in s))
    c.in-Leads.is c.requires.cached

pub list-requires-in-Follows : goal.list-requires-in-Follows
list-requires-in-Follows g c =
    subst (λ (s : State). AreOf (cells_told (g.D.Store.told c.args.store.now)) (cached_in s))
    c.in-Follows.is c.requires.cached

pub returns-in-Leads-clause-said : goal.returns-in-Leads-clause-said
returns-in-Leads-clause-said g c = on_ok_weaker c.list.result
    (λ made. subst (λ (s : State). said c.list.new.outs ≡ record (said c.args.outs.now) {
      listed = Some (log_in s).cp;
    }) (sym c.in-Leads.is)
    (said_listed (said c.args.outs.now) (said c.list.new.outs) c.in-Leads.leader.log.cp
    (made any_outer 0).said)) c.list.ensures.makes

pub returns-in-Follows-clause-said : goal.returns-in-Follows-clause-said
returns-in-Follows-clause-said g c = on_ok_weaker c.list-in-Follows.result
    (λ made. subst (λ (s : State). said c.list-in-Follows.new.outs
    ≡ record (said c.args.outs.now) { listed = Some (log_in s).cp }) (sym c.in-Follows.is)
    (said_listed (said c.args.outs.now) (said c.list-in-Follows.new.outs)
    c.in-Follows.partner.log.cp (made any_outer 0).said)) c.list-in-Follows.ensures.makes

-- ---- the state of a leader, and its store

pub returns-in-Leads-clause-same : goal.returns-in-Leads-clause-same
returns-in-Leads-clause-same g c =
    let made = λ (l : Leading). state.Leads l c.in-Leads.field-1 in
    let new = made c.list.new.self in
    subst (λ (s : State). new ≡ with_log s (log_in s) (cached_in new)) (sym c.in-Leads.is)
    (ap made c.list.ensures.same)

pub returns-in-Leads-clause-reads : goal.returns-in-Leads-clause-reads
returns-in-Leads-clause-reads g c = c.list.ensures.reads

pub returns-in-Leads-clause-faults : goal.returns-in-Leads-clause-faults
returns-in-Leads-clause-faults g c = c.list.ensures.faults

-- ---- the state of a partner, and its store

pub returns-in-Follows-clause-same : goal.returns-in-Follows-clause-same
returns-in-Follows-clause-same g c =
    let made = λ (l : Following). state.Follows l c.in-Follows.field-1 in
    let new = made c.list-in-Follows.new.self in
    subst (λ (s : State). new ≡ with_log s (log_in s) (cached_in new)) (sym c.in-Follows.is)
    (ap made c.list-in-Follows.ensures.same)

pub returns-in-Follows-clause-reads : goal.returns-in-Follows-clause-reads
returns-in-Follows-clause-reads g c = c.list-in-Follows.ensures.reads

pub returns-in-Follows-clause-faults : goal.returns-in-Follows-clause-faults
returns-in-Follows-clause-faults g c = c.list-in-Follows.ensures.faults
