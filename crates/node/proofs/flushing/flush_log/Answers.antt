use Rattle.std.proofs.Common.{ap, subst, sym}
use Rattle.std.proofs.lemmas.Result.{on_err_weaker, on_ok_weaker}
use Rattle.cell_cache.specs.Entries.{AreOf}
use Rattle.harp_store.specs.Disk.{cells_told}
use Rattle.node.specs.Outcomes.{Lowers}
use Rattle.node.specs.State.{cached_in}
use Rattle.node.specs.Stored.{log_in}
use Rattle.node.specs.declared.state.State.{State}
use Rattle.node.specs.declared.state.State.TheVariants as state
use Rattle.replica.specs.Following.{Following}
use Rattle.replica.specs.Leading.{Leading}
use Rattle.tree_log.specs.Storing.{FlushesUpTo}
use Rattle.node.proofs.flushing.flush_log.Goals as goal

pub flush-requires : goal.flush-requires
flush-requires g c =
    subst (λ (s : State). AreOf (cells_told (g.D.Store.told c.args.store.now)) (cached_in s))
    c.in-Leads.is c.requires.cached

pub flush-requires-in-Follows : goal.flush-requires-in-Follows
flush-requires-in-Follows g c =
    subst (λ (s : State). AreOf (cells_told (g.D.Store.told c.args.store.now)) (cached_in s))
    c.in-Follows.is c.requires.cached

-- ---- a leader

pub returns-in-Leads-clause-lowers : goal.returns-in-Leads-clause-lowers
returns-in-Leads-clause-lowers g c =
    let r = c.flush.result in
    let made = λ (l : Leading). state.Leads l c.in-Leads.field-1 in
    subst (λ (s : State). Lowers r s (made c.flush.new.self)) (sym c.in-Leads.is) (record {
      log = on_ok_weaker r (λ is. ap made is) c.flush.ensures.flushes.log;
      still = on_err_weaker r (λ is. ap made is) c.flush.ensures.flushes.still;
    })

pub returns-in-Leads-clause-writes : goal.returns-in-Leads-clause-writes
returns-in-Leads-clause-writes g c =
    subst (λ (s : State). FlushesUpTo c.flush.result (log_in s).ap c.args.mark.now
    c.flush.new.mark (g.D.Store.told c.args.store.now)
    (g.D.Store.told c.flush.new.store)) (sym c.in-Leads.is) c.flush.ensures.writes

pub returns-in-Leads-clause-at_once : goal.returns-in-Leads-clause-at_once
returns-in-Leads-clause-at_once g c = c.flush.ensures.at_once

pub returns-in-Leads-clause-faults : goal.returns-in-Leads-clause-faults
returns-in-Leads-clause-faults g c = c.flush.ensures.faults

-- ---- a partner

pub returns-in-Follows-clause-lowers : goal.returns-in-Follows-clause-lowers
returns-in-Follows-clause-lowers g c =
    let r = c.flush-in-Follows.result in
    let made = λ (l : Following). state.Follows l c.in-Follows.field-1 in
    subst (λ (s : State). Lowers r s (made c.flush-in-Follows.new.self)) (sym c.in-Follows.is) (record {
      log = on_ok_weaker r (λ is. ap made is) c.flush-in-Follows.ensures.flushes.log;
      still = on_err_weaker r (λ is. ap made is) c.flush-in-Follows.ensures.flushes.still;
    })

pub returns-in-Follows-clause-writes : goal.returns-in-Follows-clause-writes
returns-in-Follows-clause-writes g c =
    subst (λ (s : State). FlushesUpTo c.flush-in-Follows.result (log_in s).ap c.args.mark.now
    c.flush-in-Follows.new.mark (g.D.Store.told c.args.store.now)
    (g.D.Store.told c.flush-in-Follows.new.store)) (sym c.in-Follows.is) c.flush-in-Follows.ensures.writes

pub returns-in-Follows-clause-at_once : goal.returns-in-Follows-clause-at_once
returns-in-Follows-clause-at_once g c = c.flush-in-Follows.ensures.at_once

pub returns-in-Follows-clause-faults : goal.returns-in-Follows-clause-faults
returns-in-Follows-clause-faults g c = c.flush-in-Follows.ensures.faults
