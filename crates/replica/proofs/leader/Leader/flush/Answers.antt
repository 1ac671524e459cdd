use Rattle.std.proofs.Common.{◌≡◌, ap, refl, sym, subst}
use Rattle.std.specs.Prelude.{OnErr, OnOk}
use Rattle.cell_cache.specs.Entries.{AreOf}
use Rattle.group_rules.specs.Moves.{Flushing}
use Rattle.harp_store.specs.Disk.{cells_told}
use Rattle.tree_log.specs.Storing.{FlushesUpTo}
use Rattle.volatile_log.specs.Log.{lowered_to}
use Rattle.replica.specs.Leading.{Leading}
use Rattle.replica.proofs.Storing.{moves_led}
use Rattle.replica.proofs.leader.Leader.flush.Goals as goal

pub flush-requires : goal.flush-requires
flush-requires g c =
    subst (λ (x : Leading). AreOf (cells_told (g.D.Store.told c.args.store.now)) x.cached)
    (sym c.self.view_is) c.requires

pub returns-clause-flushes : goal.returns-clause-flushes
returns-clause-flushes g c =
    let r = c.flush.result in
    let old = c.args.self.now in
    let log = c.flush.new.self.log in
    let k = c.flush.new.self.cached in
    moves_led r log (lowered_to old.log old.log.ap) Flushing k old _
    (ap (λ (x : Leading). record x { log = log; cached = k }) c.self.view_is)
    (subst (λ (x : Leading). OnOk r (log ≡ lowered_to x.log x.log.ap)) c.self.view_is
    c.flush.ensures.lowers.log)
    (subst (λ (x : Leading). OnErr r (log ≡ x.log)) c.self.view_is
    c.flush.ensures.lowers.still)
    (λ o clock. refl)

pub returns-clause-writes : goal.returns-clause-writes
returns-clause-writes g c =
    subst (λ (x : Leading). FlushesUpTo c.flush.result x.log.ap c.args.mark.now
    c.flush.new.mark (g.D.Store.told c.args.store.now) (g.D.Store.told c.flush.new.store))
    c.self.view_is c.flush.ensures.writes

pub returns-clause-at_once : goal.returns-clause-at_once
returns-clause-at_once g c = c.flush.ensures.at_once

pub returns-clause-faults : goal.returns-clause-faults
returns-clause-faults g c = c.flush.ensures.faults
