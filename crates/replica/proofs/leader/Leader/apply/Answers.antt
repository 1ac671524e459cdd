use Rattle.std.proofs.Common.{◌≡◌, ap, refl, sym, subst}
use Rattle.std.specs.Prelude.{OnErr, OnOk}
use Rattle.cell_cache.specs.Entries.{AreOf}
use Rattle.group_rules.specs.Moves.{Applying}
use Rattle.harp_store.specs.Disk.{cells_told}
use Rattle.tree_log.specs.Applying.{applied_by, changes_by}
use Rattle.tree_log.specs.Storing.{AppliesFuzzy, MakesChanges}
use Rattle.volatile_log.specs.Log.{applied_to}
use Rattle.replica.specs.Leading.{Leading}
use Rattle.replica.proofs.Storing.{moves_led}
use Rattle.replica.proofs.leader.Leader.apply.Goals as goal

pub apply-requires : goal.apply-requires
apply-requires g c =
    subst (λ (x : Leading). AreOf (cells_told (g.D.Store.told c.args.store.now)) x.cached)
    (sym c.self.view_is) c.requires

pub returns-clause-applies : goal.returns-clause-applies
returns-clause-applies g c =
    let r = c.apply.result in
    let old = c.args.self.now in
    let log = c.apply.new.self.log in
    let k = c.apply.new.self.cached in
    let to = applied_by c.args.most old.log in
    moves_led r log (applied_to old.log to) (Applying to) k old _
    (ap (λ (x : Leading). record x { log = log; cached = k }) c.self.view_is)
    (subst (λ (x : Leading). OnOk r (log ≡ applied_to x.log (applied_by c.args.most x.log)))
    c.self.view_is c.apply.ensures.log)
    (subst (λ (x : Leading). OnErr r (log ≡ x.log)) c.self.view_is c.apply.ensures.still)
    (λ o clock. refl)

pub returns-clause-changes : goal.returns-clause-changes
returns-clause-changes g c =
    subst (λ (x : Leading). MakesChanges c.apply.result (changes_by c.args.most x.log)
    (g.D.Store.told c.args.store.now) (g.D.Store.told c.apply.new.store)) c.self.view_is
    c.apply.ensures.changes

pub returns-clause-fuzzy : goal.returns-clause-fuzzy
returns-clause-fuzzy g c =
    subst (λ (x : Leading). AppliesFuzzy c.apply.result c.args.most x.log
    (g.D.Store.told c.args.store.now) (g.D.Store.told c.apply.new.store)) c.self.view_is
    c.apply.ensures.fuzzy

pub returns-clause-faults : goal.returns-clause-faults
returns-clause-faults g c = c.apply.ensures.faults
