use Rattle.std.proofs.Common.{◌≡◌, ap, subst, sym}
use Rattle.std.proofs.lemmas.Result.{on_err_weaker, on_ok_weaker}
use Rattle.std.specs.Prelude.{OnErr, OnOk}
use Rattle.cell_cache.specs.Entries.{AreOf}
use Rattle.harp_store.specs.Disk.{cells_told}
use Rattle.node.specs.State.{cached_in}
use Rattle.node.specs.Stored.{log_in, with_log}
use Rattle.node.specs.declared.state.State.{State}
use Rattle.node.specs.declared.state.State.TheVariants as state
use Rattle.replica.specs.Following.{Following}
use Rattle.replica.specs.Leading.{Leading}
use Rattle.tree_log.specs.Applying.{applied_by, changes_by}
use Rattle.tree_log.specs.Storing.{AppliesFuzzy, MakesChanges}
use Rattle.volatile_log.specs.Log.{applied_to}
use Rattle.node.proofs.applying.apply_log.Goals as goal

pub apply-requires : goal.apply-requires
apply-requires g c =
    subst (λ (s : State). AreOf (cells_told (g.D.Store.told c.args.store.now)) (cached_in s))
    c.in-Leads.is c.requires.cached

pub apply-requires-in-Follows : goal.apply-requires-in-Follows
apply-requires-in-Follows g c =
    subst (λ (s : State). AreOf (cells_told (g.D.Store.told c.args.store.now)) (cached_in s))
    c.in-Follows.is c.requires.cached

-- ---- a leader

pub returns-in-Leads-clause-log : goal.returns-in-Leads-clause-log
returns-in-Leads-clause-log g c =
    let r = c.apply.result in
    let made = λ (l : Leading). state.Leads l c.in-Leads.field-1 in
    let new = made c.apply.new.self in
    subst (λ (s : State). OnOk r (new
    ≡ with_log s (applied_to (log_in s) (applied_by c.args.most (log_in s))) (cached_in new)))
    (sym c.in-Leads.is) (on_ok_weaker r (λ is. ap made is) c.apply.ensures.applies.log)

pub returns-in-Leads-clause-still : goal.returns-in-Leads-clause-still
returns-in-Leads-clause-still g c =
    let r = c.apply.result in
    let made = λ (l : Leading). state.Leads l c.in-Leads.field-1 in
    let new = made c.apply.new.self in
    subst (λ (s : State). OnErr r (new ≡ with_log s (log_in s) (cached_in new)))
    (sym c.in-Leads.is) (on_err_weaker r (λ is. ap made is) c.apply.ensures.applies.still)

pub returns-in-Leads-clause-changes : goal.returns-in-Leads-clause-changes
returns-in-Leads-clause-changes g c =
    subst (λ (s : State). MakesChanges c.apply.result
    (changes_by c.args.most (log_in s)) (g.D.Store.told c.args.store.now)
    (g.D.Store.told c.apply.new.store)) (sym c.in-Leads.is)
    c.apply.ensures.changes

pub returns-in-Leads-clause-fuzzy : goal.returns-in-Leads-clause-fuzzy
returns-in-Leads-clause-fuzzy g c =
    subst (λ (s : State). AppliesFuzzy c.apply.result c.args.most (log_in s)
    (g.D.Store.told c.args.store.now) (g.D.Store.told c.apply.new.store)) (sym c.in-Leads.is)
    c.apply.ensures.fuzzy

pub returns-in-Leads-clause-faults : goal.returns-in-Leads-clause-faults
returns-in-Leads-clause-faults g c = c.apply.ensures.faults

-- ---- a partner

pub returns-in-Follows-clause-log : goal.returns-in-Follows-clause-log
returns-in-Follows-clause-log g c =
    let r = c.apply-in-Follows.result in
    let made = λ (l : Following). state.Follows l c.in-Follows.field-1 in
    let new = made c.apply-in-Follows.new.self in
    subst (λ (s : State). OnOk r (new
    ≡ with_log s (applied_to (log_in s) (applied_by c.args.most (log_in s))) (cached_in new)))
    (sym c.in-Follows.is) (on_ok_weaker r (λ is. ap made is) c.apply-in-Follows.ensures.applies.log)

pub returns-in-Follows-clause-still : goal.returns-in-Follows-clause-still
returns-in-Follows-clause-still g c =
    let r = c.apply-in-Follows.result in
    let made = λ (l : Following). state.Follows l c.in-Follows.field-1 in
    let new = made c.apply-in-Follows.new.self in
    subst (λ (s : State). OnErr r (new ≡ with_log s (log_in s) (cached_in new)))
    (sym c.in-Follows.is) (on_err_weaker r (λ is. ap made is) c.apply-in-Follows.ensures.applies.still)

pub returns-in-Follows-clause-changes : goal.returns-in-Follows-clause-changes
returns-in-Follows-clause-changes g c =
    subst (λ (s : State). MakesChanges c.apply-in-Follows.result
    (changes_by c.args.most (log_in s)) (g.D.Store.told c.args.store.now)
    (g.D.Store.told c.apply-in-Follows.new.store)) (sym c.in-Follows.is)
    c.apply-in-Follows.ensures.changes

pub returns-in-Follows-clause-fuzzy : goal.returns-in-Follows-clause-fuzzy
returns-in-Follows-clause-fuzzy g c =
    subst (λ (s : State). AppliesFuzzy c.apply-in-Follows.result c.args.most (log_in s)
    (g.D.Store.told c.args.store.now) (g.D.Store.told c.apply-in-Follows.new.store)) (sym c.in-Follows.is)
    c.apply-in-Follows.ensures.fuzzy

pub returns-in-Follows-clause-faults : goal.returns-in-Follows-clause-faults
returns-in-Follows-clause-faults g c = c.apply-in-Follows.ensures.faults
