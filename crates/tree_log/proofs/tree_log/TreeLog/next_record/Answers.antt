use Rattle.std.proofs.Common.{rules, ◌≡◌, ◌+◌, ℕ, length, Some, max, sym, ap, subst}
use Rattle.std.specs.Prelude.{IfOk}
use Rattle.cell_cache.specs.Entries.{AreOf}
use Rattle.harp_cells.specs.declared.cell.Cell.TheVariants as cell
use Rattle.harp_store.specs.Disk.{cells_told}
use Rattle.tree_log.specs.Records.{entry_after, record_of}
use Rattle.overlay.specs.Overlay.{cells_over, told_over}
use Rattle.volatile_log.specs.Log.{top}
use Rattle.tree_log.specs.Planning.{stamp_found}
use Rattle.tree_log.specs.Reading.{HoldsTree}
use Rattle.tree_log.specs.TreeLog.{TreeLogValue, changes_in}
use Rattle.tree_log.proofs.Holding.{alike_at_top, stamp_read, stands_at_top}
use Rattle.tree_log.proofs.tree_log.TreeLog.next_record.Goals as goal

pub new-cached-requires : goal.new-cached-requires
new-cached-requires g c =
    subst (λ (t : TreeLogValue). AreOf (cells_told (g.D.Store.told c.args.store.now)) t.cached)
    (sym c.self.view_is) c.requires.cached

pub returns-in_err-follow-clause-cached : goal.returns-in_err-follow-clause-cached
returns-in_err-follow-clause-cached g c =
    subst (λ (t : TreeLogValue). AreOf (cells_told (g.D.Store.told c.args.store.now)) t.cached)
    (sym c.self.view_is) c.requires.cached

pub returns-clause-cached : goal.returns-clause-cached
returns-clause-cached g c cells is = c.record_over.new.under.are cells (search (rules, is))

pub returns-clause-record : goal.returns-clause-record
returns-clause-record g c list h =
    let log = c.self.inside.log in
    let told = g.D.Store.told c.args.store.now in
    let here : HoldsTree list (top log) log told =
    subst (λ (t : TreeLogValue). HoldsTree list (top t.log) t.log told) (sym c.self.view_is) h in
    let held = cells_over log.base (changes_in log.records) (top log) here.behind.cells in
    let is : told_over log.base (changes_in log.records) (top log) (cells_told told) ≡ Some held =
    ap (told_over log.base (changes_in log.records) (top log)) here.behind.told_is in
    let order = c.top.ensures.order in
    let found : IfOk c.record_over.result (λ r. r ≡ record_of c.args.stamped list
    (entry_after list (top log + 1) c.args.client c.args.number c.args.cred c.args.call.now
    (max c.args.now (stamp_found (held cell.Meta))))) =
    c.record_over.ensures.record list held here.of_list.updates (search (rules, is))
    (alike_at_top list log told order here) in
    subst (λ (s : ℕ). IfOk c.record_over.result (λ r. r ≡ record_of c.args.stamped list
    (entry_after list (length list + 1) c.args.client c.args.number c.args.cred c.args.call.now
    (max c.args.now s)))) (stamp_read held list (stands_at_top list log told order here))
    (subst (λ (n : ℕ). IfOk c.record_over.result (λ r. r ≡ record_of c.args.stamped list
    (entry_after list (n + 1) c.args.client c.args.number c.args.cred c.args.call.now
    (max c.args.now (stamp_found (held cell.Meta)))))) (sym here.of_list.long) found)
