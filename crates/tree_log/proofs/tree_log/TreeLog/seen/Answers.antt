use Rattle.std.proofs.Common.{rules, ◌≡◌, Some, sym, ap, subst}
use Rattle.std.specs.Prelude.{IfOk}
use Rattle.cell_cache.specs.Entries.{AreOf}
use Rattle.dedup.specs.Repeats.{seen_after}
use Rattle.file_tree.specs.Book.{last_of}
use Rattle.harp_store.specs.Disk.{cells_told}
use Rattle.overlay.specs.Overlay.{cells_over, told_over}
use Rattle.volatile_log.specs.Log.{top}
use Rattle.tree_log.specs.Reading.{HoldsTree}
use Rattle.tree_log.specs.TreeLog.{TreeLogValue, changes_in}
use Rattle.tree_log.proofs.Holding.{stands_at_top}
use Rattle.tree_log.proofs.tree_log.TreeLog.seen.Goals as goal

pub new-cached-requires : goal.new-cached-requires
new-cached-requires g c =
    subst (λ (t : TreeLogValue). AreOf (cells_told (g.D.Store.told c.args.store.now)) t.cached)
    (sym c.self.view_is) c.requires

pub returns-in_err-follow-clause-cached : goal.returns-in_err-follow-clause-cached
returns-in_err-follow-clause-cached g c =
    subst (λ (t : TreeLogValue). AreOf (cells_told (g.D.Store.told c.args.store.now)) t.cached)
    (sym c.self.view_is) c.requires

pub returns-clause-cached : goal.returns-clause-cached
returns-clause-cached g c cells is = c.seen_over.new.under.are cells (search (rules, is))

pub returns-clause-seen : goal.returns-clause-seen
returns-clause-seen g c list h =
    let log = c.self.inside.log in
    let told = g.D.Store.told c.args.store.now in
    let here : HoldsTree list (top log) log told =
    subst (λ (t : TreeLogValue). HoldsTree list (top t.log) t.log told) (sym c.self.view_is) h in
    let held = cells_over log.base (changes_in log.records) (top log) here.behind.cells in
    let is : told_over log.base (changes_in log.records) (top log) (cells_told told) ≡ Some held =
    ap (told_over log.base (changes_in log.records) (top log)) here.behind.told_is in
    let found : IfOk c.seen_over.result (λ s. s
    ≡ seen_after (last_of c.args.client list) c.args.number log.cp) =
    c.seen_over.ensures.seen held list (search (rules, is))
    (stands_at_top list log told c.top.ensures.order here) in
    subst (λ (t : TreeLogValue). IfOk c.seen_over.result (λ s. s
    ≡ seen_after (last_of c.args.client list) c.args.number t.log.cp)) c.self.view_is found
