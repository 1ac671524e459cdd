use Rattle.std.proofs.Common.{rules, ◌≡◌, Some, sym, take, ap, subst}
use Rattle.cell_cache.specs.Entries.{AreOf}
use Rattle.file_tree.specs.Book.{tree_after}
use Rattle.harp_store.specs.Disk.{cells_told}
use Rattle.overlay.specs.Overlay.{cells_over, told_over}
use Rattle.tree_listing.specs.Listing.{tree_listed}
use Rattle.tree_log.specs.Reading.{HoldsTree}
use Rattle.tree_log.specs.TreeLog.{TreeLogValue, changes_in}
use Rattle.tree_log.proofs.Holding.{stands_at}
use Rattle.tree_log.proofs.tree_log.TreeLog.list.Goals as goal

pub new-cached-requires : goal.new-cached-requires
new-cached-requires g c =
    subst (λ (t : TreeLogValue). AreOf (cells_told (g.D.Store.told c.args.store.now)) t.cached)
    (sym c.self.view_is) c.requires

pub returns-in_err-follow-clause-cached : goal.returns-in_err-follow-clause-cached
returns-in_err-follow-clause-cached g c =
    subst (λ (t : TreeLogValue). AreOf (cells_told (g.D.Store.told c.args.store.now)) t.cached)
    (sym c.self.view_is) c.requires

pub returns-in_err-objects-clause-cached : goal.returns-in_err-objects-clause-cached
returns-in_err-objects-clause-cached g c cells is =
    c.objects_over.new.under.are cells (search (rules, is))

pub returns-clause-cached : goal.returns-clause-cached
returns-clause-cached g c cells is = c.objects_over.new.under.are cells (search (rules, is))

pub returns-clause-list : goal.returns-clause-list
returns-clause-list g c list h =
    let log = c.self.inside.log in
    let told = g.D.Store.told c.args.store.now in
    let here : HoldsTree list log.cp log told =
    subst (λ (t : TreeLogValue). HoldsTree list t.log.cp t.log told) (sym c.self.view_is) h in
    let held = cells_over log.base (changes_in log.records) log.cp here.behind.cells in
    let is : told_over log.base (changes_in log.records) log.cp (cells_told told) ≡ Some held =
    ap (told_over log.base (changes_in log.records) log.cp) here.behind.told_is in
    let found : c.in_ok-objects.objects ≡ tree_listed (tree_after (take log.cp list)) =
    c.in_ok-objects.ensures.objects held (take log.cp list) (search (rules, is))
    (stands_at list log.cp log told c.cp-cp.ensures.order here c.cp-cp.ensures.order.cp) in
    subst (λ (t : TreeLogValue). c.in_ok-objects.objects
    ≡ tree_listed (tree_after (take t.log.cp list))) c.self.view_is found
