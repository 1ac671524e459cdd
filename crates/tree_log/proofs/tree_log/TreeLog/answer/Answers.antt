use Rattle.std.proofs.Common.{rules, ◌≡◌, Some, sym, take, ap, subst}
use Rattle.std.specs.Prelude.{IfOk}
use Rattle.cell_cache.specs.Entries.{AreOf}
use Rattle.file_tree.specs.Book.{tree_after}
use Rattle.file_tree.specs.Calls.{outcome}
use Rattle.harp_store.specs.Disk.{cells_told}
use Rattle.overlay.specs.Overlay.{cells_over, told_over}
use Rattle.tree_log.specs.Reading.{HoldsTree}
use Rattle.tree_log.specs.TreeLog.{TreeLogValue, changes_in}
use Rattle.tree_log.proofs.Holding.{stands_at}
use Rattle.tree_log.proofs.tree_log.TreeLog.answer.Goals as goal

pub new-cached-requires : goal.new-cached-requires
new-cached-requires g c =
    subst (λ (t : TreeLogValue). AreOf (cells_told (g.D.Store.told c.args.store.now)) t.cached)
    (sym c.self.view_is) c.requires.cached

pub returns-in_err-follow-clause-cached : goal.returns-in_err-follow-clause-cached
returns-in_err-follow-clause-cached g c =
    subst (λ (t : TreeLogValue). AreOf (cells_told (g.D.Store.told c.args.store.now)) t.cached)
    (sym c.self.view_is) c.requires.cached

pub returns-clause-cached : goal.returns-clause-cached
returns-clause-cached g c cells is = c.answer_over.new.under.are cells (search (rules, is))

pub returns-clause-reply : goal.returns-clause-reply
returns-clause-reply g c list h =
    let log = c.self.inside.log in
    let told = g.D.Store.told c.args.store.now in
    let here : HoldsTree list log.cp log told =
    subst (λ (t : TreeLogValue). HoldsTree list t.log.cp t.log told) (sym c.self.view_is) h in
    let held = cells_over log.base (changes_in log.records) log.cp here.behind.cells in
    let is : told_over log.base (changes_in log.records) log.cp (cells_told told) ≡ Some held =
    ap (told_over log.base (changes_in log.records) log.cp) here.behind.told_is in
    let found : IfOk c.answer_over.result (λ reply. reply
    ≡ (outcome (tree_after (take log.cp list)) c.args.cred c.args.call.now 0).0) =
    c.answer_over.ensures.reply held (take log.cp list) (search (rules, is))
    (stands_at list log.cp log told c.top.ensures.order here c.top.ensures.order.cp) in
    subst (λ (t : TreeLogValue). IfOk c.answer_over.result (λ reply. reply
    ≡ (outcome (tree_after (take t.log.cp list)) c.args.cred c.args.call.now 0).0))
    c.self.view_is found
