use Rattle.std.proofs.Common.{◌≡◌, sym, ap, ◌∙◌, subst}
use Rattle.std.specs.Prelude.{IfOk}
use Rattle.cell_cache.specs.Entries.{AreOf}
use Rattle.group_rules.specs.Names.{view_of}
use Rattle.harp_types.specs.View.{View}
use Rattle.harp_store.specs.Disk.{cells_told}
use Rattle.tree_log.specs.Planning.{next_record}
use Rattle.tree_log.specs.Reading.{HoldsTree}
use Rattle.tree_log.proofs.Holding.{widened}
use Rattle.view_form.proofs.Views.{view_back}
use Rattle.replica.specs.Leading.{Leading}
use Rattle.volatile_log.specs.Log.{top}
use Rattle.replica.proofs.leader.Leader.next_record.Goals as goal

pub next_record-requires-clause-cached : goal.next_record-requires-clause-cached
next_record-requires-clause-cached g c =
    subst (λ (l : Leading). AreOf (cells_told (g.D.Store.told c.args.store.now)) l.cached)
    (sym c.self.view_is) c.requires.cached

pub returns-clause-record : goal.returns-clause-record
returns-clause-record g c list h =
    let told = g.D.Store.told c.args.store.now in
    let log = c.self.inside.log.log in
    let here : HoldsTree list log.cp log told =
    subst (λ (l : Leading). HoldsTree list l.log.cp l.log told) (sym c.self.view_is) h in
    let stamped : view_of c.args.self.now.view ≡ c.self.inside.view =
    ap (λ (l : Leading). view_of l.view) (sym c.self.view_is) ∙ view_back c.self.inside.view in
    subst (λ (v : View). IfOk c.next_record.result (λ r. r
    ≡ next_record v c.args.now list c.args.asker.client c.args.asker.number c.args.asker.cred
    c.args.call.now)) (sym stamped)
    (c.next_record.ensures.record list
    (widened list log.cp (top log) log told c.top.ensures.order.cp here))
