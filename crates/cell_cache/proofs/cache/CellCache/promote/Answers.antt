use Rattle.std.proofs.Common.{sym, ◌∙◌, ap, subst}
use Rattle.lru.specs.LruCache.{promoted}
use Rattle.cell_cache.specs.Entries.{AreOf, IsUsed, Kept, has_entry}
use Rattle.cell_cache.proofs.Blocks.{promoted_up_to}
use Rattle.cell_cache.proofs.Keeping.{equal, has_by_test, newest_reads, promote_still, promote_used, promoted_are, record_of}
use Rattle.cell_cache.proofs.cache.CellCache.promote.Goals as goal

pub returns-clause-value : goal.returns-clause-value
returns-clause-value c = c.promote.ensures.value ∙ has_by_test c.args.cell c.self.inside.entries.entries
    ∙ ap (λ (k : Kept). has_entry c.args.cell k.entries) c.self.view_is

pub returns-clause-found : goal.returns-clause-found
returns-clause-found c is told are =
    let inside = subst (λ (k : Kept). AreOf told k.entries) (sym c.self.view_is) are in
    rw c.promote.ensures.entries (newest_reads told c.args.cell _ (sym c.promote.ensures.value ∙ is) inside)

pub returns-clause-used : goal.returns-clause-used
returns-clause-used c is =
    rw c.promote.ensures.entries
    (subst (λ (k : Kept). IsUsed c.args.cell k (record_of (promoted (equal c.args.cell) c.self.inside.entries.entries) c.self.inside.entries.cap)) c.self.view_is
    (promote_used c.args.cell c.self.inside.entries.entries c.self.inside.entries.cap (sym c.promote.ensures.value ∙ is)))

pub returns-clause-kept : goal.returns-clause-kept
returns-clause-kept c told are =
    let inside = subst (λ (k : Kept). AreOf told k.entries) (sym c.self.view_is) are in
    rw c.promote.ensures.entries (promoted_are told c.args.cell _ inside)

pub returns-clause-still : goal.returns-clause-still
returns-clause-still c is =
    rw c.promote.ensures.entries
    (ap (λ l. record_of l c.self.inside.entries.cap)
    (promote_still c.args.cell c.self.inside.entries.entries (sym c.promote.ensures.value ∙ is)) ∙ c.self.view_is)

pub invariant_of-self : goal.invariant_of-self
invariant_of-self c =
    rw c.promote.ensures.entries
    (promoted_up_to c.self.inside.last_block c.args.cell c.self.inside.entries.entries
    c.self.invariant)
