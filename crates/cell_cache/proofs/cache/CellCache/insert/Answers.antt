use Rattle.std.proofs.Common.{◌≡◌, false, sym, subst}
use Rattle.lru.specs.LruCache.{put_entries}
use Rattle.cell_cache.specs.Entries.{AreOf, IsUsed, Kept, has_entry}
use Rattle.cell_cache.proofs.Blocks.{put_up_to}
use Rattle.cell_cache.proofs.Keeping.{equal, put_are, put_used, record_of}
use Rattle.cell_cache.proofs.cache.CellCache.insert.Goals as goal

pub returns-in_err-put-clause-kept : goal.returns-in_err-put-clause-kept
returns-in_err-put-clause-kept c told are reads =
    rw c.in_err-put.ensures.err (subst (λ (k : Kept). AreOf told k.entries) (sym c.self.view_is) are)

pub returns-clause-used : goal.returns-clause-used
returns-clause-used c =
    let none = subst (λ (k : Kept). has_entry c.args.cell k.entries ≡ false) (sym c.self.view_is) c.requires in
    rw c.in_ok-put.ensures.entries
    (subst (λ (k : Kept). IsUsed c.args.cell k (record_of (put_entries equal c.self.inside.entries c.args.cell c.args.value) c.self.inside.entries.cap)) c.self.view_is
    (put_used c.args.cell c.args.value c.self.inside.entries none))

pub returns-clause-kept : goal.returns-clause-kept
returns-clause-kept c told are reads =
    let inside = subst (λ (k : Kept). AreOf told k.entries) (sym c.self.view_is) are in
    rw c.in_ok-put.ensures.entries (put_are told c.args.cell c.args.value _ inside reads)

pub invariant_of-self : goal.invariant_of-self
invariant_of-self c = rw c.in_err-put.ensures.err c.self.invariant

pub invariant_of-self-2 : goal.invariant_of-self-2
invariant_of-self-2 c =
    let more = c.greater_block-self-inside in
    rw c.in_ok-put.ensures.entries
    (put_up_to c.self.inside.last_block more.result c.args.cell c.args.value
    c.self.inside.entries c.self.invariant
    more.ensures.number more.ensures.cell)
