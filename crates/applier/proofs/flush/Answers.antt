use Rattle.std.proofs.Common.{inr, subst}
use Rattle.harp_store.specs.Mark.{MarkFields}
use Rattle.applier.specs.Applied.{FlushesInPart, lower}
use Rattle.applier.proofs.Flushes.{marked_part, synced_part}
use Rattle.applier.proofs.Fuzzy.{flush_marked, flush_synced, mark_reads, sync_reads}
use Rattle.applier.proofs.flush.Goals as goal

pub returns-in_err-sync-clause-fuzzy : goal.returns-in_err-sync-clause-fuzzy
returns-in_err-sync-clause-fuzzy g c = λ history m h told here fuzzy.
    flush_synced history c.args.ap m h c.args.mark.now here fuzzy
    (g.D.Store.told c.args.store.now) (g.D.Store.told c.sync.new.self) told
    c.in_err-sync.ensures.part

pub returns-in_err-write_mark-clause-fuzzy : goal.returns-in_err-write_mark-clause-fuzzy
returns-in_err-write_mark-clause-fuzzy g c = λ history m h told here fuzzy.
    flush_marked history c.args.ap m h c.args.mark.now here fuzzy
    c.with_lb-lowered.result c.with_lb-lowered.ensures
    (g.D.Store.told c.args.store.now) (g.D.Store.told c.sync.new.self)
    (g.D.Store.told c.write_mark.new.self) told c.in_ok-sync.ensures.synced
    c.in_err-write_mark.ensures.part

pub returns-clause-fuzzy : goal.returns-clause-fuzzy
returns-clause-fuzzy g c = λ history m h told here fuzzy.
    flush_marked history c.args.ap m h c.args.mark.now here fuzzy
    c.with_lb-lowered.result c.with_lb-lowered.ensures
    (g.D.Store.told c.args.store.now) (g.D.Store.told c.sync.new.self)
    (g.D.Store.told c.write_mark.new.self) told c.in_ok-sync.ensures.synced
    (inr c.in_ok-write_mark.ensures.written)

pub returns-in_err-sync-clause-cells : goal.returns-in_err-sync-clause-cells
returns-in_err-sync-clause-cells g c =
    sync_reads (g.D.Store.told c.args.store.now) (g.D.Store.told c.sync.new.self)
    c.in_err-sync.ensures.part

pub returns-in_err-write_mark-clause-cells : goal.returns-in_err-write_mark-clause-cells
returns-in_err-write_mark-clause-cells g c =
    mark_reads c.with_lb-lowered.result (g.D.Store.told c.args.store.now)
    (g.D.Store.told c.sync.new.self) (g.D.Store.told c.write_mark.new.self)
    c.in_ok-sync.ensures.synced c.in_err-write_mark.ensures.part

pub returns-clause-cells : goal.returns-clause-cells
returns-clause-cells g c =
    mark_reads c.with_lb-lowered.result (g.D.Store.told c.args.store.now)
    (g.D.Store.told c.sync.new.self) (g.D.Store.told c.write_mark.new.self)
    c.in_ok-sync.ensures.synced (inr c.in_ok-write_mark.ensures.written)

pub returns-in_err-sync-clause-part : goal.returns-in_err-sync-clause-part
returns-in_err-sync-clause-part g c =
    synced_part (lower c.args.ap c.args.mark.now) (g.D.Store.told c.args.store.now)
    (g.D.Store.told c.sync.new.self) c.in_err-sync.ensures.part

pub returns-in_err-write_mark-clause-part : goal.returns-in_err-write_mark-clause-part
returns-in_err-write_mark-clause-part g c =
    subst (λ (m : MarkFields). FlushesInPart m (g.D.Store.told c.args.store.now)
    (g.D.Store.told c.write_mark.new.self)) c.with_lb-lowered.ensures
    (marked_part c.with_lb-lowered.result (g.D.Store.told c.args.store.now)
    (g.D.Store.told c.sync.new.self) (g.D.Store.told c.write_mark.new.self)
    c.in_ok-sync.ensures.synced c.in_err-write_mark.ensures.part)

pub returns-clause-part : goal.returns-clause-part
returns-clause-part g c =
    subst (λ (m : MarkFields). FlushesInPart m (g.D.Store.told c.args.store.now)
    (g.D.Store.told c.write_mark.new.self)) c.with_lb-lowered.ensures
    (marked_part c.with_lb-lowered.result (g.D.Store.told c.args.store.now)
    (g.D.Store.told c.sync.new.self) (g.D.Store.told c.write_mark.new.self)
    c.in_ok-sync.ensures.synced (inr c.in_ok-write_mark.ensures.written))
