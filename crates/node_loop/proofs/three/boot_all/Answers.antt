use Rattle.std.proofs.Common.{rules, arith}
use Rattle.harp_types.specs.declared.server.ServerId.TheVariants.{Zero, One, Two}
use Rattle.node_loop.specs.Scene.{each}
use Rattle.node_loop.proofs.Results.{on_err}
use Rattle.node_loop.proofs.Scenes.{are-up, boot-first, boot-second, boot-third, boots-three, none-fell}
use Rattle.node_loop.proofs.three.boot_all.Goals as goal

pub returns-in_err-zero-clause-disk_rose : goal.returns-in_err-zero-clause-disk_rose
returns-in_err-zero-clause-disk_rose g c = λ is. (Zero, search (rules, is))

pub returns-in_err-zero-clause-disk_count : goal.returns-in_err-zero-clause-disk_count
returns-in_err-zero-clause-disk_count g c =
    let old = each g.D.Store.faults c.args.stores.now in
    none-fell old
    (record { zero = g.D.Store.faults c.boot.new.store; one = old.one; two = old.two })
    c.boot.ensures.count (omega arith) (omega arith)

pub returns-in_err-one-clause-disk_count : goal.returns-in_err-one-clause-disk_count
returns-in_err-one-clause-disk_count g c =
    let old = each g.D.Store.faults c.args.stores.now in
    none-fell old (record {
      zero = g.D.Store.faults c.boot.new.store;
      one = g.D.Store.faults c.boot-2.new.store;
      two = old.two;
    })
    c.boot.ensures.count c.boot-2.ensures.count (omega arith)

pub returns-in_err-two-clause-disk_count : goal.returns-in_err-two-clause-disk_count
returns-in_err-two-clause-disk_count g c =
    none-fell (each g.D.Store.faults c.args.stores.now) (each g.D.Store.faults
    (record { zero = c.boot.new.store; one = c.boot-2.new.store; two = c.boot-3.new.store }))
    c.boot.ensures.count c.boot-2.ensures.count c.boot-3.ensures.count

pub returns-in_err-one-clause-disk_rose : goal.returns-in_err-one-clause-disk_rose
returns-in_err-one-clause-disk_rose g c = λ is. (One, search (rules, is))

pub returns-in_err-two-clause-disk_rose : goal.returns-in_err-two-clause-disk_rose
returns-in_err-two-clause-disk_rose g c = λ is. (Two, search (rules, is))

pub returns-clause-boots : goal.returns-clause-boots
returns-clause-boots g c = λ link.
    boots-three c.args.delta
    (record { zero = c.in_ok-zero.zero; one = c.in_ok-one.one; two = c.in_ok-two.two })
    (each g.D.Store.told c.args.stores.now) (each g.D.Store.told
    (record { zero = c.boot.new.store; one = c.boot-2.new.store; two = c.boot-3.new.store }))
    link (g.C.Clock.told c.args.clock.now) (g.C.Clock.told c.boot.new.clock)
    (g.C.Clock.told c.boot-2.new.clock) (g.C.Clock.told c.boot-3.new.clock) c.new-ledger.result
    c.new-ledger.ensures.counts c.new-ledger.ensures.heard
    c.in_ok-zero.ensures.boots c.in_ok-one.ensures.boots c.in_ok-two.ensures.boots

pub returns-clause-up : goal.returns-clause-up
returns-clause-up g c =
    are-up (record { zero = c.in_ok-zero.zero; one = c.in_ok-one.one; two = c.in_ok-two.two })
    (each g.D.Store.told
    (record { zero = c.boot.new.store; one = c.boot-2.new.store; two = c.boot-3.new.store }))
    c.in_ok-zero.ensures.up c.in_ok-one.ensures.up c.in_ok-two.ensures.up

pub returns-clause-disk_count : goal.returns-clause-disk_count
returns-clause-disk_count g c =
    none-fell (each g.D.Store.faults c.args.stores.now) (each g.D.Store.faults
    (record { zero = c.boot.new.store; one = c.boot-2.new.store; two = c.boot-3.new.store }))
    c.boot.ensures.count c.boot-2.ensures.count c.boot-3.ensures.count

pub returns-in_err-zero-clause-part : goal.returns-in_err-zero-clause-part
returns-in_err-zero-clause-part g c = λ link.
    on_err c.from_residual.result
    (boot-first c.args.delta (each g.D.Store.told c.args.stores.now) link
    (g.C.Clock.told c.args.clock.now) (g.D.Store.told c.boot.new.store)
    (g.C.Clock.told c.boot.new.clock) c.in_err-zero.ensures.part)

pub returns-in_err-one-clause-part : goal.returns-in_err-one-clause-part
returns-in_err-one-clause-part g c = λ link.
    on_err c.from_residual-in_err-one.result
    (boot-second c.args.delta (each g.D.Store.told c.args.stores.now) link
    (g.C.Clock.told c.args.clock.now) c.in_ok-zero.zero (g.D.Store.told c.boot.new.store)
    (g.C.Clock.told c.boot.new.clock) c.in_ok-zero.ensures.boots
    (g.D.Store.told c.boot-2.new.store) (g.C.Clock.told c.boot-2.new.clock)
    c.in_err-one.ensures.part)

pub returns-in_err-two-clause-part : goal.returns-in_err-two-clause-part
returns-in_err-two-clause-part g c = λ link.
    on_err c.from_residual-in_err-two.result
    (boot-third c.args.delta (each g.D.Store.told c.args.stores.now) link
    (g.C.Clock.told c.args.clock.now) c.in_ok-zero.zero (g.D.Store.told c.boot.new.store)
    (g.C.Clock.told c.boot.new.clock) c.in_ok-zero.ensures.boots
    c.in_ok-one.one (g.D.Store.told c.boot-2.new.store) (g.C.Clock.told c.boot-2.new.clock)
    c.in_ok-one.ensures.boots (g.D.Store.told c.boot-3.new.store)
    (g.C.Clock.told c.boot-3.new.clock) c.in_err-two.ensures.part)
