use Rattle.std.proofs.Common.{◌+◌, arith, subst, sym}
use Rattle.node_loop.specs.Cut.{spot_left}
use Rattle.node_loop.specs.Orders.{Answered, noes}
use Rattle.node_loop.specs.Scene.{alone, spot}
use Rattle.node_loop.specs.Stay.{ShowsRuns}
use Rattle.node_loop.specs.Watch.{ShowsBehind, state_shown}
use Rattle.node_loop.proofs.Tellings.{Asks, answered-none, few-more, goes-on, stops-here}
use Rattle.node_loop.proofs.Watchings.{runs-none, runs-on, stops-on}
use Rattle.node_loop.proofs.staying.turns_until.Goals as goal

pub loop-taken-init : goal.loop-taken-init
loop-taken-init g c =
    let outside = c.args.outside.now in
    let told = g.O.Orders.told outside.orders in
    let before = spot c.args.running.now (g.D.Store.told outside.disk)
    (g.L.Link.told outside.link) (g.C.Clock.told outside.clock) c.args.ledger.now in
    record {
      shown = c.state_shown-shown.ensures;
      runs = runs-none c.args.me before (g.W.Watcher.told outside.watcher);
      up = c.requires.up;
      few = omega (arith, c.requires.new);
      answers = subst (λ n. Answered (noes n) told told) (sym c.requires.new)
          (answered-none told);
      link_count = omega arith;
      disk_count = omega arith;
    }

pub loop-taken-preserved : goal.loop-taken-preserved
loop-taken-preserved g c =
    let me = c.args.me in
    let first = c.args.outside.now in
    let last = c.loop-taken.outside in
    let before = spot c.args.running.now (g.D.Store.told first.disk)
    (g.L.Link.told first.link) (g.C.Clock.told first.clock) c.args.ledger.now in
    let here = spot c.loop-taken.running (g.D.Store.told last.disk)
    (g.L.Link.told last.link) (g.C.Clock.told last.clock) c.loop-taken.ledger in
    let next = spot c.turn_to.new.running (g.D.Store.told c.turn_to.new.store)
    (g.L.Link.told c.turn_to.new.link) (g.C.Clock.told c.turn_to.new.clock)
    c.turn_to.new.ledger in
    record {
      shown = c.show_new-shown.ensures.state;
      runs = subst (λ k. ShowsRuns me (c.loop-taken.taken + 1) (alone me before) (alone me next)
          k (g.W.Watcher.told first.watcher) (g.W.Watcher.told c.show_new-shown.new.watcher))
          (sym c.with_end-dropped.ensures)
          (runs-on me c.loop-taken.taken c.loop-taken.dropped c.in-Ok.end before here next
          (g.W.Watcher.told first.watcher) (g.W.Watcher.told last.watcher)
          (g.W.Watcher.told c.show_new-shown.new.watcher) c.loop-taken.invariant.runs
          c.in-Ok.ensures.turns
          (subst (λ s. ShowsBehind me c.in-Ok.end.now s (state_shown next.server.node)
          (g.W.Watcher.told last.watcher) (g.W.Watcher.told c.show_new-shown.new.watcher))
          c.loop-taken.invariant.shown c.show_new-shown.ensures.shows));
      up = c.in-Ok.ensures.up;
      few = few-more me here next c.loop-taken.taken c.in-Ok.ensures.turns.turns
          c.loop-taken.invariant.few;
      answers = goes-on me here next c.is_over.result (g.O.Orders.told first.orders)
          (g.O.Orders.told last.orders) (g.O.Orders.told c.is_over.new.orders)
          c.in-Ok.ensures.turns.turns (omega arith) (subst (λ t. Asks t next.server.pace.ticks
          c.is_over.result (g.O.Orders.told last.orders)
          (g.O.Orders.told c.is_over.new.orders)) c.ticks-ticks.ensures
          (record { quiet = c.is_over.ensures.quiet; asked = c.is_over.ensures.asked }))
          c.if-is_over.false c.loop-taken.invariant.answers;
      link_count = omega (arith, c.loop-taken.invariant.link_count, c.in-Ok.ensures.link_count);
      disk_count = omega (arith, c.loop-taken.invariant.disk_count, c.in-Ok.ensures.disk_count);
    }

pub returns-in-Err-clause-part : goal.returns-in-Err-clause-part
returns-in-Err-clause-part g c =
    let me = c.args.me in
    let first = c.args.outside.now in
    let last = c.loop-taken.outside in
    let before = spot c.args.running.now (g.D.Store.told first.disk)
    (g.L.Link.told first.link) (g.C.Clock.told first.clock) c.args.ledger.now in
    let here = spot c.loop-taken.running (g.D.Store.told last.disk)
    (g.L.Link.told last.link) (g.C.Clock.told last.clock) c.loop-taken.ledger in
    let at = spot_left (g.D.Store.told c.turn_to.new.store) (g.L.Link.told c.turn_to.new.link)
    (g.C.Clock.told c.turn_to.new.clock) in
    stops-on me c.loop-taken.taken c.loop-taken.dropped c.args.most before here at (g.W.Watcher.told first.watcher)
    (g.W.Watcher.told last.watcher) (omega arith) c.loop-taken.invariant.runs
    c.in-Err.ensures.part

pub returns-then-is_over-clause-turns : goal.returns-then-is_over-clause-turns
returns-then-is_over-clause-turns g c =
    let me = c.args.me in
    let first = c.args.outside.now in
    let last = c.loop-taken.outside in
    let before = spot c.args.running.now (g.D.Store.told first.disk)
    (g.L.Link.told first.link) (g.C.Clock.told first.clock) c.args.ledger.now in
    let here = spot c.loop-taken.running (g.D.Store.told last.disk)
    (g.L.Link.told last.link) (g.C.Clock.told last.clock) c.loop-taken.ledger in
    let next = spot c.turn_to.new.running (g.D.Store.told c.turn_to.new.store)
    (g.L.Link.told c.turn_to.new.link) (g.C.Clock.told c.turn_to.new.clock)
    c.turn_to.new.ledger in (
      omega arith,
      stops-here me here next c.is_over.result (g.O.Orders.told first.orders)
          (g.O.Orders.told last.orders) (g.O.Orders.told c.is_over.new.orders)
          (c.loop-taken.taken + 1) c.args.most c.in-Ok.ensures.turns.turns (omega arith)
          (subst (λ t. Asks t next.server.pace.ticks c.is_over.result
          (g.O.Orders.told last.orders) (g.O.Orders.told c.is_over.new.orders))
          c.ticks-ticks.ensures
          (record { quiet = c.is_over.ensures.quiet; asked = c.is_over.ensures.asked }))
          c.if-is_over.true c.loop-taken.invariant.answers,
      subst (λ k. ShowsRuns me (c.loop-taken.taken + 1) (alone me before) (alone me next)
          k (g.W.Watcher.told first.watcher) (g.W.Watcher.told c.show_new-shown.new.watcher))
          (sym c.with_end-dropped.ensures)
          (runs-on me c.loop-taken.taken c.loop-taken.dropped c.in-Ok.end before here next
          (g.W.Watcher.told first.watcher) (g.W.Watcher.told last.watcher)
          (g.W.Watcher.told c.show_new-shown.new.watcher) c.loop-taken.invariant.runs
          c.in-Ok.ensures.turns
          (subst (λ s. ShowsBehind me c.in-Ok.end.now s (state_shown next.server.node)
          (g.W.Watcher.told last.watcher) (g.W.Watcher.told c.show_new-shown.new.watcher))
          c.loop-taken.invariant.shown c.show_new-shown.ensures.shows)),
    )
