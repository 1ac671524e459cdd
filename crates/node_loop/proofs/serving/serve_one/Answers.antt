use Rattle.std.proofs.Common.{◌∷◌, [], ap, inl, inr, refl, subst}
use Rattle.node_loop.specs.Chain.{Chain, Stops}
use Rattle.node_loop.specs.Cut.{BootsAtInPart}
use Rattle.node_loop.specs.Run.{BootsAt}
use Rattle.node_loop.specs.declared.habit.Habit.TheVariants.{Plain}
use Rattle.node_loop.specs.Scene.{alone, around, only, spot, start}
use Rattle.node_loop.proofs.Results.{on_err}
use Rattle.node_loop.proofs.Scenes.{boots-alone, boots-in-part}
use Rattle.node_loop.proofs.serving.serve_one.Goals as goal

pub returns-in_err-open-clause-cut : goal.returns-in_err-open-clause-cut
returns-in_err-open-clause-cut g c =
    let disk = only c.args.me (g.D.Store.told c.args.store.now) in
    let clock = g.C.Clock.told c.args.clock.now in
    on_err c.from_residual.result (inl (inl (ap (λ l. around disk l clock) c.open.ensures.kept)))

pub returns-in_err-running-clause-cut : goal.returns-in_err-running-clause-cut
returns-in_err-running-clause-cut g c =
    let me = c.args.me in
    let delta = c.args.delta in
    let old = g.D.Store.told c.args.store.now in
    let before = g.C.Clock.told c.args.clock.now in
    let link = g.L.Link.told c.open.new.link in
    let new = g.D.Store.told c.boot.new.store in
    let after = g.C.Clock.told c.boot.new.clock in
    on_err c.from_residual-in_err-running.result (inl (inr
    (subst (λ l. Stops (BootsAt delta) (BootsAtInPart delta) (me ∷ [])
    (start (only me old) l before) (around (only me new) link after)) c.open.ensures.kept
    (boots-in-part Plain delta me old new link before after c.in_err-running.ensures.part))))

pub returns-in_err-turns_alone-clause-cut : goal.returns-in_err-turns_alone-clause-cut
returns-in_err-turns_alone-clause-cut g c =
    let me = c.args.me in
    let delta = c.args.delta in
    let old = g.D.Store.told c.args.store.now in
    let before = g.C.Clock.told c.args.clock.now in
    let link = g.L.Link.told c.open.new.link in
    let r = c.in_ok-running.running in
    let new = g.D.Store.told c.boot.new.store in
    let after = g.C.Clock.told c.boot.new.clock in
    let k = c.new-ledger.result in
    let booted = alone me (spot r new link after k) in
    on_err c.from_residual-in_err-turns_alone.result (inr (
      booted,
      subst (λ l. Chain (BootsAt delta) (me ∷ []) (start (only me old) l before) booted)
          c.open.ensures.kept
          (boots-alone Plain delta me r old new link before after k c.new-ledger.ensures.counts
          c.new-ledger.ensures.heard c.in_ok-running.ensures.boots),
      c.in_err-turns_alone.ensures.part,
    ))

pub returns-clause-run : goal.returns-clause-run
returns-clause-run g c =
    let me = c.args.me in
    let delta = c.args.delta in
    let old = g.D.Store.told c.args.store.now in
    let before = g.C.Clock.told c.args.clock.now in
    let link = g.L.Link.told c.open.new.link in
    let r = c.in_ok-running.running in
    let new = g.D.Store.told c.boot.new.store in
    let after = g.C.Clock.told c.boot.new.clock in
    let k = c.new-ledger.result in
    let booted = alone me (spot r new link after k) in
    record {
      booted = booted;
      end = alone me (spot c.turns_alone.new.running (g.D.Store.told c.turns_alone.new.store)
          (g.L.Link.told c.turns_alone.new.link) (g.C.Clock.told c.turns_alone.new.clock)
          c.turns_alone.new.ledger);
      boots = subst (λ l. Chain (BootsAt delta) (me ∷ []) (start (only me old) l before) booted)
          c.open.ensures.kept
          (boots-alone Plain delta me r old new link before after k c.new-ledger.ensures.counts
          c.new-ledger.ensures.heard c.in_ok-running.ensures.boots);
      turned = c.in_ok-turns_alone.ensures.turns;
      disks_are = refl;
      link_is = refl;
      clock_is = refl;
      served_is = refl;
    }
