use Rattle.std.proofs.Common.{◌∷◌, [], ap, inl, inr, refl, subst}
use Rattle.node_loop.specs.declared.habit.Habit.TheVariants.{Steady}
use Rattle.node_loop.specs.Chain.{Chain, Stops}
use Rattle.node_loop.specs.Cut.{BootsAtInPart}
use Rattle.node_loop.specs.Run.{BootsWith}
use Rattle.node_loop.specs.Scene.{alone, around, only, spot, start}
use Rattle.node_loop.specs.Watch.{sight}
use Rattle.node_loop.proofs.Results.{on_err}
use Rattle.node_loop.proofs.Scenes.{boots-alone, boots-in-part}
use Rattle.node_loop.proofs.Stays.{disks-left, gone, save-part, saves-alone}
use Rattle.node_loop.proofs.Watchings.{server-alone, showed-then}
use Rattle.node_loop.proofs.staying.serve_steady.Goals as goal

pub returns-in_err-open-clause-cut : goal.returns-in_err-open-clause-cut
returns-in_err-open-clause-cut g c =
    let outside = c.args.outside.now in
    let disk = only c.args.me (g.D.Store.told outside.disk) in
    let clock = g.C.Clock.told outside.clock in
    on_err c.from_residual.result (inl (record {
      left = inl (ap (λ l. around disk l clock) c.open.ensures.kept);
      silent = refl;
    }))

pub returns-in_err-running-clause-cut : goal.returns-in_err-running-clause-cut
returns-in_err-running-clause-cut g c =
    let me = c.args.me in
    let delta = c.args.delta in
    let outside = c.args.outside.now in
    let old = g.D.Store.told outside.disk in
    let before = g.C.Clock.told outside.clock in
    let link = g.L.Link.told c.open.new.link in
    let new = g.D.Store.told c.boot.new.store in
    let after = g.C.Clock.told c.boot.new.clock in
    on_err c.from_residual-in_err-running.result (inl (record {
      left = inr (subst (λ l. Stops (BootsWith Steady delta) (BootsAtInPart delta) (me ∷ [])
          (start (only me old) l before) (around (only me new) link after)) c.open.ensures.kept
          (boots-in-part Steady delta me old new link before after
          c.in_err-running.ensures.part));
      silent = refl;
    }))

pub returns-in_err-took-clause-cut : goal.returns-in_err-took-clause-cut
returns-in_err-took-clause-cut g c =
    let me = c.args.me in
    let delta = c.args.delta in
    let outside = c.args.outside.now in
    let old = g.D.Store.told outside.disk in
    let before = g.C.Clock.told outside.clock in
    let link = g.L.Link.told c.open.new.link in
    let r = c.in_ok-running.running in
    let new = g.D.Store.told c.boot.new.store in
    let after = g.C.Clock.told c.boot.new.clock in
    let k = c.new-ledger.result in
    let booted = alone me (spot r new link after k) in
    let shown = c.in_err-took.ensures.part in
    on_err c.from_residual-in_err-took.result (inr (inl (record {
      booted = booted;
      server = r;
      sights = shown.0;
      begun = record {
        boots = subst (λ l. Chain (BootsWith Steady delta) (me ∷ [])
            (start (only me old) l before) booted)
            c.open.ensures.kept
            (boots-alone Steady delta me r old new link before after k
            c.new-ledger.ensures.counts c.new-ledger.ensures.heard
            c.in_ok-running.ensures.boots);
        stands = server-alone me (spot r new link after k);
      };
      stops = shown.1;
      showed = showed-then (sight me r.pace.due r.node ∷ []) shown.0
          (g.W.Watcher.told outside.watcher) (g.W.Watcher.told c.show_first.new.watcher)
          (g.W.Watcher.told c.turns_until.new.outside.watcher) c.show_first.ensures shown.2;
    })))

pub returns-clause-run : goal.returns-clause-run
returns-clause-run g c =
    let me = c.args.me in
    let delta = c.args.delta in
    let outside = c.args.outside.now in
    let old = g.D.Store.told outside.disk in
    let before = g.C.Clock.told outside.clock in
    let link = g.L.Link.told c.open.new.link in
    let r = c.in_ok-running.running in
    let new = g.D.Store.told c.boot.new.store in
    let after = g.C.Clock.told c.boot.new.clock in
    let k = c.new-ledger.result in
    let booted = alone me (spot r new link after k) in
    let last = c.turns_until.new.outside in
    let ran = spot c.turns_until.new.running (g.D.Store.told last.disk)
    (g.L.Link.told last.link) (g.C.Clock.told last.clock) c.turns_until.new.ledger in
    let disk = g.D.Store.told c.save_log.new.store in
    let shown = c.in_ok-took.ensures.turns.2 in
    record {
      ran = alone me ran;
      end = gone me ran disk;
      server = c.turns_until.new.running;
      runs = record {
        booted = booted;
        server = r;
        sights = shown.0;
        begun = record {
          boots = subst (λ l. Chain (BootsWith Steady delta) (me ∷ [])
              (start (only me old) l before) booted)
              c.open.ensures.kept
              (boots-alone Steady delta me r old new link before after k
              c.new-ledger.ensures.counts c.new-ledger.ensures.heard
              c.in_ok-running.ensures.boots);
          stands = server-alone me (spot r new link after k);
        };
        runs = shown.1;
        within = c.in_ok-took.ensures.turns.0;
        showed = showed-then (sight me r.pace.due r.node ∷ []) shown.0
            (g.W.Watcher.told outside.watcher) (g.W.Watcher.told c.show_first.new.watcher)
            (g.W.Watcher.told last.watcher) c.show_first.ensures shown.2;
      };
      saves = saves-alone me ran disk c.in_ok-save_log.ensures.saves;
      told = c.in_ok-took.ensures.turns.1;
      around_is = ap (λ d. around d (g.L.Link.told last.link) (g.C.Clock.told last.clock))
          (disks-left me ran disk);
      taken_is = refl;
      sent_is = refl;
      unsent_is = c.unsent.ensures;
    }

pub returns-in_err-save_log-clause-cut : goal.returns-in_err-save_log-clause-cut
returns-in_err-save_log-clause-cut g c =
    let me = c.args.me in
    let delta = c.args.delta in
    let outside = c.args.outside.now in
    let old = g.D.Store.told outside.disk in
    let before = g.C.Clock.told outside.clock in
    let link = g.L.Link.told c.open.new.link in
    let r = c.in_ok-running.running in
    let new = g.D.Store.told c.boot.new.store in
    let after = g.C.Clock.told c.boot.new.clock in
    let k = c.new-ledger.result in
    let booted = alone me (spot r new link after k) in
    let last = c.turns_until.new.outside in
    let ran = spot c.turns_until.new.running (g.D.Store.told last.disk)
    (g.L.Link.told last.link) (g.C.Clock.told last.clock) c.turns_until.new.ledger in
    let disk = g.D.Store.told c.save_log.new.store in
    let shown = c.in_ok-took.ensures.turns.2 in
    on_err c.from_residual-in_err-save_log.result (inr (inr (record {
      turns = c.in_ok-took.took.turns;
      dropped = c.in_ok-took.took.dropped;
      ran = alone me ran;
      runs = record {
        booted = booted;
        server = r;
        sights = shown.0;
        begun = record {
          boots = subst (λ l. Chain (BootsWith Steady delta) (me ∷ [])
              (start (only me old) l before) booted)
              c.open.ensures.kept
              (boots-alone Steady delta me r old new link before after k
              c.new-ledger.ensures.counts c.new-ledger.ensures.heard
              c.in_ok-running.ensures.boots);
          stands = server-alone me (spot r new link after k);
        };
        runs = shown.1;
        within = c.in_ok-took.ensures.turns.0;
        showed = showed-then (sight me r.pace.due r.node ∷ []) shown.0
            (g.W.Watcher.told outside.watcher) (g.W.Watcher.told c.show_first.new.watcher)
            (g.W.Watcher.told last.watcher) c.show_first.ensures shown.2;
      };
      part = save-part me ran disk c.in_err-save_log.ensures.part;
    })))
