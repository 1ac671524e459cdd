use Rattle.std.proofs.Common.{◌∷◌, [], subst}
use Rattle.node_loop.specs.Watch.{Showed}
use Rattle.node_loop.proofs.showing.show_first.Goals as goal

pub returns : goal.returns
returns g c =
    let old = g.W.Watcher.told c.args.watcher.now in
    let new = g.W.Watcher.told c.see.new.self in
    subst (λ s. Showed (record {
      place = c.args.place;
      millis = c.args.running.now.pace.due;
      state = s;
    } ∷ []) old new) c.state_shown.ensures
    (subst (λ n. Showed (record {
      place = c.args.place;
      millis = n;
      state = c.state_shown.result;
    } ∷ []) old new) c.due.ensures c.see.ensures)
