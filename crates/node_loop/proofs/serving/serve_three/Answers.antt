use Rattle.std.proofs.Common.{inl, inr, refl}
use Rattle.node_loop.specs.Scene.{each, scene_of, with_heard}
use Rattle.node_loop.proofs.Results.{on_err}
use Rattle.node_loop.proofs.serving.serve_three.Goals as goal

pub returns-in_err-three-clause-cut : goal.returns-in_err-three-clause-cut
returns-in_err-three-clause-cut g c =
    on_err c.from_residual.result (inl c.in_err-three.ensures.part)

pub returns-in_err-take_turns-clause-cut : goal.returns-in_err-take_turns-clause-cut
returns-in_err-take_turns-clause-cut g c =
    on_err c.from_residual-in_err-take_turns.result (inr (
      scene_of c.in_ok-three.three (each g.D.Store.told c.start.new.stores)
          (g.L.Link.told c.start.new.link) (g.C.Clock.told c.start.new.clock),
      c.in_ok-three.ensures.boots,
      c.in_err-take_turns.ensures.part,
    ))

pub returns-clause-run : goal.returns-clause-run
returns-clause-run g c =
    let turned = c.in_ok-take_turns.ensures.turns in
    record {
      booted = scene_of c.in_ok-three.three (each g.D.Store.told c.start.new.stores)
          (g.L.Link.told c.start.new.link) (g.C.Clock.told c.start.new.clock);
      end = with_heard turned.0 (scene_of c.take_turns.new.self
          (each g.D.Store.told c.take_turns.new.stores) (g.L.Link.told c.take_turns.new.link)
          (g.C.Clock.told c.take_turns.new.clock));
      boots = c.in_ok-three.ensures.boots;
      turned = turned.1;
      disks_are = refl;
      link_is = refl;
      clock_is = refl;
      served_is = c.served-served.ensures;
    }
