use Rattle.std.proofs.Common.{Err, inl, inr, refl, subst, sym}
use Rattle.node_loop.specs.Scene.{each, scene_of}
use Rattle.door_group.specs.Served.{Shuts}
use Rattle.door_group.specs.declared.fault.ServedFault.{ServedFault}
use Rattle.door_group.proofs.Ends.{shuts}
use Rattle.door_group.proofs.served.serve_door.Goals as goal

pub returns-in-Err-clause-ends : goal.returns-in-Err-clause-ends
returns-in-Err-clause-ends g c input left = inl (record {
  unread = left;
  unwritten = refl;
  unstarted = rw c.first.ensures at c.in-Err.ensures.part;
  why = subst (λ (f : ServedFault). Shuts (Err f)) (sym c.by_loop.ensures) (shuts c.in-Err.fault);
})

pub returns-clause-ends : goal.returns-clause-ends
returns-clause-ends g c input left = inr (record {
  booted = scene_of c.in-Ok.three (each g.D.Store.told c.start.new.stores)
      (g.L.Link.told c.start.new.link) (g.C.Clock.told c.start.new.clock);
  boots = rw c.first.ensures at c.in-Ok.ensures.boots;
  served = c.serve_started-ended.ensures.ends input left;
})
