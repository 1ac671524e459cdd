use Rattle.std.proofs.Common.{◌≡◌, ℕ, List, [], Some, ap, refl, subst, sym}
use Rattle.door_group.specs.Rule.{Before, Standing}
use Rattle.door_group.specs.Local.{Basis, HasFailed, IsLater}
use Rattle.door_group.proofs.Faults.{begins}
use Rattle.node_loop.specs.Scene.{Scene, each, scene_of, with_heard}
use Rattle.node_loop.specs.declared.heard.Heard.{Heard}
use Rattle.rpc_door.specs.Serving.{DoorEnds, Side, side}
use Rattle.door_group.specs.declared.served.Caller.{Caller}
use Rattle.door_group.proofs.Tellings.{Leaving, Telling, ends_after, shows}
use Rattle.door_group.proofs.served.serve_lent.Given as given
use Rattle.door_group.proofs.served.serve_lent.Goals as goal

-- what the asker runs on stays
later : (g : given.Over) (c : goal.After-serve_rpc g)
    → (c.serve_rpc.new.group.client ≡ c.args.asker.now.client)
    × (c.serve_rpc.new.group.turns ≡ c.args.asker.now.turns)
    × IsLater c.serve_rpc.new.group.servers.ended
    (record {
      three = c.args.asker.now.servers.three.ghost_name;
      link = c.args.asker.now.servers.link.ghost_name;
      disks = c.args.asker.now.servers.disks.ghost_name;
      clock = c.args.asker.now.servers.clock.ghost_name;
      link_faults = g.L.Link.faults c.args.asker.now.servers.link.now;
      disk_faults = each g.D.Store.faults c.args.asker.now.servers.disks.now;
    })
    (record {
      three = c.serve_rpc.new.group.servers.three.ghost_name;
      link = c.serve_rpc.new.group.servers.link.ghost_name;
      disks = c.serve_rpc.new.group.servers.disks.ghost_name;
      clock = c.serve_rpc.new.group.servers.clock.ghost_name;
      link_faults = g.L.Link.faults c.serve_rpc.new.group.servers.link.now;
      disk_faults = each g.D.Store.faults c.serve_rpc.new.group.servers.disks.now;
    })
later g c =
    let old = c.args.asker.now.servers in
    let o : Basis = record {
      three = old.three.ghost_name;
      link = old.link.ghost_name;
      disks = old.disks.ghost_name;
      clock = old.clock.ghost_name;
      link_faults = g.L.Link.faults old.link.now;
      disk_faults = each g.D.Store.faults old.disks.now;
    } in
    let s : Standing Basis = record {
      client = c.args.asker.now.client;
      turns = c.args.asker.now.turns;
      basis = o;
    } in
    c.serve_rpc.ensures.on s
    (refl, refl, subst (λ e. IsLater e o o) (sym c.requires.1) (begins o))

-- the servers before and after
abbrev was : (g : given.Over) (c : goal.After-serve_rpc g) → Scene
was g c = scene_of c.args.asker.now.servers.three.now
    (each g.D.Store.told c.args.asker.now.servers.disks.now)
    (g.L.Link.told c.args.asker.now.servers.link.now)
    (g.C.Clock.told c.args.asker.now.servers.clock.now)

abbrev is : (g : given.Over) (c : goal.After-serve_rpc g) → Scene
is g c = scene_of c.serve_rpc.new.group.servers.three.now
    (each g.D.Store.told c.serve_rpc.new.group.servers.disks.now)
    (g.L.Link.told c.serve_rpc.new.group.servers.link.now)
    (g.C.Clock.told c.serve_rpc.new.group.servers.clock.now)

-- before the first call
abbrev first : (g : given.Over) (c : goal.After-serve_rpc g) → Before Scene
first g c = record {
  number = c.args.asker.now.next;
  place = c.args.asker.now.place;
  scene = was g c;
}

abbrev caller : (g : given.Over) (c : goal.After-serve_rpc g) → Caller
caller g c = record {
  cred = c.args.cred;
  client = c.args.asker.now.client;
  turns = c.args.asker.now.turns;
}

-- what was told then, and by the caller's words is told now
abbrev old : (g : given.Over) (c : goal.After-serve_rpc g) → Side (Before Scene)
old g c =
    let a = c.args.asker.now in
    side (Telling a.client a.turns a.next a.place a.stopped (was g c))
    (Leaving a.client a.turns (was g c) (HasFailed a.servers.ended))
    (g.K.Sink.written c.args.sink.now)

abbrev new : (g : given.Over) (c : goal.After-serve_rpc g) → ℕ → ℕ → Side (Before Scene)
new g c client turns =
    let a = c.serve_rpc.new.group in
    side (Telling client turns a.next a.place a.stopped (is g c))
    (Leaving client turns (is g c) (HasFailed a.servers.ended))
    (g.K.Sink.written c.serve_rpc.new.sink)

begun : (g : given.Over) (c : goal.After-serve_rpc g) → (old g c).told (first g c) []
begun g c = (
  first g c,
  refl,
  refl,
  refl,
  λ runs. ap (λ (hs : List Heard). with_heard hs (was g c)) c.requires.2,
  λ stopped. absurd cc (stopped, c.requires.0),
)

ended : (g : given.Over) (c : goal.After-serve_rpc g) (input : List ℕ)
    → g.S.Source.left c.args.source.now ≡ Some input
    → DoorEnds c.args.cred input (g.S.Source.left c.serve_rpc.new.source) (old g c)
    (new g c c.args.asker.now.client c.args.asker.now.turns) c.serve_rpc.result
ended g c input left =
    let same = later g c in
    let source = g.S.Source.left c.serve_rpc.new.source in
    let a = c.args.asker.now in
    subst (λ (n : ℕ). DoorEnds c.args.cred input source (old g c) (new g c n a.turns)
    c.serve_rpc.result) same.0
    (subst (λ (n : ℕ). DoorEnds c.args.cred input source (old g c)
    (new g c c.serve_rpc.new.group.client n) c.serve_rpc.result) same.1
    (c.serve_rpc.ensures.ends input left))

pub returns-clause-ends : goal.returns-clause-ends
returns-clause-ends g c input left =
    let a = c.serve_rpc.new.group in
    ends_after (caller g c) input (g.S.Source.left c.serve_rpc.new.source)
    (g.K.Sink.written c.serve_rpc.new.sink) a.next a.place a.stopped (is g c)
    (HasFailed a.servers.ended) (first g c) (old g c) (begun g c) _ (λ runs. runs.0)
    c.serve_rpc.result c.serve_rpc.ensures.runs (ended g c input left)

pub returns-clause-failed : goal.returns-clause-failed
returns-clause-failed g c input left failed =
    let a = c.serve_rpc.new.group in
    let source = g.S.Source.left c.serve_rpc.new.source in
    shows (caller g c) input source (g.K.Sink.written c.serve_rpc.new.sink) a.next a.place
    a.stopped (is g c) (HasFailed a.servers.ended) (first g c) (old g c) (begun g c)
    (subst (λ r. DoorEnds c.args.cred input source (old g c)
    (new g c c.args.asker.now.client c.args.asker.now.turns) r) failed (ended g c input left))

pub returns-clause-lent : goal.returns-clause-lent
returns-clause-lent g c =
    let same = later g c in (same.2.three, same.2.link, same.2.disks, same.2.clock)

pub returns-clause-link_rose : goal.returns-clause-link_rose
returns-clause-link_rose g c = (later g c).2.link_rose

pub returns-clause-disk_rose : goal.returns-clause-disk_rose
returns-clause-disk_rose g c = (later g c).2.disk_rose
