-- A whole step of a node that lives at a place is a turn of its host.
use Rattle.std.proofs.Common.{◌≡◌, ℕ, true, List, [], ◌++◌, length, Option, None, Some, refl, sym, ap, ◌∙◌, subst}
use Rattle.group_rules.specs.Names.{place_of}
use Rattle.group_rules.specs.Shown.{state_of}
use Rattle.group_trace.specs.DiskRun.{DiskScene}
use Rattle.group_trace.specs.Lines.{state_lines}
use Rattle.group_trace.specs.Shown.{shown_of}
use Rattle.harp_store.specs.Disk.{Moments}
use Rattle.harp_types.specs.Trio.{value_of}
use Rattle.harp_types.specs.declared.server.ServerId.{ServerId}
use Rattle.harp_types.specs.declared.state.StateLine.{StateLine}
use Rattle.node.specs.Node.{IsServer as IsServed, NodeValue, server}
use Rattle.node.specs.declared.input.Input.{Input}
use Rattle.node_loop.specs.Step.{IsStep}
use Rattle.node_outputs.specs.declared.outputs.Outputs.{Outputs}
use Rattle.trace_types.specs.declared.line.Line.{Line}
use Rattle.world.proofs.Tables.{value_there}
use Rattle.world.proofs.TheLaws.{the_laws}
use Rattle.world.proofs.Turns.{turn_leaves, with_host}
use Rattle.world.specs.Given.{given_to}
use Rattle.world.specs.Turns.{Turns}
use Rattle.world.specs.World.{IsWorld, WorldValue}
use Rattle.world_host.proofs.Shown.{its_node, shown_up}
use Rattle.world_host.proofs.Takes.{run_takes}
use Rattle.world_host.proofs.Wholes.{Holds, Stepped}
use Rattle.world_lines.specs.Given.{lines_given}
use Rattle.world_rules.specs.Host.{HostValue}
use Rattle.world_rules.specs.Steps.{HostTakes}
use Rattle.world_rules.specs.declared.stop.Stop.{Stop}
use Rattle.running_laws.specs.Events.{Site}
use Rattle.running_laws.specs.Follows.{IsSite}
use Rattle.running_laws.specs.Lives.{WholeStep}
use Rattle.running_laws.proofs.Listed.{IsListed, host_listed, step_listed}

-- the state that a node shows
abbrev pub state_shown : NodeValue → Option StateLine
state_shown n = Some (state_of (server n []))

-- what a node's step says
stepped_is : (now : ℕ) (given : Input) (n m : NodeValue) (old left : Moments) (outs : Outputs)
    → IsStep given now n m (Some old) (Some left) outs
    → Stepped now given n m (Some old) (Some left) outs
stepped_is now given n m old left outs s = record {
  steps = s.steps;
  listing = s.listing;
  me = s.me_stays;
  served = s.is_server;
  mark = s.mark;
  written = s.written;
}

-- a node that its host shows, in each scene
pub shown_so : (x : WorldValue) (place : ServerId) (n : NodeValue)
    → (value_of x.hosts place).node ≡ Some n → IsServed n → (w : DiskScene) → IsWorld w x
    → state_shown n ≡ shown_of (w.scene.group.server (place_of place))
shown_so x place n is served w world =
    let own = world.servers place in
    shown_up (w.scene.group.server (place_of place)) own.stock own.saved (w.disks (place_of place))
    (value_of x.hosts place) n (state_shown n) own.host is served (λ items. refl)

-- a node that is a server is up, in each scene
pub up_so : (x : WorldValue) (place : ServerId) (n : NodeValue)
    → (value_of x.hosts place).node ≡ Some n → IsServed n → (w : DiskScene) → IsWorld w x
    → (w.scene.group.server (place_of place)).up ≡ true
up_so x place n is served w world =
    let own = world.servers place in
    let runs = its_node (w.scene.group.server (place_of place)) own.stock own.saved
    (w.disks (place_of place)) (value_of x.hosts place) n own.host is in
    ap (λ s. s.up) (sym runs.server) ∙ served.up

-- ---- the turn

-- what a whole step at a place rests on: its host is that of the place, with no stop, and its clock
-- reads as the event says
pub record IsTurn (x : WorldValue) (place : ServerId) (now : ℕ) (given : Input)
    (outs : Option Outputs) (a b : Site) : Type 0 where
  pub site : IsSite (value_of x.hosts place) a
  pub me : (value_of x.hosts place).me ≡ place_of place
  pub own_me : (n : NodeValue) → a.node ≡ Some n → n.me ≡ place_of place
  pub no_stop : value_of x.stops place ≡ None
  pub clock : value_of x.clocks place ≡ now
  pub step : WholeStep now given outs a b

module _ (x : WorldValue) (place : ServerId) (now : ℕ) (given : Input) (outs : Option Outputs)
    (a b : Site) (t : IsTurn x place now given outs a b) where
  abbrev old : HostValue
  old = value_of x.hosts place

  -- the disk that the step leaves
  pub disk_left : IsListed b.disk.now
  disk_left = step_listed now given outs a b t.step (host_listed old a.disk.now t.site.disk)

  -- the host with the node and the disk that it leaves
  abbrev pub host_left : HostValue
  host_left = record {
    me = place_of place;
    node = Some t.step.new;
    disk = disk_left.list;
  }

  -- and the world with it and the step's outputs
  abbrev pub world_left : WorldValue
  world_left = given_to (with_host x place host_left) place t.step.puts

  abbrev pub lines_left : List Line
  lines_left = lines_given place x.book (length x.packets) t.step.puts
      ++ state_lines (place_of place) (state_shown t.step.old) (state_shown t.step.new)

  old_served : IsServed t.step.old
  old_served = t.site.served t.step.old t.step.was

  pub old_is : old.node ≡ Some t.step.old
  old_is = t.site.node ∙ t.step.was

  old_me : t.step.old.me ≡ place_of place
  old_me = t.own_me t.step.old t.step.was

  had : Holds old t.step.old.me (Some t.step.old) a.disk.now
  had = record { me = t.me ∙ sym old_me; node = old_is; disk = t.site.disk }

  has : Holds host_left t.step.old.me (Some t.step.new) b.disk.now
  has = record { me = sym old_me; node = refl; disk = disk_left.is }

  pub takes : HostTakes old host_left given (value_of x.clocks place) (value_of x.stops place)
      (Some t.step.puts)
  takes = subst (λ (s : Option Stop). HostTakes old host_left given (value_of x.clocks place) s
      (Some t.step.puts)) (sym t.no_stop)
      (subst (λ (n : ℕ). HostTakes old host_left given n None (Some t.step.puts)) (sym t.clock)
      (run_takes old host_left given now t.step.old t.step.new a.disk b.disk t.step.puts had has
      (stepped_is now given t.step.old t.step.new a.disk b.disk t.step.puts t.step.step)))

  new_is : (value_of world_left.hosts place).node ≡ Some t.step.new
  new_is = ap (λ (h : HostValue). h.node) (value_there x.hosts place host_left)

  -- THE STEP IS A TURN, in each scene at which the world stands
  pub turns : Turns x world_left place given [] lines_left t.step.puts.listing
  turns = turn_leaves the_laws x world_left place given host_left (Some t.step.puts)
      (state_shown t.step.old) (state_shown t.step.new) []
      (lines_given place x.book (length x.packets) t.step.puts) lines_left t.step.puts.listing
      (shown_so x place t.step.old old_is old_served) (sym t.me) takes
      (record { world = refl; lines = refl; listed = refl })
      (shown_so world_left place t.step.new new_is t.step.step.is_server) refl
