-- A boot at a place from the disk that is left there is a boot of its host.
use Rattle.std.proofs.Common.{◌≡◌, ℕ, false, List, [], Option, None, Some, refl, sym, ap, ◌∙◌, subst}
use Rattle.group_rules.proofs.Tests.{all_true, if_is, if_not, le_is}
use Rattle.group_rules.specs.Limits.{delta_tests}
use Rattle.group_rules.specs.Names.{place_of}
use Rattle.group_rules.specs.Places.{all_of}
use Rattle.group_trace.specs.DiskRun.{DiskScene}
use Rattle.group_trace.specs.Lines.{state_lines}
use Rattle.group_trace.specs.Shown.{shown_of}
use Rattle.harp_store.specs.Disk.{Disk as ToldDisk, Moments}
use Rattle.harp_types.specs.Trio.{value_of}
use Rattle.harp_types.specs.declared.server.ServerId.{ServerId}
use Rattle.node.specs.Node.{NodeValue}
use Rattle.promise.specs.Promise.{IsDelta}
use Rattle.trace_types.specs.declared.line.Line.{Line}
use Rattle.trace_types.specs.declared.line.LineFault.TheVariants as fault
use Rattle.trace_types.specs.declared.step.Step.TheVariants as step
use Rattle.world.proofs.Crashes.{boot_taken}
use Rattle.world.proofs.Quiet.{delta_taken}
use Rattle.world.proofs.Tables.{value_there}
use Rattle.world.proofs.TheLaws.{the_laws}
use Rattle.world.proofs.Turns.{with_host}
use Rattle.world.specs.Clocks.{delta_after}
use Rattle.world.specs.World.{IsWorld, WorldValue}
use Rattle.world_host.proofs.Starts.{BootedBy, boots, start_at}
use Rattle.world_host.proofs.Takes.{none_up}
use Rattle.world_host.specs.Starts.{HostStarts}
use Rattle.world_rules.specs.Host.{HostValue, IsNodeOf, disk_of}
use Rattle.world_rules.specs.Steps.{HostBoots}
use Rattle.running_laws.specs.Events.{Event, Site}
use Rattle.running_laws.specs.Follows.{IsSite}
use Rattle.running_laws.specs.Lives.{WholeBoot}
use Rattle.running_laws.proofs.Answering.{none_shown}
use Rattle.running_laws.proofs.Listed.{IsListed, boot_listed, host_listed}
use Rattle.running_laws.proofs.Moving.{IsAt, LedTo, take_one}
use Rattle.running_laws.proofs.Takings.{shown_so, state_shown}

-- ---- the length of promises

-- the length of promises of later boots is set
pub delta_led : (es : List Event) (w : DiskScene) (x : WorldValue) (delta : ℕ) → IsAt es w x
    → LedTo es w (record x { delta = delta_after x.delta delta }) []
delta_led es w x delta at =
    let y = record x { delta = delta_after x.delta delta } in
    take_one es w x y (step.Delta delta) [] at tt (delta_taken x y delta refl) refl refl

pub delta_is : (old delta : ℕ) → IsDelta delta → delta_after old delta ≡ delta
delta_is old delta is = if_is (all_of (delta_tests delta)) delta old
    (all_true (delta_tests delta) (le_is 500 delta is.0, (le_is delta 100000 is.1, tt)))

-- ---- a server that is down

pub down_so : (x : WorldValue) (place : ServerId) → (value_of x.hosts place).node ≡ None
    → (w : DiskScene) → IsWorld w x → (w.scene.group.server (place_of place)).up ≡ false
down_so x place none w world =
    let own = world.servers place in
    let s = w.scene.group.server (place_of place) in
    let h = value_of x.hosts place in
    let fell = subst (λ (o : Option NodeValue). IsNodeOf s own.stock own.saved h.me (disk_of h) o)
    none own.host.node in
    none_up s fell.server

pub none_shown_so : (x : WorldValue) (place : ServerId) → (value_of x.hosts place).node ≡ None
    → (w : DiskScene) → IsWorld w x → None ≡ shown_of (w.scene.group.server (place_of place))
none_shown_so x place none w world =
    sym (if_not (w.scene.group.server (place_of place)).up _ None (down_so x place none w world))

-- ---- the boot

-- a host is down over a disk from which a node boots, and leaves a place
pub record IsBootAt (h : HostValue) (place : ServerId) (now delta : ℕ) (b : Site)
    : Type 0 where
  pub none : h.node ≡ None
  pub node : NodeValue
  pub is : b.node ≡ Some node
  pub old : Moments
  pub left : Moments
  pub disk : disk_of h ≡ old.now
  pub there : left.now ≡ b.disk.now
  pub boots : BootedBy place now delta node old left

-- from the disk of a place
pub boot_there : (h : HostValue) (place : ServerId) (now delta : ℕ) (a b : Site) → IsSite h a
    → WholeBoot place now delta a b → IsBootAt h place now delta b
boot_there h place now delta a b s w = record {
  none = s.node ∙ w.none;
  node = w.node;
  is = w.is;
  old = a.disk;
  left = b.disk;
  disk = s.disk;
  there = refl;
  boots = record {
    boots = λ items held. w.boot.boots a.disk items refl held;
    records = λ saved held. w.boot.records a.disk saved refl held;
    me = w.boot.me_is;
    served = w.boot.is_server;
    mark = λ base. w.boot.mark a.disk refl base;
    written = w.boot.written;
  };
}

-- what a boot at a place rests on, and what it leaves
pub record IsBooting (x : WorldValue) (place : ServerId) (now delta : ℕ) (b : Site)
    : Type 0 where
  pub me : (value_of x.hosts place).me ≡ place_of place
  pub clock : value_of x.clocks place ≡ now
  pub length : x.delta ≡ delta
  pub boot : IsBootAt (value_of x.hosts place) place now delta b

module _ (x : WorldValue) (place : ServerId) (now delta : ℕ) (b : Site)
    (t : IsBooting x place now delta b) where
  abbrev old : HostValue
  old = value_of x.hosts place

  -- the disk that the boot leaves
  pub disk_booted : IsListed b.disk.now
  disk_booted = subst (λ (d : ToldDisk). IsListed d) t.boot.there
      (boot_listed place delta t.boot.old t.boot.left t.boot.boots.written
      (host_listed old t.boot.old.now t.boot.disk))

  -- the host with the node that booted, and its disk
  abbrev pub host_booted : HostValue
  host_booted = record {
    me = place_of place;
    node = Some t.boot.node;
    disk = disk_booted.list;
  }

  abbrev pub world_booted : WorldValue
  world_booted = with_host x place host_booted

  abbrev lines_booted : List Line
  lines_booted = state_lines (place_of place) None (state_shown t.boot.node)

  starts : HostStarts old host_booted now delta
  starts = start_at place now delta t.boot.node t.boot.old t.boot.left old host_booted t.me
      t.boot.disk refl (disk_booted.is ∙ sym t.boot.there) t.boot.boots

  booting : HostBoots old host_booted (value_of x.clocks place) x.delta
  booting = subst (λ (d : ℕ). HostBoots old host_booted (value_of x.clocks place) d) (sym t.length)
      (subst (λ (n : ℕ). HostBoots old host_booted n delta) (sym t.clock)
      (boots now delta old host_booted (sym t.me) starts))

  new_is : (value_of world_booted.hosts place).node ≡ Some t.boot.node
  new_is = ap (λ (h : HostValue). h.node) (value_there x.hosts place host_booted)

  -- A BOOT leads on
  pub boot_led : (es : List Event) (w : DiskScene) → IsAt es w x → LedTo es w world_booted []
  boot_led es w at =
      let s = step.Boot place in
      subst (LedTo es w world_booted) (none_shown (place_of place) None (state_shown t.boot.node))
      (take_one es w x world_booted s lines_booted at tt
      (boot_taken the_laws x world_booted place host_booted None (state_shown t.boot.node) []
      lines_booted refl (none_shown_so x place t.boot.none) (sym t.me) booting refl
      (shown_so world_booted place t.boot.node new_is t.boot.boots.served) refl)
      (if_not (w.scene.group.server (place_of place)).up (Some fault.ServerUp) None
      (down_so x place t.boot.none w at.stands)) refl)
