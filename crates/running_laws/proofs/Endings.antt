-- The end of a life between two steps is a crash of its host, by a pick.
use Rattle.std.proofs.Common.{◌≡◌, List, [], None, Some, refl, sym, ap, ◌∙◌, subst}
use Rattle.group_rules.proofs.Tests.{if_is}
use Rattle.group_rules.specs.Names.{place_of}
use Rattle.group_trace.specs.DiskRun.{DiskScene}
use Rattle.group_trace.specs.Lines.{state_lines}
use Rattle.harp_store.specs.Memory.{crashed_by}
use Rattle.harp_types.specs.Trio.{value_of}
use Rattle.harp_types.specs.declared.pick.Pick.{Pick}
use Rattle.harp_types.specs.declared.server.ServerId.{ServerId}
use Rattle.node.specs.Node.{IsServer as IsServed}
use Rattle.trace_types.specs.declared.line.Line.{Line}
use Rattle.trace_types.specs.declared.line.LineFault.TheVariants as fault
use Rattle.trace_types.specs.declared.step.Step.TheVariants as step
use Rattle.world.proofs.Crashes.{crash_taken}
use Rattle.world.proofs.Tables.{value_there}
use Rattle.world.proofs.TheLaws.{the_laws}
use Rattle.world.proofs.Turns.{with_host}
use Rattle.world.specs.World.{WorldValue}
use Rattle.world_host.proofs.Falls.{crash_falls}
use Rattle.world_rules.specs.Host.{HostValue}
use Rattle.world_rules.specs.Steps.{HostFalls}
use Rattle.running_laws.specs.Events.{Event, Site}
use Rattle.running_laws.specs.Follows.{IsSite}
use Rattle.running_laws.specs.Lives.{EndBetween}
use Rattle.running_laws.proofs.Answering.{none_shown}
use Rattle.running_laws.proofs.Bootings.{none_shown_so}
use Rattle.running_laws.proofs.Listed.{IsListed, host_listed, left_listed}
use Rattle.running_laws.proofs.Moving.{IsAt, LedTo, take_one}
use Rattle.running_laws.proofs.Picks.{pick_of_left}
use Rattle.running_laws.proofs.Takings.{shown_so, state_shown, up_so}

-- what the end of a life at a place rests on, and what it leaves
pub record IsEnding (x : WorldValue) (place : ServerId) (a b : Site) : Type 0 where
  pub site : IsSite (value_of x.hosts place) a
  pub me : (value_of x.hosts place).me ≡ place_of place
  pub ending : EndBetween a b

module _ (x : WorldValue) (place : ServerId) (a b : Site) (t : IsEnding x place a b) where
  abbrev old : HostValue
  old = value_of x.hosts place

  -- the disk that is left
  pub disk_fallen : IsListed b.disk.now
  disk_fallen = left_listed a.disk.now b.disk.now t.ending.left
      (host_listed old a.disk.now t.site.disk)

  -- the host without a node, with that disk
  abbrev pub host_fallen : HostValue
  host_fallen = record { me = place_of place; node = None; disk = disk_fallen.list }

  abbrev pub world_fallen : WorldValue
  world_fallen = with_host x place host_fallen

  abbrev lines_fallen : List Line
  lines_fallen = state_lines (place_of place) (state_shown t.ending.old) None

  picked : (by : Pick) × (b.disk.now ≡ crashed_by by a.disk.now)
  picked = pick_of_left a.disk.now b.disk.now t.ending.left

  falls : HostFalls old host_fallen picked.0
  falls = crash_falls old host_fallen picked.0 (record {
    me = sym t.me;
    node = refl;
    disk = disk_fallen.is ∙ picked.1 ∙ ap (crashed_by picked.0) (sym t.site.disk);
  })

  old_is : old.node ≡ Some t.ending.old
  old_is = t.site.node ∙ t.ending.was

  old_served : IsServed t.ending.old
  old_served = t.site.served t.ending.old t.ending.was

  new_none : (value_of world_fallen.hosts place).node ≡ None
  new_none = ap (λ (h : HostValue). h.node) (value_there x.hosts place host_fallen)

  -- AN END leads on
  pub end_led : (es : List Event) (w : DiskScene) → IsAt es w x → LedTo es w world_fallen []
  end_led es w at =
      let s = step.Crash place picked.0 in
      subst (LedTo es w world_fallen) (none_shown (place_of place) (state_shown t.ending.old) None)
      (take_one es w x world_fallen s lines_fallen at tt
      (crash_taken the_laws x world_fallen place picked.0 host_fallen (state_shown t.ending.old)
      None [] lines_fallen picked.0 refl (shown_so x place t.ending.old old_is old_served)
      (sym t.me) falls refl refl (none_shown_so world_fallen place new_none) refl)
      (if_is (w.scene.group.server (place_of place)).up None
      (Some fault.ServerDown) (up_so x place t.ending.old old_is old_served w at.stands)) refl)
