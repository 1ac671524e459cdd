-- Crashes and boots in the world.
use Rattle.std.proofs.Common.{◌≡◌, Bool, true, false, List, [], ◌∷◌, ◌++◌, Option, None, Some, refl, sym, ap, ◌∙◌, subst, if◌then◌else◌}
use Rattle.file_tree.specs.Book.{Entry}
use Rattle.group_trace.specs.DiskCalls.{measures_of}
use Rattle.group_trace.specs.DiskRun.{DiskScene, disks_after_at}
use Rattle.group_rules.specs.Moves.{Booting, Falling, Move}
use Rattle.group_rules.specs.Names.{place_of}
use Rattle.group_rules.specs.Step.{Crash, Does}
use Rattle.group_trace.specs.Lines.{state_lines}
use Rattle.group_trace.specs.Shown.{shown_of}
use Rattle.harp_types.specs.Trio.{value_of}
use Rattle.harp_types.specs.declared.server.ServerId.{ServerId}
use Rattle.harp_types.specs.declared.state.StateLine.{StateLine}
use Rattle.harp_types.specs.declared.pick.Pick.{Pick}
use Rattle.world_rules.specs.Host.{HostValue, IsHost}
use Rattle.world_rules.specs.Spellings.{spellings}
use Rattle.world_rules.specs.Steps.{Falls, HostBoots, HostFalls}
use Rattle.node.specs.Stock.{Stock}
use Rattle.world_laws.proofs.StockSteps.{falls_are_right}
use Rattle.trace_types.specs.declared.line.Line.{Line}
use Rattle.trace_types.specs.declared.line.Line.TheVariants as line
use Rattle.trace_types.specs.declared.line.LineFault.TheVariants as fault
use Rattle.trace_types.specs.declared.step.Step.TheVariants as step
use Rattle.world.specs.Steps.{Takes}
use Rattle.world.specs.Turns.{turn_moves}
use Rattle.world.specs.World.{IsWorld, WorldValue}
use Rattle.world.proofs.Falls.{boots, fallen}
use Rattle.world.proofs.Laws.{Laws}
use Rattle.world.proofs.Scenes.{lines_after, scene_after}
use Rattle.world.proofs.Silent.{silent_lines}
use Rattle.world.proofs.Steps.{up_of}
use Rattle.world.proofs.Takes.{boots_at, falls_at}
use Rattle.world.proofs.Turns.{disk_there, others_stay, shown_rightly, with_host}

-- A CRASH is taken, where the state was shown before and is shown afterwards
pub crash_taken : (l : Laws) (old new : WorldValue) (server : ServerId) (pick : Pick)
    (h : HostValue) (before now : Option StateLine) (none_yet lines : List Line) (by : Pick)
    → none_yet ≡ []
    → ((w : DiskScene) → IsWorld w old
    → before ≡ shown_of (w.scene.group.server (place_of server)))
    → h.me ≡ (value_of old.hosts server).me → HostFalls (value_of old.hosts server) h by
    → pick ≡ by → new ≡ with_host old server h
    → ((w : DiskScene) → IsWorld w new → now ≡ shown_of (w.scene.group.server (place_of server)))
    → lines ≡ none_yet ++ state_lines (place_of server) before now
    → Takes old new (step.Crash server pick) lines
crash_taken l old new server pick h before now none_yet lines by first shown me falls picked is shows
    said w reached stands none =
    let q = place_of server in
    let g = w.scene.group in
    let own = stands.servers server in
    let s = step.Crash server pick in
    let up = up_of w s server refl none in
    let disks = disks_after_at spellings w None pick q (Does Crash) in
    let there = disk_there w None pick q (Does Crash) in
    let moves : turn_moves w None q (Does Crash) ≡ Falling ∷ [] =
    (falls_are_right (measures_of spellings).size g (l.whole w reached) q).crashed in
    let fell = falls_at q (value_of old.hosts server) h by own.me falls g pick own.stock own.saved
    (w.disks q) own.host picked in
    let left : IsWorld (scene_after w q (turn_moves w None q (Does Crash)) disks) new =
    subst (λ ms. IsWorld (scene_after w q ms disks) new) (sym moves)
    (subst (λ x. IsWorld (scene_after w q (Falling ∷ []) disks) x) (sym is)
    (fallen l w reached old stands server up disks (others_stay w None pick q (Does Crash)) h
    (me ∙ own.me) (subst (λ d. Falls (g.server q) own.saved d h) (sym there) fell))) in
    record {
      lines_are = ap (λ ls. line.Event s ∷ ls)
          (said ∙ ap (λ none. none ++ state_lines q before now) first
          ∙ shown_rightly [] w q (turn_moves w None q (Does Crash)) before now (shown w stands)
          (shows (scene_after w q (turn_moves w None q (Does Crash)) disks) left)
          (subst (λ ms. state_lines q (shown_of (g.server q))
          (shown_of ((scene_after w q ms disks).scene.group.server q)) ≡ lines_after w q ms)
          (sym moves) (silent_lines w q Falling tt)));
      left = left;
    }

-- a server to boot that isn't refused as up is down
is_down : (b : Bool) → (if b then Some fault.ServerUp else None) ≡ None → b ≡ false
is_down true e = absurd cc
is_down false e = refl

-- A BOOT is taken, in the same way
pub boot_taken : (l : Laws) (old new : WorldValue) (server : ServerId) (h : HostValue)
    (before now : Option StateLine) (none_yet lines : List Line)
    → none_yet ≡ []
    → ((w : DiskScene) → IsWorld w old
    → before ≡ shown_of (w.scene.group.server (place_of server)))
    → h.me ≡ (value_of old.hosts server).me
    → HostBoots (value_of old.hosts server) h (value_of old.clocks server) old.delta
    → new ≡ with_host old server h
    → ((w : DiskScene) → IsWorld w new → now ≡ shown_of (w.scene.group.server (place_of server)))
    → lines ≡ none_yet ++ state_lines (place_of server) before now
    → Takes old new (step.Boot server) lines
boot_taken l old new server h before now none_yet lines first shown me booting is shows said w reached
    stands none =
    let q = place_of server in
    let g = w.scene.group in
    let own = stands.servers server in
    let s = step.Boot server in
    let m : Move Entry = Booting g.delta in
    let down : (g.server q).up ≡ false = is_down (g.server q).up none in
    let host = subst (λ (k : Stock). IsHost (g.server q) k own.saved (w.disks q)
    (value_of old.hosts server)) (own.rests down) own.host in
    let booted = boots_at q (value_of old.hosts server) h (value_of old.clocks server) old.delta
    own.me booting g own.saved (w.disks q) host down (sym (stands.clocks server))
    (sym stands.delta) in
    let left : IsWorld (scene_after w q (m ∷ []) w.disks) new =
    subst (λ x. IsWorld (scene_after w q (m ∷ []) w.disks) x) (sym is)
    (boots l w reached old stands server down h (me ∙ own.me) booted) in
    record {
      lines_are = ap (λ ls. line.Event s ∷ ls)
          (said ∙ ap (λ none. none ++ state_lines q before now) first
          ∙ shown_rightly [] w q (m ∷ []) before now (shown w stands)
          (shows (scene_after w q (m ∷ []) w.disks) left) (silent_lines w q m tt));
      left = left;
    }
