-- A server's turn in the world, whole or cut, and its power failures.
use Rattle.std.proofs.Common.{◌≡◌, ℕ, true, false, List, [], ◌∷◌, ◌++◌, append-nil, length, Option, None, inl, inr, sym, ap, ◌∙◌, subst, append_assoc, true≢false}
use Rattle.std.proofs.lemmas.Bool.{cases_Bool}
use Rattle.file_tree.specs.Book.{Entry}
use Rattle.world_lines.specs.Given.{lines_given}
use Rattle.group_trace.specs.DiskCalls.{measures_of}
use Rattle.group_trace.specs.DiskRun.{DiskScene, Stores, disk_after, disks_after_at, is_whole}
use Rattle.schedule_play.specs.Stage.{IsReached}
use Rattle.group_rules.proofs.Tests.{if_is, if_not}
use Rattle.group_rules.specs.Effects.{saving}
use Rattle.group_rules.specs.Moves.{Falling, Move, Saving}
use Rattle.group_rules.specs.Names.{place_of}
use Rattle.group_rules.specs.Places.{Place}
use Rattle.group_rules.specs.State.{Group}
use Rattle.group_rules.specs.Step.{Does, Input as Begins, Power, list_of}
use Rattle.group_safety.proofs.Moving.{at_self}
use Rattle.group_trace.specs.Lines.{state_lines}
use Rattle.group_trace.specs.Run.{moved_in}
use Rattle.group_trace.specs.Shown.{shown_of}
use Rattle.harp_types.specs.Trio.{value_of, with_value}
use Rattle.harp_types.specs.declared.server.ServerId.{ServerId}
use Rattle.harp_types.specs.declared.state.StateLine.{StateLine}
use Rattle.world_rules.specs.Host.{HostValue}
use Rattle.world_rules.specs.Spellings.{spellings}
use Rattle.world_rules.specs.Steps.{Fails, Falls, HostFails, HostTakes, Takes, TakesWhole, listing_by, moves_at, saved_after}
use Rattle.world_rules.specs.declared.stop.Stop.{Stop}
use Rattle.node.specs.declared.input.Input.{Input}
use Rattle.node_outputs.specs.declared.outputs.Outputs.{Outputs}
use Rattle.world_laws.proofs.StockSteps.{falls_are_right}
use Rattle.trace_types.specs.declared.line.Line.{Line}
use Rattle.harp_types.specs.declared.pick.Pick.{Pick}
use Rattle.tree_listing.specs.declared.listing.Listing.{Listing}
use Rattle.world.specs.Given.{Gives, GivesAll, GivesNothing}
use Rattle.world.specs.Turns.{PowerFails, TurnBegins, Turns, after_armed_turn, after_turn, turn_lines, turn_moves}
use Rattle.world.specs.World.{IsWorld, WorldValue}
use Rattle.world.proofs.Falls.{fallen, saved}
use Rattle.world.proofs.Laws.{Laws}
use Rattle.world.proofs.Scenes.{lines_after, scene_after}
use Rattle.world.proofs.Silent.{silent_lines}
use Rattle.world.proofs.Tables.{at_other}
use Rattle.world.proofs.Takes.{fails_at, takes_at}
use Rattle.world.proofs.Whole.{WholeTurn, whole_lines, whole_stands}

-- the world with another host of a server, whose stop is spent
abbrev pub with_host : WorldValue → ServerId → HostValue → WorldValue
with_host x server h = record x {
  hosts = with_value x.hosts server h;
  stops = with_value x.stops server None;
}

-- the lines of what was given, and then those of the state, are those of a turn
lines_then : (before given mid after state turn : List Line) → mid ≡ before ++ given
    → after ≡ mid ++ state → given ++ state ≡ turn → after ≡ before ++ turn
lines_then before given mid after state turn e f h = f ∙ ap (λ ls. ls ++ state) e
    ∙ append_assoc before given state ∙ ap (λ ls. before ++ ls) h

-- the lines of a state that is shown before and afterwards
abbrev pub states : Group Entry → Group Entry → Place → List Line
states g g' q = state_lines q (shown_of (g.server q)) (shown_of (g'.server q))

-- what a turn comes to, whatever its moves: the world stands after them, with their lines
record Comes (w : DiskScene) (q : Place) (ms : List (Move Entry)) (disks : Stores)
    (new : WorldValue) (lines : List Line) : Type 0 where
  left : IsWorld (scene_after w q ms disks) new
  lines_are : lines ++ states w.scene.group (moved_in w.scene.group (q, ms)) q
      ≡ lines_after w q ms

-- ---- what is shown, and where the disks are

pub others_stay : (w : DiskScene) (most : Option ℕ) (pick : Pick) (q : Place) (i : Begins)
    → (y : Place) → (y ≡ q → ⊥) → disks_after_at spellings w most pick q i y ≡ w.disks y
others_stay w most pick q i y n = at_other w.disks q y
    (disk_after spellings w.scene.group most pick q i (w.disks q)) n

pub disk_there : (w : DiskScene) (most : Option ℕ) (pick : Pick) (q : Place) (i : Begins)
    → disks_after_at spellings w most pick q i q
    ≡ disk_after spellings w.scene.group most pick q i (w.disks q)
disk_there w most pick q i = at_self w.disks q
    (disk_after spellings w.scene.group most pick q i (w.disks q))

-- ---- power failures

failure_comes : (l : Laws) (w : DiskScene) (most : Option ℕ) (pick : Pick)
    → (reached : IsReached spellings w) → (x : WorldValue) → (world : IsWorld w x)
    → (server : ServerId) → (up : (w.scene.group.server (place_of server)).up ≡ true)
    → (h : HostValue) → h.me ≡ place_of server
    → Fails w.scene.group most pick (place_of server) (world.servers server).stock
    (world.servers server).saved (w.disks (place_of server)) h
    → Comes w (place_of server) (turn_moves w most (place_of server) (Does Power))
    (disks_after_at spellings w most pick (place_of server) (Does Power)) (with_host x server h) []
failure_comes l w most pick reached x world server up h me fails =
    let q = place_of server in
    let g = w.scene.group in
    let own = world.servers server in
    let disks = disks_after_at spellings w most pick q (Does Power) in
    let others = others_stay w most pick q (Does Power) in
    let there = disk_there w most pick q (Does Power) in
    elim (cases_Bool (is_whole spellings g most q (Does Power))) [
      | inl whole ↦
          let f = falls_are_right (measures_of spellings).size g (l.whole w reached) q in
          let moves : turn_moves w most q (Does Power) ≡ Saving ∷ [] =
          if_is (is_whole spellings g most q (Does Power)) _ (Falling ∷ []) whole ∙ f.powered in
          subst (λ ms. Comes w q ms disks (with_host x server h) []) (sym moves) (record {
            left = saved l w reached x world server up disks others h me
                (subst (λ d. Falls (saving q (g.server q) (g.server q).saved)
                (saved_after (g.server q) own.stock own.saved) d h) (sym there)
                (fails.whole whole));
            lines_are = silent_lines w q Saving tt;
          })
      | inr cut ↦
          let moves : turn_moves w most q (Does Power) ≡ Falling ∷ [] =
          if_not (is_whole spellings g most q (Does Power)) _ (Falling ∷ []) cut in
          subst (λ ms. Comes w q ms disks (with_host x server h) []) (sym moves) (record {
            left = fallen l w reached x world server up disks others h me
                (subst (λ d. Falls (g.server q) own.saved d h) (sym there) (fails.stopped cut));
            lines_are = silent_lines w q Falling tt;
          })
    ]

-- what is shown is shown rightly
pub shown_rightly : (lines : List Line) (w : DiskScene) (q : Place) (ms : List (Move Entry))
    (before now : Option StateLine) → before ≡ shown_of (w.scene.group.server q)
    → now ≡ shown_of ((moved_in w.scene.group (q, ms)).server q)
    → lines ++ states w.scene.group (moved_in w.scene.group (q, ms)) q ≡ lines_after w q ms
    → lines ++ state_lines q before now ≡ lines_after w q ms
shown_rightly lines w q ms before now e f h = ap (λ b. lines ++ state_lines q b now) e
    ∙ ap (λ n. lines ++ state_lines q (shown_of (w.scene.group.server q)) n) f ∙ h

-- A POWER FAILURE leaves what it has to, where the state was shown before and is shown afterwards
pub failure_leaves : (l : Laws) (old new : WorldValue) (server : ServerId) (stop : Option Stop)
    (h : HostValue) (before now : Option StateLine) (ls ls' : List Line)
    → ((w : DiskScene) → IsWorld w old
    → before ≡ shown_of (w.scene.group.server (place_of server)))
    → h.me ≡ (value_of old.hosts server).me → HostFails (value_of old.hosts server) h stop
    → new ≡ with_host old server h
    → ((w : DiskScene) → IsWorld w new → now ≡ shown_of (w.scene.group.server (place_of server)))
    → ls' ≡ ls ++ state_lines (place_of server) before now
    → PowerFails old new server stop ls ls'
failure_leaves l old new server stop h before now ls ls' shown me fails is shows lines w most pick
    reached world up stops =
    let q = place_of server in
    let own = world.servers server in
    let ms = turn_moves w most q (Does Power) in
    let comes = failure_comes l w most pick reached old world server up h (me ∙ own.me)
    (fails_at q (value_of old.hosts server) h stop own.me fails w.scene.group most pick own.stock
    own.saved (w.disks q) own.host up stops (l.can_fail w reached q)) in
    let left : IsWorld (after_turn w most pick q (Does Power)) new =
    subst (λ x. IsWorld (after_turn w most pick q (Does Power)) x) (sym is) comes.left in
    record {
      left = left;
      lines = lines ∙ ap (λ x. ls ++ x) (shown_rightly [] w q ms before now (shown w world)
          (shows (after_turn w most pick q (Does Power)) left) comes.lines_are);
    }

-- ---- turns

-- what a turn comes to before its state is shown
record TurnComes (w : DiskScene) (q : Place) (given : Input) (i : Begins) (new : WorldValue)
    (before mid : List Line) (listing : Option Listing) : Type 0 where
  lines : List Line
  mid_is : mid ≡ before ++ lines
  comes : Comes w q (turn_moves w (w.scene.armed q) q i)
      (disks_after_at spellings w (w.scene.armed q) (w.picks q) q i) new lines
  listing_is : is_whole spellings w.scene.group (w.scene.armed q) q i ≡ true
      → listing ≡ listing_by (w.scene.group.server q) q (list_of w.scene.group q) given

-- where no stop comes
whole_comes : (l : Laws) (w : DiskScene) (i : Begins) (old new : WorldValue) (server : ServerId)
    (given : Input) (b : TurnBegins w old (place_of server) given i) (h : HostValue)
    (outs : Outputs) (before mid : List Line) (listing : Option Listing)
    → h.me ≡ place_of server
    → is_whole spellings w.scene.group (w.scene.armed (place_of server)) (place_of server) i ≡ true
    → TakesWhole w.scene.group (place_of server) given i (b.stands.servers server).stock
    (b.stands.servers server).saved
    (disk_after spellings w.scene.group (w.scene.armed (place_of server))
    (w.picks (place_of server)) (place_of server) i (w.disks (place_of server))) h outs
    → GivesAll (with_host old server h) new server outs before mid listing
    → TurnComes w (place_of server) given i new before mid listing
whole_comes l w i old new server given b h outs before mid listing me whole takes gives =
    let q = place_of server in
    let g = w.scene.group in
    let most = w.scene.armed q in
    let pick = w.picks q in
    let disks = disks_after_at spellings w most pick q i in
    let left = disk_after spellings g most pick q i (w.disks q) in
    let moves : turn_moves w most q i ≡ moves_at g q i =
    if_is (is_whole spellings g most q i) _ (Falling ∷ []) whole in
    let t : WholeTurn w old server given i left h outs =
    record { begins = b; me = me; takes = takes } in
    let given_lines = lines_given server old.book (length old.packets) outs in
    record {
      lines = given_lines;
      mid_is = gives.lines;
      comes = subst (λ ms. Comes w q ms disks new given_lines) (sym moves) (record {
        left = subst (λ x. IsWorld (scene_after w q (moves_at g q i) disks) x) (sym gives.world)
            (whole_stands l w old server given i left h outs t disks
            (disk_there w most pick q i) (others_stay w most pick q i));
        lines_are = whole_lines l w old server given i left h outs t;
      });
      listing_is = λ _. gives.listed ∙ takes.listing;
    }

-- where its stop comes
cut_comes : (l : Laws) (w : DiskScene) (i : Begins) (old new : WorldValue) (server : ServerId)
    (given : Input) (b : TurnBegins w old (place_of server) given i) (h : HostValue)
    (before mid : List Line) (listing : Option Listing) → h.me ≡ place_of server
    → is_whole spellings w.scene.group (w.scene.armed (place_of server)) (place_of server) i
    ≡ false
    → Falls (w.scene.group.server (place_of server)) (b.stands.servers server).saved
    (disk_after spellings w.scene.group (w.scene.armed (place_of server))
    (w.picks (place_of server)) (place_of server) i (w.disks (place_of server))) h
    → GivesNothing (with_host old server h) new before mid listing
    → TurnComes w (place_of server) given i new before mid listing
cut_comes l w i old new server given b h before mid listing me cut falls gives =
    let q = place_of server in
    let g = w.scene.group in
    let most = w.scene.armed q in
    let pick = w.picks q in
    let disks = disks_after_at spellings w most pick q i in
    let moves : turn_moves w most q i ≡ Falling ∷ [] =
    if_not (is_whole spellings g most q i) _ (Falling ∷ []) cut in
    record {
      lines = [];
      mid_is = gives.lines ∙ sym (append-nil before);
      comes = subst (λ ms. Comes w q ms disks new []) (sym moves) (record {
        left = subst (λ x. IsWorld (scene_after w q (Falling ∷ []) disks) x) (sym gives.world)
            (fallen l w b.reached old b.stands server b.up disks (others_stay w most pick q i) h me
            (subst (λ d. Falls (g.server q) (b.stands.servers server).saved d h)
            (sym (disk_there w most pick q i)) falls));
        lines_are = silent_lines w q Falling tt;
      });
      listing_is = λ whole. absurd (true≢false (sym whole ∙ cut));
    }

turn_comes : (l : Laws) (w : DiskScene) (i : Begins) (old new : WorldValue) (server : ServerId)
    (given : Input) (b : TurnBegins w old (place_of server) given i) (h : HostValue)
    (outs : Option Outputs) (before mid : List Line) (listing : Option Listing)
    → h.me ≡ place_of server
    → Takes w.scene.group (w.scene.armed (place_of server)) (w.picks (place_of server))
    (place_of server) given i (b.stands.servers server).stock (b.stands.servers server).saved
    (w.disks (place_of server)) h outs
    → Gives (with_host old server h) new server outs before mid listing
    → TurnComes w (place_of server) given i new before mid listing
turn_comes l w i old new server given b h outs before mid listing me takes gives =
    let q = place_of server in
    elim (cases_Bool (is_whole spellings w.scene.group (w.scene.armed q) q i)) [
      | inl whole ↦
          let made = takes.whole whole in
          whole_comes l w i old new server given b h made.0 before mid listing me whole made.2
          (subst (λ o. Gives (with_host old server h) new server o before mid listing) made.1 gives)
      | inr cut ↦
          let fell = takes.stopped cut in
          cut_comes l w i old new server given b h before mid listing me cut fell.1
          (subst (λ o. Gives (with_host old server h) new server o before mid listing) fell.0 gives)
    ]

-- A TURN leaves what it has to, where the state was shown before and is shown afterwards
pub turn_leaves : (l : Laws) (old new : WorldValue) (server : ServerId) (given : Input)
    (h : HostValue) (outs : Option Outputs) (before now : Option StateLine)
    (ls mid ls' : List Line) (listing : Option Listing)
    → ((w : DiskScene) → IsWorld w old
    → before ≡ shown_of (w.scene.group.server (place_of server)))
    → h.me ≡ (value_of old.hosts server).me
    → HostTakes (value_of old.hosts server) h given (value_of old.clocks server)
    (value_of old.stops server) outs
    → Gives (with_host old server h) new server outs ls mid listing
    → ((w : DiskScene) → IsWorld w new → now ≡ shown_of (w.scene.group.server (place_of server)))
    → ls' ≡ mid ++ state_lines (place_of server) before now
    → Turns old new server given ls ls' listing
turn_leaves l old new server given h outs before now ls mid ls' listing shown me takes gives shows
    lines w i b =
    let q = place_of server in
    let own = b.stands.servers server in
    let most = w.scene.armed q in
    let ms = turn_moves w most q i in
    let can = l.can_take w b.reached q own.stock own.saved (value_of old.hosts server) own.me
    own.host own.has_stock given i b.begins in
    let t = turn_comes l w i old new server given b h outs ls mid listing (me ∙ own.me)
    (takes_at q (value_of old.hosts server) h given (value_of old.clocks server)
    (value_of old.stops server) outs own.me takes w.scene.group most (w.picks q) i own.stock
    own.saved (w.disks q) own.host b.up (sym (b.stands.clocks server)) (b.stands.stops server) can)
    gives in
    record {
      left = t.comes.left;
      lines = lines_then ls t.lines mid ls' (state_lines q before now)
          (turn_lines w most q i) t.mid_is lines (shown_rightly t.lines w q ms before now
          (shown w b.stands) (shows (after_armed_turn w q i) t.comes.left) t.comes.lines_are);
      listed = t.listing_is;
    }
