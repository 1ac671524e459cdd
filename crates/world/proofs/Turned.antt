-- A turn of a server that isn't cut, whatever gives its messages: the world stands at the scene
-- after its moves.
use Rattle.std.proofs.Common.{◌≡◌, ℕ, ◌+◌, List, ◌++◌, flat_map, map, refl, sym, ap, ◌∙◌, subst, true≢false}
use Rattle.std.proofs.lemmas.List.Sums.{sum_by-append}
use Rattle.file_tree.specs.Book.{Entry}
use Rattle.fuzzy_cells.specs.Disk.{Disk}
use Rattle.group_rules.specs.Moves.{Move, Sending, acts, moved_by}
use Rattle.group_rules.specs.Names.{place_of}
use Rattle.group_rules.specs.Places.{Place}
use Rattle.group_rules.specs.Said.{sends_said}
use Rattle.group_rules.specs.State.{Group, Message, Server}
use Rattle.group_rules.specs.Step.{Input as Begins, list_of}
use Rattle.group_safety.specs.Words.{In}
use Rattle.group_trace.specs.DiskCalls.{measures_of}
use Rattle.group_trace.specs.DiskRun.{DiskScene, Stores}
use Rattle.group_trace.specs.Run.{bytes_of}
use Rattle.harp_types.specs.Trio.{value_of}
use Rattle.harp_types.specs.declared.server.ServerId.{ServerId}
use Rattle.idle_log.specs.Gives.{StandIn}
use Rattle.node.specs.Input.{came}
use Rattle.node.specs.Stock.{stock_after}
use Rattle.node.specs.declared.input.Input.{Input}
use Rattle.node_outputs.specs.Messages.{as_heard}
use Rattle.node_outputs.specs.Records.{carried}
use Rattle.node_outputs.specs.Said.{sent}
use Rattle.node_outputs.specs.declared.outputs.Sent.{Sent}
use Rattle.trace_laws.proofs.After.{moved_server}
use Rattle.world_laws.specs.Sent.{at_hand}
use Rattle.world_laws.specs.Waits.{HasWaits, StepWaits}
use Rattle.world_lines.specs.Book.{BookValue}
use Rattle.world_lines.specs.Given.{packets_of}
use Rattle.world_lines.specs.Machine.{StandFor}
use Rattle.world_lines.specs.Posted.{bytes_of as bytes_of_posted, bytes_sent}
use Rattle.world_rules.specs.Host.{HostValue, IsHost}
use Rattle.world_rules.specs.Spellings.{spellings}
use Rattle.world_rules.specs.Steps.{moves_at, peers_by}
use Rattle.world.specs.Turns.{TurnBegins}
use Rattle.world.specs.World.{HasBook, HasPackets, IsServer, IsWorld, WorldValue}
use Rattle.world.proofs.Begun.{Begun, begun}
use Rattle.world.proofs.Laws.{Laws}
use Rattle.world.proofs.Moved.{bytes_said, packets_said, said_in}
use Rattle.world.proofs.Packets.{carried_still}
use Rattle.world.proofs.Scenes.{scene_after, scene_turns}
use Rattle.world.proofs.Sends.{AreSent, are_sent, carried_both, sends_carry, sends_count, sends_stand}
use Rattle.world.proofs.Servers.{turned_to, world_turned}

-- what such a turn has: its beginning, its server's host afterwards, and the messages that its
-- moves send, with records that the server had or appends
pub record Turned (w : DiskScene) (x : WorldValue) (server : ServerId) (given : Input)
    (i : Begins) (left : Disk) (h : HostValue) (sends : List Sent) : Type 0 where
  pub begins : TurnBegins w x (place_of server) given i
  pub me : h.me ≡ place_of server
  pub host : IsHost (acts (place_of server) (w.scene.group.clock (place_of server))
      (w.scene.group.server (place_of server)) (moves_at w.scene.group (place_of server) i))
      (stock_after (place_of server) (w.scene.group.clock (place_of server))
      (list_of w.scene.group (place_of server)) (came given)
      (peers_by (begins.stands.servers server).stock given)
      (w.scene.group.server (place_of server)) (moves_at w.scene.group (place_of server) i)
      (begins.stands.servers server).stock)
      (begins.stands.servers server).saved left h
  pub said : map sent sends
      ≡ map as_heard (sends_said (moves_at w.scene.group (place_of server) i))
  pub sent : StandIn (at_hand (measures_of spellings).size w.scene.group (place_of server) i
      (begins.stands.servers server).stock)
      (flat_map (λ (s : Sent). carried s.message) sends)

module _ (l : Laws) (w : DiskScene) (x : WorldValue) (server : ServerId) (given : Input)
    (i : Begins) (left : Disk) (h : HostValue) (sends : List Sent)
    (t : Turned w x server given i left h sends) where
  abbrev q : Place
  q = place_of server

  abbrev g : Group Entry
  g = w.scene.group

  abbrev ms : List (Move Entry)
  ms = moves_at g q i

  abbrev after : Group Entry
  after = moved_by g q (g.server q) ms

  abbrev own : IsServer w server (value_of x.hosts server)
  own = t.begins.stands.servers server

  pub turn_begun : Begun (measures_of spellings).size g q given i
  turn_begun = begun l (measures_of spellings).size g (l.whole w t.begins.reached) q t.begins.up
      given i t.begins.begins t.begins.rightly

  pub turn_waits : StepWaits g q own.stock given i
  turn_waits = l.wait g (l.whole w t.begins.reached) q t.begins.up own.stock own.waits given i
      t.begins.begins turn_begun.may

  server_is : after.server q ≡ acts q (g.clock q) (g.server q) ms
  server_is = moved_server ms g q (g.server q) refl

  -- ---- the server

  own_after : (disks : Stores) → disks q ≡ left → IsServer (scene_after w q ms disks) server h
  own_after disks is =
      let stock = stock_after q (g.clock q) (list_of g q) (came given) (peers_by own.stock given)
      (g.server q) ms own.stock in
      record {
        me = t.me;
        stock = stock;
        saved = own.saved;
        host = subst (λ (s : Server Entry). IsHost s stock own.saved (disks q) h) (sym server_is)
            (subst (λ (d : Disk). IsHost (acts q (g.clock q) (g.server q) ms) stock own.saved d h)
            (sym is) t.host);
        has_stock = turn_begun.keeps.stock (peers_by own.stock given) own.stock own.has_stock;
        are_saved = turn_begun.keeps.saved own.saved own.are_saved;
        waits = subst (λ (s : Server Entry). HasWaits s stock) (sym server_is) turn_waits.after;
        rests = λ down. absurd (true≢false (sym turn_begun.up
            ∙ sym (ap (λ (s : Server Entry). s.up) server_is) ∙ down));
      }

  -- ---- packets

  abbrev bytes : Message Entry → ℕ
  bytes = (measures_of spellings).bytes (list_of after q)

  pub sent_all : AreSent after.page bytes sends (sends_said ms)
  sent_all = are_sent after.page bytes (at_hand (measures_of spellings).size g q i own.stock)
      (λ y. In ms (Sending y.0 y.1))
      (λ y m does hears stand.
      let carries = turn_begun.sends own.stock own.has_stock y.0 y.1 does m hears stand in (
        carries,
        l.sized g (l.whole w t.begins.reached) q t.begins.up i turn_begun.may y.0 y.1 does m
            hears carries,
      ))
      sends (sends_said ms) t.said (said_in ms) t.sent

  packets_after : (disks : Stores)
      → HasPackets (scene_after w q ms disks) (x.packets ++ packets_of server sends)
  packets_after disks =
      let old = t.begins.stands.packets in
      record {
        packets = subst (λ ps. StandFor (x.packets ++ packets_of server sends) ps
            w.scene.delivered) (sym (packets_said ms g q (g.server q)))
            (sends_stand after.page bytes server sends (sends_said ms) sent_all x.packets
            g.packets w.scene.delivered old.packets);
        records = carried_both after.page x.packets (packets_of server sends)
            (carried_still g after x.packets w.scene.delivered turn_begun.stays old.packets
            old.records)
            (sends_carry after.page bytes server sends (sends_said ms) sent_all);
        bytes = ap (λ n. n + bytes_of (measures_of spellings) (list_of after q) ms) old.bytes
            ∙ ap (λ n. bytes_sent x.packets + n)
            (bytes_said (measures_of spellings) (list_of after q) ms
            ∙ sym (sends_count after.page bytes server sends (sends_said ms) sent_all))
            ∙ sym (sum_by-append bytes_of_posted x.packets (packets_of server sends));
      }

  -- ---- all of it

  -- THE WORLD STANDS, with this book, where it is the group's
  pub turned_stands : (disks : Stores) → disks q ≡ left
      → ((y : Place) → (y ≡ q → ⊥) → disks y ≡ w.disks y)
      → (book : BookValue) → HasBook after book
      → IsWorld (scene_after w q ms disks)
      (turned_to x server h (x.packets ++ packets_of server sends) book)
  turned_stands disks is others book has = world_turned w (scene_after w q ms disks) x server h
      (x.packets ++ packets_of server sends) book t.begins.stands
      (scene_turns w q ms disks turn_begun.stays others) (own_after disks is)
      (packets_after disks) has
