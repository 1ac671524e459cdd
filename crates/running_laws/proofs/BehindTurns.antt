-- A step that is cut behind its last call that changes the disk, in the scene at which the world
-- stands: the turn of its host, with a node and messages by the rules alone.
use Rattle.std.proofs.Common.{◌≡◌, ℕ, true, List, [], ◌∷◌, ◌++◌, length, Contains, Option, None, Some, filter, flat_map, refl, sym, ap, ◌∙◌, subst, arith}
use Rattle.event_record.specs.declared.record.RecordFields.{RecordFields}
use Rattle.file_tree.specs.Book.{Entry}
use Rattle.fuzzy_cells.specs.Disk.{Disk}
use Rattle.group_rules.proofs.Tests.{if_is}
use Rattle.group_rules.specs.Moves.{Falling, Move, acts, moved_by}
use Rattle.group_rules.specs.Names.{place_of}
use Rattle.group_rules.specs.Places.{Place}
use Rattle.group_rules.specs.Said.{reads_said}
use Rattle.group_rules.specs.State.{Group, Server}
use Rattle.group_rules.specs.Step.{Does, Input as Begins, ListTree, list_of}
use Rattle.group_trace.specs.DiskCalls.{measures_of}
use Rattle.group_trace.specs.DiskRun.{DiskScene, Stores, disk_after, disks_after_at, is_whole}
use Rattle.harp_store.specs.Disk.{Disk as ToldDisk, Moments}
use Rattle.harp_types.specs.Trio.{value_of}
use Rattle.harp_types.specs.declared.server.ServerId.{ServerId}
use Rattle.idle_log.specs.Gives.{StandIn}
use Rattle.node.specs.Input.{came, input_of}
use Rattle.node.specs.Node.{IsServer as IsServed, NodeValue}
use Rattle.node.specs.Stock.{stock_after}
use Rattle.node.specs.Stored.{disk_by}
use Rattle.node.specs.declared.input.Input.{Input}
use Rattle.node.specs.declared.input.Input.TheVariants as input
use Rattle.node_outputs.specs.Records.{carried}
use Rattle.node_outputs.specs.declared.outputs.Sent.{Sent}
use Rattle.world.proofs.Begun.{Begun, begun}
use Rattle.world.proofs.Scenes.{lines_after, scene_after}
use Rattle.world.proofs.Servers.{turned_to}
use Rattle.world.proofs.TheLaws.{the_laws}
use Rattle.world.proofs.Turned.{Turned, turned_stands}
use Rattle.world.proofs.Turns.{disk_there, others_stay}
use Rattle.world.specs.Turns.{TurnBegins, TurnLeaves, turn_lines, turn_moves}
use Rattle.world.specs.World.{IsServer, IsWorld, WorldValue}
use Rattle.world_host.proofs.NodeCalls.{plain_moves}
use Rattle.world_host.proofs.Shown.{its_node}
use Rattle.world_host.proofs.Wholes.{host_from}
use Rattle.world_laws.specs.Books.{updates_brought}
use Rattle.world_laws.specs.Sent.{at_hand}
use Rattle.world_lines.specs.Book.{BookValue}
use Rattle.world_lines.specs.Given.{packets_of}
use Rattle.world_rules.specs.Host.{HostValue, IsHost, IsHostAt, Runs, disk_of}
use Rattle.world_rules.specs.Spellings.{spellings}
use Rattle.world_rules.specs.Steps.{CanTake, CanTakeAt, IsStop, listing_by, moves_at, peers_by}
use Rattle.running_laws.specs.Follows.{IsSite}
use Rattle.running_laws.specs.Statement.{is_answer}
use Rattle.running_laws.proofs.Answering.{none_in_moves}
use Rattle.running_laws.proofs.Bare.{AreBare, MayWrite, bare_silent, bare_step, is_flush}
use Rattle.running_laws.proofs.Behind.{IsBehind, left_host, left_served, node_left}
use Rattle.running_laws.proofs.Booked.{none_answered}
use Rattle.running_laws.proofs.Left.{none_some, same_some}
use Rattle.running_laws.proofs.Listed.{IsListed, given_listed, host_listed, told_listed}
use Rattle.running_laws.proofs.Spelt.{sents_carry, sents_heard, sents_of}

same_begun : (i j : Begins) → Some i ≡ Some j → i ≡ j
same_begun i j e = cc

-- such a step lists no tree
none_listed : (s : Server Entry) (q : Place) (list : List Entry) (given : Input) (i : Begins)
    → input_of given ≡ Some i → MayWrite i → None ≡ listing_by s q list given
none_listed s q list input.Tick i e may = refl
none_listed s q list input.Suspect i e may = refl
none_listed s q list (input.Message from message) i e may = refl
none_listed s q list (input.Ask peer client number cred call) i e may = refl
none_listed s q list (input.Apply most) i e may = refl
none_listed s q list input.Flush i e may = refl
none_listed s q list input.List i e may =
    absurd (subst MayWrite (sym (same_begun (Does ListTree) i e)) may)

none_stand : (all some : List RecordFields) → some ≡ [] → StandIn all some
none_stand all some none r has =
    absurd (omega (arith, (subst (λ (rs : List RecordFields). Contains rs r) none has).1))

-- what it rests on at a place: the node that lives there, the disk, and what is left of it
pub record IsCutThere (v : DiskScene) (x : WorldValue) (place : ServerId) (i : Begins)
    (old left : Moments) : Type 0 where
  pub may : MayWrite i
  pub no_stop : value_of x.stops place ≡ None
  pub node : NodeValue
  pub lives : (value_of x.hosts place).node ≡ Some node
  pub disk : disk_of (value_of x.hosts place) ≡ old.now
  pub served : IsServed node
  pub made : Some left ≡ disk_by node (plain_moves v.scene.group node i) (Some i) (Some old)

module _ (v : DiskScene) (x : WorldValue) (place : ServerId) (given : Input) (i : Begins)
    (begins : TurnBegins v x (place_of place) given i) (old left : Moments)
    (t : IsCutThere v x place i old left) where
  abbrev q : Place
  q = place_of place

  abbrev g : Group Entry
  g = v.scene.group

  abbrev n : NodeValue
  n = t.node

  abbrev own : IsServer v place (value_of x.hosts place)
  own = begins.stands.servers place

  abbrev ms : List (Move Entry)
  ms = moves_at g q i

  runs : Runs (g.server q) own.stock own.saved (value_of x.hosts place).me
      (disk_of (value_of x.hosts place)) n
  runs = its_node (g.server q) own.stock own.saved (v.disks q) (value_of x.hosts place) n own.host
      t.lives

  me_is : n.me ≡ q
  me_is = runs.me ∙ own.me

  -- ---- the host before it

  host_at : IsHostAt (g.server q) own.stock own.saved (v.disks q) q (Some n) old.now
  host_at = subst (λ (p : Place). IsHostAt (g.server q) own.stock own.saved (v.disks q) p (Some n)
      old.now) own.me
      (subst (λ (o : Option NodeValue). IsHostAt (g.server q) own.stock own.saved (v.disks q)
      (value_of x.hosts place).me o old.now) t.lives
      (subst (λ (d : ToldDisk). IsHostAt (g.server q) own.stock own.saved (v.disks q)
      (value_of x.hosts place).me (value_of x.hosts place).node d) t.disk own.host))

  can_at : CanTakeAt g q given i (v.disks q) (Some n) old.now
  can_at =
      let can : CanTake g q given i (v.disks q) (value_of x.hosts place) = the_laws.can_take v
      begins.reached q own.stock own.saved (value_of x.hosts place) own.me own.host own.has_stock
      given i begins.begins in
      subst (λ (o : Option NodeValue). CanTakeAt g q given i (v.disks q) o old.now) t.lives
      (subst (λ (d : ToldDisk). CanTakeAt g q given i (v.disks q) (value_of x.hosts place).node d)
      t.disk can)

  begun_so : Begun (measures_of spellings).size g q given i
  begun_so = begun the_laws (measures_of spellings).size g (the_laws.whole v begins.reached) q
      begins.up given i begins.begins begins.rightly

  -- what stands at a place
  abbrev Stands : Place → Type 0
  Stands p = IsHostAt (g.server p) own.stock own.saved (v.disks p) p (Some n) old.now
      × CanTakeAt g p given i (v.disks p) (Some n) old.now
      × ((acts p (g.clock p) (g.server p) (moves_at g p i)).up ≡ true)

  pub is_behind : IsBehind g given i own.stock own.saved (v.disks n.me) n old left
  is_behind =
      let here : Stands n.me =
      subst (λ (p : Place). Stands p) (sym me_is) (host_at, can_at, begun_so.up) in
      record {
        may = t.may;
        host = here.0;
        can = here.1;
        served = t.served;
        up = here.2;
        made = t.made;
      }

  -- ---- the host behind it

  abbrev pub new_node : NodeValue
  new_node = node_left g given i own.stock own.saved (v.disks n.me) n old left is_behind

  pub new_served : IsServed new_node
  new_served = left_served g given i own.stock own.saved (v.disks n.me) n old left is_behind

  pub disk_behind : IsListed left.now
  disk_behind = told_listed (disk_by n (plain_moves g n i) (Some i) (Some old)) left t.made
      (given_listed n (plain_moves g n i) (Some i) old
      (host_listed (value_of x.hosts place) old.now t.disk))

  abbrev pub host_behind : HostValue
  host_behind = record { me = q; node = Some new_node; disk = disk_behind.list }

  -- whether a stop is armed or not, the disk of the run is that of all calls
  abbrev disk_left : Disk
  disk_left = disk_after spellings g (v.scene.armed q) (v.picks q) q i (v.disks q)

  none_armed : v.scene.armed q ≡ None
  none_armed = subst (λ o. IsStop o (v.scene.armed q) (v.picks q)) t.no_stop
      (begins.stands.stops place)

  host_there : IsHost (acts q (g.clock q) (g.server q) ms)
      (stock_after q (g.clock q) (list_of g q) (came given) (peers_by own.stock given) (g.server q)
      ms own.stock) own.saved disk_left host_behind
  host_there = host_from _ _ own.saved disk_left host_behind q (Some new_node) left.now
      (record { me = refl; node = refl; disk = disk_behind.is })
      (subst (λ (most : Option ℕ). IsHostAt (acts q (g.clock q) (g.server q) ms)
      (stock_after q (g.clock q) (list_of g q) (came given) (peers_by own.stock given)
      (g.server q) ms own.stock) own.saved (disk_after spellings g most (v.picks q) q i (v.disks q))
      q (Some new_node) left.now) (sym none_armed)
      (subst (λ (p : Place). IsHostAt (acts p (g.clock p) (g.server p) (moves_at g p i))
      (stock_after p (g.clock p) (list_of g p) (came given) (peers_by own.stock given)
      (g.server p) (moves_at g p i) own.stock) own.saved
      (disk_after spellings g None (v.picks q) p i (v.disks p)) p (Some new_node) left.now) me_is
      (left_host g given i own.stock own.saved (v.disks n.me) n old left is_behind (v.picks q))))

  -- ---- the world behind it

  abbrev pub sends : List Sent
  sends = sents_of ms

  abbrev pub after : Group Entry
  after = moved_by g q (g.server q) ms

  abbrev pub book_behind : BookValue
  book_behind = record { entries = after.book; updates = length after.committed }

  abbrev pub world_behind : WorldValue
  world_behind = turned_to x place host_behind (x.packets ++ packets_of place sends) book_behind

  bare : AreBare (is_flush i) ms
  bare = bare_step (measures_of spellings).size q (g.clock q) (list_of g q) (g.server q) i t.may

  turned : Turned v x place given i disk_left host_behind sends
  turned = record {
    begins = begins;
    me = refl;
    host = host_there;
    said = sents_heard (is_flush i) ms bare;
    sent = none_stand (at_hand (measures_of spellings).size g q i own.stock)
        (flat_map (λ (s : Sent). carried s.message) sends) (sents_carry (is_flush i) ms bare);
  }

  abbrev disks : Stores
  disks = disks_after_at spellings v (v.scene.armed q) (v.picks q) q i

  moves_are : turn_moves v (v.scene.armed q) q i ≡ ms
  moves_are = if_is (is_whole spellings g (v.scene.armed q) q i) _ (Falling ∷ [])
      (subst (λ (most : Option ℕ). is_whole spellings g most q i ≡ true) (sym none_armed) refl)

  -- IT IS A TURN, in this scene
  pub turn_behind : TurnLeaves v q given i world_behind [] (turn_lines v (v.scene.armed q) q i) None
  turn_behind = record {
    left = subst (λ (moves : List (Move Entry)). IsWorld (scene_after v q moves disks)
        world_behind) (sym moves_are)
        (turned_stands the_laws v x place given i disk_left host_behind sends turned disks
        (disk_there v (v.scene.armed q) (v.picks q) q i)
        (others_stay v (v.scene.armed q) (v.picks q) q i) book_behind
        (record { entries = refl; updates = refl }));
    lines = refl;
    listed = λ _. none_listed (g.server q) q (list_of g q) given i begins.begins t.may;
  }

  -- which answers nobody
  pub none_said : filter is_answer (turn_lines v (v.scene.armed q) q i) ≡ []
  none_said = subst (λ (moves : List (Move Entry)). filter is_answer (lines_after v q moves) ≡ [])
      (sym moves_are)
      (none_in_moves g after q ms (none_answered ms (bare_silent (is_flush i) ms bare)))

  pub book_grows : (more : List Entry) × (book_behind.entries ≡ x.book.entries ++ more)
  book_grows = (
    updates_brought g q ms ++ reads_said ms,
    begun_so.grows.book ∙ ap (λ (es : List Entry).
        es ++ (updates_brought g q ms ++ reads_said ms)) (sym begins.stands.book.entries),
  )

  pub site_behind : IsSite host_behind (record { node = Some new_node; disk = left })
  site_behind = record {
    node = refl;
    disk = disk_behind.is;
    served = λ m is. subst IsServed (same_some new_node m is) new_served;
    synced = λ none. absurd (none_some new_node (sym none));
  }
