-- What is known of a whole step of a host in the group: its moves, and what they said.
use Rattle.std.proofs.Common.{◌≡◌, ℕ, true, List, ◌++◌, Option, None, Some, refl, sym, subst}
use Rattle.file_tree.specs.Book.{Entry}
use Rattle.fuzzy_cells.specs.Disk.{Disk}
use Rattle.group_rules.specs.Moves.{Move, moved_by}
use Rattle.group_rules.specs.Names.{place_of}
use Rattle.group_rules.specs.Places.{Place}
use Rattle.group_rules.specs.Said.{reads_said}
use Rattle.group_rules.specs.State.{Group}
use Rattle.group_rules.specs.Step.{Input as Begins, list_of}
use Rattle.group_safety.proofs.Moving.{Goes, goes_good}
use Rattle.group_safety.proofs.Safe.{input_goes, whole_of}
use Rattle.group_safety.specs.Laws.{Whole}
use Rattle.group_trace.specs.DiskCalls.{measures_of}
use Rattle.group_trace.specs.DiskRun.{DiskScene, Stores, disk_after, disks_after_at, is_whole}
use Rattle.harp_types.specs.Trio.{value_of}
use Rattle.harp_types.specs.declared.server.ServerId.{ServerId}
use Rattle.node.specs.declared.input.Input.{Input}
use Rattle.node_outputs.specs.declared.outputs.Outputs.{Outputs}
use Rattle.trace_laws.proofs.MoveKinds.{Kind}
use Rattle.trace_laws.proofs.StepKinds.{step_kind}
use Rattle.world.proofs.Begun.{Begun, begun}
use Rattle.world.proofs.Takes.{takes_at}
use Rattle.world.proofs.TheLaws.{the_laws}
use Rattle.world.proofs.Turns.{disk_there, others_stay}
use Rattle.world.proofs.Whole.{WholeTurn, whole_stands}
use Rattle.world.specs.Turns.{TurnBegins}
use Rattle.world.specs.World.{IsServer, WorldValue}
use Rattle.world_laws.proofs.HostSteps.{known}
use Rattle.world_laws.specs.Books.{updates_brought}
use Rattle.world_lines.specs.Given.{book_given}
use Rattle.world_rules.specs.Host.{HostValue}
use Rattle.world_rules.specs.Spellings.{spellings}
use Rattle.world_rules.specs.Steps.{CanTake, IsStop, Takes, TakesWhole, moves_at}
use Rattle.running_laws.specs.Events.{Site}
use Rattle.running_laws.proofs.Takings.{IsTurn, host_left, takes}

same_outs : (m n : Outputs) → Some m ≡ Some n → m ≡ n
same_outs m n e = cc

module _ (v : DiskScene) (x : WorldValue) (place : ServerId) (now : ℕ) (given : Input)
    (outs : Option Outputs) (a b : Site) (t : IsTurn x place now given outs a b) (i : Begins)
    (begins : TurnBegins v x (place_of place) given i) where
  abbrev pub q : Place
  q = place_of place

  abbrev pub g : Group Entry
  g = v.scene.group

  abbrev pub own : IsServer v place (value_of x.hosts place)
  own = begins.stands.servers place

  abbrev pub ms : List (Move Entry)
  ms = moves_at g q i

  abbrev pub after : Group Entry
  after = moved_by g q (g.server q) ms

  abbrev host : HostValue
  host = host_left x place now given outs a b t

  abbrev left : Disk
  left = disk_after spellings g (v.scene.armed q) (v.picks q) q i (v.disks q)

  can : CanTake g q given i (v.disks q) (value_of x.hosts place)
  can = the_laws.can_take v begins.reached q own.stock own.saved (value_of x.hosts place) own.me
      own.host own.has_stock given i begins.begins

  made : Takes g (v.scene.armed q) (v.picks q) q given i own.stock own.saved (v.disks q) host
      (Some t.step.puts)
  made = takes_at q (value_of x.hosts place) host given (value_of x.clocks place)
      (value_of x.stops place) (Some t.step.puts) own.me (takes x place now given outs a b t) g
      (v.scene.armed q) (v.picks q) i own.stock own.saved (v.disks q) own.host begins.up
      (sym (begins.stands.clocks place)) (begins.stands.stops place) can

  none_armed : v.scene.armed q ≡ None
  none_armed = subst (λ o. IsStop o (v.scene.armed q) (v.picks q)) t.no_stop
      (begins.stands.stops place)

  not_cut : is_whole spellings g (v.scene.armed q) q i ≡ true
  not_cut = subst (λ (m : Option ℕ). is_whole spellings g m q i ≡ true) (sym none_armed) refl

  -- THE STEP IS WHOLE: its outputs are what the moves say
  pub taken : TakesWhole g q given i own.stock own.saved left host t.step.puts
  taken =
      let whole = made.whole not_cut in
      subst (λ (o : Outputs). TakesWhole g q given i own.stock own.saved left host o)
      (sym (same_outs t.step.puts whole.0 whole.1)) whole.2

  group_whole : Whole g
  group_whole = the_laws.whole v begins.reached

  begun_so : Begun (measures_of spellings).size g q given i
  begun_so = begun the_laws (measures_of spellings).size g group_whole q begins.up given i
      begins.begins begins.rightly

  pub goes : Goes g q (g.server q) ms
  goes = input_goes (measures_of spellings).size g group_whole q begins.up i
      (known g group_whole q i begun_so.may)

  pub after_whole : Whole after
  after_whole = whole_of after q _ (goes_good ms g q (g.server q) goes)

  pub kind : Kind q (g.clock q) (g.server q) i ms
  kind = step_kind (measures_of spellings).size q (g.clock q) (list_of g q) (g.server q) i

  -- the book of the world is the group's, before and after
  pub book_before : x.book.entries ≡ g.book
  book_before = begins.stands.book.entries

  abbrev disks : Stores
  disks = disks_after_at spellings v (v.scene.armed q) (v.picks q) q i

  whole_turn : WholeTurn v x place given i left host t.step.puts
  whole_turn = record { begins = begins; me = refl; takes = taken }

  pub book_after : (book_given x.book t.step.puts).entries ≡ after.book
  book_after = (whole_stands the_laws v x place given i left host t.step.puts whole_turn disks
      (disk_there v (v.scene.armed q) (v.picks q) q i)
      (others_stay v (v.scene.armed q) (v.picks q) q i)).book.entries

  pub book_grows : (more : List Entry) × (after.book ≡ g.book ++ (more ++ reads_said ms))
  book_grows = (updates_brought g q ms, begun_so.grows.book)
