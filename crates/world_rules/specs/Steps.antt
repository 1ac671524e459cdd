-- What a step makes of a host, beside what it makes of its server in the group.
use Rattle.std.specs.Prelude.{◌≡◌, ℕ, true, false, List, [], ◌∷◌, ◌++◌, Option, None, Some, if◌then◌else◌}
use Rattle.event_record.specs.declared.record.RecordFields.{RecordFields}
use Rattle.file_tree.specs.Book.{Entry}
use Rattle.fuzzy_cells.specs.Disk.{Disk}
use Rattle.group_trace.specs.DiskCalls.{measures_of}
use Rattle.group_trace.specs.DiskRun.{calls_at, disk_after, is_whole}
use Rattle.group_rules.specs.Disk.{settled_tests}
use Rattle.group_rules.specs.Effects.{booted, down, saving}
use Rattle.group_rules.specs.Moves.{Move, acts}
use Rattle.group_rules.specs.Places.{Place, all_of, is_p2}
use Rattle.group_rules.specs.State.{Group, Log, Server, mark_of}
use Rattle.group_rules.specs.Step.{Crash, Does, Input as Begins, Power, list_of, saves, step_of}
use Rattle.harp_types.specs.declared.peer.Peer.{Peer}
use Rattle.harp_store.specs.Disk.{Disk as ToldDisk}
use Rattle.harp_types.specs.declared.pick.Pick.{Pick}
use Rattle.idle_log.specs.Gives.{StandIn}
use Rattle.node.specs.Boot.{booted_stock}
use Rattle.node.specs.Input.{FillsInput, came, input_of}
use Rattle.node.specs.Node.{NodeValue}
use Rattle.node.specs.Stock.{Stock, stock_after}
use Rattle.node.specs.Stored.{changes_made, log_of, stores}
use Rattle.node.specs.declared.input.Input.{Input}
use Rattle.node.specs.declared.input.Input.TheVariants as input
use Rattle.node_outputs.specs.Makes.{with_moves}
use Rattle.node_outputs.specs.Records.{records_sent}
use Rattle.node_outputs.specs.Said.{nothing, said}
use Rattle.node_outputs.specs.declared.outputs.Outputs.{Outputs}
use Rattle.store_laws.specs.Calls.{HaveFewBlocks, IsChangeOf}
use Rattle.store_laws.specs.Steps.{applied_by}
use Rattle.store_laws.specs.Told.{OneForOne}
use Rattle.tree_listing.specs.declared.listing.Listing.{Listing}
use Rattle.tree_log.specs.Reading.{HoldsTree}
use Rattle.replica.specs.Asking.{recorded}
use Rattle.replica.specs.Listing.{listing_at}
use Rattle.world_rules.specs.Host.{HostValue, IsHost, disk_of, no_stock, told_now}
use Rattle.world_rules.specs.Spellings.{spellings}
use Rattle.world_rules.specs.declared.stop.Stop.{Stop}

-- ---- what it is given

-- a stop lets so many calls pass, and this is its pick; where there is none, any will do
abbrev pub IsStop : Option Stop → Option ℕ → Pick → Type 0
IsStop None most pick = most ≡ None
IsStop (Some stop) most pick = (most ≡ Some stop.calls) × (pick ≡ stop.pick)

-- who is answered or refused in turn: an ask's own peer; those who wait, where an update commits
abbrev pub peers_by : Stock → Input → List Peer
peers_by k (input.Ask peer client number cred call) = peer ∷ []
peers_by k (input.Apply most) = []
peers_by k input.Flush = []
peers_by k input.List = []
peers_by k input.Tick = k.waits
peers_by k input.Suspect = k.waits
peers_by k (input.Message from message) = k.waits

-- the moves of a step that begins so
abbrev pub moves_at : Group Entry → Place → Begins → List (Move Entry)
moves_at g q i = step_of (measures_of spellings).size g q i

-- WHAT A STEP OF A HOST RESTS ON in its group: what it is given begins the step `i`; the log of its
-- node is of its list, and holds the tree at CP; what is applied are the changes of the history; an
-- active server has no saved log; and blocks have the numbers of a file's
pub record CanTakeAt (g : Group Entry) (q : Place) (given : Input) (i : Begins) (r : Disk)
    (o : Option NodeValue) (d : ToldDisk) : Type 0 where
  pub begins : input_of given ≡ Some i
  pub fills : (n : NodeValue) → o ≡ Some n
      → FillsInput (list_of g q) n (g.clock q) (told_now d) given
  pub tree : (n : NodeValue) → o ≡ Some n → stores n ≡ true
      → HoldsTree (list_of g q) n.plain.cp (log_of n) (told_now d)
  pub applied : (n : NodeValue) (most : ℕ) → o ≡ Some n → stores n ≡ true
      → OneForOne IsChangeOf (changes_made most n) (applied_by g q most)
  pub unsaved : all_of (settled_tests q (g.server q)) ≡ true → (g.server q).saved ≡ None
  pub few : HaveFewBlocks (calls_at spellings g q i) r

abbrev pub CanTake : Group Entry → Place → Input → Begins → Disk → HostValue → Type 0
CanTake g q given i r h = CanTakeAt g q given i r h.node (disk_of h)

-- ---- what it gives

-- THE LISTING that is asked for: a settled data server lists its tree at CP, another server nothing
abbrev pub listing_by : Server Entry → Place → List Entry → Input → Option Listing
listing_by s q list input.List =
    if all_of (settled_tests q s) then Some (listing_at s.cp list) else None
listing_by s q list given = None

-- A WHOLE STEP: its outputs are what the moves say, with records that the server had or appends,
-- and the host is the server after the moves, over the disk of the run
pub record TakesWhole (g : Group Entry) (q : Place) (given : Input) (i : Begins) (k : Stock)
    (saved : List RecordFields) (left : Disk) (new : HostValue) (outs : Outputs) : Type 0 where
  pub said : said outs ≡
      with_moves q (g.clock q) (g.server q) (moves_at g q i) (peers_by k given) nothing
  pub sent : StandIn (k.log ++ recorded (g.server q).accepted (list_of g q) (moves_at g q i))
      (records_sent outs)
  pub listing : outs.listing ≡ listing_by (g.server q) q (list_of g q) given
  pub host : IsHost (acts q (g.clock q) (g.server q) (moves_at g q i))
      (stock_after q (g.clock q) (list_of g q) (came given) (peers_by k given) (g.server q)
      (moves_at g q i) k)
      saved left new

-- a server that falls keeps its mark alone
abbrev pub Falls : Server Entry → List RecordFields → Disk → HostValue → Type 0
Falls s saved left new = IsHost (down (mark_of s)) no_stock saved left new

-- A STEP is whole, or its stop comes: then nothing is given, and the server falls
pub record Takes (g : Group Entry) (most : Option ℕ) (pick : Pick) (q : Place) (given : Input)
    (i : Begins) (k : Stock) (saved : List RecordFields) (r : Disk) (new : HostValue)
    (result : Option Outputs) : Type 0 where
  pub whole : is_whole spellings g most q i ≡ true → (outs : Outputs) × (result ≡ Some outs)
      × TakesWhole g q given i k saved (disk_after spellings g most pick q i r) new outs
  pub stopped : is_whole spellings g most q i ≡ false → (result ≡ None)
      × Falls (g.server q) saved (disk_after spellings g most pick q i r) new

-- whatever the group, and whatever run this is a server of
abbrev pub HostTakes : (old new : HostValue) → (given : Input) → (now : ℕ) → (stop : Option Stop)
    → Option Outputs → Type 0
HostTakes old new given now stop result = (g : Group Entry) (most : Option ℕ) (pick : Pick)
    (i : Begins) (k : Stock) (saved : List RecordFields) (r : Disk)
    → IsHost (g.server old.me) k saved r old → (g.server old.me).up ≡ true → g.clock old.me ≡ now
    → IsStop stop most pick → CanTake g old.me given i r old
    → Takes g most pick old.me given i k saved r new result

-- ---- power failures, crashes and boots

-- WHAT A POWER FAILURE RESTS ON: the witness that holds a log has LB at its base
pub record CanFail (g : Group Entry) (q : Place) (r : Disk) : Type 0 where
  pub base : is_p2 q ≡ true → (g.server q).held ≡ Log → (g.server q).lb ≡ (g.server q).base
  pub few : HaveFewBlocks (calls_at spellings g q (Does Power)) r

-- the records of the saved log that a power failure leaves
abbrev pub saved_after : Server Entry → Stock → List RecordFields → List RecordFields
saved_after s k saved = if saves s.held s.saved then k.log else saved

-- A POWER FAILURE: the server falls, and its log is saved if it has one unsaved; or the stop comes
pub record Fails (g : Group Entry) (most : Option ℕ) (pick : Pick) (q : Place) (k : Stock)
    (saved : List RecordFields) (r : Disk) (new : HostValue) : Type 0 where
  pub whole : is_whole spellings g most q (Does Power) ≡ true
      → Falls (saving q (g.server q) (g.server q).saved) (saved_after (g.server q) k saved)
      (disk_after spellings g most pick q (Does Power) r) new
  pub stopped : is_whole spellings g most q (Does Power) ≡ false
      → Falls (g.server q) saved (disk_after spellings g most pick q (Does Power) r) new

abbrev pub HostFails : (old new : HostValue) → (stop : Option Stop) → Type 0
HostFails old new stop = (g : Group Entry) (most : Option ℕ) (pick : Pick) (k : Stock)
    (saved : List RecordFields) (r : Disk) → IsHost (g.server old.me) k saved r old
    → (g.server old.me).up ≡ true → IsStop stop most pick → CanFail g old.me r
    → Fails g most pick old.me k saved r new

-- A CRASH by a pick
abbrev pub HostFalls : (old new : HostValue) → Pick → Type 0
HostFalls old new by = (g : Group Entry) (pick : Pick) (k : Stock) (saved : List RecordFields)
    (r : Disk) → IsHost (g.server old.me) k saved r old → pick ≡ by
    → Falls (g.server old.me) saved
    (disk_after spellings g None pick old.me (Does Crash) r) new

-- A BOOT from the mark and the saved log
abbrev pub Boots : Group Entry → Place → List RecordFields → Disk → HostValue → Type 0
Boots g q saved r new =
    IsHost (booted q (g.clock q) g.delta (mark_of (g.server q)))
    (booted_stock (booted q (g.clock q) g.delta (mark_of (g.server q))) saved) saved r new

abbrev pub HostBoots : (old new : HostValue) → (now delta : ℕ) → Type 0
HostBoots old new now delta = (g : Group Entry) (saved : List RecordFields) (r : Disk)
    → IsHost (g.server old.me) no_stock saved r old → (g.server old.me).up ≡ false
    → g.clock old.me ≡ now → g.delta ≡ delta
    → Boots g old.me saved r new
