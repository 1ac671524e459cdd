-- What three servers of one process do, what they run on, and how they end.
use Rattle.std.specs.Prelude.{◌≡◌, ◌≤◌, ◌⊎◌, ℕ, ◌+◌, List, Option, Some}
use Rattle.std.specs.Borrow.{MutBor}
use Rattle.harp_types.specs.Streams.{Rose}
use Rattle.harp_types.specs.declared.server.ServerId.{ServerId}
use Rattle.harp_types.specs.declared.trio.Trio.{Trio}
use Rattle.door_group.specs.declared.servers.ServersFault.{ServersFault}
use Rattle.door_group.specs.declared.servers.ServersFault.TheVariants.{Failed, NoMemory}
use Rattle.node_loop.specs.Chain.{Chain, Stops}
use Rattle.node_loop.specs.Cut.{AsksAtInPart, TurnsAtInPart}
use Rattle.node_loop.specs.Run.{Asked, AsksAt, TurnsAt}
use Rattle.node_loop.specs.Scene.{Around, NoneFell, OneRose, Scene, all_places, with_heard}
use Rattle.node_loop.specs.declared.fault.LoopFault.{LoopFault}
use Rattle.node_loop.specs.declared.fault.LoopFault.TheVariants as fault
use Rattle.node_loop.specs.declared.heard.Heard.{Heard}

-- the fault of servers that a fault of their loop is
abbrev pub of_loop : LoopFault → ServersFault
of_loop fault.StoreFailed = Failed
of_loop fault.LinkFailed = Failed
of_loop fault.NoMemory = NoMemory

-- the link or a disk ended them
abbrev pub HasFailed : Option LoopFault → Type 0
HasFailed ended = (ended ≡ Some fault.LinkFailed) ⊎ (ended ≡ Some fault.StoreFailed)

-- the failed calls of a link and of disks
abbrev pub all_faults : ℕ → Trio ℕ → ℕ
all_faults link disks = link + (disks.zero + (disks.one + disks.two))

-- ---- what they do

-- a turn of each of the three leads from one scene to another, and this is heard by it
abbrev pub Turned : Scene → List Heard → Scene → Type 0
Turned w said v = Chain TurnsAt all_places w (with_heard said v)

-- so does an ask of the server of a place
abbrev pub AskedAt : ServerId → Asked → Scene → List Heard → Scene → Type 0
AskedAt place q w said v = AsksAt place q w (with_heard said v)

-- a turn is cut off, whatever was heard before, and leaves this
abbrev pub TurnBreaks : Scene → Around → Type 0
TurnBreaks w left =
    (hs : List Heard) × Stops TurnsAt TurnsAtInPart all_places (with_heard hs w) left

-- so is an ask of the server of a place
abbrev pub AskBreaks : ServerId → Asked → Scene → Around → Type 0
AskBreaks place q w left = (hs : List Heard) × AsksAtInPart place q (with_heard hs w) left

-- ---- what they run on

-- it is the same loan, of the same value
abbrev pub IsLent : {A : Type 0} → MutBor A → MutBor A → Type 0
IsLent given taken = (taken.ghost_name ≡ given.ghost_name) × (taken.now ≡ given.now)

-- What servers run on: their loop, their link, their disks and their clock, each by the name of its
-- loan, and how many calls of the link and of the disks failed
pub record Basis : Type 0 where
  pub three : ℕ
  pub link : ℕ
  pub disks : ℕ
  pub clock : ℕ
  pub link_faults : ℕ
  pub disk_faults : Trio ℕ

-- THE SAME LATER, where this ended the servers if anything did: the loans are the same, no count
-- fell, and the count of what ended them rose
pub record IsLater (ended : Option LoopFault) (old new : Basis) : Type 0 where
  pub three : new.three ≡ old.three
  pub link : new.link ≡ old.link
  pub disks : new.disks ≡ old.disks
  pub clock : new.clock ≡ old.clock
  pub link_count : old.link_faults ≤ new.link_faults
  pub disk_count : NoneFell old.disk_faults new.disk_faults
  pub link_rose : ended ≡ Some fault.LinkFailed → Rose old.link_faults new.link_faults
  pub disk_rose : ended ≡ Some fault.StoreFailed → OneRose old.disk_faults new.disk_faults
