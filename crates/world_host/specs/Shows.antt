-- What a host shows of what is wanted of it, and what that leaves of it.
use Rattle.std.specs.Prelude.{◌≡◌, List, Option, None, Some}
use Rattle.file_tree.specs.Book.{Entry}
use Rattle.group_rules.specs.Shown.{state_of}
use Rattle.harp_store.specs.Disk.{Disk as ToldDisk, reads}
use Rattle.harp_types.specs.declared.state.StateLine.{StateLine}
use Rattle.node.specs.Node.{NodeValue, server}
use Rattle.node.specs.Wants.{Shows}
use Rattle.shown.specs.declared.shown.Shown.{Shown}
use Rattle.shown.specs.declared.shown.Want.{Want}
use Rattle.world_rules.specs.Host.{HostValue, disk_of}

-- what a node shows over a disk, if there is one
abbrev pub ShowsOver : Option NodeValue → ToldDisk → Want → Option Shown → Type 0
ShowsOver None d want o = o ≡ None
ShowsOver (Some n) d want o = Shows n (Some (reads d)) want o

-- THE ANSWER of a host: its node's, over its disk
abbrev pub HostShows : HostValue → Want → Option Shown → Type 0
HostShows h want o = ShowsOver h.node (disk_of h) want o

-- the same node, if any, but for the cells that it keeps in memory
abbrev pub IsNodeStill : Option NodeValue → Option NodeValue → Type 0
IsNodeStill None new = new ≡ None
IsNodeStill (Some n) None = ⊥
IsNodeStill (Some n) (Some m) = m ≡ record n { cached = m.cached }

-- A HOST IS STILL AS IT WAS, but for the cells that its node keeps in memory
pub record IsStill (old new : HostValue) : Type 0 where
  pub me : new.me ≡ old.me
  pub node : IsNodeStill old.node new.node
  pub disk : disk_of new ≡ disk_of old

-- A STATE LINE IS A NODE'S
abbrev pub IsShown : Option StateLine → NodeValue → Type 0
IsShown line n = (items : List Entry) → line ≡ Some (state_of (server n items))
