-- The mark of a disk, as values.
use Rattle.std.specs.Prelude.{◌≡◌, ◌⊎◌, ℕ, ◌≤◌, Option, Some, IfSome}
use Rattle.harp_types.specs.Limits.{log_room}
use Rattle.harp_types.specs.View.{View}
use Rattle.harp_types.specs.declared.server.ServerId.{ServerId}
use Rattle.harp_types.specs.declared.server.ServerId.TheVariants.{Zero, One, Two}
use Rattle.harp_types.specs.declared.state.Role.{Role}
use Rattle.harp_types.specs.declared.state.Role.TheVariants.{Leads, Follows, Outside}

-- how many cells the records of a saved log went round in before the log got longer
abbrev pub old_ring : ℕ
old_ring = 16384

-- the least and the greatest length of a promise
abbrev pub shortest_promise : ℕ
shortest_promise = 500

abbrev pub longest_promise : ℕ
longest_promise = 100000

-- the numbers of a saved log: the index before its first record, the commit point, the index of
-- its last record, and how many cells its records go round in
pub record SavedNumbers : Type 0 where
  pub base : ℕ
  pub cp : ℕ
  pub top : ℕ
  pub ring : ℕ

-- a saved log's records go round in this many cells
abbrev pub IsRing : ℕ → Type 0
IsRing n = (n ≡ old_ring) ⊎ (n ≡ log_room)

-- what a server keeps on its disk beside the cells
pub record MarkFields : Type 0 where
  pub promised : View
  pub accepted : View
  pub role : Role
  pub lb : ℕ
  pub longest : Option ℕ
  pub saved : Option SavedNumbers

-- the greatest length of a promise that a disk ever saw: an old mark has none
abbrev pub IsLongest : Option ℕ → Type 0
IsLongest longest = IfSome longest (λ n. (shortest_promise ≤ n) × (n ≤ longest_promise))

-- THE FIRST MARK of a server's disk: servers 0 and 1 are the storers of a view that never opens,
-- and each has the empty log
abbrev pub first_role : ServerId → Role
first_role Zero = Leads One
first_role One = Follows Zero
first_role Two = Outside

abbrev pub first_mark : ServerId → ℕ → MarkFields
first_mark place longest = record {
  promised = record { count = 0; coordinator = Zero };
  accepted = record { count = 0; coordinator = Zero };
  role = first_role place;
  lb = 0;
  longest = Some longest;
  saved = Some (record { base = 0; cp = 0; top = 0; ring = log_room });
}
