-- Which records change what.
use Rattle.std.specs.Prelude.{◌≡◌, ℕ, ◌+◌, ◌-◌, ◌<◌, ◌≤◌, Bool, true, false, ◌&&◌, ◌||◌, ◌==◌, nat_lt, List, [], take, slice_index_or, length, IfSome, Option, Some, None, if◌then◌else◌}
use Rattle.std.specs.List.{list_any}
use Rattle.std.specs.Map.{lookup}
use Rattle.harp_cells.specs.declared.cell.Cell.{Cell}
use Rattle.harp_cells.specs.declared.cell.Cell.TheVariants as cell
use Rattle.harp_cells.specs.declared.change.Change.{Change}
use Rattle.harp_cells.specs.declared.change.Change.TheVariants as change
use Rattle.harp_cells.specs.Effect.{key, is_key}
use Rattle.fuzzy_cells.specs.History.{History}
use Rattle.overlay.specs.Indices.{is_among}

-- what a change is of: a cell, by its key, or the blocks of an object from some one on
abbrev pub Place : Type 0
Place = ℕ × ℕ × ℕ

abbrev pub blocks_of : ℕ → Place
blocks_of object = (7, object, 0)

abbrev pub place_of : Change → Place
place_of (change.Put cell value) = key cell
place_of (change.Erase cell) = key cell
place_of (change.EraseFrom object first) = blocks_of object

-- places, each with the indices of records that have a change of it
abbrev pub Entries : Type 0
Entries = List (Place × List ℕ)

-- each place has one
abbrev pub AreInUse : Entries → Type 0
AreInUse entries = (p : Place) → IfSome (lookup (is_key p) entries) (λ indices. 0 < length indices)

-- one of a place's indices, where it has some
abbrev pub has : Option (List ℕ) → ℕ → Bool
has None i = false
has (Some indices) i = is_among indices i

-- the index names a record for a place
unfoldable pub names : Entries → Place → ℕ → Bool
names entries p i = has (lookup (is_key p) entries) i

abbrev pub is_entry : Place → ℕ → Place × ℕ → Bool
is_entry p i e = is_key p e.0 && (i == e.1)

-- one of the changes is of a place
unfoldable pub changes_at : List Change → Place → Bool
changes_at changes p = list_any (λ c. is_key (place_of c) p) changes

-- the changes of the record with an index, where there is one
abbrev pub record_at : ℕ → History → ℕ → List Change
record_at base records i = if nat_lt base i then slice_index_or records (i - (base + 1)) [] else []

-- THE INDEX HOLDS JUST THE CHANGES of the records after a base
abbrev pub IsIndexOf : Entries → ℕ → History → Type 0
IsIndexOf entries base records = (p : Place) (i : ℕ)
    → names entries p i ≡ changes_at (record_at base records i) p

-- the index names a record with these changes too, or with some first ones of them
abbrev pub IsAddedTo : Entries → ℕ → List Change → Entries → Type 0
IsAddedTo old index changes new = (p : Place) (i : ℕ)
    → names new p i ≡ ((index == i) && changes_at changes p || names old p i)

abbrev pub IsPartAddedTo : Entries → ℕ → List Change → Entries → Type 0
IsPartAddedTo old index changes new = (n : ℕ) × IsAddedTo old index (take n changes) new

-- the index names a record that may set a cell
abbrev pub may_set : Entries → Cell → ℕ → Bool
may_set entries cell.Meta i = names entries (key cell.Meta) i
may_set entries (cell.Object object) i = names entries (key (cell.Object object)) i
may_set entries (cell.Block object block) i =
    names entries (key (cell.Block object block)) i || names entries (blocks_of object) i
may_set entries (cell.Slot object slot) i = names entries (key (cell.Slot object slot)) i
may_set entries (cell.Client client) i = names entries (key (cell.Client client)) i
may_set entries (cell.Saved place) i = names entries (key (cell.Saved place)) i

-- the last number up to an upper one that passes a test
abbrev pub IsLast : (ℕ → Bool) → ℕ → Option ℕ → Type 0
IsLast test upto None = (j : ℕ) → j ≤ upto → test j ≡ false
IsLast test upto (Some i) = (i ≤ upto) × (test i ≡ true)
    × ((j : ℕ) → i < j → j ≤ upto → test j ≡ false)
