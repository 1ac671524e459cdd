-- What is left of the cells that a server keeps in memory.
use Rattle.std.specs.Prelude.{◌≡◌, ◌⊎◌, []}
use Rattle.cell_cache.specs.Entries.{Entries}

-- the same cells are kept, or none is
abbrev pub IsCachedAs : Entries → Entries → Type 0
IsCachedAs old new = (new ≡ old) ⊎ (new ≡ [])
