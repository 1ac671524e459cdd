-- What was done to files, and what they hold after it.
use Rattle.std.specs.Prelude.{◌≡◌, ◌⊎◌, ℕ, List, [], ◌∷◌, ◌++◌, take, fold, Option, Some, None, option_map, if◌then◌else◌}
use Rattle.std.specs.Str.{bytes_eq}

-- a file with these bytes took the place of the one at a path; bytes were put behind those of a
-- file; a file was removed; a folder was synced
pub data FileStep : Type 0 where
  Replaced : (path bytes : List ℕ) → FileStep
  Appended : (path bytes : List ℕ) → FileStep
  Removed : (path : List ℕ) → FileStep
  SyncedFolder : (path : List ℕ) → FileStep

-- what was done to files so far, where it is told
abbrev pub Told : Type 0
Told = Option (List FileStep)

-- the steps so far, where they are told, and then these
abbrev pub after_steps : List FileStep → Told → Told
after_steps steps None = None
after_steps steps (Some told) = Some (told ++ steps)

-- a first part of the bytes was put behind those of a file, or nothing was done
abbrev pub AppendsPart : List ℕ → List ℕ → Told → Told → Type 0
AppendsPart path bytes before after = (after ≡ before)
    ⊎ ((n : ℕ) × (after ≡ after_steps (Appended path (take n bytes) ∷ []) before))

-- ---- what a file holds

-- the bytes of a file, or that there is none, where the steps say it
abbrev pub Held : Type 0
Held = Option (Option (List ℕ))

abbrev pub held_by : List ℕ → Held → FileStep → Held
held_by path held (Replaced p bytes) = if bytes_eq p path then Some (Some bytes) else held
held_by path held (Appended p bytes) =
    if bytes_eq p path then option_map (option_map (λ b. b ++ bytes)) held else held
held_by path held (Removed p) = if bytes_eq p path then Some None else held
held_by path held (SyncedFolder p) = held

unfoldable pub held_after : List ℕ → List FileStep → Held
held_after path steps = fold (held_by path) None steps

abbrev pub IsKnown : Held → Option (List ℕ) → Type 0
IsKnown None found = Unit {0}
IsKnown (Some held) found = found ≡ held

-- THE FILE AT A PATH is this one, or there is none, where it is told
abbrev pub IsHeld : List ℕ → Told → Option (List ℕ) → Type 0
IsHeld path None found = Unit {0}
IsHeld path (Some steps) found = IsKnown (held_after path steps) found
