-- How far the copies of an observer are, as what it is shown goes on.
use Rattle.std.specs.Prelude.{ℕ, ◌+◌, ◌<◌, ◌^◌, ◌==◌, ◌&&◌, nat_le, min, max, Bool, true, false}
use Rattle.std.specs.Prelude.{length, Option, Some, None, if◌then◌else◌}
use Rattle.harp_cells.specs.declared.cell.Cell.{Cell}
use Rattle.harp_cells.specs.declared.value.Value.{Value}
use Rattle.harp_cells.specs.Effect.{is_cell}
use Rattle.observer.specs.declared.phase.Phase.{Phase}
use Rattle.observer.specs.declared.phase.Phase.TheVariants as phase
use Rattle.observer.specs.declared.progress.Copied.{Copied}
use Rattle.observer.specs.declared.progress.Progress.{Progress}
use Rattle.shown.specs.declared.shown.Shown.{Shown}
use Rattle.shown.specs.declared.shown.Shown.TheVariants as shown
use Rattle.shown.specs.declared.shown.Want.{Want}
use Rattle.shown.specs.declared.shown.Want.TheVariants as want
use Rattle.observer.specs.Phases.{has_cells, is_first, phase_after, wanted_in}

-- ---- a copy under way

-- of which nothing was shown
abbrev pub begun : Copied
begun = record { phase = phase.Whole; greatest = 0; top = 0 }

abbrev pub is_wanted : Option Cell → Cell → Bool
is_wanted None c = false
is_wanted (Some d) c = is_cell d c

abbrev pub wants_cell : Copied → Cell → Bool
wants_cell p c = is_wanted (wanted_in p.phase) c

-- the least and the greatest CP shown, with one more. The least is the copy's top
abbrev pub top_with : Phase → ℕ → ℕ → ℕ
top_with p top cp = if is_first p then cp else min top cp

abbrev pub greatest_with : Phase → ℕ → ℕ → ℕ
greatest_with p greatest cp = if is_first p then cp else max greatest cp

-- after the wanted cell was shown
abbrev pub after_cell : Copied → Option Value → ℕ → Copied
after_cell p v cp = record {
  phase = phase_after p.phase v;
  greatest = greatest_with p.phase p.greatest cp;
  top = top_with p.phase p.top cp;
}

-- records are wanted, from this index on
abbrev pub follows : Copied → ℕ → Bool
follows p first = has_cells p.phase && (first == p.top + 1)

abbrev pub after_records : Copied → ℕ → Copied
after_records p count = record p { top = p.top + count }

-- ---- both copies

abbrev pub is_not_past : Option ℕ → ℕ → Bool
is_not_past None top = true
is_not_past (Some finished) top = nat_le finished top

-- a copy is exact, and no older than the finished one
abbrev pub is_ripe_copy : Option ℕ → Option Copied → Bool
is_ripe_copy finished None = false
is_ripe_copy finished (Some p) =
    has_cells p.phase && (nat_le p.greatest p.top && is_not_past finished p.top)

abbrev pub is_ripe : Progress → Bool
is_ripe o = is_ripe_copy o.finished o.copy

-- a new copy replaces the finished one as soon as it is ripe
abbrev pub ripened_with : Option ℕ → Copied → Progress
ripened_with finished p =
    if is_ripe_copy finished (Some p) then record { finished = Some p.top; copy = None }
    else record { finished = finished; copy = Some p }

abbrev pub taken_cell : Option ℕ → Option Copied → Cell → Option Value → ℕ → Progress
taken_cell finished None c v cp = record { finished = finished; copy = None }
taken_cell finished (Some p) c v cp =
    if wants_cell p c then ripened_with finished (after_cell p v cp)
    else record { finished = finished; copy = Some p }

abbrev pub taken_records : Option ℕ → Option Copied → ℕ → ℕ → Progress
taken_records finished (Some p) first count =
    if follows p first then ripened_with finished (after_records p count)
    else record { finished = finished; copy = Some p }
taken_records None None first count = record { finished = None; copy = None }
taken_records (Some top) None first count =
    record { finished = Some (if first == top + 1 then top + count else top); copy = None }

-- WHAT IS SHOWN IS TAKEN: the wanted cell, or records that begin at the wanted index; all else is
-- ignored
abbrev pub taken : Progress → Shown → Progress
taken o (shown.Cell c v cp) = taken_cell o.finished o.copy c v cp
taken o (shown.Records first records) = taken_records o.finished o.copy first (length records)
taken o (shown.Gone base) = o

abbrev pub cell_or_records : Option Cell → ℕ → Want
cell_or_records None top = want.Records (top + 1)
cell_or_records (Some c) top = want.Cell c

-- what is wanted: nothing exactly before the first copy
abbrev pub want_by : Option ℕ → Option Copied → Option Want
want_by finished (Some p) = Some (cell_or_records (wanted_in p.phase) p.top)
want_by None None = None
want_by (Some top) None = Some (want.Records (top + 1))

abbrev pub want_of : Progress → Option Want
want_of o = want_by o.finished o.copy

-- a new copy begins, and an unfinished one is dropped
abbrev pub copied_anew : Progress → Progress
copied_anew o = record o { copy = Some begun }

-- no copy yet
abbrev pub blind : Progress
blind = record { finished = None; copy = None }

-- ---- numbers that fit

abbrev pub IsLowTop : Option ℕ → Type 0
IsLowTop None = Unit {0}
IsLowTop (Some top) = top < 2 ^ 62

abbrev pub IsLowCopy : Option Copied → Type 0
IsLowCopy None = Unit {0}
IsLowCopy (Some p) = p.top < 2 ^ 62

pub record IsLow (o : Progress) : Type 0 where
  pub finished : IsLowTop o.finished
  pub copy : IsLowCopy o.copy
