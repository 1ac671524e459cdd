-- The habits of running servers: how much they do at a tick and between ticks, and how patient they
-- are.
use Rattle.std.specs.Prelude.{ℕ, ◌*◌, ◌&&◌, ◌||◌, Bool, true, false, nat_lt, if◌then◌else◌}
use Rattle.harp_types.specs.declared.state.Role.{Role}
use Rattle.harp_types.specs.declared.state.Role.TheVariants.{Leads, Follows, Outside}
use Rattle.node_loop.specs.declared.habit.Doubled.{Doubled}
use Rattle.node_loop.specs.declared.habit.Doubled.TheVariants.{Never, Once, Twice, Thrice}
use Rattle.node_loop.specs.declared.habit.Habit.{Habit}
use Rattle.node_loop.specs.declared.habit.Habit.TheVariants.{Plain, Steady}
use Rattle.node_loop.specs.declared.look.Look.{Look}

-- more than half of its log's room is taken
abbrev pub is_crowded : Look → Bool
is_crowded look = nat_lt 16384 look.records

-- how many updates a tick applies at most: of a steady server whose log is crowded, all that a log
-- has room for
abbrev pub applied_at_once : Habit → Look → ℕ
applied_at_once Plain look = 64
applied_at_once Steady look = if is_crowded look then 32768 else 4096

-- each fifth tick flushes, and of a steady server each one at which its log is crowded
abbrev pub flushes_by : Habit → Look → (is_fifth : Bool) → Bool
flushes_by Plain look is_fifth = is_fifth
flushes_by Steady look is_fifth = is_fifth || is_crowded look

-- ---- nudges

abbrev pub leads : Role → Bool
leads (Leads other) = true
leads (Follows other) = false
leads Outside = false

-- a steady server is nudged between its ticks where it leads an open view and its partner hasn't
-- acknowledged a record
abbrev pub is_nudged_by : Habit → Look → Bool
is_nudged_by Plain look = false
is_nudged_by Steady look = look.is_open && leads look.role && nat_lt 0 look.unacknowledged

-- ---- patience

-- so many ticks, doubled so often
abbrev pub longer : Doubled → ℕ → ℕ
longer Never n = n
longer Once n = 2 * n
longer Twice n = 4 * n
longer Thrice n = 8 * n

abbrev pub once_more : Doubled → Doubled
once_more Never = Once
once_more Once = Twice
once_more Twice = Thrice
once_more Thrice = Thrice

-- how many quiet ticks are too many, of a server that is this patient at first
abbrev pub patience_by : Habit → ℕ → Doubled → ℕ
patience_by Plain n d = n
patience_by Steady n d = longer d n

-- a steady server's own suspicion doubles it
abbrev pub after_suspicion : Habit → (suspects : Bool) → Doubled → Doubled
after_suspicion Plain suspects d = Never
after_suspicion Steady suspects d = if suspects then once_more d else d
