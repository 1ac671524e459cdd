-- The choice of a view, from the joins that its coordinator has.
use Rattle.std.specs.Prelude.{ℕ, ◌&&◌, ◌==◌, nat_lt, Option, None, Some, max, if◌then◌else◌}
use Rattle.group_rules.specs.Limits.{is_log}
use Rattle.group_rules.specs.Places.{Zero, One, Two, Pair, Place, S01, S02, S12, Trio, get}
use Rattle.group_rules.specs.State.{Plan, Report}

-- the storers: (0,1) where both joined, else (0,2) or (1,2)
abbrev pub pair_of : Option Report → Option Report → Option Report → Option Pair
pair_of (Some a) (Some b) c = Some S01
pair_of (Some a) None (Some c) = Some S02
pair_of None (Some b) (Some c) = Some S12
pair_of (Some a) None None = None
pair_of None (Some b) None = None
pair_of None None c = None

abbrev pub accepted_of : Option Report → ℕ
accepted_of None = 0
accepted_of (Some t) = t.accepted

abbrev pub horizon_of : Option Report → ℕ
horizon_of None = 0
horizon_of (Some t) = t.horizon

-- the base of a held server
abbrev pub base_of : Option Report → ℕ
base_of None = 0
base_of (Some t) = if is_log t.held then t.base else 0

-- the greatest accepted view of all joins, those of lost and empty servers included
abbrev pub greatest : Trio (Option Report) → ℕ
greatest reports =
    max (accepted_of (get reports Zero)) (max (accepted_of (get reports One)) (accepted_of (get reports Two)))

abbrev pub longer : Place → Report → Option (Place × Report) → Option (Place × Report)
longer q t None = Some (q, t)
longer q t (Some b) = if nat_lt b.1.top t.top then Some (q, t) else Some b

-- the better source of the one so far and q
abbrev pub better : ℕ → Option (Place × Report) → Place → Option Report → Option (Place × Report)
better v best q None = best
better v best q (Some t) = if is_log t.held && (t.accepted == v) then longer q t best else best

-- The source: the held server with this accepted view and the greatest top, the lower number in a tie
abbrev pub source_of : Trio (Option Report) → ℕ → Option (Place × Report)
source_of reports v = better v (better v (better v None Zero (get reports Zero)) One (get reports One)) Two (get reports Two)

-- the greatest base of the held data servers among the storers
abbrev pub storers_base : Pair → Trio (Option Report) → ℕ
storers_base S01 reports = max (base_of (get reports Zero)) (base_of (get reports One))
storers_base S02 reports = base_of (get reports Zero)
storers_base S12 reports = base_of (get reports One)

-- The start is the source's top and CP its CP; the horizon is the greatest of all joins
abbrev pub plan_of : Trio (Option Report) → Pair → Place × Report → Plan
plan_of reports pair best = record {
  storers = pair;
  source = best.0;
  base = max best.1.base (storers_base pair reports);
  cp = best.1.cp;
  start = best.1.top;
  horizon = max (horizon_of (get reports Zero)) (max (horizon_of (get reports One)) (horizon_of (get reports Two)));
}

abbrev pub choice_of : Trio (Option Report) → Option Pair → Option (Place × Report) → Option Plan
choice_of reports None best = None
choice_of reports (Some pair) None = None
choice_of reports (Some pair) (Some best) = Some (plan_of reports pair best)

abbrev pub choose : Trio (Option Report) → Option Plan
choose reports =
    choice_of reports (pair_of (get reports Zero) (get reports One) (get reports Two)) (source_of reports (greatest reports))
