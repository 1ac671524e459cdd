-- What each small move of a step does to its server.
use Rattle.std.specs.Prelude.{ℕ, ◌+◌, ◌-◌, ◌&&◌, ◌==◌, nat_lt, nat_le, Bool, true, false, List, [], ◌∷◌, ◌++◌, length, drop, Option, None, Some, max, min, if◌then◌else◌}
use Rattle.group_rules.specs.Limits.{by_held, can_have, is_log, is_outside, room}
use Rattle.group_rules.specs.Places.{Zero, One, Two, Place, Trio, all_of, get, is_p2, nobody, partner, with_at}
use Rattle.group_rules.specs.State.{Duty, Empty, Follows, Held, Joins, Leads, Live, Log, Lost, Mark, NoDuty, Open, Outside, Plan, Report, Rests, Role, Saved, Server, Waits, longest_of, mark_of, no_plan, no_report, top}

-- the log that a server has afterwards
pub record NewLog (E : Type 0) : Type 0 where
  pub base : ℕ
  pub lb : ℕ
  pub ap : ℕ
  pub cp : ℕ
  pub items : List E

-- join: a lost server reports its LB for all four numbers, an empty one 0
abbrev pub report_of : {E : Type 0} → Server E → Report
report_of s = record {
  held = s.held;
  accepted = s.accepted;
  base = by_held s.held s.base s.lb;
  lb = by_held s.held s.lb s.lb;
  cp = by_held s.held s.cp s.lb;
  top = by_held s.held (s.base + length s.items) s.lb;
  horizon = s.horizon;
}

-- It promises the view and freezes its log. What it did for an older view is dropped, its staging list too
abbrev pub joined_server : {E : Type 0} → Server E → ℕ → Duty → Server E
joined_server s v duty = record s {
  promised = v;
  mode = Joins;
  report = report_of s;
  plan = no_plan;
  wanted_from = 0;
  staged = [];
  heard = nobody;
  told_top = 0;
  told_lb = 0;
  grant = 0;
  duty = duty;
}

-- of the Formed that were heard, the partner's, where its LB is within the start
abbrev pub fitting : Plan → Option ℕ → Trio (Option ℕ)
fitting plan None = nobody
fitting plan (Some lb) = if nat_le lb plan.start then with_at nobody (partner plan.storers) (Some lb) else nobody

-- accepting: the mark has the view as accepted, the role, the new LB and no saved log
abbrev pub accepting : {E : Type 0} → Server E → Plan → Role → NewLog E → Server E
accepting s plan role n = record s {
  accepted = s.promised;
  role = role;
  lb = n.lb;
  saved = None;
  held = Log;
  base = n.base;
  ap = n.ap;
  cp = n.cp;
  items = n.items;
  mode = Waits;
  report = no_report;
  plan = plan;
  wanted_from = 0;
  staged = [];
  heard = fitting plan (get s.heard (partner plan.storers));
  served = plan.start;
}

-- opening: the partner's told top is the start, its told LB that of its Formed, and its promise is 0
abbrev pub opening : {E : Type 0} → Server E → ℕ → ℕ → Server E
opening s start lb = record s { mode = Open; heard = nobody; told_top = start; told_lb = lb; grant = 0 }

-- the log after an Event: its record is appended where it is the next one
abbrev pub taken : {E : Type 0} → Server E → ℕ → E → List E
taken s index e = if index == top s + 1 then s.items ++ e ∷ [] else s.items

-- event and beat: the partner drops to the given base, raises its CP, and promises
abbrev pub heeding : {E : Type 0} → Server E → List E → ℕ → ℕ → ℕ → Server E
heeding s items cp base clock = record s {
  mode = Live;
  base = max s.base base;
  items = drop (base - s.base) items;
  cp = max s.cp (min cp (s.base + length items));
  heard = nobody;
  horizon = max s.horizon (clock + s.delta);
}

-- what is left of a server that is down: its mark
abbrev pub down : {E : Type 0} → Mark E → Server E
down m = record {
  up = false;
  promised = m.promised;
  accepted = m.accepted;
  role = m.role;
  lb = m.lb;
  saved = m.saved;
  longest = m.longest;
  held = Lost;
  base = m.lb;
  ap = m.lb;
  cp = m.lb;
  items = [];
  mode = Rests;
  report = no_report;
  plan = no_plan;
  wanted_from = 0;
  staged = [];
  heard = nobody;
  told_top = 0;
  told_lb = 0;
  grant = 0;
  served = 0;
  duty = NoDuty;
  delta = 0;
  horizon = 0;
}

-- power failure: a held server whose mark has no saved log saves its log, a data server with LB = AP
abbrev pub saving : {E : Type 0} → Place → Server E → Option (Saved E) → Server E
saving q s None =
    if is_log s.held
    then record s {
      lb = if is_p2 q then s.lb else s.ap;
      saved = Some (record {
        base = s.base;
        cp = s.cp;
        items = s.items;
      });
    }
    else s
saving q s (Some v) = s

-- a server that is up again and rests; no boot of this disk promised anything after its horizon
abbrev pub resting : {E : Type 0} → (clock delta : ℕ) → Mark E → Held → NewLog E → Server E
resting clock delta m held n = record (down m) {
  up = true;
  held = held;
  lb = n.lb;
  base = n.base;
  ap = n.ap;
  cp = n.cp;
  items = n.items;
  delta = delta;
  horizon = clock + longest_of m.longest;
}

abbrev pub lost_log : {E : Type 0} → ℕ → NewLog E
lost_log lb = record { base = lb; lb = lb; ap = lb; cp = lb; items = [] }

abbrev pub empty_log : {E : Type 0} → ℕ → NewLog E
empty_log lb = record { base = 0; lb = lb; ap = 0; cp = 0; items = [] }

-- a held data server starts with AP = LB from the mark, a held witness with LB = AP = base
abbrev pub saved_log : {E : Type 0} → Place → ℕ → Saved E → NewLog E
saved_log q lb v = record {
  base = v.base;
  lb = if is_p2 q then v.base else lb;
  ap = if is_p2 q then v.base else lb;
  cp = v.cp;
  items = v.items;
}

-- the saved log is one: its numbers stand in their order, and it has no more records than a log
abbrev pub load_tests : {E : Type 0} → ℕ → Saved E → List Bool
load_tests lb v = nat_le v.base lb ∷ nat_le lb v.cp ∷ nat_le v.cp (v.base + length v.items)
    ∷ nat_le (length v.items) room ∷ []

abbrev pub loaded : {E : Type 0} → Place → (clock delta : ℕ) → Mark E → Option (Saved E) → Server E
loaded q clock delta m None = resting clock delta m Lost (lost_log m.lb)
loaded q clock delta m (Some v) =
    if all_of (can_have q m.role ∷ load_tests m.lb v)
    then resting clock delta m Log (saved_log q m.lb v)
    else resting clock delta m Lost (lost_log m.lb)

-- empty at server 2 with the role outside, held where the mark has a saved log and a role that a choice can give,
-- else lost
abbrev pub rested : {E : Type 0} → Place → (clock delta : ℕ) → Mark E → Server E
rested q clock delta m = if is_p2 q && is_outside m.role then resting clock delta m Empty (empty_log m.lb)
    else loaded q clock delta m m.saved

-- the mark that a boot goes on from: its longest is the greater of the kept one and this boot's delta
abbrev pub lengthened : {E : Type 0} → (delta : ℕ) → Mark E → Mark E
lengthened delta m = record m { longest = Some (max delta (longest_of m.longest)) }

-- Boot, from the mark, the clock and the group's delta alone. The mark is written before anything else, so a boot that
-- fails at it is none, or a boot and a crash
abbrev pub booted : {E : Type 0} → Place → (clock delta : ℕ) → Mark E → Server E
booted q clock delta m = rested q clock delta (lengthened delta m)

-- the mark of a disk that has none, at the group's delta
abbrev pub first_role : Place → Role
first_role Zero = Leads One
first_role One = Follows Zero
first_role Two = Outside

abbrev pub first_mark : (E : Type 0) → (delta : ℕ) → Place → Mark E
first_mark E delta q = record {
  promised = 0;
  accepted = 0;
  role = first_role q;
  lb = 0;
  saved = Some (record { base = 0; cp = 0; items = [] });
  longest = Some delta;
}

-- Demotion at a server that promised a higher view: it drops its log, and its part in that view goes on. Else it
-- rests
abbrev pub demoted_by : {E : Type 0} → Bool → Server E → ℕ → Server E
demoted_by true s v = record s {
  accepted = v;
  role = Outside;
  saved = None;
  held = Empty;
  base = 0;
  ap = 0;
  cp = 0;
  items = [];
  served = 0;
}
demoted_by false s v = record (down (record (mark_of s) {
  promised = v;
  accepted = v;
  role = Outside;
  saved = None;
})) {
  up = s.up;
  held = Empty;
  base = 0;
  ap = 0;
  cp = 0;
  delta = s.delta;
  horizon = s.horizon;
}

abbrev pub demoted : {E : Type 0} → Server E → ℕ → Server E
demoted s v = demoted_by (nat_lt v s.promised) s v
