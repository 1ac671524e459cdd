-- What each move asks of the group, and the groups that the larger moves leave.
use Rattle.std.proofs.Common.{◌≡◌, ℕ, ◌+◌, ◌<◌, ◌≤◌, true, List, [], ◌∷◌, ◌++◌, length, take, Option, Some, max}
use Rattle.group_rules.specs.Effects.{NewLog, accepting, heeding, joined_server, opening, report_of}
use Rattle.group_rules.specs.Moves.{entered, into_page, new_page, raised_page}
use Rattle.group_rules.specs.Places.{IsIn, Place, Trio, at, coordinator, get, leader, partner, put}
use Rattle.group_rules.specs.State.{Chose, Collects, Duty, Group, Log, Open, Outside, Plan, Report, Role, Server, Waits, longest_of}
use Rattle.group_safety.specs.Words.{IsActive, Part, Sure}

-- The choice of the coordinator c, from the joins that it was told: `from` is the greatest accepted view
pub record MayChoose {E : Type 0} (g : Group E) (s : Server E) (reports : Trio (Option Report)) (plan : Plan) (from : ℕ) : Type 0 where
  pub collects : s.duty ≡ Collects reports
  pub storers : (q : Place) → IsIn plan.storers q → (t : Report) × (get reports q ≡ Some t)
  pub greatest : (q : Place) (t : Report) → get reports q ≡ Some t → t.accepted ≤ from
  pub source : Report
  pub source_told : get reports plan.source ≡ Some source
  pub source_held : source.held ≡ Log
  pub source_from : source.accepted ≡ from
  pub source_top : source.top ≡ plan.start
  pub source_cp : source.cp ≡ plan.cp
  pub horizon : (q : Place) (t : Report) → get reports q ≡ Some t → t.horizon ≤ plan.horizon
  pub lowest : Place
  pub base_from : Report
  pub base_told : get reports lowest ≡ Some base_from
  pub base : plan.base ≤ base_from.cp

abbrev pub chosen : {E : Type 0} → Group E → Place → Plan → ℕ → Group E
chosen g c plan from = record g {
  server = at g.server c (record (g.server c) { duty = Chose (g.server c).promised plan });
  page = put g.page (g.server c).promised (new_page plan from (take plan.start (g.page from).list));
}

-- A server joins a view above its promised one, invited by another or as its coordinator
pub record MayJoin {E : Type 0} (g : Group E) (q : Place) (s : Server E) (v : ℕ) (duty : Duty) : Type 0 where
  pub up : s.up ≡ true
  pub higher : s.promised < v
  pub none : (w : ℕ) (plan : Plan) → duty ≡ Chose w plan → ⊥
  pub own : (reports : Trio (Option Report)) → duty ≡ Collects reports
      → (coordinator v ≡ q) × ((x : Place) (t : Report) → get reports x ≡ Some t → (x ≡ q) × (t ≡ report_of s))

abbrev pub joined : {E : Type 0} → Group E → Place → ℕ → Duty → Group E
joined g q v duty = record g {
  server = at g.server q (joined_server (g.server q) v duty);
  joins = record { from = q; view = v; report = report_of (g.server q) } ∷ g.joins;
}

-- A storer accepts its promised view. What is asked of its new log is proved of `adopt` apart
pub record MayAccept {E : Type 0} (g : Group E) (q : Place) (s : Server E) (plan : Plan) (role : Role) (n : NewLog E) : Type 0 where
  pub inside : role ≡ Outside → ⊥
  pub known : plan ≡ (g.page s.promised).plan
  pub formed : (g.page s.promised).formed ≡ true
  pub storer : IsIn (g.page s.promised).plan.storers q
  pub earlier : s.accepted < s.promised
  pub base_cp : n.base ≤ n.cp
  pub order : (n.base ≤ n.lb) × (n.lb ≤ n.ap) × (n.ap ≤ n.cp)
  pub cp_top : n.cp ≤ n.base + length n.items
  pub whole : n.base + length n.items ≡ (g.page s.promised).plan.start
  pub part : Part n.base n.items (g.page s.promised).list
  pub sure : Sure g.page g.committed s.promised n.cp

abbrev pub accepted : {E : Type 0} → Group E → Place → Plan → Role → NewLog E → Group E
accepted g q plan role n = record g {
  server = at g.server q (accepting (g.server q) plan role n);
  page = put g.page (g.server q).promised (into_page (g.page (g.server q).promised) q);
}

-- the server q becomes s, and its accepted view's page is raised
abbrev pub raised : {E : Type 0} → Group E → Place → Server E → ℕ → ℕ → Group E
raised g q s k u = record g {
  server = at g.server q s;
  page = put g.page (g.server q).accepted (raised_page (g.page (g.server q).accepted) k u);
}

-- The leader opens its view
pub record MayOpen {E : Type 0} (g : Group E) (q : Place) (s : Server E) (lb : ℕ) : Type 0 where
  pub waits : s.mode ≡ Waits
  pub leads : q ≡ leader (g.page s.accepted).plan.storers
  pub formed : get s.heard (partner s.plan.storers) ≡ Some lb
  pub late : (g.page s.accepted).plan.horizon + 50 ≤ g.clock q

abbrev pub opened : {E : Type 0} → Group E → Place → ℕ → Group E
opened g q lb = raised g q (opening (g.server q) (g.page (g.server q).accepted).plan.start lb) (g.page (g.server q).accepted).plan.start (g.page (g.server q).accepted).until

-- The partner heeds an Event or Beat of its view. What is asked of `items` is proved of both apart
pub record MayHeed {E : Type 0} (g : Group E) (q : Place) (s : Server E) (items : List E) (cp base : ℕ) : Type 0 where
  pub active : IsActive s.mode
  pub follows : q ≡ partner (g.page s.accepted).plan.storers
  pub up : s.up ≡ true
  pub opened : (g.page s.accepted).opened ≡ true
  pub cp_sure : Sure g.page g.committed s.accepted cp
  pub base_lb : base ≤ s.lb
  pub lasts : s.delta ≤ longest_of s.longest
  pub longer : length s.items ≤ length items
  pub within : s.base + length items ≤ length (g.page s.accepted).list
  pub part : Part s.base items (g.page s.accepted).list

abbrev pub heeded : {E : Type 0} → Group E → Place → List E → ℕ → ℕ → Group E
heeded g q items cp base = raised g q (heeding (g.server q) items cp base (g.clock q))
    (max (g.page (g.server q).accepted).held_twice ((g.server q).base + length items)) (max (g.page (g.server q).accepted).until (g.clock q + (g.server q).delta))

-- The open leader appends an entry
pub record MayAppend {E : Type 0} (g : Group E) (q : Place) (s : Server E) : Type 0 where
  pub open' : s.mode ≡ Open

abbrev pub appended : {E : Type 0} → Group E → Place → E → Group E
appended g q e = record g {
  server = at g.server q (record (g.server q) { items = (g.server q).items ++ e ∷ [] });
  page = put g.page (g.server q).accepted (record (g.page (g.server q).accepted) { list = (g.page (g.server q).accepted).list ++ e ∷ [] });
}

-- The open leader commits the first n entries
pub record MayCommit {E : Type 0} (g : Group E) (q : Place) (s : Server E) (n : ℕ) : Type 0 where
  pub open' : s.mode ≡ Open
  pub forward : s.cp ≤ n
  pub held_twice : n ≤ (g.page s.accepted).held_twice

abbrev pub committing_group : {E : Type 0} → Group E → Place → ℕ → Group E
committing_group g q n = record g {
  server = at g.server q (record (g.server q) { cp = n });
  committed = entered g.committed (g.server q).base (g.server q).items n;
}
