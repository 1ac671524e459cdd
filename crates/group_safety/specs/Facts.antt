-- The facts that every step keeps. Each takes only the parts of the group that it speaks of. A comment that begins
-- with "Further:" marks a fact beyond the named ones, and says what needs it.
use Rattle.std.specs.Prelude.{◌≡◌, ℕ, ◌+◌, ◌-◌, ◌<◌, ◌≤◌, ◌⊎◌, true, false, List, length, Option, None, Some, slice_get, ⊤}
use Rattle.harp_types.specs.Limits.{clock_skew}
use Rattle.group_rules.specs.Form.{fits, wanted}
use Rattle.group_rules.specs.Places.{IsIn, Two, Place, S01, Trio, coordinator, get, leader, partner, same}
use Rattle.group_rules.specs.State.{Ack, Beat, Chose, Collects, Demote, Empty, Event, Fetch, Form, Formed, Give, Group, Invite, Join, JoinMade, Live, Log, Message, Open, Outside, Packet, Page, Plan, Pulls, Report, Saved, Server, Waits, top}
use Rattle.group_safety.specs.Words.{Agree, AheadOfLeader, AheadOfPartner, Each, Holds, In, Into, IsActive, IsJoining, Part, Promised, Sure, Tells}

-- One page by itself
pub record PageOk {E : Type 0} (page : ℕ → Page E) (joins : List JoinMade) (committed : List E) (w : ℕ)
    (p : Page E) : Type 0 where
  pub formed : p.formed ≡ true
  pub origin : (page p.from).formed ≡ true
  pub earlier : 0 < w → p.from < w
  -- the list of the view that it starts from, up to the start
  pub start_within : p.plan.start ≤ length p.list
  pub start_origin : p.plan.start ≤ length (page p.from).list
  pub begins : Agree p.plan.start (page p.from).list p.list
  pub base_sure : Sure page committed w p.plan.base
  pub cp_sure : Sure page committed w p.plan.cp
  pub kept_within : p.held_twice ≤ length p.list
  pub start_kept : p.opened ≡ true → p.plan.start ≤ p.held_twice
  pub kept_later : p.opened ≡ false → p.held_twice ≡ 0
  pub opened_leader : p.opened ≡ true → p.leader_in ≡ true
  pub opened_partner : p.opened ≡ true → p.partner_in ≡ true
  -- Further: until it opens, its list is what it started with; so a leader that opens commits no more than its
  -- partner has
  pub fresh : p.opened ≡ false → length p.list ≡ p.plan.start
  pub storers_joined : 0 < w → (q : Place) → IsIn p.plan.storers q → (t : Report)
      × In joins (record { from = q; view = w; report = t })
  -- Further: the source's join tells what the view starts from; else the source's own log couldn't be shown to be the
  -- view's list
  pub source : 0 < w
      → (t : Report) × In joins (record { from = p.plan.source; view = w; report = t }) × (t.accepted ≡ p.from)
      × (t.top ≡ p.plan.start)

-- Two formed views, v below w
pub record PairOk {E : Type 0} (v w : ℕ) (p q : Page E) : Type 0 where
  pub kept_start : p.held_twice ≤ q.plan.start
  pub agree : Agree p.held_twice p.list q.list
  pub promise : IsIn q.plan.storers (partner p.plan.storers) → p.until ≤ q.plan.horizon

-- A join that was made
pub record JoinOk {E : Type 0} (page : ℕ → Page E) (committed : List E) (j : JoinMade) : Type 0 where
  pub formed : (page j.report.accepted).formed ≡ true
  pub earlier : j.report.accepted < j.view
  pub base_cp : j.report.base ≤ j.report.cp
  pub cp_top : j.report.cp ≤ j.report.top
  -- it accepted no view between
  pub latest : (v : ℕ) → (page v).formed ≡ true → v < j.view → Into (page v) j.from → v ≤ j.report.accepted
  pub holds : j.report.held ≡ Log → Holds (page j.report.accepted) j.from j.report.top
  pub sure : Sure page committed j.report.accepted j.report.cp
  pub promise : (v : ℕ) → (page v).formed ≡ true → v < j.view → j.from ≡ partner (page v).plan.storers
      → (page v).until ≤ j.report.horizon

-- A log or a saved log of the accepted view v
pub record LogOk {E : Type 0} (page : ℕ → Page E) (committed : List E) (q : Place) (v base cp : ℕ)
    (items : List E) : Type 0 where
  pub base_cp : base ≤ cp
  pub cp_top : cp ≤ base + length items
  pub holds : Holds (page v) q (base + length items)
  pub part : Part base items (page v).list
  pub sure : Sure page committed v cp

-- What a server promised and accepted
pub record ViewsOk {E : Type 0} (page : ℕ → Page E) (joins : List JoinMade) (q : Place)
    (promised accepted : ℕ) : Type 0 where
  pub order : accepted ≤ promised
  pub formed : (page accepted).formed ≡ true
  pub promises : (w : ℕ) → (page w).formed ≡ true → IsIn (page w).plan.storers q → w ≤ promised
  pub into : (w : ℕ) → (page w).formed ≡ true → Into (page w) q → w ≤ accepted
  -- Further: a view is formed only after its coordinator promised it; so a coordinator that begins to collect has an
  -- unformed view
  pub own : (w : ℕ) → (page w).formed ≡ true → coordinator w ≡ q → w ≤ promised
  -- Further: its joins are to views that it promised; so a join to a view that it joins now is the one made now
  pub joined : (j : JoinMade) → In joins j → j.from ≡ q → j.view ≤ promised
  -- Further: these two make "held twice survives" hold at an acknowledgement and at an opening that come after a
  -- higher view was formed by the other two servers. Nothing else ties such a view's start to what the old view has
  pub ahead_of_leader : (v w : ℕ) → AheadOfLeader q promised v w (page v) (page w)
  pub ahead_of_partner : (v w : ℕ) → AheadOfPartner q promised v w (page v) (page w)

-- The logs that a server has
pub record LogsOk {E : Type 0} (page : ℕ → Page E) (committed : List E) (q : Place) (s : Server E) : Type 0 where
  pub log : s.held ≡ Log → LogOk page committed q s.accepted s.base s.cp s.items
  pub lb_sure : Sure page committed s.accepted s.lb
  pub saved : (v : Saved E) → s.saved ≡ Some v → (s.role ≡ Outside → ⊥)
      → LogOk page committed q s.accepted v.base v.cp v.items
  pub order : s.held ≡ Log → (s.base ≤ s.lb) × (s.lb ≤ s.ap) × (s.ap ≤ s.cp)
  pub saved_order : (v : Saved E) → s.saved ≡ Some v → (v.base ≤ s.lb) × (s.lb ≤ v.cp)
  pub empty : s.held ≡ Empty → (q ≡ Two) × (s.role ≡ Outside)
  -- Further: what it serves of its accepted view is within that view's start; so a Give never goes past it
  pub served : s.held ≡ Log → s.served ≤ (page s.accepted).plan.start

-- Further: a puller's plan is its view's, its staging list is records of the view within the start, the plan still
-- fits and the same range is still wanted, also after a demotion; so the log that it adopts is the view's
abbrev pub PullsOk : {E : Type 0} → (ℕ → Page E) → Place → Server E → Type 0
PullsOk page q s = ((page s.promised).formed ≡ true) × (s.plan ≡ (page s.promised).plan)
    × Part s.wanted_from s.staged (page s.promised).list
    × (s.wanted_from + length s.staged ≤ (page s.promised).plan.start)
    × (fits q s s.plan ≡ true) × (wanted q s s.plan ≡ s.wanted_from) × (same q s.plan.source ≡ false)

-- What each mode says
pub record ModesOk {E : Type 0} (page : ℕ → Page E) (joins : List JoinMade) (q : Place) (s : Server E) : Type 0 where
  -- Further: an active server's mark has no saved log, else a later boot could find an old one
  pub active : IsActive s.mode
      → (s.held ≡ Log) × (s.promised ≡ s.accepted) × (s.saved ≡ None) × Into (page s.accepted) q
      × (s.role ≡ Outside → ⊥)
  pub plan : IsActive s.mode → s.plan ≡ (page s.accepted).plan
  -- Further: an open leader's grant is a promise of its view; so the horizons of later views cover it
  pub leads : s.mode ≡ Open → (q ≡ leader (page s.accepted).plan.storers) × ((page s.accepted).opened ≡ true)
      × (s.grant ≤ (page s.accepted).until)
  pub follows : s.mode ≡ Live → (q ≡ partner (page s.accepted).plan.storers) × ((page s.accepted).opened ≡ true)
  -- Further: a leader that waits hasn't opened its view; so nothing is held twice in it before
  pub waits : s.mode ≡ Waits → q ≡ leader (page s.accepted).plan.storers → (page s.accepted).opened ≡ false
  -- Further: a Formed that is kept means that the partner accepted; so both storers accepted an opened view
  pub heard : (x : Place) (lb : ℕ) → get s.heard x ≡ Some lb
      → ((page s.promised).formed ≡ true) × (x ≡ partner (page s.promised).plan.storers)
      × ((page s.promised).partner_in ≡ true)
  pub joining : IsJoining s.mode → (s.accepted < s.promised) × In joins (record {
    from = q;
    view = s.promised;
    report = s.report;
  })
  pub pulls : s.mode ≡ Pulls → PullsOk page q s

-- Further: while a coordinator collects, its view isn't formed, so a view is formed once; and the reports that it has
-- were joins
pub record CollectsOk {E : Type 0} (page : ℕ → Page E) (joins : List JoinMade) (q : Place) (promised : ℕ)
    (reports : Trio (Option Report)) : Type 0 where
  pub positive : 0 < promised
  pub own : coordinator promised ≡ q
  pub unformed : (page promised).formed ≡ false
  pub joined : (x : Place) (t : Report) → get reports x ≡ Some t
      → In joins (record { from = x; view = promised; report = t })

-- A server
pub record ServerOk {E : Type 0} (page : ℕ → Page E) (joins : List JoinMade) (committed : List E) (clock : ℕ)
    (q : Place) (s : Server E) : Type 0 where
  pub views : ViewsOk page joins q s.promised s.accepted
  pub logs : LogsOk page committed q s
  pub modes : ModesOk page joins q s
  pub duty : (reports : Trio (Option Report)) → s.duty ≡ Collects reports → CollectsOk page joins q s.promised reports
  -- Further: a coordinator's plan is its view's, so the Forms that it sends again are right
  pub chose : (v : ℕ) (plan : Plan) → s.duty ≡ Chose v plan → (v ≤ s.promised) × ((page v).formed ≡ true)
      × ((page v).plan ≡ plan)
  pub outside : s.role ≡ Outside
      → (q ≡ Two) × ((s.accepted ≡ 0) ⊎ ((page s.accepted).opened ≡ true) × ((page s.accepted).plan.storers ≡ S01))
  pub tells : Tells joins q s
  pub promise : (v : ℕ) → Promised q s.up s.horizon clock s.longest v (page v)

-- A message
abbrev pub BodyOk : {E : Type 0} → (ℕ → Page E) → List JoinMade → List E → Place → Place → Message E → Type 0
BodyOk page joins committed from to (Invite v) = ⊤
BodyOk page joins committed from to (Join v report) = In joins (record { from = from; view = v; report = report })
BodyOk page joins committed from to (Form v plan) = ((page v).formed ≡ true) × ((page v).plan ≡ plan)
BodyOk page joins committed from to (Fetch v index) = ((page v).formed ≡ true) × (to ≡ (page v).plan.source)
BodyOk page joins committed from to (Give v index items) = ((page v).formed ≡ true) × (0 < index)
    × Part (index - 1) items (page v).list × (index - 1 + length items ≤ (page v).plan.start)
BodyOk page joins committed from to (Formed v lb) = ((page v).formed ≡ true)
    × (from ≡ partner (page v).plan.storers) × ((page v).partner_in ≡ true)
BodyOk page joins committed from to (Event v index cp base e) = ((page v).formed ≡ true) × ((page v).opened ≡ true)
    × (0 < index)
    × (slice_get (page v).list (index - 1) ≡ Some e) × Sure page committed v cp
BodyOk page joins committed from to (Beat v cp base) = ((page v).formed ≡ true) × ((page v).opened ≡ true)
    × Sure page committed v cp
-- an Ack's LB is at most its top; so it is no misfit, and answers at once
BodyOk page joins committed from to (Ack v top lb until) = ((page v).formed ≡ true) × ((page v).opened ≡ true)
    × (from ≡ partner (page v).plan.storers) × (top ≤ (page v).held_twice) × (until ≤ (page v).until) × (lb ≤ top)
BodyOk page joins committed from to (Demote v) = ((page v).formed ≡ true) × ((page v).opened ≡ true)
    × ((page v).plan.storers ≡ S01)

abbrev pub PacketOk : {E : Type 0} → (ℕ → Page E) → List JoinMade → List E → Packet E → Type 0
PacketOk page joins committed p = BodyOk page joins committed p.from p.to p.body

-- The group
pub record Ok {E : Type 0} (g : Group E) : Type 0 where
  pub server : (q : Place) → ServerOk g.page g.joins g.committed (g.clock q) q (g.server q)
  pub page : (w : ℕ) → (g.page w).formed ≡ true → PageOk g.page g.joins g.committed w (g.page w)
  pub pair : (v w : ℕ) → v < w → (g.page v).formed ≡ true → (g.page w).formed ≡ true → PairOk v w (g.page v) (g.page w)
  pub join : (j : JoinMade) → In g.joins j → JoinOk g.page g.committed j
  pub packet : Each (PacketOk g.page g.joins g.committed) g.packets
  pub first_view : (g.page 0).formed ≡ true
  -- Further: a view whose horizon covers a promise was opened only after it; exclusive reading needs it
  pub late : (w : ℕ) → (g.page w).formed ≡ true → (g.page w).opened ≡ true → 0 < (g.page w).plan.horizon
      → (g.page w).plan.horizon + clock_skew ≤ g.clock (leader (g.page w).plan.storers)
  -- the whole book is held twice in some view
  pub committed : (v : ℕ) × ((g.page v).formed ≡ true) × Sure g.page g.committed v (length g.committed)
