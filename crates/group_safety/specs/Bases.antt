-- The facts on bases: each is on the disks of both data servers.
use Rattle.std.specs.Prelude.{◌≡◌, ℕ, ◌≤◌, true, Some, ⊤}
use Rattle.group_rules.specs.Places.{One, Place, S01, get}
use Rattle.group_rules.specs.State.{Ack, Beat, Event, Formed, Group, JoinMade, Log, Message, Open, Packet, Page, Saved, Server}
use Rattle.group_safety.specs.Words.{Each, In, Under}

-- A server's bases are
pub record BasesAt {E : Type 0} (lbs : Place → ℕ) (page : ℕ → Page E) (s : Server E) : Type 0 where
  pub log : s.held ≡ Log → Under lbs s.base
  pub saved : (v : Saved E) → s.saved ≡ Some v → Under lbs v.base
  -- Further: what a leader beside server 1 was told of its LB, by an Ack or a Formed, is at most that LB; so its base
  -- may move there
  pub acked : s.mode ≡ Open → s.plan.storers ≡ S01 → s.told_lb ≤ lbs One
  pub heard : (x : Place) (lb : ℕ) → get s.heard x ≡ Some lb → (page s.promised).plan.storers ≡ S01 → lb ≤ lbs One

-- A message's base is; and so is an LB that it tells of server 1
abbrev pub BasesBody : {E : Type 0} → (Place → ℕ) → (ℕ → Page E) → Message E → Type 0
BasesBody lbs page (Event v index cp base e) = Under lbs base
BasesBody lbs page (Beat v cp base) = Under lbs base
BasesBody lbs page (Ack v t lb until) = ((page v).formed ≡ true) × ((page v).plan.storers ≡ S01 → lb ≤ lbs One)
BasesBody lbs page (Formed v lb) = ((page v).formed ≡ true) × ((page v).plan.storers ≡ S01 → lb ≤ lbs One)
BasesBody lbs page m = ⊤

pub record Bases {E : Type 0} (g : Group E) : Type 0 where
  pub server : (q : Place) → BasesAt (λ x. (g.server x).lb) g.page (g.server q)
  pub page : (w : ℕ) → (g.page w).formed ≡ true → Under (λ x. (g.server x).lb) (g.page w).plan.base
  pub join : (j : JoinMade) → In g.joins j → j.report.held ≡ Log → Under (λ x. (g.server x).lb) j.report.base
  pub packet : Each (λ (p : Packet E). BasesBody (λ x. (g.server x).lb) g.page p.body) g.packets
