-- A group within bounds: of a count n, and of a moment.
use Rattle.std.specs.Prelude.{ℕ, ◌+◌, ◌*◌, ◌/◌, ◌≤◌, length, ⊤}
use Rattle.file_tree.specs.Book.{Entry}
use Rattle.group_rules.specs.Limits.{room}
use Rattle.group_rules.specs.Places.{Place}
use Rattle.group_rules.specs.State.{Fetch, Formed, Give, Group, Invite, JoinMade, Message, Packet, Page, Report, Server}
use Rattle.group_safety.specs.Words.{Each, In}
use Rattle.accept_laws.specs.Walks.{EntryWithin}

-- a view's list has at most n entries, each within the bounds, and no promise that its plan waits
-- for runs longer than the longest one that is given at the moment
pub record PageIn (n late : ℕ) (p : Page Entry) : Type 0 where
  pub few : length p.list ≤ n
  pub entries : Each (EntryWithin n late) p.list
  pub horizon : p.plan.horizon ≤ late + 100000

pub record ServerIn (n late : ℕ) (s : Server Entry) : Type 0 where
  pub count : s.promised / 3 ≤ n
  pub delta : s.delta ≤ 100000
  pub horizon : s.horizon ≤ late + 100000

pub record ReportIn (n late : ℕ) (t : Report) : Type 0 where
  pub base : t.base ≤ n
  pub lb : t.lb ≤ n
  pub cp : t.cp ≤ n
  pub top : t.top ≤ n
  pub horizon : t.horizon ≤ late + 100000

-- what no fact of the group says of a message
abbrev pub BodyIn : ℕ → Message Entry → Type 0
BodyIn n (Invite v) = v / 3 ≤ n
BodyIn n (Fetch v index) = index ≤ n + 1
BodyIn n (Formed v lb) = lb ≤ n
BodyIn n (Give v index items) = (1 ≤ length items) × (length items ≤ room)
BodyIn n m = ⊤

pub record IsWithin (n late : ℕ) (g : Group Entry) : Type 0 where
  pub server : (q : Place) → ServerIn n late (g.server q)
  pub page : (w : ℕ) → PageIn n late (g.page w)
  pub join : (j : JoinMade) → In g.joins j → ReportIn n late j.report
  pub packet : Each (λ (p : Packet Entry). BodyIn n p.body) g.packets
  pub book : Each (EntryWithin n late) g.book
  pub clock : (q : Place) → g.clock q ≤ late

-- the latest moment that clocks show after n steps that are told
abbrev pub latest : ℕ → ℕ
latest n = 1000000000 * n
