-- The facts on reported logs: what a server's joins reported of its log is what it keeps, until
-- it accepts a view, is demoted, or loses the log. They stand on those of the pages and servers.
use Rattle.std.specs.Prelude.{◌≡◌, ℕ, ◌+◌, ◌<◌, ◌≤◌, true, List, length, Some}
use Rattle.group_rules.specs.Limits.{can_have}
use Rattle.group_rules.specs.Places.{Two, Place}
use Rattle.group_rules.specs.State.{Group, JoinMade, Log, Outside, Report, Saved, Server, top}
use Rattle.group_safety.specs.Words.{In}

-- a report of the log with base b, CP c and top n of the accepted view v; the log's LB l may have
-- risen since
pub record Reports (t : Report) (v b l c n : ℕ) : Type 0 where
  pub held : t.held ≡ Log
  pub accepted : t.accepted ≡ v
  pub base : t.base ≡ b
  pub lb : t.lb ≤ l
  pub cp : t.cp ≡ c
  pub top : t.top ≡ n

-- each join of q to a view above its accepted one reports this log
abbrev pub JoinsReport : List JoinMade → Place → (v b l c n : ℕ) → Type 0
JoinsReport joins q v b l c n = (j : JoinMade) → In joins j → j.from ≡ q → v < j.view
    → Reports j.report v b l c n

-- A server's log is the one that its joins reported, and so is the saved log of its mark
pub record ReportedAt {E : Type 0} (joins : List JoinMade) (q : Place)
    (s : Server E) : Type 0 where
  pub log : s.held ≡ Log → JoinsReport joins q s.accepted s.base s.lb s.cp (top s)
  pub saved : (v : Saved E) → s.saved ≡ Some v → (s.role ≡ Outside → ⊥)
      → JoinsReport joins q s.accepted v.base s.lb v.cp (v.base + length v.items)
  -- Further: a log beside a saved one is that one; so what a join reports is what a later boot
  -- finds
  pub same : s.held ≡ Log → (v : Saved E) → s.saved ≡ Some v
      → (s.base ≡ v.base) × (s.cp ≡ v.cp) × (s.items ≡ v.items)
  -- Further: a server that is up has the log that its mark has saved, unless it stands outside
  pub none : s.up ≡ true → (s.held ≡ Log → ⊥) → (v : Saved E) → s.saved ≡ Some v → s.role ≡ Outside
  -- Further: each role but outside is one that a choice can give; so a boot finds the saved log
  pub role : (s.role ≡ Outside → ⊥) → can_have q s.role ≡ true
  -- Further: the witness's LB isn't above its base, which a boot takes for it
  pub witness : q ≡ Two → s.held ≡ Log → s.lb ≤ s.base
  pub witness_saved : q ≡ Two → (v : Saved E) → s.saved ≡ Some v → (s.role ≡ Outside → ⊥)
      → s.lb ≤ v.base

pub record Reported {E : Type 0} (g : Group E) : Type 0 where
  pub each : (q : Place) → ReportedAt g.joins q (g.server q)
