-- The choice of a view in words.
use Rattle.std.specs.Prelude.{◌≡◌, ℕ, ◌<◌, ◌≤◌, ◌⊎◌, false, Option, None, Some}
use Rattle.group_rules.specs.Choose.{choose, greatest}
use Rattle.group_rules.specs.Places.{IsIn, Zero, One, Place, S01, Trio, get, is_p2, number}
use Rattle.group_rules.specs.State.{Log, Plan, Report}

-- q joined and reported this
abbrev pub Joined : Trio (Option Report) → Place → Report → Type 0
Joined reports q t = get reports q ≡ Some t

-- the bases that count: the source's, and those of the data servers among the storers
abbrev pub Counts : Plan → Place → Type 0
Counts p q = (q ≡ p.source) ⊎ (IsIn p.storers q × (is_p2 q ≡ false))

-- A log of the source's view isn't longer than the source's, and where it is as long its server
-- has no lower number
abbrev pub IsNotBefore : Place → Report → Place → Report → Type 0
IsNotBefore source s q t = (t.top < s.top) ⊎ ((t.top ≡ s.top) × (number source ≤ number q))

-- The choice of a view that starts from another one
pub record IsChoice (reports : Trio (Option Report)) (p : Plan) (from : ℕ) : Type 0 where
  -- both storers joined, and they are (0,1) where these two did
  pub storers : (q : Place) → IsIn p.storers q → (t : Report) × Joined reports q t
  pub data_servers : (a b : Report) → Joined reports Zero a → Joined reports One b → p.storers ≡ S01
  -- it starts from the greatest accepted view of all joins; the source is the held server that has
  -- it and the longest log, the lower number in a tie
  pub source : Report
  pub joined : Joined reports p.source source
  pub held : source.held ≡ Log
  pub accepted : source.accepted ≡ from
  pub greatest : (q : Place) (t : Report) → Joined reports q t → t.accepted ≤ from
  pub longest : (q : Place) (t : Report) → Joined reports q t → t.held ≡ Log → t.accepted ≡ from
      → IsNotBefore p.source source q t
  -- the start and CP are the source's
  pub start : p.start ≡ source.top
  pub cp : p.cp ≡ source.cp
  -- the horizon is the greatest of all joins, and the base the greatest of those that count
  pub horizon : (q : Place) (t : Report) → Joined reports q t → t.horizon ≤ p.horizon
  pub horizon_of : (q : Place) × (t : Report) × Joined reports q t × (t.horizon ≡ p.horizon)
  pub base : (q : Place) (t : Report) → Joined reports q t → t.held ≡ Log → Counts p q
      → t.base ≤ p.base
  pub base_of : (q : Place) × (t : Report) × Joined reports q t × (t.held
      ≡ Log) × Counts p q × (t.base ≡ p.base)

-- fewer than two joined
abbrev pub FewJoined : Trio (Option Report) → Type 0
FewJoined reports = (q r : Place) (t u : Report) → Joined reports q t → Joined reports r u → q ≡ r

-- no held server has the greatest accepted view
abbrev pub NoneHeld : Trio (Option Report) → Type 0
NoneHeld reports = (q : Place) (t : Report) → Joined reports q t → t.held ≡ Log
    → (r : Place) × (u : Report) × Joined reports r u × (t.accepted < u.accepted)

abbrev pub ChoosesSo : Type 0
ChoosesSo = (reports : Trio (Option Report)) (p : Plan) → choose reports ≡ Some p
    → IsChoice reports p (greatest reports)

abbrev pub SomeSo : Type 0
SomeSo = (reports : Trio (Option Report)) (p : Plan) (from : ℕ) → IsChoice reports p from
    → choose reports ≡ Some p

abbrev pub ChoosesNone : Type 0
ChoosesNone = (reports : Trio (Option Report)) → choose reports ≡ None
    → FewJoined reports ⊎ NoneHeld reports

abbrev pub NoneSo : Type 0
NoneSo = (reports : Trio (Option Report)) → FewJoined reports ⊎ NoneHeld reports
    → choose reports ≡ None
