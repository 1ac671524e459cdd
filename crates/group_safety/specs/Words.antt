-- The words in which the facts speak of lists, pages and modes.
use Rattle.std.specs.Prelude.{◌≡◌, ℕ, ◌+◌, ◌<◌, ◌≤◌, ◌⊎◌, Bool, true, List, [], ◌∷◌, length, Option, slice_get, ⊤}
use Rattle.group_rules.specs.Places.{IsIn, Zero, One, Place, leader, partner}
use Rattle.group_rules.specs.State.{JoinMade, Joins, Live, Log, Mode, Open, Page, Pulls, Rests, Server, Waits, longest_of}

-- the lists have the same first n entries
abbrev pub Agree : {E : Type 0} → ℕ → List E → List E → Type 0
Agree n xs ys = (k : ℕ) → k < n → slice_get xs k ≡ slice_get ys k

-- items are the entries of xs after the first `base` ones
abbrev pub Part : {E : Type 0} → ℕ → List E → List E → Type 0
Part base items xs = (k : ℕ) → k < length items → slice_get items k ≡ slice_get xs (base + k)

-- what holds of each element
abbrev pub Each : {X : Type 0} → (X → Type 0) → List X → Type 0
Each P [] = ⊤
Each P (x ∷ xs) = P x × Each P xs

-- x stands in the list
abbrev pub In : {X : Type 0} → List X → X → Type 0
In [] x = ⊥
In (y ∷ ys) x = (y ≡ x) ⊎ In ys x

-- n records are on the disks of server 0 and of server 1, whose LBs are these
abbrev pub Under : (Place → ℕ) → ℕ → Type 0
Under lbs n = (n ≤ lbs Zero) × (n ≤ lbs One)

-- in one of the modes of a storer that accepted its promised view in this boot
abbrev pub IsActive : Mode → Type 0
IsActive Rests = ⊥
IsActive Joins = ⊥
IsActive Pulls = ⊥
IsActive Waits = ⊤
IsActive Open = ⊤
IsActive Live = ⊤

-- it joined its promised view in this boot, and hasn't accepted it
abbrev pub IsJoining : Mode → Type 0
IsJoining Rests = ⊥
IsJoining Joins = ⊤
IsJoining Pulls = ⊤
IsJoining Waits = ⊥
IsJoining Open = ⊥
IsJoining Live = ⊥

-- q is the view's leader or partner, and accepted it at some time
abbrev pub Into : {E : Type 0} → Page E → Place → Type 0
Into p q = (q ≡ leader p.plan.storers) × (p.leader_in ≡ true) ⊎ (q ≡ partner p.plan.storers) × (p.partner_in ≡ true)

-- c entries of the view v are the book's, and are held twice in a view not above v
pub record Sure {E : Type 0} (page : ℕ → Page E) (committed : List E) (v c : ℕ) : Type 0 where
  pub in_book : c ≤ length committed
  pub same : Agree c (page v).list committed
  pub within : c ≤ length (page v).list
  pub twice : ℕ
  pub formed : (page twice).formed ≡ true
  pub not_above : twice ≤ v
  pub held_twice : c ≤ (page twice).held_twice

-- What a join, a log and a saved log share: p is the page of the accepted view, n the number of entries
pub record Holds {E : Type 0} (p : Page E) (q : Place) (n : ℕ) : Type 0 where
  pub storer : IsIn p.plan.storers q
  pub from_start : p.plan.start ≤ n
  pub held_twice : p.held_twice ≤ n
  pub within : n ≤ length p.list
  pub all : q ≡ leader p.plan.storers → n ≡ length p.list

-- While q, the partner of v, has left v for no higher view, each view w above v begins with all that v's leader ever
-- had. p and r are the pages of v and w
abbrev pub AheadOfLeader : {E : Type 0} → Place → ℕ → ℕ → ℕ → Page E → Page E → Type 0
AheadOfLeader q promised v w p r =
    v < w → p.formed ≡ true → r.formed ≡ true → q ≡ partner p.plan.storers → p.leader_in ≡ true → promised ≤ v
    → (length p.list ≤ r.plan.start) × Agree (length p.list) p.list r.list

-- While q, the leader of v, has left v for no higher view, each view w above v begins with what v began with
abbrev pub AheadOfPartner : {E : Type 0} → Place → ℕ → ℕ → ℕ → Page E → Page E → Type 0
AheadOfPartner q promised v w p r =
    v < w → p.formed ≡ true → r.formed ≡ true → q ≡ leader p.plan.storers → p.partner_in ≡ true → promised ≤ v
    → (p.plan.start ≤ r.plan.start) × Agree p.plan.start p.list r.list

-- While a server has joined its promised view in this boot, its joins to that view report the log that it keeps
abbrev pub Tells : {E : Type 0} → List JoinMade → Place → Server E → Type 0
Tells joins q s = IsJoining s.mode → (j : JoinMade) → In joins j → j.from ≡ q → j.view ≡ s.promised → s.held ≡ Log
    → (j.report.accepted ≡ s.accepted) × (j.report.top ≡ s.base + length s.items)
    × (j.report.base ≡ s.base) × (j.report.lb ≡ s.lb) × (j.report.cp ≡ s.cp)

-- the promises that q gave for v are within its horizon, while it is up, and its clock plus the longest of its mark
abbrev pub Promised : {E : Type 0} → Place → Bool → (horizon clock : ℕ) → (longest : Option ℕ) → ℕ → Page E → Type 0
Promised q up horizon clock longest v p =
    p.formed ≡ true → q ≡ partner p.plan.storers → (up ≡ true → p.until ≤ horizon) × (p.until ≤ clock + longest_of longest)
