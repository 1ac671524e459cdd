-- The facts on settled servers: they stand on those of the pages and servers.
use Rattle.std.specs.Prelude.{◌≡◌, ℕ, ◌<◌, ◌≤◌, ◌⊎◌, true, false, List, length, ⊤}
use Rattle.group_rules.specs.Places.{Place}
use Rattle.group_rules.specs.State.{Beat, Event, Group, Live, Message, Open, Packet, Page, Server}
use Rattle.group_safety.specs.Words.{Each}

-- A settled server's CP is at least its view's start; and where it leads and no later view was opened, it is the
-- length of the book
pub record SettledAt {E : Type 0} (page : ℕ → Page E) (committed : List E) (s : Server E) : Type 0 where
  pub settled : (s.mode ≡ Open) ⊎ (s.mode ≡ Live) → (page s.accepted).plan.start ≤ s.cp
  pub count : s.mode ≡ Open → ((w : ℕ) → s.accepted < w → (page w).formed ≡ true → (page w).opened ≡ false)
      → s.cp ≡ length committed

-- Further: the CP in an Event or Beat is at least its view's start; so it is at the partner that heeds it
abbrev pub SettledBody : {E : Type 0} → (ℕ → Page E) → Message E → Type 0
SettledBody page (Event v index cp base e) = ((page v).formed ≡ true) × ((page v).plan.start ≤ cp)
SettledBody page (Beat v cp base) = ((page v).formed ≡ true) × ((page v).plan.start ≤ cp)
SettledBody page m = ⊤

pub record Settled {E : Type 0} (g : Group E) : Type 0 where
  pub server : (q : Place) → SettledAt g.page g.committed (g.server q)
  pub packet : Each (λ (p : Packet E). SettledBody g.page p.body) g.packets
