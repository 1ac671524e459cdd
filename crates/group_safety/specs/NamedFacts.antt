-- The facts of the induction by their names. Each follows from what every step keeps.
use Rattle.std.specs.Prelude.{◌≡◌, ℕ, ◌+◌, ◌-◌, ◌<◌, ◌≤◌, ◌⊎◌, true, false, List, length, Some, slice_get, ⊤}
use Rattle.group_rules.specs.Places.{IsIn, Two, Place, S01, leader, partner}
use Rattle.group_rules.specs.State.{Ack, Beat, Demote, Empty, Event, Give, Group, JoinMade, Live, Log, Message, Open, Outside, Packet, Page, Report, Saved, top}
use Rattle.group_safety.specs.Reported.{JoinsReport}
use Rattle.group_safety.specs.Words.{Agree, Each, In, Into, IsActive, Part, Promised, Sure, Tells}

-- A server's accepted view is at most its promised one and was formed; it is active in its promised view alone; a
-- held server is a storer of its accepted view; each view starts from a lower one
pub record AcceptedBelowPromised {E : Type 0} (g : Group E) : Type 0 where
  pub order : (q : Place) → (g.server q).accepted ≤ (g.server q).promised
  pub formed : (q : Place) → (g.page (g.server q).accepted).formed ≡ true
  pub active : (q : Place) → IsActive (g.server q).mode → (g.server q).promised ≡ (g.server q).accepted
  pub storer : (q : Place) → (g.server q).held ≡ Log → IsIn (g.page (g.server q).accepted).plan.storers q
  pub lower : (w : ℕ) → 0 < w → (g.page w).formed ≡ true → (g.page w).from < w

-- Both storers of a formed view joined it and promise it or more, so two formed views share a
-- storer. The joins of a held server to views above its accepted one report that view, the base,
-- CP and top of the log that it keeps, and an LB of at most the log's: so until it accepts a
-- view, is demoted or loses the log, also after a power failure and a boot; while it has joined
-- in this boot, they report the LB too. Both storers of an opened view accepted it, and each
-- server that accepted a view has an accepted view of at least it, and so say its later joins
pub record StorersJoined {E : Type 0} (g : Group E) : Type 0 where
  pub joined : (w : ℕ) → 0 < w → (g.page w).formed ≡ true → (q : Place) → IsIn (g.page w).plan.storers q
      → (t : Report) × In g.joins (record { from = q; view = w; report = t })
  pub promised : (w : ℕ) → (g.page w).formed ≡ true → (q : Place) → IsIn (g.page w).plan.storers q
      → w ≤ (g.server q).promised
  pub shared : (v w : ℕ) → (x : Place) × IsIn (g.page v).plan.storers x × IsIn (g.page w).plan.storers x
  pub reports : (q : Place) → (g.server q).held ≡ Log
      → JoinsReport g.joins q (g.server q).accepted (g.server q).base
      (g.server q).lb (g.server q).cp (top (g.server q))
  pub reports_saved : (q : Place) (log : Saved E) → (g.server q).saved ≡ Some log
      → ((g.server q).role ≡ Outside → ⊥)
      → JoinsReport g.joins q (g.server q).accepted log.base (g.server q).lb log.cp
      (log.base + length log.items)
  pub reports_now : (q : Place) → Tells g.joins q (g.server q)
  pub opened : (v : ℕ) → (g.page v).formed ≡ true → (g.page v).opened ≡ true → ((g.page v).leader_in ≡ true)
      × ((g.page v).partner_in ≡ true)
  pub accepted : (v : ℕ) → (g.page v).formed ≡ true → (q : Place) → Into (g.page v) q → v ≤ (g.server q).accepted
  pub later : (v : ℕ) → (g.page v).formed ≡ true → (j : JoinMade) → In g.joins j → v < j.view
      → Into (g.page v) j.from → v ≤ j.report.accepted

-- the entries in a message are those of the view's list
abbrev pub CarriesEntries : {E : Type 0} → (ℕ → Page E) → Message E → Type 0
CarriesEntries page (Event v index cp base e) = slice_get (page v).list (index - 1) ≡ Some e
CarriesEntries page (Give v index items) = Part (index - 1) items (page v).list
    × (index - 1 + length items ≤ (page v).plan.start)
CarriesEntries page m = ⊤

-- An Event carries the entry of its index in its view's list, and a Give entries from its index on within the view's
-- start
abbrev pub MessagesCarryListEntries : {E : Type 0} → Group E → Type 0
MessagesCarryListEntries g = Each (λ (p : Packet _). CarriesEntries g.page p.body) g.packets

-- Where n entries are held twice in a view, each held server, saved log and held join of this view has them, and each
-- later view begins with them
pub record HeldTwiceSurvives {E : Type 0} (g : Group E) (v n : ℕ) : Type 0 where
  pub server : (q : Place) → (g.server q).held ≡ Log → (g.server q).accepted ≡ v → n ≤ top (g.server q)
  pub saved : (q : Place) (log : Saved E) → (g.server q).saved ≡ Some log → ((g.server q).role ≡ Outside → ⊥)
      → (g.server q).accepted ≡ v → n ≤ log.base + length log.items
  pub join : (j : JoinMade) → In g.joins j → j.report.held ≡ Log → j.report.accepted ≡ v → n ≤ j.report.top
  pub later : (w : ℕ) → v < w → (g.page w).formed ≡ true → (n ≤ (g.page w).plan.start)
      × Agree n (g.page v).list (g.page w).list

-- by the messages: an Ack of it told so many, or a Beat of it was sent and it started with so many
abbrev pub SaidTwice : {E : Type 0} → Group E → ℕ → ℕ → Type 0
SaidTwice g v n =
    ((p : Packet _) × (t : ℕ) × (lb : ℕ) × (until : ℕ) × In g.packets p × (p.body ≡ Ack v t lb until) × (n ≤ t))
    ⊎ ((p : Packet _) × (cp : ℕ) × (base : ℕ) × In g.packets p × (p.body ≡ Beat v cp base)
    × (n ≤ (g.page v).plan.start))

-- a log of n entries at q holds its view's start, and that of the view's leader is the view's whole list
abbrev pub HoldsStart : {E : Type 0} → Page E → Place → ℕ → Type 0
HoldsStart p q n = (p.plan.start ≤ n) × (q ≡ leader p.plan.storers → n ≡ length p.list)

-- Each held server, saved log and held join has at least its view's start, the leader's the whole list; and a settled
-- server has the start as committed
pub record StorerHoldsTheStart {E : Type 0} (g : Group E) : Type 0 where
  pub server : (q : Place) → (g.server q).held ≡ Log → HoldsStart (g.page (g.server q).accepted) q (top (g.server q))
  pub saved : (q : Place) (log : Saved E) → (g.server q).saved ≡ Some log → ((g.server q).role ≡ Outside → ⊥)
      → HoldsStart (g.page (g.server q).accepted) q (log.base + length log.items)
  pub join : (j : JoinMade) → In g.joins j → j.report.held ≡ Log
      → HoldsStart (g.page j.report.accepted) j.from j.report.top
  pub settled : (q : Place) → ((g.server q).mode ≡ Open) ⊎ ((g.server q).mode ≡ Live)
      → (g.page (g.server q).accepted).plan.start ≤ (g.server q).cp

-- the CP in a message
abbrev pub CommitAgrees : {E : Type 0} → (ℕ → Page E) → List E → Message E → Type 0
CommitAgrees page committed (Event v index cp base e) = Sure page committed v cp
CommitAgrees page committed (Beat v cp base) = Sure page committed v cp
CommitAgrees page committed m = ⊤

-- The entries within a CP, and within the LB of a mark, are the book's and are held twice in a view not above its
-- own. The whole book is, and agrees with each view in what this one holds twice. An open leader has the whole book
-- as committed while no later view was opened
pub record CommitsAgreeWithTheBook {E : Type 0} (g : Group E) : Type 0 where
  pub server : (q : Place) → (g.server q).held ≡ Log → Sure g.page g.committed (g.server q).accepted (g.server q).cp
  pub mark : (q : Place) → Sure g.page g.committed (g.server q).accepted (g.server q).lb
  pub saved : (q : Place) (log : Saved E) → (g.server q).saved ≡ Some log → ((g.server q).role ≡ Outside → ⊥)
      → Sure g.page g.committed (g.server q).accepted log.cp
  pub page : (w : ℕ) → (g.page w).formed ≡ true → Sure g.page g.committed w (g.page w).plan.cp
      × Sure g.page g.committed w (g.page w).plan.base
  pub join : (j : JoinMade) → In g.joins j → Sure g.page g.committed j.report.accepted j.report.cp
  pub packet : Each (λ (p : Packet E). CommitAgrees g.page g.committed p.body) g.packets
  pub book : (v : ℕ) × ((g.page v).formed ≡ true) × Sure g.page g.committed v (length g.committed)
  pub twice : (v k : ℕ) → (g.page v).formed ≡ true → k < (g.page v).held_twice → k < length g.committed
      → slice_get (g.page v).list k ≡ slice_get g.committed k
  pub open' : (q : Place) → (g.server q).mode ≡ Open → ((w : ℕ) → (g.server q).accepted < w
      → (g.page w).formed ≡ true → (g.page w).opened ≡ false) → (g.server q).cp ≡ length g.committed

-- a promise in an Ack is among its view's
abbrev pub PromiseKnown : {E : Type 0} → (ℕ → Page E) → Message E → Type 0
PromiseKnown page (Ack v t lb until) = until ≤ (page v).until
PromiseKnown page m = ⊤

-- The promises that were given in a view are within the partner's clock + the longest of its mark, its horizon while
-- it is up, the horizon that each join of it to a later view reports, and the horizon of each later view with it as a
-- storer
pub record HorizonsCoverPromises {E : Type 0} (g : Group E) : Type 0 where
  pub packet : Each (λ (p : Packet E). PromiseKnown g.page p.body) g.packets
  pub server : (v : ℕ) (q : Place) → Promised q (g.server q).up (g.server q).horizon (g.clock q) (g.server q).longest v
      (g.page v)
  pub join : (v : ℕ) → (g.page v).formed ≡ true → (j : JoinMade) → In g.joins j → v < j.view
      → j.from ≡ partner (g.page v).plan.storers → (g.page v).until ≤ j.report.horizon
  pub page : (v w : ℕ) → v < w → (g.page v).formed ≡ true → (g.page w).formed ≡ true
      → IsIn (g.page w).plan.storers (partner (g.page v).plan.storers) → (g.page v).until ≤ (g.page w).plan.horizon

-- an opened view with two data servers
abbrev pub TwoDataServers : {E : Type 0} → Page E → Type 0
TwoDataServers p = (p.opened ≡ true) × (p.plan.storers ≡ S01)

abbrev pub DemotesRightly : {E : Type 0} → (ℕ → Page E) → Message E → Type 0
DemotesRightly page (Demote v) = TwoDataServers (page v)
DemotesRightly page m = ⊤

-- Each Demote is of an opened view with the storers (0,1), and an empty server is server 2 outside view 0 or such a
-- view
pub record DemotionFollowsTwoDataServers {E : Type 0} (g : Group E) : Type 0 where
  pub packet : Each (λ (p : Packet E). DemotesRightly g.page p.body) g.packets
  pub empty : (q : Place) → (g.server q).held ≡ Empty → (q ≡ Two)
      × (((g.server q).accepted ≡ 0) ⊎ TwoDataServers (g.page (g.server q).accepted))

-- the eight together
pub record NamedFacts {E : Type 0} (g : Group E) : Type 0 where
  pub accepted_below_promised : AcceptedBelowPromised g
  pub storers_joined : StorersJoined g
  pub messages_carry_list_entries : MessagesCarryListEntries g
  pub held_twice_survives : (v n : ℕ) → (g.page v).formed ≡ true → n ≤ (g.page v).held_twice → HeldTwiceSurvives g v n
  pub said_twice_is_held : (v n : ℕ) → SaidTwice g v n → ((g.page v).formed ≡ true) × (n ≤ (g.page v).held_twice)
  pub storer_holds_the_start : StorerHoldsTheStart g
  pub commits_agree_with_the_book : CommitsAgreeWithTheBook g
  pub horizons_cover_promises : HorizonsCoverPromises g
  pub demotion_follows_two_data_servers : DemotionFollowsTwoDataServers g
