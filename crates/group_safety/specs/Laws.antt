-- The laws of the group: what every schedule keeps.
use Rattle.std.specs.Prelude.{◌≡◌, ℕ, zero, suc, ◌+◌, ◌-◌, ◌/◌, ◌<◌, ◌≤◌, ◌⊎◌, true, false, List, [], ◌∷◌, ◌++◌, length, take, drop, None, Some, slice_get, ⊤}
use Rattle.file_tree.specs.Calls.{outcome}
use Rattle.harp_types.specs.Update.{is_update}
use Rattle.file_tree.specs.Book.{Entry, updates, tree_after, IsBook}
use Rattle.group_safety.specs.Bases.{Bases}
use Rattle.group_safety.specs.Entered.{AnswersOk, Books, Tidy, Within}
use Rattle.group_safety.specs.Facts.{Ok}
use Rattle.group_safety.specs.Reported.{Reported}
use Rattle.group_rules.specs.Limits.{IsDelta, limit, room}
use Rattle.group_rules.specs.Moves.{Choosing, Move, Reading, Saying, act, moved}
use Rattle.group_rules.specs.Places.{Place, number}
use Rattle.group_safety.specs.Settled.{Settled}
use Rattle.group_rules.specs.State.{Ack, Answered, Answers, Beat, Event, Form, Give, Group, Join, JoinMade, Log, Message, Open, Outside, Packet, Page, Pulls, Saved, Server, longest_of, top}
use Rattle.group_rules.specs.Step.{Ask, At, Near, Comes, Crash, Deed, Happening, happens, run, step_of}
use Rattle.group_safety.specs.Words.{Agree, Each, In, Under}

-- All that every step keeps
pub record Whole (g : Group Entry) : Type 0 where
  pub ok : Ok g
  pub settled : Settled g
  pub bases : Bases g
  pub reported : Reported g
  pub answers : AnswersOk g
  pub books : Books g
  pub within : Within g
  pub tidy : Tidy g
  pub near : Near g.clock

-- the same group with marks from before marks told of lengths
abbrev pub with_old_marks : Group Entry → Group Entry
with_old_marks g = record g { server = λ q. record (g.server q) { longest = None } }

-- A law holds after each list of happenings, from each group that meets the facts, whatever the sizes of records
abbrev pub Always : (Group Entry → Type 0) → Type 0
Always Law = (size : List Entry → Entry → ℕ) (g : Group Entry) → Whole g → (happenings : List Happening)
    → Law (run size g happenings)

-- EVERY LATER VIEW. An update that was answered with index n in view v stands in the book at n. The view's list begins
-- with the book's first n, and so does the list of each view formed above v, within its start. They are held twice in a
-- view not above v, each held server with an accepted view of at least v has them, and each open leader above v has them
-- as committed
pub record LaterViewsHave (g : Group Entry) (a : Answered Entry) : Type 0 where
  pub formed : (g.page a.view).formed ≡ true
  pub in_book : slice_get g.committed (a.index - 1) ≡ Some a.entry
  pub here : Agree a.index (g.page a.view).list g.committed
  pub later : (w : ℕ) → a.view < w → (g.page w).formed ≡ true → (a.index ≤ (g.page w).plan.start)
      × Agree a.index (g.page w).list g.committed
  pub held_twice : (v : ℕ) × ((g.page v).formed ≡ true) × (v ≤ a.view) × (a.index ≤ (g.page v).held_twice)
  pub held : (q : Place) → (g.server q).held ≡ Log → a.view ≤ (g.server q).accepted → a.index ≤ top (g.server q)
  pub open' : (q : Place) → (g.server q).mode ≡ Open → a.view < (g.server q).accepted → a.index ≤ (g.server q).cp

abbrev pub EveryLaterView : Group Entry → Type 0
EveryLaterView g = (a : Answered Entry) → In g.answered a → LaterViewsHave g a

-- What a held server has as committed stands in the same way
abbrev pub CommittedSurvives : Group Entry → Type 0
CommittedSurvives g = (q : Place) → (g.server q).held ≡ Log
    → Agree (g.server q).cp (g.page (g.server q).accepted).list g.committed
    × ((w : ℕ) → (g.server q).accepted < w → (g.page w).formed ≡ true → ((g.server q).cp ≤ (g.page w).plan.start)
    × Agree (g.server q).cp (g.page w).list g.committed)

-- EXCLUSIVE READING. An open leader whose clock is below its partner's promise is the last that opened a view, and
-- has the whole book as committed
abbrev pub ReadsAlone : Group Entry → Type 0
ReadsAlone g = (q : Place) → (g.server q).mode ≡ Open → g.clock q < (g.server q).grant
    → ((w : ℕ) → (g.server q).accepted < w → (g.page w).formed ≡ true → (g.page w).opened ≡ false)
    × ((g.server q).cp ≡ length g.committed)

-- THE BOOK IS ONE BOOK: indices, stamps, client numbers, and each reply by the outcome on the tree of the updates
-- before it
pub record OneBook (g : Group Entry) : Type 0 where
  pub book : IsBook g.book
  pub updates : updates g.book ≡ g.committed
  pub lists : (w : ℕ) → (g.page w).formed ≡ true → IsBook (g.page w).list

-- a message's base is on both disks; of a Join, where its sender is held
abbrev pub BaseUnder : (Place → ℕ) → Message Entry → Type 0
BaseUnder lbs (Join v t) = t.held ≡ Log → Under lbs t.base
BaseUnder lbs (Form v plan) = Under lbs plan.base
BaseUnder lbs (Event v index cp base e) = Under lbs base
BaseUnder lbs (Beat v cp base) = Under lbs base
BaseUnder lbs m = ⊤

-- EVERY BASE IS ON BOTH DISKS: of a log, a saved log, a page, a held server's join or a message,
-- it is at most the LB in the marks of servers 0 and 1
pub record BasesOnBothDisks (g : Group Entry) : Type 0 where
  pub log : (q : Place) → (g.server q).held ≡ Log → Under (λ x. (g.server x).lb) (g.server q).base
  pub saved : (q : Place) (v : Saved Entry) → (g.server q).saved ≡ Some v → Under (λ x. (g.server x).lb) v.base
  pub page : (w : ℕ) → (g.page w).formed ≡ true → Under (λ x. (g.server x).lb) (g.page w).plan.base
  pub join : (j : JoinMade) → In g.joins j → j.report.held ≡ Log → Under (λ x. (g.server x).lb) j.report.base
  pub packet : Each (λ (p : Packet Entry). BaseUnder (λ x. (g.server x).lb) p.body) g.packets

-- these are the records base + 1 and on of a list
abbrev pub AreRecords : ℕ → List Entry → List Entry → Type 0
AreRecords base items list = (base + length items ≤ length list) × (items ≡ take (length items) (drop base list))

-- EACH LOG STANDS FOR ITS VIEW'S LIST: a held server's numbers stand in their order and its log is the records of its
-- accepted view's list; so is a saved log, and a puller's staging list is records of the view that it pulls, within
-- the start
pub record StandsFor (g : Group Entry) (q : Place) : Type 0 where
  pub order : (g.server q).held ≡ Log → ((g.server q).base ≤ (g.server q).lb) × ((g.server q).lb ≤ (g.server q).ap)
      × ((g.server q).ap ≤ (g.server q).cp) × ((g.server q).cp ≤ top (g.server q))
  pub log : (g.server q).held ≡ Log
      → AreRecords (g.server q).base (g.server q).items (g.page (g.server q).accepted).list
  pub saved_order : (v : Saved Entry) → (g.server q).saved ≡ Some v → ((g.server q).role ≡ Outside → ⊥)
      → (v.base ≤ (g.server q).lb) × ((g.server q).lb ≤ v.cp) × (v.cp ≤ v.base + length v.items)
  pub saved : (v : Saved Entry) → (g.server q).saved ≡ Some v → ((g.server q).role ≡ Outside → ⊥)
      → AreRecords v.base v.items (g.page (g.server q).accepted).list
  pub staged : (g.server q).mode ≡ Pulls
      → AreRecords (g.server q).wanted_from (g.server q).staged (g.page (g.server q).promised).list
  pub staged_within : (g.server q).mode ≡ Pulls
      → (g.server q).wanted_from + length (g.server q).staged ≤ (g.page (g.server q).promised).plan.start

-- LIMITS: counts and indices have at most 62 bits, a log has at most 32,768 records, and promises last 500 to 100,000;
-- a server that is up gives none that is longer than its mark says
pub record WithinLimits (g : Group Entry) : Type 0 where
  pub count : (q : Place) → (g.server q).promised / 3 ≤ limit
  pub indices : (q : Place) → (g.server q).held ≡ Log → top (g.server q) ≤ limit
  pub log : (q : Place) → length (g.server q).items ≤ room
  pub saved : (q : Place) (v : Saved Entry) → (g.server q).saved ≡ Some v → length v.items ≤ room
  pub list : (w : ℕ) → (g.page w).formed ≡ true → length (g.page w).list ≤ limit
  pub delta : IsDelta g.delta
  pub longest : (q : Place) → IsDelta (longest_of (g.server q).longest)
  pub promises : (q : Place) → (g.server q).up ≡ true
      → IsDelta (g.server q).delta × ((g.server q).delta ≤ longest_of (g.server q).longest)

-- what a formed page becomes
pub record PageGrows {E : Type 0} (p p' : Page E) : Type 0 where
  pub formed : p'.formed ≡ true
  pub plan : p'.plan ≡ p.plan
  pub from : p'.from ≡ p.from
  pub longer : length p.list ≤ length p'.list
  pub agree : Agree (length p.list) p.list p'.list
  pub held_twice : p.held_twice ≤ p'.held_twice
  pub until : p.until ≤ p'.until
  pub leader_in : p.leader_in ≡ true → p'.leader_in ≡ true
  pub partner_in : p.partner_in ≡ true → p'.partner_in ≡ true
  pub opened : p.opened ≡ true → p'.opened ≡ true

pub record Grows {E : Type 0} (page page' : ℕ → Page E) (committed committed' : List E)
    (joins joins' : List JoinMade) : Type 0 where
  pub each : (v : ℕ) → (page v).formed ≡ true → PageGrows (page v) (page' v)
  pub longer : length committed ≤ length committed'
  pub agree : Agree (length committed) committed committed'
  pub more : (j : JoinMade) → In joins j → In joins' j

-- GROWTH. The book only grows; formed pages keep their plan and origin, lists are prolonged, flags stay; joins and
-- answers stay
pub record Growth (g g' : Group Entry) : Type 0 where
  pub history : Grows g.page g'.page g.committed g'.committed g.joins g'.joins
  pub book : (new : List Entry) × (g'.book ≡ g.book ++ new)
  pub answered : (new : List (Answered Entry)) × (g'.answered ≡ new ++ g.answered)

-- What a move says is right at that moment: an answered update stands in the book; a read is answered with the length
-- of the book as index and its outcome on the book's tree, by the last that opened a view; a view is formed once
abbrev pub SaidRightly : Group Entry → Server Entry → Move Entry → Type 0
SaidRightly g s (Saying (Answers n e)) = (0 < n) × (n ≤ length g.committed) × (slice_get g.committed (n - 1) ≡ Some e)
SaidRightly g s (Reading n e) = (n ≡ length g.committed) × (is_update e.call ≡ false)
    × (e.reply ≡ (outcome (tree_after g.book) e.cred e.call e.stamp).0)
    × ((w : ℕ) → s.accepted < w → (g.page w).formed ≡ true → (g.page w).opened ≡ false)
SaidRightly g s (Choosing plan from) = (g.page s.promised).formed ≡ false
SaidRightly g s m = ⊤

-- each move of a step
abbrev pub AllSaidRightly : Group Entry → Place → Server Entry → List (Move Entry) → Type 0
AllSaidRightly g q s [] = ⊤
AllSaidRightly g q s (m ∷ ms) = SaidRightly g s m × AllSaidRightly (moved g q s m) q (act q (g.clock q) s m) ms

-- ANSWERED AT ONCE. The delivery of an Ack to the open leader of its view answers, in order, each update from the one
-- after CP to the acknowledged top
abbrev pub answered_one : Move Entry → List ℕ
answered_one (Saying (Answers n e)) = n ∷ []
answered_one m = []

abbrev pub answered_in : List (Move Entry) → List ℕ
answered_in [] = []
answered_in (m ∷ ms) = answered_one m ++ answered_in ms

-- the k numbers after n
abbrev pub numbers_after : ℕ → ℕ → List ℕ
numbers_after n zero = []
numbers_after n (suc k) = (n + 1) ∷ numbers_after (n + 1) k

pub record AnswersAtOnce (size : List Entry → Entry → ℕ) (g : Group Entry) (p : Packet Entry) (v t lb until : ℕ)
    : Type 0 where
  pub indices : p.body ≡ Ack v t lb until → (g.server p.to).up ≡ true → (g.server p.to).mode ≡ Open
      → (g.server p.to).accepted ≡ v → (g.server p.to).cp < t
      → answered_in (step_of size g p.to (Comes p.from p.body)) ≡ numbers_after (g.server p.to).cp (t - (g.server p.to).cp)

-- A step that is cut is whole, or the server has crashed
abbrev pub TwoOutcomes : (List Entry → Entry → ℕ) → Group Entry → Happening → Happening → Place → Type 0
TwoOutcomes size g cut whole q = (happens size g cut ≡ happens size g whole)
    ⊎ (happens size g cut ≡ happens size g (At q Crash))

-- HOW LOGS GROW. The number of a server's records grows only in an ask at it, by one, in the delivery of an Event to it,
-- by one, and in the delivery of a Give to it
abbrev pub log_length : Group Entry → Place → ℕ
log_length g q = length (g.server q).items

abbrev pub DeedGrows : Deed → ℕ → ℕ → Type 0
DeedGrows (Ask client number cred c) old new = new ≤ old + 1
DeedGrows d old new = new ≤ old

abbrev pub DeliveryGrows : Message Entry → ℕ → ℕ → Type 0
DeliveryGrows (Event v index cp base e) old new = new ≤ old + 1
DeliveryGrows (Give v index items) old new = ⊤
DeliveryGrows m old new = new ≤ old
