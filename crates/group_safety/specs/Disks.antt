-- How far the disks of the data servers may be ahead of their marks: history beside the servers,
-- which none reads.
use Rattle.std.specs.Prelude.{◌≡◌, ℕ, ◌≤◌, ◌⊎◌, false, List, [], ◌∷◌, length, Option, None, Some, max, if◌then◌else◌}
use Rattle.file_tree.specs.Book.{Entry}
use Rattle.group_rules.specs.Disk.{apply}
use Rattle.group_safety.specs.Laws.{Whole}
use Rattle.group_rules.specs.Moves.{Applying, Move}
use Rattle.group_rules.specs.Places.{Place, at, is_p2}
use Rattle.group_rules.specs.State.{Group, Live, Log, Open, Packet, Page, Server, Waits, top}
use Rattle.group_rules.specs.Step.{Advance, Apply, At, Boot, Clock, Comes, CutAt, CutDeliver, Deliver, Delta, Does, Happening, Input, happens, numbered, run, step_of, writes_any}
use Rattle.group_safety.specs.Words.{Agree, Sure}

-- the most records whose changes a disk may ever have had, by server
abbrev pub Disks : Type 0
Disks = Place → ℕ

-- a new disk has none
abbrev pub empty_disks : Disks
empty_disks q = 0

-- a disk goes as far as what is applied, and is never taken back
abbrev pub disks_moved : {E : Type 0} → Disks → Place → Move E → Disks
disks_moved disks q (Applying n) = at disks q (max (disks q) n)
disks_moved disks q m = disks

-- after moves, one after the other
abbrev pub disks_by : {E : Type 0} → Disks → Place → List (Move E) → Disks
disks_by disks q [] = disks
disks_by disks q (m ∷ ms) = disks_by (disks_moved disks q m) q ms

-- after a step
abbrev pub disks_stepped : (List Entry → Entry → ℕ) → Group Entry → Disks → Place → Input → Disks
disks_stepped size g disks q i = if (g.server q).up then disks_by disks q (step_of size g q i) else
    disks

-- A step that is cut at a call which changes the disk may have put some of the changes that it was
-- to apply
abbrev pub disks_begun : Group Entry → Disks → Place → Input → Disks
disks_begun g disks q (Does (Apply n)) = disks_by disks q (apply q (g.server q) n)
disks_begun g disks q i = disks

-- after a step that is cut
abbrev pub disks_cut : (List Entry → Entry → ℕ) → Group Entry → Disks → Place → Input → Disks
disks_cut size g disks q i =
    if (g.server q).up
    then (if writes_any q (g.clock q) (g.server q) (step_of size g q i)
    then disks_begun g disks q i
    else disks_by disks q (step_of size g q i))
    else disks

-- after a delivery, if the packet was sent
abbrev pub disks_delivered : (List Entry → Entry → ℕ) → Group Entry → Disks → Option (Packet Entry)
    → Disks
disks_delivered size g disks None = disks
disks_delivered size g disks (Some p) = disks_stepped size g disks p.to (Comes p.from p.body)

-- after a delivery that is cut
abbrev pub disks_cut_delivered : (List Entry → Entry → ℕ) → Group Entry → Disks
    → Option (Packet Entry) → Disks
disks_cut_delivered size g disks None = disks
disks_cut_delivered size g disks (Some p) = disks_cut size g disks p.to (Comes p.from p.body)

-- after what happens to a group: a fall, a boot and a change of view leave each disk as far as it
-- was
abbrev pub disks_after : (List Entry → Entry → ℕ) → Group Entry → Disks → Happening → Disks
disks_after size g disks (At q d) = disks_stepped size g disks q (Does d)
disks_after size g disks (Deliver which) = disks_delivered size g disks (numbered g.packets which)
disks_after size g disks (CutAt q d) = disks_cut size g disks q (Does d)
disks_after size g disks (CutDeliver which) = disks_cut_delivered size g disks
    (numbered g.packets which)
disks_after size g disks (Boot q) = disks
disks_after size g disks (Clock q t) = disks
disks_after size g disks (Advance d) = disks
disks_after size g disks (Delta d) = disks

-- after a list of happenings
abbrev pub disks_run : (List Entry → Entry → ℕ) → Group Entry → Disks → List Happening → Disks
disks_run size g disks [] = disks
disks_run size g disks (h ∷ hs) = disks_run size (happens size g h) (disks_after size g disks h) hs

-- The disk of a data server is as far as its mark and its log say, and no further than what is
-- surely committed in its accepted view; where it waits that is within the view's start, and where
-- it is settled within its CP
pub record DiskAt {E : Type 0} (page : ℕ → Page E) (committed : List E) (s : Server E)
    (m : ℕ) : Type 0 where
  pub lb : s.lb ≤ m
  pub ap : s.held ≡ Log → s.ap ≤ m
  pub sure : Sure page committed s.accepted m
  pub waits : s.mode ≡ Waits → m ≤ (page s.accepted).plan.start
  pub settled : (s.mode ≡ Open) ⊎ (s.mode ≡ Live) → m ≤ s.cp

-- each data server's disk is so
pub record DisksOk {E : Type 0} (g : Group E) (disks : Disks) : Type 0 where
  pub each : (q : Place) → is_p2 q ≡ false → DiskAt g.page g.committed (g.server q) (disks q)

-- what follows at a data server: the first entries of its accepted view's list, as many as its disk
-- may have, are the book's; they are in its log where it holds one, and committed where it is
-- settled
pub record DiskIsCommitted {E : Type 0} (g : Group E) (q : Place) (m : ℕ) : Type 0 where
  pub lb : (g.server q).lb ≤ m
  pub ap : (g.server q).held ≡ Log → (g.server q).ap ≤ m
  pub in_book : m ≤ length g.committed
  pub in_list : m ≤ length (g.page (g.server q).accepted).list
  pub same : Agree m (g.page (g.server q).accepted).list g.committed
  pub held : (g.server q).held ≡ Log → m ≤ top (g.server q)
  pub settled : ((g.server q).mode ≡ Open) ⊎ ((g.server q).mode ≡ Live) → m ≤ (g.server q).cp

-- EACH DISK IS COMMITTED, after every list of happenings: how far the disks are is kept, and no
-- disk of a data server is ever ahead of the book, of its log where it holds one, nor of its CP
-- where it is settled
pub record DisksAreCommitted (g : Group Entry) (disks : Disks) : Type 0 where
  pub kept : DisksOk g disks
  pub each : (q : Place) → is_p2 q ≡ false → DiskIsCommitted g q (disks q)

-- what is kept, is kept over every list of happenings
abbrev pub DisksStay : Type 0
DisksStay = (size : List Entry → Entry → ℕ) (g : Group Entry) → Whole g → (disks : Disks)
    → DisksOk g disks
    → (happenings : List Happening) → DisksAreCommitted (run size g happenings)
    (disks_run size g disks happenings)
