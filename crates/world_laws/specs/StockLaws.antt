-- What holds of the records that servers keep and send.
use Rattle.std.specs.Prelude.{◌≡◌, ℕ, ◌≤◌, true, false, List, [], ◌∷◌, Some, if◌then◌else◌, ⊤}
use Rattle.event_record.specs.declared.record.RecordFields.{RecordFields}
use Rattle.file_tree.specs.Book.{Entry}
use Rattle.group_rules.specs.Moves.{Falling, Move, Saving, moved_by}
use Rattle.group_rules.specs.Places.{Place}
use Rattle.group_rules.specs.State.{Group, Packet, Server, top}
use Rattle.group_rules.specs.Step.{Comes, Crash, Deed, Does, Happening, Input, Power, boot, first_group, list_of, numbered, run, saves, step_of}
use Rattle.group_safety.specs.Laws.{Whole}
use Rattle.harp_types.specs.declared.peer.Peer.{Peer}
use Rattle.node.specs.Stock.{Stock, stock_after}
use Rattle.world_laws.specs.Stocks.{AreSaved, Carries, HasStock, booted_stock, no_stock}
use Rattle.tree_log.specs.Reading.{IsOfList}
use Rattle.volatile_log.specs.Log.{LogValue}

-- ---- at first

-- no server has a record
pub record StartsRight : Type 0 where
  pub stocks : (q : Place) → HasStock first_group q no_stock
  pub saved : (q : Place) → AreSaved first_group.page (first_group.server q) []

-- ---- while others go on

-- WHATEVER HAPPENS, the stock of a server that stays as it is, its saved log and the messages that
-- were sent stay right
pub record Stays (g g' : Group Entry) : Type 0 where
  pub stocks : (q : Place) (k : Stock) → g'.server q ≡ g.server q → HasStock g q k → HasStock g' q k
  pub saved : (q : Place) (records : List RecordFields) → g'.server q ≡ g.server q
      → AreSaved g.page (g.server q) records → AreSaved g'.page (g'.server q) records
  pub packets : (n : ℕ) (p : Packet Entry) (records : List RecordFields)
      → numbered g.packets n ≡ Some p → Carries g.page p.body records
      → Carries g'.page p.body records

abbrev pub StocksStay : Type 0
StocksStay = (size : List Entry → Entry → ℕ) (g : Group Entry) → Whole g
    → (happenings : List Happening) → Stays g (run size g happenings)

-- ---- a step

-- deeds after which a server goes on
abbrev pub GoesOn : Deed → Type 0
GoesOn Power = ⊥
GoesOn Crash = ⊥
GoesOn d = ⊤

-- A STEP KEEPS THE STOCK of its server, where the records that came with its input are right, and
-- leaves its saved log right
pub record StepKeeps (size : List Entry → Entry → ℕ) (g : Group Entry) (q : Place) (i : Input)
    (came : List RecordFields) : Type 0 where
  pub stock : (askers : List Peer) (k : Stock) → HasStock g q k
      → HasStock (moved_by g q (g.server q) (step_of size g q i)) q
      (stock_after q (g.clock q) (list_of g q) came askers (g.server q) (step_of size g q i) k)
  pub saved : (records : List RecordFields) → AreSaved g.page (g.server q) records
      → AreSaved (moved_by g q (g.server q) (step_of size g q i)).page
      ((moved_by g q (g.server q) (step_of size g q i)).server q) records

abbrev pub DeedsKeep : Type 0
DeedsKeep = (size : List Entry → Entry → ℕ) (g : Group Entry) → Whole g → (q : Place)
    → (g.server q).up ≡ true → (d : Deed) → GoesOn d → StepKeeps size g q (Does d) []

abbrev pub DeliveriesKeep : Type 0
DeliveriesKeep = (size : List Entry → Entry → ℕ) (g : Group Entry) → Whole g → (n : ℕ)
    (p : Packet Entry) → numbered g.packets n ≡ Some p → (g.server p.to).up ≡ true
    → (came : List RecordFields) → Carries g.page p.body came
    → StepKeeps size g p.to (Comes p.from p.body) came

-- the other servers stay as they are
abbrev pub OthersStay : Type 0
OthersStay = (g : Group Entry) (q x : Place) (ms : List (Move Entry)) → (x ≡ q → ⊥)
    → (moved_by g q (g.server q) ms).server x ≡ g.server x

-- A SERVER THAT FALLS has no stock, and its saved log stays. One that loses power saves the records
-- of its log, where it holds one and has saved none yet
pub record Falls (size : List Entry → Entry → ℕ) (g : Group Entry) (q : Place) : Type 0 where
  pub fallen : HasStock (moved_by g q (g.server q) (Falling ∷ [])) q no_stock
  pub kept : (records : List RecordFields) → AreSaved g.page (g.server q) records
      → AreSaved (moved_by g q (g.server q) (Falling ∷ [])).page
      ((moved_by g q (g.server q) (Falling ∷ [])).server q) records
  pub crashed : step_of size g q (Does Crash) ≡ Falling ∷ []
  pub failed : HasStock (moved_by g q (g.server q) (Saving ∷ [])) q no_stock
  pub saved : (k : Stock) (records : List RecordFields) → HasStock g q k
      → AreSaved g.page (g.server q) records
      → AreSaved (moved_by g q (g.server q) (Saving ∷ [])).page
      ((moved_by g q (g.server q) (Saving ∷ [])).server q)
      (if saves (g.server q).held (g.server q).saved then k.log else records)
  pub powered : step_of size g q (Does Power) ≡ Saving ∷ []

abbrev pub FallsAreRight : Type 0
FallsAreRight = (size : List Entry → Entry → ℕ) (g : Group Entry) → Whole g → (q : Place)
    → Falls size g q

-- A SERVER THAT BOOTS has the records of its saved log, where it holds a log then
pub record Boots (g : Group Entry) (q : Place) (records : List RecordFields) : Type 0 where
  pub stock : HasStock (boot g q) q (booted_stock ((boot g q).server q) records)
  pub saved : AreSaved (boot g q).page ((boot g q).server q) records

abbrev pub BootsAreRight : Type 0
BootsAreRight = (g : Group Entry) → Whole g → (q : Place) → (g.server q).up ≡ false
    → (records : List RecordFields) → AreSaved g.page (g.server q) records → Boots g q records

-- ---- what a stock says of a log

-- the log of a server with these records
abbrev pub log_with : Server Entry → List RecordFields → LogValue
log_with s records = record { base = s.base; lb = s.lb; ap = s.ap; cp = s.cp; records = records }

-- THE LOG OF A SERVER IS OF ITS LIST, which holds as many updates as it has at top; and it serves
-- no more than it has
pub record LogIsRight (g : Group Entry) (q : Place) (k : Stock) : Type 0 where
  pub of_list : IsOfList (list_of g q) (log_with (g.server q) k.log)
  pub served : (g.server q).served ≤ top (g.server q)

abbrev pub LogsAreRight : Type 0
LogsAreRight = (g : Group Entry) → Whole g → (q : Place) (k : Stock) → HasStock g q k
    → LogIsRight g q k
