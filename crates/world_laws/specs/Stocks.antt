-- Which records are those of a view's list, and the stocks, saved logs and messages that have such.
use Rattle.std.specs.Prelude.{◌≡◌, ℕ, ◌-◌, List, [], ◌∷◌, map, Some, if◌then◌else◌}
use Rattle.event_record.specs.Record.{entry_of}
use Rattle.event_record.specs.declared.record.RecordFields.{RecordFields}
use Rattle.file_tree.specs.Book.{Entry}
use Rattle.group_rules.specs.Limits.{is_log}
use Rattle.group_rules.specs.Places.{Place}
use Rattle.group_rules.specs.State.{Event, Give, Group, Message, Outside, Page, Saved, Server}
use Rattle.group_safety.specs.Words.{Part}
use Rattle.node.specs.Stock.{Stock}
use Rattle.record_changes.specs.Records.{history_of}
use Rattle.tree_log.specs.TreeLog.{changes_in}

-- THESE ARE THE RECORDS OF A LIST of updates behind its first n: of its entries, with the changes
-- that it gives them. Each may be stamped with any view
pub record AreOfList (list : List Entry) (n : ℕ) (records : List RecordFields) : Type 0 where
  pub entries : Part n (map entry_of records) list
  pub changes : Part n (changes_in records) (history_of list)

-- A STOCK IS A SERVER'S: its log's records are those of the accepted view's list, and the pulled
-- ones those of the promised view's
pub record IsStockOf (page : ℕ → Page Entry) (s : Server Entry) (k : Stock) : Type 0 where
  pub items : map entry_of k.log ≡ s.items
  pub staged : map entry_of k.pulled ≡ s.staged
  pub log : AreOfList (page s.accepted).list s.base k.log
  pub pulled : AreOfList (page s.promised).list s.wanted_from k.pulled

abbrev pub HasStock : Group Entry → Place → Stock → Type 0
HasStock g q k = IsStockOf g.page (g.server q) k

abbrev pub no_stock : Stock
no_stock = record { log = []; pulled = []; waits = [] }

-- THE RECORDS OF A SAVED LOG, where the mark has one and a part in its view: those of the accepted
-- view's list
abbrev pub AreSaved : (ℕ → Page Entry) → Server Entry → List RecordFields → Type 0
AreSaved page s records = (v : Saved Entry) → s.saved ≡ Some v → (s.role ≡ Outside → ⊥)
    → (map entry_of records ≡ v.items) × AreOfList (page s.accepted).list v.base records

-- what a server has that has just booted with these records
abbrev pub booted_stock : Server Entry → List RecordFields → Stock
booted_stock s records = record {
  log = if is_log s.held then records else [];
  pulled = [];
  waits = [];
}

-- THE RECORDS OF A MESSAGE: of an Event and a Give those of its view's list from its index on;
-- another has none
abbrev pub Carries : (ℕ → Page Entry) → Message Entry → List RecordFields → Type 0
Carries page (Event v index cp base e) records = (map entry_of records ≡ e ∷ [])
    × AreOfList (page v).list (index - 1) records
Carries page (Give v index items) records = (map entry_of records ≡ items)
    × AreOfList (page v).list (index - 1) records
Carries page m records = records ≡ []
