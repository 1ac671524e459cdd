-- The records of a server beside its entries: what stays while the pages grow.
use Rattle.std.proofs.Common.{◌≡◌, ◌⊎◌, ℕ, ◌+◌, ◌≤◌, true, List, length, map, refl, sym, ap, ◌∙◌, subst, inl, inr, arith, le_refl, ⊎_elim}
use Rattle.event_record.specs.Record.{entry_of}
use Rattle.file_tree.specs.Book.{Entry}
use Rattle.group_rules.specs.Places.{Place}
use Rattle.group_rules.specs.State.{Group, Joins, Live, Mode, Open, Page, Pulls, Rests, Server, Waits}
use Rattle.group_safety.proofs.Joining.{by_cases}
use Rattle.group_safety.proofs.Moving.{Good, its}
use Rattle.group_safety.specs.Entered.{IsTidy}
use Rattle.group_safety.specs.Laws.{PageGrows}
use Rattle.group_safety.specs.Words.{Part}
use Rattle.node.specs.Stock.{Stock}
use Rattle.record_changes.specs.Records.{history_of}
use Rattle.world_laws.proofs.Lists.{as_many, changes_over, no_part}
use Rattle.world_laws.specs.Stocks.{IsStockOf}
use Rattle.tree_log.specs.TreeLog.{changes_in}

-- what makes a stock a server's beside what the group knows of its entries
pub record Right (page : ℕ → Page Entry) (s : Server Entry) (k : Stock) : Type 0 where
  pub items : map entry_of k.log ≡ s.items
  pub staged : map entry_of k.pulled ≡ s.staged
  pub log : Part s.base (changes_in k.log) (history_of (page s.accepted).list)
  pub pulled : Part s.wanted_from (changes_in k.pulled) (history_of (page s.promised).list)

pub its_tidy : {g : Group Entry} {q : Place} {s : Server Entry} → Good g q s → IsTidy s
its_tidy {q = q} h = subst (λ (s : Server Entry). IsTidy s) h.is (h.beside.tidy.each q)

-- what a server has, or had before it lost it, is in its accepted view's list
pub top_within : (g : Group Entry) (q : Place) (s : Server Entry) → Good g q s
    → s.base + length s.items ≤ length (g.page s.accepted).list
top_within g q s h = by_cases s.held
    (λ x. s.base + length s.items ≤ length (g.page s.accepted).list)
    (λ e. ((its h).logs.log e).holds.within)
    (λ e.
    let t = (its_tidy h).lost e in
    let a = ap (λ (l : List Entry). length l) t.3 in
    let b = t.0 in
    let c = (its h).logs.lb_sure.within in
    omega arith)
    (λ e.
    let t = (its_tidy h).empty e in
    let a = ap (λ (l : List Entry). length l) t.3 in
    let b = t.0 in
    omega arith)

-- its entries are those of that list
pub log_part : (g : Group Entry) (q : Place) (s : Server Entry) → Good g q s
    → Part s.base s.items (g.page s.accepted).list
log_part g q s h = by_cases s.held (λ x. Part s.base s.items (g.page s.accepted).list)
    (λ e. ((its h).logs.log e).part)
    (λ e. no_part _ _ _ (ap (λ (l : List Entry). length l) ((its_tidy h).lost e).3))
    (λ e. no_part _ _ _ (ap (λ (l : List Entry). length l) ((its_tidy h).empty e).3))

pub pulls_or_not : (m : Mode) → (m ≡ Pulls) ⊎ (m ≡ Pulls → ⊥)
pulls_or_not Rests = inr (λ e. cc)
pulls_or_not Joins = inr (λ e. cc)
pulls_or_not Pulls = inl refl
pulls_or_not Waits = inr (λ e. cc)
pulls_or_not Open = inr (λ e. cc)
pulls_or_not Live = inr (λ e. cc)

none_staged : (g : Group Entry) (q : Place) (s : Server Entry) → Good g q s
    → (s.mode ≡ Pulls → ⊥) → length s.staged ≡ 0
none_staged g q s h n = ap (λ (l : List Entry). length l) ((its_tidy h).pulls n).1

pub staged_part : (g : Group Entry) (q : Place) (s : Server Entry) → Good g q s
    → Part s.wanted_from s.staged (g.page s.promised).list
staged_part g q s h = ⊎_elim (λ p. ((its h).modes.pulls p).2)
    (λ n. no_part _ _ _ (none_staged g q s h n)) (pulls_or_not s.mode)

pub log_many : {page : ℕ → Page Entry} {s : Server Entry} {k : Stock} → Right page s k
    → length (changes_in k.log) ≡ length s.items
log_many {k = k} r = as_many k.log ∙ ap (λ (l : List Entry). length l) r.items

pub pulled_many : {page : ℕ → Page Entry} {s : Server Entry} {k : Stock} → Right page s k
    → length (changes_in k.pulled) ≡ length s.staged
pulled_many {k = k} r = as_many k.pulled ∙ ap (λ (l : List Entry). length l) r.staged

-- pages grow
pub grown : (g : Group Entry) (q : Place) (s : Server Entry) → Good g q s
    → (page' : ℕ → Page Entry)
    → ((v : ℕ) → (g.page v).formed ≡ true → PageGrows (g.page v) (page' v))
    → (k : Stock) → Right g.page s k → Right page' s k
grown g q s h page' grow k r = record {
  items = r.items;
  staged = r.staged;
  log =
      let p = grow s.accepted (its h).views.formed in
      let a = top_within g q s h in
      let b = log_many r in
      changes_over (length (g.page s.accepted).list) s.base (changes_in k.log)
      (g.page s.accepted).list (page' s.accepted).list (omega arith) (le_refl _) p.longer p.agree
      r.log;
  pulled = ⊎_elim
      (λ pulls.
      let ok = (its h).modes.pulls pulls in
      let p = grow s.promised ok.0 in
      let a = ok.3 in
      let b = pulled_many r in
      let c = (h.ok.page s.promised ok.0).start_within in
      changes_over (length (g.page s.promised).list) s.wanted_from (changes_in k.pulled)
      (g.page s.promised).list (page' s.promised).list (omega arith) (le_refl _) p.longer p.agree
      r.pulled)
      (λ n. no_part _ _ _ (pulled_many r ∙ none_staged g q s h n))
      (pulls_or_not s.mode);
}

-- a stock is a server's
pub right_of : {page : ℕ → Page Entry} {s : Server Entry} {k : Stock} → IsStockOf page s k
    → Right page s k
right_of h = record {
  items = h.items;
  staged = h.staged;
  log = h.log.changes;
  pulled = h.pulled.changes;
}

pub stock_of : (g : Group Entry) (q : Place) (s : Server Entry) → Good g q s → (k : Stock)
    → Right g.page s k → IsStockOf g.page s k
stock_of g q s h k r = record {
  items = r.items;
  staged = r.staged;
  log = record {
    entries = subst (λ (l : List Entry). Part s.base l (g.page s.accepted).list) (sym r.items)
        (log_part g q s h);
    changes = r.log;
  };
  pulled = record {
    entries = subst (λ (l : List Entry). Part s.wanted_from l (g.page s.promised).list)
        (sym r.staged) (staged_part g q s h);
    changes = r.pulled;
  };
}
