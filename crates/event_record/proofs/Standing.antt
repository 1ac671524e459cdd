-- Records that stand for their entries, one after the other.
use Rattle.std.proofs.Common.{◌≡◌, ℕ, zero, suc, List, [], ◌∷◌, ◌++◌, take, sym, ap, ◌∙◌, subst, append_assoc}
use Rattle.std.specs.Prelude.{map}
use Rattle.std.proofs.lemmas.List.{append-nil}
use Rattle.std.proofs.lemmas.List.Sums.{fold-append}
use mathlib.Core.Path.{fun_ext}
use Rattle.file_tree.specs.Book.{Entry}
use Rattle.harp_cells.specs.declared.change.Change.{Change}
use Rattle.harp_cells.specs.Effect.{Cells, changed, after}
use Rattle.harp_cells.specs.CellsOfTree.{StandForBook}
use Rattle.event_record.specs.declared.record.RecordFields.{RecordFields}
use Rattle.event_record.specs.Record.{entry_of, StandsFor, AllStandFor, changes_of}

-- changes in a row are made one list after the other
pub after_both : (changes more : List Change) (cells : Cells)
    → after (changes ++ more) cells ≡ after more (after changes cells)
after_both changes more cells = fun_ext (λ c. fold-append (changed c) (cells c) changes more)

-- the changes of one more record
pub changes_push : (rs : List RecordFields) (r : RecordFields)
    → changes_of (rs ++ r ∷ []) ≡ changes_of rs ++ r.changes
changes_push [] r = append-nil r.changes
changes_push (x ∷ rs) r = ap (λ (cs : List Change). x.changes ++ cs) (changes_push rs r)
    ∙ sym (append_assoc x.changes (changes_of rs) r.changes)

pub cells_push : (rs : List RecordFields) (r : RecordFields) (cells : Cells)
    → after (changes_of (rs ++ r ∷ [])) cells ≡ after r.changes (after (changes_of rs) cells)
cells_push rs r cells = ap (λ (cs : List Change). after cs cells) (changes_push rs r)
    ∙ after_both (changes_of rs) r.changes cells

-- records that stand for their entries lead to cells that stand for the whole book
pub all_lead : (cells : Cells) (earlier : List Entry) (rs : List RecordFields)
    → AllStandFor cells earlier rs
    → StandForBook cells earlier
    → StandForBook (after (changes_of rs) cells) (earlier ++ map entry_of rs)
all_lead cells earlier [] all stand =
    subst (λ (es : List Entry). StandForBook cells es) (sym (append-nil earlier))
    stand
all_lead cells earlier (r ∷ rs) all stand =
    subst (λ (made : Cells). StandForBook made (earlier ++ map entry_of (r ∷ rs)))
    (sym (after_both r.changes
    (changes_of rs) cells))
    (subst (λ (es : List Entry). StandForBook (after (changes_of rs) (after r.changes cells)) es)
    (append_assoc earlier
    (entry_of r ∷ []) (map entry_of rs))
    (all_lead (after r.changes cells) (earlier ++ entry_of r ∷ []) rs all.1 (all.0 stand)))

-- a first part of them stands too
pub front_stands : (cells : Cells) (earlier : List Entry) (n : ℕ) (rs : List RecordFields)
    → AllStandFor cells earlier rs
    → AllStandFor cells earlier (take n rs)
front_stands cells earlier zero rs all = tt
front_stands cells earlier (suc n) [] all = tt
front_stands cells earlier (suc n) (r ∷ rs) all = (
  all.0,
  front_stands (after r.changes cells) (earlier ++ entry_of r ∷
      []) n rs all.1,
)

-- one more of them
pub all_push : (cells : Cells) (earlier : List Entry) (rs : List RecordFields) (r : RecordFields)
    → AllStandFor cells earlier rs
    → StandsFor (after (changes_of rs) cells) (earlier ++ map entry_of rs) r
    → AllStandFor cells earlier (rs ++ r ∷ [])
all_push cells earlier [] r all more =
    (subst (λ (es : List Entry). StandsFor cells es r) (append-nil earlier) more, tt)
all_push cells earlier (x ∷ rs) r all more = (
  all.0,
  all_push (after x.changes cells) (earlier ++ entry_of x ∷ []) rs r all.1
      (subst (λ (es : List Entry). StandsFor (after (changes_of rs) (after x.changes cells)) es r)
      (sym (append_assoc
      earlier (entry_of x ∷ []) (map entry_of rs)))
      (subst (λ (made : Cells). StandsFor made (earlier ++ map entry_of (x ∷ rs)) r)
      (after_both x.changes (changes_of
      rs) cells) more)),
)
