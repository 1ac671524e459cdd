-- What is shown by the rule and truly is what the run shows.
use Rattle.std.proofs.Common.{◌≡◌, ℕ, false, List, refl, sym, ap, subst, ◌∙◌, ◌==◌, ◌||◌, nat_le, nat_lt, take, ◌-◌, Option, Some, None}
use Rattle.std.specs.Prelude.{IfSome, option_map}
use Rattle.std.proofs.lemmas.List.{length-map}
use Rattle.event_record.specs.Record.{entry_of}
use Rattle.file_tree.specs.Book.{Entry}
use Rattle.fuzzy_cells.specs.Fuzzy.{is_saved}
use Rattle.group_rules.proofs.Tests.{by_if}
use Rattle.group_rules.specs.Disk.{settled_tests}
use Rattle.group_rules.specs.Limits.{is_log}
use Rattle.group_rules.specs.Names.{place_of}
use Rattle.group_rules.specs.Places.{Place, all_of}
use Rattle.group_rules.specs.Serving.{asked_for, one_or_more}
use Rattle.group_rules.specs.State.{Group, Server}
use Rattle.group_rules.specs.Step.{list_of}
use Rattle.harp_cells.specs.declared.cell.Cell.{Cell}
use Rattle.harp_cells.specs.declared.value.Value.{Value}
use Rattle.observer.specs.declared.phase.Part.TheVariants as part
use Rattle.observer.specs.declared.phase.Phase.{Phase}
use Rattle.observer.specs.declared.phase.Phase.TheVariants as phase
use Rattle.observer.specs.declared.progress.Copied.{Copied}
use Rattle.observer.specs.Phases.{wanted_in}
use Rattle.observer.specs.Progress.{cell_or_records, want_by}
use Rattle.record_changes.specs.Records.{history_of}
use Rattle.shown.specs.Rule.{CellAt, EntriesFrom, GoneTo, Outline, entries_from, outline_of, shown_by}
use Rattle.shown.specs.declared.shown.Shown.{Shown}
use Rattle.shown.specs.declared.shown.Shown.TheVariants as shown
use Rattle.shown.specs.declared.shown.Want.{Want}
use Rattle.shown.specs.declared.shown.Want.TheVariants as want
use Rattle.shown.specs.Truth.{IsShownOf}
use Rattle.observe_laws.specs.Run.{shown_where}
use Rattle.observe_laws.specs.Scene.{CellShown, RecordsShown, filled, showing_of}
use Rattle.observe_laws.specs.Told.{ShownAsTold}

-- ---- a wanted cell isn't one of a saved log

abbrev IsUnsaved : Want → Type 0
IsUnsaved (want.Cell c) = is_saved c ≡ false
IsUnsaved (want.Records first) = Unit {0}

phase_unsaved : (p : Phase) (top : ℕ) → IsUnsaved (cell_or_records (wanted_in p) top)
phase_unsaved phase.Whole top = refl
phase_unsaved (phase.Object number next) top = refl
phase_unsaved (phase.Part part.Slot number next at count) top = refl
phase_unsaved (phase.Part part.Block number next at count) top = refl
phase_unsaved phase.Records top = tt

want_is : (x y : Want) → Some x ≡ Some y → x ≡ y
want_is x y e = cc

no_want : (x : Want) → None ≡ Some x → ⊥
no_want x e = cc

unsaved_by : (finished : Option ℕ) (copy : Option Copied) (x : Want)
    → want_by finished copy ≡ Some x → IsUnsaved x
unsaved_by finished (Some p) x e =
    subst IsUnsaved (want_is (cell_or_records (wanted_in p.phase) p.top) x e)
    (phase_unsaved p.phase p.top)
unsaved_by None None x e = absurd (no_want x e)
unsaved_by (Some top) None x e = subst IsUnsaved (want_is (want.Records _) x e) tt

-- ---- an outline with a cell is that of the wanted cell

abbrev IsOf : Cell → Want → Type 0
IsOf c (want.Cell d) = d ≡ c
IsOf c (want.Records first) = ⊥

cell_is : (c d : Cell) (n k : ℕ) → Some (CellAt c n) ≡ Some (CellAt d k) → d ≡ c
cell_is c d n k e = cc

not_none : (c : Cell) (n : ℕ) → Some (CellAt c n) ≡ None → ⊥
not_none c n e = cc

not_gone : (c : Cell) (n base : ℕ) → Some (CellAt c n) ≡ Some (GoneTo base) → ⊥
not_gone c n base e = cc

not_entries : (c : Cell) (n first : ℕ) (es : List Entry)
    → Some (CellAt c n) ≡ Some (EntriesFrom first es) → ⊥
not_entries c n first es e = cc

no_cell : (size : List Entry → Entry → ℕ) (s : Server Entry) (list : List Entry) (first : ℕ)
    (c : Cell) (n : ℕ) → Some (CellAt c n) ≡ entries_from size s list first → ⊥
no_cell size s list first c n =
    by_if (λ (o : Option Outline). Some (CellAt c n) ≡ o → ⊥) (first == 0 || nat_lt s.cp first)
    None _ (λ t. not_none c n)
    (λ t.
    by_if (λ (o : Option Outline). Some (CellAt c n) ≡ o → ⊥) (nat_le first s.base)
    (Some (GoneTo s.base)) _ (λ u. not_gone c n s.base)
    (λ u. not_entries c n first
    (one_or_more size (take (first - 1) list) (asked_for s first s.cp))))

is_of : (size : List Entry → Entry → ℕ) (g : Group Entry) (q : Place) (x : Want) (c : Cell) (n : ℕ)
    → Some (CellAt c n) ≡ shown_by size g q x → IsOf c x
is_of size g q (want.Cell d) c n =
    by_if (λ (o : Option Outline). Some (CellAt c n) ≡ o → d ≡ c)
    (all_of (settled_tests q (g.server q))) (Some (CellAt d (g.server q).cp)) None
    (λ t. cell_is c d n (g.server q).cp) (λ t e. absurd (not_none c n e))
is_of size g q (want.Records first) c n =
    by_if (λ (o : Option Outline). Some (CellAt c n) ≡ o → ⊥) (is_log (g.server q).held)
    (entries_from size (g.server q) (list_of g q) first) None
    (λ t. no_cell size (g.server q) (list_of g q) first c n) (λ t. not_none c n)

cell_unsaved : (x : Want) (c : Cell) → IsUnsaved x → IsOf c x → is_saved c ≡ false
cell_unsaved (want.Cell d) c u is = ap is_saved (sym is) ∙ u
cell_unsaved (want.Records first) c u is = absurd is

-- ---- what is shown

filled_is : (updates : List Entry) (x : Want) (size : List Entry → Entry → ℕ) (g : Group Entry)
    (q : Place) (o : Option Shown) → IsUnsaved x → option_map outline_of o ≡ shown_by size g q x
    → IfSome o (IsShownOf (history_of updates))
    → option_map showing_of o ≡ option_map (filled updates) (option_map outline_of o)
filled_is updates x size g q None u e truth = refl
filled_is updates x size g q (Some (shown.Cell c v cp)) u e truth =
    ap (λ (y : Option Value). Some (CellShown c y cp))
    (truth.1 (cell_unsaved x c u (is_of size g q x c cp e)))
filled_is updates x size g q (Some (shown.Records first records)) u e truth =
    ap (λ (n : ℕ). Some (RecordsShown first n)) (sym (length-map records entry_of))
filled_is updates x size g q (Some (shown.Gone base)) u e truth = refl

pub shown_told : ShownAsTold
shown_told m w server x o wanted outline truth =
    let updates = w.scene.group.committed in
    filled_is updates x m.size w.scene.group (place_of server) o
    (unsaved_by w.progress.finished w.progress.copy x wanted) outline truth
    ∙ ap (option_map (filled updates)) outline
    ∙ ap (shown_where m w server) (sym wanted)
