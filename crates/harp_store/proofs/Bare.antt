-- A store in memory has no block behind the last number.
use Rattle.std.proofs.Common.{◌≡◌, ℕ, ◌≤◌, max, Bool, true, false, List, [], ◌∷◌, map, take, Option, None, refl, sym, ap, ◌∙◌, arith}
use Rattle.std.specs.Bool.{if◌then◌else◌}
use Rattle.std.specs.Prelude.{All, slice_index_or}
use Rattle.std.proofs.Math.Path.{fun_ext}
use Rattle.std.proofs.lemmas.List.Elements.{All-take, All-drop}
use Rattle.harp_cells.specs.declared.cell.Cell.{Cell}
use Rattle.harp_cells.specs.declared.cell.Cell.TheVariants as cell
use Rattle.harp_cells.specs.declared.value.Value.{Value}
use Rattle.harp_cells.specs.Effect.{Cells, is_cell, is_block_from}
use Rattle.harp_cells.proofs.CellLemmas.{is_cell_true}
use Rattle.harp_store.specs.declared.table.Held.{Held}
use Rattle.harp_store.specs.declared.layers.Layers.{Layers}
use Rattle.harp_store.specs.declared.layers.Unsynced.{Unsynced}
use Rattle.harp_store.specs.Disk.{Disk, bare_from, block_numbers, set_by}
use Rattle.harp_store.specs.Layers.{AreLayers, HasEntry, lacking, stored_in}
use Rattle.harp_store.specs.Table.{Entries, base_held, find}
use Rattle.harp_store.proofs.Erased.{is_block}
use Rattle.harp_store.proofs.Lists.{all_but_first}

-- a change of such a block is an erasure
abbrev IsBare : ℕ → ℕ → Unsynced → Type 0
IsBare object first u = is_block_from object first u.cell ≡ true → u.value ≡ None

same_value : (q : Bool) (v : Option Value) → (q ≡ true → v ≡ None)
    → (if q then None else v) ≡ v
same_value true v h = sym (h refl)
same_value false v h = refl

same_changes : (object first : ℕ) (us : List Unsynced) → All (IsBare object first) us
    → map (λ u. record {
      cell = u.cell;
      value = if is_block_from object first u.cell then None else u.value;
    }) us ≡ us
same_changes object first [] h = refl
same_changes object first (u ∷ us) h =
    ap (λ (v : Option Value). record { cell = u.cell; value = v } ∷ map (λ w. record {
      cell = w.cell;
      value = if is_block_from object first w.cell then None else w.value;
    }) us) (same_value (is_block_from object first u.cell) u.value (h 0 u (omega arith)))
    ∙ ap (λ (vs : List Unsynced). u ∷ vs) (same_changes object first us
    (all_but_first (IsBare object first) u us h))

pub bare_same : (object first : ℕ) (d : Disk)
    → ((c : Cell) → is_block_from object first c ≡ true → d.synced c ≡ None)
    → All (IsBare object first) d.unsynced → bare_from object first d ≡ d
bare_same object first d synced unsynced =
    ap (λ (us : List Unsynced). record {
      synced = λ c. if is_block_from object first c then None else d.synced c;
      unsynced = us;
      mark = d.mark;
    }) (same_changes object first d.unsynced unsynced)
    ∙ ap (λ (f : Cells). record { synced = f; unsynced = d.unsynced; mark = d.mark })
    (fun_ext (λ c. same_value (is_block_from object first c) (d.synced c) (synced c)))

-- a cell without an entry was only erased
no_value : (u : Unsynced) (entry : Option Held) → HasEntry entry u.value → entry ≡ None
    → u.value ≡ None
no_value u entry h e = sym (ap (λ (o : Option Held). lacking o u.value) e) ∙ h

none_set : (entries : Entries) (c : Cell) (us : List Unsynced) → find entries c ≡ None
    → All (λ u. HasEntry (find entries u.cell) u.value) us → set_by c us None ≡ None
unfolding set_by
none_set entries c [] none h = refl
none_set entries c (u ∷ us) none h =
    ap (λ (v : Option Value). set_by c us v) (go (is_cell u.cell c) (λ is.
    no_value u (find entries u.cell) (h 0 u (omega arith))
    (ap (find entries) (is_cell_true u.cell c is) ∙ none)))
    ∙ none_set entries c us none (all_but_first (λ u. HasEntry (find entries u.cell) u.value) u us
    h)
  where
    go : (q : Bool) → (q ≡ true → u.value ≡ None) → (if q then u.value else None) ≡ None
    go true is = is refl
    go false is = refl

-- layers without an entry of such a block
pub bare_layers : (object first : ℕ) (l : Layers) → AreLayers l
    → ((b : ℕ) → block_numbers ≤ b → find l.table (cell.Block object b) ≡ None)
    → bare_from object (max first block_numbers) (stored_in l).now ≡ (stored_in l).now
bare_layers object first l h none =
    bare_same object (max first block_numbers) (stored_in l).now
    (λ c is. ap (λ (v : Option Value). set_by c (take l.synced l.changes.items) v)
    (ap base_held (behind c is))
    ∙ none_set l.table c (take l.synced l.changes.items) (behind c is)
    (All-take (λ u. HasEntry (find l.table u.cell) u.value) l.synced l.changes.items
    h.table.present))
    (All-drop (IsBare object (max first block_numbers)) l.synced l.changes.items
    (λ k d lt. let u = slice_index_or l.changes.items k d in λ is.
    no_value u (find l.table u.cell) (h.table.present k d lt) (behind u.cell is)))
  where
    behind : (c : Cell) → is_block_from object (max first block_numbers) c ≡ true
        → find l.table c ≡ None
    behind c is =
        let at = is_block object (max first block_numbers) c is in
        let le = at.2 in
        ap (find l.table) at.1 ∙ none at.0 (omega (arith, le))
