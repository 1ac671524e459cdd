-- What reads give after a change of what isn't synced.
use Rattle.std.proofs.Common.{◌≡◌, ◌⊎◌, ℕ, Bool, true, false, List, Option, Some, None, Result, Ok, Err, inl, inr, refl, sym, ap, ◌∙◌}
use Rattle.std.specs.Prelude.{◌||◌, OnErr, OnOk}
use Rattle.std.specs.Bool.{if◌then◌else◌}
use Rattle.harp_cells.specs.declared.cell.Cell.{Cell}
use Rattle.harp_cells.specs.declared.value.Value.{Value}
use Rattle.harp_cells.specs.declared.change.Change.TheVariants as change
use Rattle.harp_cells.specs.Effect.{is_cell, is_block_from}
use Rattle.harp_cells.specs.Memory.{Keyed, held}
use Rattle.harp_cells.proofs.CellLemmas.{is_cell_true}
use Rattle.store_folder.specs.Unsynced.{Pending, IsAlike, IsChanged, Stays, is_cut, is_touched, made_if, made_of, over}

abbrev Held : Type 0
Held = Option Value

abbrev pub pending_of : Keyed → List ((ℕ × ℕ × ℕ) × Cell) → List (ℕ × ℕ) → List (ℕ × ℕ) → Pending
pending_of values touched cuts blocks =
    record { values = values; touched = touched; cuts = cuts; blocks = blocks }

-- a cell that holds a value now
put_if : (same erased : Bool) (v : Value) (old d : Held) → (now : Bool)
    → now ≡ (if same then true else erased)
    → over d (made_if now (if same then Some v else old))
    ≡ (if same then Some v else over d (made_if erased old))
put_if true erased v old d now e = ap (λ (b : Bool). over d (made_if b (Some v))) e
put_if false erased v old d now e = ap (λ (b : Bool). over d (made_if b old)) e

erased_if : (same erased : Bool) (old d : Held) → (now : Bool)
    → now ≡ (if same then true else erased)
    → over d (made_if now (if same then None else old))
    ≡ (if same then None else over d (made_if erased old))
erased_if true erased old d now e = ap (λ (b : Bool). over d (made_if b None)) e
erased_if false erased old d now e = ap (λ (b : Bool). over d (made_if b old)) e

touched_or : (same was cut now : Bool) → now ≡ (if same then true else was)
    → (now || cut) ≡ (if same then true else (was || cut))
touched_or true was cut now e = ap (λ (b : Bool). b || cut) e
touched_or false was cut now e = ap (λ (b : Bool). b || cut) e

cut_or : (blocks was cut now : Bool) → now ≡ (if blocks then true else cut)
    → (was || now) ≡ (if blocks then true else (was || cut))
cut_or true true cut now e = refl
cut_or true false cut now e = e
cut_or false was cut now e = ap (λ (b : Bool). was || b) e

module _ (old new : Pending) (cell : Cell) where
  pub put_seen : (v : Value)
      → ((c : Cell) → held new.values c ≡ (if is_cell cell c then Some v else held old.values c))
      → ((c : Cell) → is_touched new.touched c
      ≡ (if is_cell cell c then true else is_touched old.touched c))
      → new.cuts ≡ old.cuts → IsChanged (change.Put cell v) old new
  put_seen v values touched cuts disk c =
      let cut : is_cut new.cuts c ≡ is_cut old.cuts c =
      ap (λ (l : List (ℕ × ℕ)). is_cut l c) cuts in
      let erased : (is_touched new.touched c || is_cut new.cuts c)
      ≡ (if is_cell cell c then true else (is_touched old.touched c || is_cut old.cuts c)) =
      ap (λ (b : Bool). is_touched new.touched c || b) cut
      ∙ touched_or (is_cell cell c) (is_touched old.touched c) (is_cut old.cuts c)
      (is_touched new.touched c) (touched c) in
      ap (λ (h : Held). over (disk c) (made_if (is_touched new.touched c || is_cut new.cuts c) h))
      (values c)
      ∙ put_if (is_cell cell c) (is_touched old.touched c || is_cut old.cuts c) v
      (held old.values c) (disk c) (is_touched new.touched c || is_cut new.cuts c) erased

  pub erase_seen : ((c : Cell) → held new.values c
      ≡ (if is_cell cell c then None else held old.values c))
      → ((c : Cell) → is_touched new.touched c
      ≡ (if is_cell cell c then true else is_touched old.touched c))
      → new.cuts ≡ old.cuts → IsChanged (change.Erase cell) old new
  erase_seen values touched cuts disk c =
      let cut : is_cut new.cuts c ≡ is_cut old.cuts c =
      ap (λ (l : List (ℕ × ℕ)). is_cut l c) cuts in
      let erased : (is_touched new.touched c || is_cut new.cuts c)
      ≡ (if is_cell cell c then true else (is_touched old.touched c || is_cut old.cuts c)) =
      ap (λ (b : Bool). is_touched new.touched c || b) cut
      ∙ touched_or (is_cell cell c) (is_touched old.touched c) (is_cut old.cuts c)
      (is_touched new.touched c) (touched c) in
      ap (λ (h : Held). over (disk c) (made_if (is_touched new.touched c || is_cut new.cuts c) h))
      (values c)
      ∙ erased_if (is_cell cell c) (is_touched old.touched c || is_cut old.cuts c)
      (held old.values c) (disk c) (is_touched new.touched c || is_cut new.cuts c) erased

pub erase_from_seen : (old new : Pending) (object first : ℕ)
    → ((c : Cell) → held new.values c
    ≡ (if is_block_from object first c then None else held old.values c))
    → new.touched ≡ old.touched
    → ((c : Cell) → is_cut new.cuts c ≡ (if is_block_from object first c then true
    else is_cut old.cuts c))
    → IsChanged (change.EraseFrom object first) old new
erase_from_seen old new object first values touched cuts disk c =
    let same : is_touched new.touched c ≡ is_touched old.touched c =
    ap (λ (l : List ((ℕ × ℕ × ℕ) × Cell)). is_touched l c) touched in
    let erased : (is_touched new.touched c || is_cut new.cuts c)
    ≡ (if is_block_from object first c then true
    else (is_touched old.touched c || is_cut old.cuts c)) =
    ap (λ (b : Bool). b || is_cut new.cuts c) same
    ∙ cut_or (is_block_from object first c) (is_touched old.touched c) (is_cut old.cuts c)
    (is_cut new.cuts c) (cuts c) in
    ap (λ (h : Held). over (disk c) (made_if (is_touched new.touched c || is_cut new.cuts c) h))
    (values c)
    ∙ erased_if (is_block_from object first c) (is_touched old.touched c || is_cut old.cuts c)
    (held old.values c) (disk c) (is_touched new.touched c || is_cut new.cuts c) erased

-- ---- what stays

-- reads give the same where what was made of each cell stays
pub made_stays : (old new : Pending) → Stays old new → (c : Cell) → made_of new c ≡ made_of old c
made_stays old new h c = rw (h.0, h.1, h.2) refl

pub alike_stays : (old new : Pending) → Stays old new → IsAlike old new
alike_stays old new h disk c =
    ap (λ (made : Option Held). over (disk c) made) (made_stays old new h c)

-- ---- a value that was put where no memory was left for the cell's key

-- no cell but this one
only_if : (same made : Bool) (v : Value) (old d : Held) → (same ≡ true → made ≡ false)
    → over d (made_if made (if same then Some v else old)) ≡ over d (made_if made old)
only_if true true v old d h = absurd (let e = h refl in cc)
only_if true false v old d h = refl
only_if false made v old d h = refl

-- it is read where the cell was put or erased before
again_if : (same made : Bool) (v : Value) (old d : Held) → (same ≡ true → made ≡ true)
    → over d (made_if made (if same then Some v else old))
    ≡ (if same then Some v else over d (made_if made old))
again_if true true v old d h = refl
again_if true false v old d h = absurd (let e = h refl in cc)
again_if false made v old d h = refl

made_at : (old : Pending) (cell c : Cell) (made : Bool)
    → (is_touched old.touched cell || is_cut old.cuts cell) ≡ made → is_cell cell c ≡ true
    → (is_touched old.touched c || is_cut old.cuts c) ≡ made
made_at old cell c made e same =
    ap (λ (d : Cell). is_touched old.touched d || is_cut old.cuts d)
    (sym (is_cell_true cell c same)) ∙ e

pub put_part : (old new : Pending) (cell : Cell) (v : Value)
    → ((c : Cell) → held new.values c ≡ (if is_cell cell c then Some v else held old.values c))
    → new.touched ≡ old.touched → new.cuts ≡ old.cuts → (made : Bool)
    → (is_touched old.touched cell || is_cut old.cuts cell) ≡ made
    → IsAlike old new ⊎ IsChanged (change.Put cell v) old new
put_part old new cell v values touched cuts true e = inr (λ disk c.
    rw (touched, cuts, values c)
    (again_if (is_cell cell c) (is_touched old.touched c || is_cut old.cuts c) v
    (held old.values c) (disk c) (made_at old cell c true e)))
put_part old new cell v values touched cuts false e = inl (λ disk c.
    rw (touched, cuts, values c)
    (only_if (is_cell cell c) (is_touched old.touched c || is_cut old.cuts c) v
    (held old.values c) (disk c) (made_at old cell c false e)))

pub on_ok : {A E : Type 0} (r : Result A E) (P : Type 0) → P → OnOk r P
on_ok (Ok x) P h = h
on_ok (Err e) P h = tt

pub on_err : {A E : Type 0} (r : Result A E) (P : Type 0) → P → OnErr r P
on_err (Ok x) P h = tt
on_err (Err e) P h = h
