-- Entries that are left of a cache.
use Rattle.std.proofs.Common.{◌≡◌, ℕ, zero, suc, ◌+◌, ◌-◌, ◌<◌, ◌≤◌, Bool, false, ◌||◌, List, [], ◌∷◌, ◌++◌, length, take, drop, get_or, Option, None, Some, Contains, refl, sym, ap, ◌∙◌, subst, arith}
use Rattle.std.specs.Prelude.{fold, if◌then◌else◌}
use Rattle.std.specs.List.{flat_map}
use Rattle.std.proofs.lemmas.Bool.{or_parts}
use Rattle.std.proofs.lemmas.List.Folds.{list_any_more}
use Rattle.applier.specs.Applied.{changes_at, changes_between}
use Rattle.applier.proofs.Parts.{between_more}
use Rattle.cell_cache.specs.Entries.{AreOf, Entries, left_by}
use Rattle.cell_cache.proofs.Keeping.{in_left}
use Rattle.harp_cells.specs.declared.cell.Cell.{Cell}
use Rattle.harp_cells.specs.declared.value.Value.{Value}
use Rattle.harp_cells.specs.declared.change.Change.{Change}
use Rattle.harp_cells.specs.declared.change.Change.TheVariants as change
use Rattle.harp_cells.specs.Effect.{Cells, changed, sets}
use Rattle.harp_store.specs.Disk.{AfterPart, Disk, Moments, cells_told, reads}
use Rattle.harp_store.proofs.Changes.{reads_changed_all}
use Rattle.harp_store.proofs.Runs.{after_none, after_some}
use Rattle.fuzzy_cells.specs.History.{History}
use Rattle.tree_log.specs.Applying.{AreLeftBy, sets_one}

-- ---- which cells are set

unset_more : (changes : List Change) (k : ℕ) (x : Change) (c : Cell) → k < length changes
    → x ≡ get_or changes k x → sets_one (take k changes) c ≡ false → sets x c ≡ false
    → sets_one (take (k + 1) changes) c ≡ false
unfolding sets_one
unset_more changes k x c lt is before here =
    list_any_more (λ y. sets y c) changes k x lt
    ∙ ap (λ (b : Bool). b || sets (get_or changes k x) c) before
    ∙ ap (λ (y : Change). sets y c) (sym is) ∙ here

unset_both : (changes more : List Change) (c : Cell) → sets_one changes c ≡ false
    → sets_one more c ≡ false → sets_one (changes ++ more) c ≡ false
unfolding sets_one
unset_both [] more c none rest = rest
unset_both (x ∷ changes) more c none rest =
    let both = or_parts (sets x c) (sets_one changes c) none in
    ap (λ (b : Bool). b || sets_one (changes ++ more) c) both.0
    ∙ unset_both changes more c both.1 rest

unset_front : (n : ℕ) (changes : List Change) (c : Cell) → sets_one changes c ≡ false
    → sets_one (take n changes) c ≡ false
unfolding sets_one
unset_front zero changes c none = refl
unset_front (suc n) [] c none = refl
unset_front (suc n) (x ∷ changes) c none =
    let both = or_parts (sets x c) (sets_one changes c) none in
    ap (λ (b : Bool). b || sets_one (take n changes) c) both.0 ∙ unset_front n changes c both.1

unset_one : (c : Cell) (held : Option Value) (x : Change) → sets x c ≡ false
    → changed c held x ≡ held
unfolding sets
unset_one c held (change.Put d v) none = ap (λ (b : Bool). if b then Some v else held) none
unset_one c held (change.Erase d) none = ap (λ (b : Bool). if b then None else held) none
unset_one c held (change.EraseFrom object first) none =
    ap (λ (b : Bool). if b then None else held) none

-- changes leave a cell that none of them sets
unset_stays : (changes : List Change) (c : Cell) (held : Option Value)
    → sets_one changes c ≡ false → fold (changed c) held changes ≡ held
unfolding sets_one
unset_stays [] c held none = refl
unset_stays (x ∷ changes) c held none =
    let both = or_parts (sets x c) (sets_one changes c) none in
    ap (λ (v : Option Value). fold (changed c) v changes) (unset_one c held x both.0)
    ∙ unset_stays changes c held both.1

-- ---- what is left

unset_none : (c : Cell) → sets_one [] c ≡ false
unfolding sets_one
unset_none c = refl

pub none_left : (entries : Entries) → AreLeftBy [] entries entries
none_left entries = record { were = λ e h. h; unset = λ e h. unset_none e.0 }

-- after one change more
pub more_left : (changes : List Change) (k : ℕ) (x : Change) (old mid new : Entries)
    → k < length changes → x ≡ get_or changes k x → new ≡ left_by x mid
    → AreLeftBy (take k changes) old mid → AreLeftBy (take (k + 1) changes) old new
more_left changes k x old mid new lt at is before = record {
  were = λ e h. before.were e (in_left x mid e (subst (λ (es : Entries). Contains es e) is h)).0;
  unset = λ e h.
      let both = in_left x mid e (subst (λ (es : Entries). Contains es e) is h) in
      unset_more changes k x e.0 lt at (before.unset e both.0) both.1;
}

both_left : (changes more : List Change) (old mid new : Entries) → AreLeftBy changes old mid
    → AreLeftBy more mid new → AreLeftBy (changes ++ more) old new
both_left changes more old mid new first next = record {
  were = λ e h. first.were e (next.were e h);
  unset = λ e h. unset_both changes more e.0 (first.unset e (next.were e h)) (next.unset e h);
}

pub none_between : (base : ℕ) (records : History) (from : ℕ) (entries : Entries)
    → AreLeftBy (changes_between base records from from) entries entries
none_between base records from entries =
    let none : from - from ≡ 0 = omega arith in
    subst (λ (n : ℕ). AreLeftBy (flat_map (λ changes. changes) (take n (drop (from - base) records)))
    entries entries) (sym none) (none_left entries)

-- after one record more
pub record_left : (base : ℕ) (records : History) (from at : ℕ) (changes : List Change)
    (old mid new : Entries) → base ≤ from → from ≤ at → at < base + length records
    → changes ≡ changes_at base records (at + 1)
    → AreLeftBy (changes_between base records from at) old mid → AreLeftBy changes mid new
    → AreLeftBy (changes_between base records from (at + 1)) old new
record_left base records from at changes old mid new le more lt is before here =
    subst (λ (cs : List Change). AreLeftBy cs old new)
    (ap (λ (cs : List Change). changes_between base records from at ++ cs) is
    ∙ sym (between_more base records from at le more lt))
    (both_left (changes_between base records from at) changes old mid new before here)

-- ---- after a first part of the changes

-- the entries that are left are what the cells hold
pub part_are : (changes : List Change) (old new : Option Moments) (entries left : Entries)
    → AfterPart changes old new → AreLeftBy changes entries left → AreOf (cells_told old) entries
    → AreOf (cells_told new) left
part_are changes None new entries left (n, e) l are cells is x there =
    let none : new ≡ None = e ∙ after_none (take n changes) in
    absurd (cc (ap cells_told none, is))
part_are changes (Some h) new entries left (n, e) l are cells is x there =
    let k = after_some (take n changes) h in
    let told : Some (reads k.0.now) ≡ Some cells = sym (ap cells_told (e ∙ k.1)) ∙ is in
    let here : reads k.0.now ≡ cells = cc in
    are (reads h.now) refl x (l.were x there)
    ∙ sym (unset_stays (take n changes) x.0 (reads h.now x.0)
    (unset_front n changes x.0 (l.unset x there)))
    ∙ sym (reads_changed_all (take n changes) h.now x.0)
    ∙ ap (λ (d : Disk). reads d x.0) (sym k.2) ∙ ap (λ (f : Cells). f x.0) here

-- the same over the records that a log applies
pub applied_are : (base : ℕ) (records : History) (from end to : ℕ) (old new : Option Moments)
    (entries left : Entries) → to ≡ end
    → AfterPart (changes_between base records from end) old new
    → AreLeftBy (changes_between base records from to) entries left
    → AreOf (cells_told old) entries → AreOf (cells_told new) left
applied_are base records from end to old new entries left e part l are =
    part_are (changes_between base records from end) old new entries left part
    (subst (λ (n : ℕ). AreLeftBy (changes_between base records from n) entries left) e l) are
