-- Changes that all set cells to their values in the same cells set each cell at once.
use Rattle.std.proofs.Common.{◌≡◌, ◌⊎◌, ℕ, zero, suc, Bool, true, false, List, [], ◌∷◌, ◌++◌, take, drop, Option, Some, None, refl, sym, ap, ◌∙◌, inl, inr, ⊎_elim, if◌then◌else◌}
use Rattle.std.specs.Prelude.{fold}
use Rattle.std.proofs.lemmas.List.{take-append-drop}
use Rattle.std.proofs.lemmas.List.Sums.{fold-append}
use Rattle.harp_cells.specs.declared.cell.Cell.{Cell}
use Rattle.harp_cells.specs.declared.value.Value.{Value}
use Rattle.harp_cells.specs.declared.change.Change.{Change}
use Rattle.harp_cells.specs.declared.change.Change.TheVariants as change
use Rattle.harp_cells.specs.Effect.{Cells, changed, is_block_from, is_cell}
use Rattle.harp_cells.proofs.CellLemmas.{is_cell_true}
use Rattle.fuzzy_cells.specs.History.{SetsOnce}

-- a change sets cells to what they are in these
abbrev pub SetsTo : Cells → Change → Type 0
SetsTo f (change.Put c v) = f c ≡ Some v
SetsTo f (change.Erase c) = f c ≡ None
SetsTo f (change.EraseFrom object first) = (c : Cell) → is_block_from object first c ≡ true
    → f c ≡ None

-- each change does
abbrev pub AllSetTo : Cells → List Change → Type 0
AllSetTo f [] = Unit {0}
AllSetTo f (x ∷ changes) = SetsTo f x × AllSetTo f changes

pub all_more : (f : Cells) (x : Change) (changes : List Change) → SetsTo f x → AllSetTo f changes
    → AllSetTo f (x ∷ changes)
all_more f x changes h k = (h, k)

pub all_both : (f : Cells) (changes more : List Change) → AllSetTo f changes → AllSetTo f more
    → AllSetTo f (changes ++ more)
all_both f [] more h k = k
all_both f (x ∷ changes) more h k = (h.0, all_both f changes more h.1 k)

all_front : (f : Cells) (n : ℕ) (changes : List Change) → AllSetTo f changes
    → AllSetTo f (take n changes)
all_front f zero changes h = tt
all_front f (suc n) [] h = tt
all_front f (suc n) (x ∷ changes) h = (h.0, all_front f n changes h.1)

all_back : (f : Cells) (n : ℕ) (changes : List Change) → AllSetTo f changes
    → AllSetTo f (drop n changes)
all_back f zero changes h = h
all_back f (suc n) [] h = tt
all_back f (suc n) (x ∷ changes) h = all_back f n changes h.1

by_test : (b : Bool) (w v x : Option Value) → (b ≡ true → x ≡ w) → ((if b then w else v) ≡ v)
    ⊎ ((if b then w else v) ≡ x)
by_test true w v x h = inr (sym (h refl))
by_test false w v x h = inl refl

one_set : (f : Cells) (x : Change) → SetsTo f x → (c : Cell) (v : Option Value)
    → (changed c v x ≡ v) ⊎ (changed c v x ≡ f c)
one_set f (change.Put d w) h c v = by_test (is_cell d c) (Some w) v (f c)
    (λ t. ap f (sym (is_cell_true d c t)) ∙ h)
one_set f (change.Erase d) h c v = by_test (is_cell d c) None v (f c)
    (λ t. ap f (sym (is_cell_true d c t)) ∙ h)
one_set f (change.EraseFrom object first) h c v = by_test (is_block_from object first c) None v
    (f c) (λ t. h c t)

pub all_set : (f : Cells) (changes : List Change) → AllSetTo f changes
    → (c : Cell) (v : Option Value)
    → (fold (changed c) v changes ≡ v) ⊎ (fold (changed c) v changes ≡ f c)
all_set f [] h c v = inl refl
all_set f (x ∷ changes) h c v = ⊎_elim
    (λ (same : fold (changed c) (changed c v x) changes ≡ changed c v x). ⊎_elim
    (λ (e : changed c v x ≡ v). inl (same ∙ e))
    (λ (e : changed c v x ≡ f c). inr (same ∙ e))
    (one_set f x h.0 c v))
    (λ (set : fold (changed c) (changed c v x) changes ≡ f c). inr set)
    (all_set f changes h.1 c (changed c v x))

pub sets_once : (f : Cells) (changes : List Change) → AllSetTo f changes → SetsOnce changes
sets_once f changes h n cells c =
    let part = fold (changed c) (cells c) (take n changes) in
    let whole : fold (changed c) (cells c) changes ≡ fold (changed c) part (drop n changes) =
    ap (λ (l : List Change). fold (changed c) (cells c) l) (sym (take-append-drop n changes))
    ∙ fold-append (changed c) (cells c) (take n changes) (drop n changes) in
    ⊎_elim
    (λ (stays : part ≡ cells c). inl stays)
    (λ (set : part ≡ f c). ⊎_elim
    (λ (same : fold (changed c) part (drop n changes) ≡ part). inr (sym (whole ∙ same)))
    (λ (again : fold (changed c) part (drop n changes) ≡ f c). inr (set ∙ sym (whole ∙ again)))
    (all_set f (drop n changes) (all_back f n changes h) c part))
    (all_set f (take n changes) (all_front f n changes h) c (cells c))
