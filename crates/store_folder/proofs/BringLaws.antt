-- Files of cells that are brought up, some after others.
use Rattle.std.proofs.Common.{◌≡◌, ◌⊎◌, ℕ, ◌+◌, ◌≤◌, Bool, true, false, [], ◌∷◌, ◌++◌, List, length, Option, Some, None, inl, inr, refl, sym, ap, subst, ◌∙◌, arith, length-append}
use Rattle.std.specs.Prelude.{Contains}
use Rattle.harp_base.specs.Fields.{AllFit}
use Rattle.std.specs.Bool.{if◌then◌else◌}
use Rattle.std.proofs.lemmas.List.Elements.{Contains-append_left, Contains-append_right, Contains-push}
use Rattle.harp_cells.specs.declared.cell.Cell.{Cell}
use Rattle.harp_cells.specs.declared.value.Value.{Value}
use Rattle.harp_cells.specs.Effect.{is_cell}
use Rattle.harp_cells.proofs.CellLemmas.{is_cell_true}
use Rattle.store_folder.specs.Files.{FileStep, Told, after_steps}
use Rattle.store_folder.specs.Journal.{BringsUp, Made, Settles, cell_step, cell_steps}
use Rattle.store_journal.specs.Waiting.{waits}
use Rattle.store_journal.specs.declared.waiting.Waiting.{Waiting}
use Rattle.store_folder.proofs.SyncLaws.{after_append, after_none}

abbrev Waits : Type 0
Waits = Option (Option Value)

pub not_some : {A : Type 0} (o : Option A) → ((x : A) → o ≡ Some x → ⊥) → o ≡ None
not_some None h = refl
not_some (Some x) h = absurd (h x refl)

steps_append : (folder : List ℕ) (a b : List Made)
    → cell_steps folder (a ++ b) ≡ cell_steps folder a ++ cell_steps folder b
unfolding cell_steps
steps_append folder [] b = refl
steps_append folder (x ∷ a) b =
    ap (λ (l : List FileStep). cell_step folder x.0 x.1 ∷ l) (steps_append folder a b)

fit_both : {A : Type 0} (P : A → Type 0) (a b : List A) → AllFit P a → AllFit P b
    → AllFit P (a ++ b)
fit_both P [] b h k = k
fit_both P (x ∷ a) b h k = (h.0, fit_both P a b h.1 k)

fit_too : {A : Type 0} (P Q : A → Type 0) (a : List A) → ((x : A) → P x → Q x) → AllFit P a
    → AllFit Q a
fit_too P Q [] h all = tt
fit_too P Q (x ∷ a) h all = (h x all.0, fit_too P Q a h all.1)

no_steps : (folder : List ℕ) → cell_steps folder [] ≡ []
unfolding cell_steps
no_steps folder = refl

one_step : (folder : List ℕ) (b : Made) → cell_steps folder (b ∷ []) ≡ cell_step folder b.0 b.1 ∷ []
unfolding cell_steps
one_step folder b = refl

pub nothing_up : (most : ℕ) (folder : List ℕ) (old new : Waiting) (before after : Told)
    → ((c : Cell) → waits new c ≡ waits old c) → after ≡ before
    → BringsUp most folder old new before after
nothing_up most folder old new before after same e = record {
  brought = [];
  few = omega arith;
  waited = tt;
  settled = λ c. inl (same c);
  written = e ∙ after_none before ∙ ap (λ (l : List FileStep). after_steps l before) (sym (no_steps folder));
}

settled_if : (old new : Waiting) (cell c : Cell) (v : Option Value) (same : Bool)
    → is_cell cell c ≡ same → waits old cell ≡ Some v
    → waits new c ≡ (if same then None else waits old c) → Settles ((cell, v) ∷ []) old new c
settled_if old new cell c v true is waited e =
    let d = is_cell_true cell c is in
    inr (
      e,
      (
        v,
        ap (λ (x : Cell). waits old x) (sym d) ∙ waited,
        subst (λ (x : Cell). Contains {X = Made} ((cell, v) ∷ []) (x, v)) d (Contains-push [] (cell, v)),
      ),
    )
settled_if old new cell c v false is waited e = inl e

pub one_up : (folder : List ℕ) (old new : Waiting) (before after : Told) (cell : Cell)
    (v : Option Value) → waits old cell ≡ Some v
    → ((c : Cell) → waits new c ≡ (if is_cell cell c then None else waits old c))
    → after ≡ after_steps (cell_step folder cell v ∷ []) before
    → BringsUp 1 folder old new before after
one_up folder old new before after cell v waited settled e = record {
  brought = (cell, v) ∷ [];
  few = omega arith;
  waited = (waited, tt);
  settled = λ c. settled_if old new cell c v (is_cell cell c) refl waited (settled c);
  written = e ∙ ap (λ (l : List FileStep). after_steps l before) (sym (one_step folder (cell, v)));
}

stale_if : (old : Waiting) (cell c : Cell) (now : Waits) (same : Bool) → is_cell cell c ≡ same
    → waits old cell ≡ None → now ≡ (if same then None else waits old c) → now ≡ waits old c
stale_if old cell c now true is none e =
    e ∙ sym (ap (λ (x : Cell). waits old x) (sym (is_cell_true cell c is)) ∙ none)
stale_if old cell c now false is none e = e

-- a cell for which nothing waits is done with
pub stale_up : (folder : List ℕ) (old new : Waiting) (before after : Told) (cell : Cell)
    → waits old cell ≡ None
    → ((c : Cell) → waits new c ≡ (if is_cell cell c then None else waits old c))
    → after ≡ before → BringsUp 1 folder old new before after
stale_up folder old new before after cell none settled e =
    nothing_up 1 folder old new before after
    (λ c. stale_if old cell c (waits new c) (is_cell cell c) refl none (settled c)) e

-- ---- one after the other

some_is : (x y : Option Value) (w : Waits) → w ≡ Some x → w ≡ None → ⊥
some_is x y w e f = absurd cc

waited_before : (old mid : Waiting) (brought : List Made) (b : Made) → Settles brought old mid b.0
    → waits mid b.0 ≡ Some b.1 → waits old b.0 ≡ Some b.1
waited_before old mid brought b (inl same) e = sym same ∙ e
waited_before old mid brought b (inr gone) e =
    absurd (some_is b.1 b.1 (waits mid b.0) e gone.0)

module _ (old mid new : Waiting) (a b : List Made) (c : Cell) where
  second_gone : Settles a old mid c → (waits new c ≡ None)
      × ((v : Option Value) × (waits mid c ≡ Some v) × Contains b (c, v)) → Settles (a ++ b) old new c
  second_gone first (none, (v, waited, there)) = inr (
    none,
    (v, waited_before old mid a (c, v) first waited, Contains-append_right a b (c, v) there),
  )

  second_same : waits new c ≡ waits mid c → Settles a old mid c → Settles (a ++ b) old new c
  second_same same (inl before) = inl (same ∙ before)
  second_same same (inr (none, (v, waited, there))) =
      inr (same ∙ none, (v, waited, Contains-append_left a b (c, v) there))

  settles_both : Settles a old mid c → Settles b mid new c → Settles (a ++ b) old new c
  settles_both first (inl same) = second_same same first
  settles_both first (inr gone) = second_gone first gone

pub both_up : (m n : ℕ) (folder : List ℕ) (old mid new : Waiting) (first second third : Told)
    → BringsUp m folder old mid first second → BringsUp n folder mid new second third
    → BringsUp (m + n) folder old new first third
both_up m n folder old mid new first second third h k = record {
  brought = h.brought ++ k.brought;
  few = omega (arith, h.few, k.few, length-append h.brought k.brought);
  waited = fit_both (λ b. waits old b.0 ≡ Some b.1) h.brought k.brought h.waited
      (fit_too (λ b. waits mid b.0 ≡ Some b.1) (λ b. waits old b.0 ≡ Some b.1) k.brought
      (λ b e. waited_before old mid h.brought b (h.settled b.0) e) k.waited);
  settled = λ c. settles_both old mid new h.brought k.brought c (h.settled c) (k.settled c);
  written = k.written
      ∙ ap (λ (t : Told). after_steps (cell_steps folder k.brought) t) h.written
      ∙ sym (after_append (cell_steps folder h.brought) (cell_steps folder k.brought) first)
      ∙ ap (λ (l : List FileStep). after_steps l first) (sym (steps_append folder h.brought k.brought));
}

pub fewer_up : (m n : ℕ) (folder : List ℕ) (old new : Waiting) (before after : Told) → m ≤ n
    → BringsUp m folder old new before after → BringsUp n folder old new before after
fewer_up m n folder old new before after le h = record {
  brought = h.brought;
  few = omega (arith, h.few, le);
  waited = h.waited;
  settled = h.settled;
  written = h.written;
}
