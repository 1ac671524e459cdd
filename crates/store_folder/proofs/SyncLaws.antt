-- What a sync writes.
use Rattle.std.proofs.Common.{◌≡◌, ◌⊎◌, ℕ, Bool, true, false, [], ◌∷◌, ◌++◌, List, Option, Some, None, Result, inl, inr, refl, sym, ap, subst, ◌∙◌}
use Rattle.std.specs.Prelude.{Contains, OnOk}
use Rattle.std.specs.Bool.{if◌then◌else◌}
use Rattle.std.proofs.lemmas.List.{append-nil, append_assoc}
use Rattle.std.proofs.lemmas.List.Elements.{Contains-append_left, Contains-append_right, Contains-push}
use Rattle.harp_cells.specs.declared.cell.Cell.{Cell}
use Rattle.harp_cells.specs.declared.change.Change.{Change}
use Rattle.harp_cells.specs.declared.change.Change.TheVariants as change
use Rattle.harp_cells.specs.Effect.{is_cell}
use Rattle.harp_cells.proofs.CellLemmas.{is_cell_true}
use Rattle.harp_store.specs.declared.store.StoreFault.{StoreFault}
use Rattle.store_folder.specs.declared.journal.Journal.{Journal}
use Rattle.store_folder.specs.Files.{FileStep, Told, after_steps}
use Rattle.store_folder.specs.Sync.{Attaches, KeepsBlocks, Syncs, made_change, made_changes}
use Rattle.store_folder.specs.Unsynced.{Pending, Stays, is_stored, made_of}
use Rattle.store_folder.proofs.SeenLaws.{made_stays}

abbrev Steps : Type 0
Steps = List FileStep

abbrev some_steps : Steps → Told
some_steps steps = Some steps

pub after_append : (a b : Steps) (told : Told)
    → after_steps (a ++ b) told ≡ after_steps b (after_steps a told)
after_append a b None = refl
after_append a b (Some told) = ap some_steps (sym (append_assoc told a b))

pub after_none : (told : Told) → told ≡ after_steps [] told
after_none None = refl
after_none (Some told) = ap some_steps (sym (append-nil told))

pub two_steps : (a b : FileStep) (first second third : Told)
    → second ≡ after_steps (a ∷ []) first → third ≡ after_steps (b ∷ []) second
    → third ≡ after_steps (a ∷ b ∷ []) first
two_steps a b first second third e f =
    f ∙ ap (λ (t : Told). after_steps (b ∷ []) t) e ∙ sym (after_append (a ∷ []) (b ∷ []) first)

-- ---- what was made of cells, one after the other

pub made_none : (p : Pending) → made_changes p [] ≡ []
unfolding made_changes
made_none p = refl

changes_push : (p : Pending) (done : List Cell) (c : Cell)
    → made_changes p (done ++ c ∷ []) ≡ made_changes p done ++ made_change c (made_of p c)
unfolding made_changes
changes_push p [] c = append-nil (made_change c (made_of p c))
changes_push p (d ∷ done) c =
    ap (λ (l : List Change). made_change d (made_of p d) ++ l) (changes_push p done c)
    ∙ sym (append_assoc (made_change d (made_of p d)) (made_changes p done)
    (made_change c (made_of p c)))

pub made_more : (old mid : Pending) (done : List Cell) (c : Cell) (first second : List Change)
    → first ≡ made_changes old done → Stays old mid
    → second ≡ first ++ made_change c (made_of mid c)
    → second ≡ made_changes old (done ++ c ∷ [])
made_more old mid done c first second e same f =
    f
    ∙ ap (λ (made : Option (Option _)). first ++ made_change c made) (made_stays old mid same c)
    ∙ ap (λ (l : List Change). l ++ made_change c (made_of old c)) e
    ∙ sym (changes_push old done c)

pub stays_on : (a b c : Pending) → Stays a b → Stays b c → Stays a c
stays_on a b c h k = (k.0 ∙ h.0, k.1 ∙ h.1, k.2 ∙ h.2)

-- ---- which blocks the disk has

pub same_on : (a b c : Pending) → b ≡ record a { blocks = b.blocks }
    → c ≡ record b { blocks = c.blocks } → c ≡ record a { blocks = c.blocks }
same_on a b c h k = k ∙ ap (λ (p : Pending). record p { blocks = c.blocks }) h

pub same_keeps : (old new : Pending) (changes : List Change) → new.blocks ≡ old.blocks
    → KeepsBlocks changes old new
same_keeps old new changes e d there =
    inl (ap (λ (l : List (ℕ × ℕ)). is_stored l d) e ∙ there)

pub keeps_from : (old mid new : Pending) (changes : List Change) → mid.blocks ≡ old.blocks
    → KeepsBlocks changes mid new → KeepsBlocks changes old new
keeps_from old mid new changes e keeps d there =
    keeps d (ap (λ (l : List (ℕ × ℕ)). is_stored l d) e ∙ there)

module _ (old mid new : Pending) (done : List Change) (x : Change) where
  more_is : (d : Cell) → (is_stored new.blocks d ≡ true) ⊎ Contains (x ∷ []) (change.Erase d)
      → (is_stored new.blocks d ≡ true) ⊎ Contains (done ++ x ∷ []) (change.Erase d)
  more_is d (inl there) = inl there
  more_is d (inr gone) = inr (Contains-append_right done (x ∷ []) (change.Erase d) gone)

  more_from : (d : Cell) → KeepsBlocks (x ∷ []) mid new
      → (is_stored mid.blocks d ≡ true) ⊎ Contains done (change.Erase d)
      → (is_stored new.blocks d ≡ true) ⊎ Contains (done ++ x ∷ []) (change.Erase d)
  more_from d keeps (inl there) = more_is d (keeps d there)
  more_from d keeps (inr gone) = inr (Contains-append_left done (x ∷ []) (change.Erase d) gone)

  pub keeps_more : KeepsBlocks done old mid → KeepsBlocks (x ∷ []) mid new
      → KeepsBlocks (done ++ x ∷ []) old new
  keeps_more was keeps d there = more_from d keeps (was d there)

lost_if : (old new : Pending) (cell d : Cell) (same : Bool) → is_cell cell d ≡ same
    → is_stored new.blocks d ≡ (if same then false else is_stored old.blocks d)
    → is_stored old.blocks d ≡ true
    → (is_stored new.blocks d ≡ true) ⊎ Contains (change.Erase cell ∷ []) (change.Erase d)
lost_if old new cell d true is lost there =
    inr (subst (λ (x : Cell). Contains (change.Erase cell ∷ []) (change.Erase x))
    (is_cell_true cell d is) (Contains-push [] (change.Erase cell)))
lost_if old new cell d false is lost there = inl (lost ∙ there)

pub lost_keeps : (old new : Pending) (cell : Cell)
    → ((d : Cell) → is_stored new.blocks d
    ≡ (if is_cell cell d then false else is_stored old.blocks d))
    → KeepsBlocks (change.Erase cell ∷ []) old new
lost_keeps old new cell lost d there =
    lost_if old new cell d (is_cell cell d) refl (lost d) there

kept_on : (mid new : Pending) (changes : List Change) (d : Cell) → new.blocks ≡ mid.blocks
    → (is_stored mid.blocks d ≡ true) ⊎ Contains changes (change.Erase d)
    → (is_stored new.blocks d ≡ true) ⊎ Contains changes (change.Erase d)
kept_on mid new changes d e (inl there) =
    inl (ap (λ (l : List (ℕ × ℕ)). is_stored l d) e ∙ there)
kept_on mid new changes d e (inr gone) = inr gone

-- which blocks the disk has stays where the changes are forgotten
pub syncs_cleared : (folder : List ℕ) (old mid new : Pending) (was now : Journal)
    (before after : Told) → Syncs folder old mid was now before after → new.blocks ≡ mid.blocks
    → Syncs folder old new was now before after
syncs_cleared folder old mid new was now before after s e = record {
  changes = s.changes;
  unsynced = s.unsynced;
  mid = s.mid;
  told = s.told;
  journaled = s.journaled;
  length_is = s.length_is;
  brought = s.brought;
  blocks = λ d there. kept_on mid new s.changes d e (s.blocks d there);
}

-- ---- a folder that is attached

pub attached_as : {A : Type 0} (r s : Result A StoreFault) (path : List ℕ)
    (f g : Option (List ℕ)) (j k : Journal) (before after now : Told) → s ≡ r → g ≡ f → k ≡ j
    → now ≡ after → OnOk r (Attaches path f j before after)
    → OnOk s (Attaches path g k before now)
attached_as {A} r s path f g j k before after now same folder journal told h =
    subst (λ (x : Result A StoreFault). OnOk x (Attaches path g k before now)) (sym same)
    (subst (λ (x : Option (List ℕ)). OnOk r (Attaches path x k before now)) (sym folder)
    (subst (λ (x : Journal). OnOk r (Attaches path f x before now)) (sym journal)
    (subst (λ (x : Told). OnOk r (Attaches path f j before x)) (sym told) h)))
