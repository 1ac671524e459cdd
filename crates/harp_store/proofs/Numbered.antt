-- Disks without a block behind the last number.
use Rattle.std.proofs.Common.{◌≡◌, ℕ, ◌-◌, max, Bool, true, false, List, [], ◌∷◌, Option, Some, None, refl, sym, ap, subst, ◌∙◌, arith}
use Rattle.std.specs.Bool.{if◌then◌else◌}
use Rattle.std.specs.Prelude.{All, slice_index_or}
use Rattle.std.proofs.lemmas.Bool.{le-leb, true≢false}
use Rattle.std.proofs.lemmas.List.Elements.{All-append, All-cons, All-nil, All-push}
use Rattle.harp_cells.specs.declared.cell.Cell.{Cell}
use Rattle.harp_cells.specs.declared.cell.Cell.TheVariants as cell
use Rattle.harp_cells.specs.declared.change.Change.TheVariants as change
use Rattle.harp_cells.specs.declared.value.Value.{Value}
use Rattle.harp_cells.specs.Effect.{is_block_from, is_cell}
use Rattle.harp_cells.proofs.CellLemmas.{is_cell_true}
use Rattle.harp_store.specs.declared.layers.Unsynced.{Unsynced}
use Rattle.harp_store.specs.Disk.{block_numbers, blocks_there, erasures, reads, set_by, with_unsynced}
use Rattle.harp_store.specs.Laws.{ErasuresAreAdded, IsNumbered, NumberedAreSynced, NumberedStay, is_behind}
use Rattle.harp_store.proofs.Bare.{bare_same}
use Rattle.harp_store.proofs.Erased.{is_block}
use Rattle.harp_store.proofs.Lists.{all_but_first}

-- a change of such a block is an erasure
abbrev IsNone : Unsynced → Type 0
IsNone u = is_behind u.cell ≡ true → u.value ≡ None

behind : (object first : ℕ) (c : Cell)
    → is_block_from object (max first block_numbers) c ≡ true → is_behind c ≡ true
unfolding is_behind
behind object first c is =
    let at = is_block object (max first block_numbers) c is in
    let le = at.2 in
    ap is_behind at.1 ∙ le-leb block_numbers at.0 (omega (arith, le))

pub erasures_are_added : ErasuresAreAdded
erasures_are_added object first d n =
    ap (with_unsynced (erasures object (blocks_there (block_numbers - first) (reads d) object
    first))) (bare_same object (max first block_numbers) d
    (λ c is. n.synced c (behind object first c is))
    (λ k u lt is. n.unsynced k u lt (behind object first
    (slice_index_or d.unsynced k u).cell is)))

erased_all : (object : ℕ) (blocks : List ℕ) → All IsNone (erasures object blocks)
erased_all object [] = All-nil IsNone
erased_all object (b ∷ blocks) = All-cons IsNone (record {
  cell = cell.Block object b;
  value = None;
}) (erasures object blocks) (λ is. refl) (erased_all object blocks)

pub numbered_stay : NumberedStay
numbered_stay (change.Put cell value) d n puts = record {
  synced = n.synced;
  unsynced = All-push IsNone d.unsynced (record { cell = cell; value = Some value }) n.unsynced
      (λ is. absurd (true≢false (sym is ∙ puts)));
}
numbered_stay (change.Erase cell) d n puts = record {
  synced = n.synced;
  unsynced = All-push IsNone d.unsynced (record { cell = cell; value = None }) n.unsynced
      (λ is. refl);
}
numbered_stay (change.EraseFrom object first) d n puts =
    let blocks : List ℕ = blocks_there (block_numbers - first) (reads d) object first in
    subst IsNumbered (sym (erasures_are_added object first d n)) (record {
      synced = n.synced;
      unsynced = All-append IsNone d.unsynced (erasures object blocks) n.unsynced (erased_all object
          blocks);
    })

-- what was made of such a block leaves no value
none_made : (c : Cell) (us : List Unsynced) → is_behind c ≡ true → All IsNone us
    → set_by c us None ≡ None
unfolding set_by
none_made c [] is h = refl
none_made c (u ∷ us) is h =
    ap (λ (v : Option Value). set_by c us v) (go (is_cell u.cell c)
    (λ same. h 0 u (omega arith) (ap is_behind (is_cell_true u.cell c same) ∙ is)))
    ∙ none_made c us is (all_but_first IsNone u us h)
  where
    go : (q : Bool) → (q ≡ true → u.value ≡ None) → (if q then u.value else None) ≡ None
    go true none = none refl
    go false none = refl

pub numbered_are_synced : NumberedAreSynced
unfolding reads
numbered_are_synced d n = record {
  synced = λ c is. ap (λ (v : Option Value). set_by c d.unsynced v) (n.synced c is)
      ∙ none_made c d.unsynced is n.unsynced;
  unsynced = All-nil IsNone;
}
