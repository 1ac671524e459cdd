-- How a list of slots grows, where it is free, and where it is empty.
use Rattle.std.proofs.Common.{◌≡◌, ℕ, zero, suc, ◌+◌, ◌<◌, Bool, List, [], ◌∷◌}
use Rattle.std.proofs.Common.{true, get_or, set, Some, None, refl, ap, ◌∙◌, arith}
use Rattle.harp_types.specs.declared.reply.DirEntry.{DirEntry}
use Rattle.file_tree.specs.Tree.{Slots, free_from, with_entry}
use Rattle.file_tree.specs.Outcome.{entries_from, page_of, has_no_entry}
use Rattle.inode_dirs.specs.Laws.{EntryGrows, FreedIsFree, EmptyIsLast, EmptyHoldsNone}
use Rattle.harp_cells.specs.CellsOfTree.{slot_value}
use Rattle.inode_dirs.proofs.PageSteps.{page_stop}

free_shift : (i : ℕ) (slots : Slots) → free_from (suc i) slots ≡ suc (free_from i slots)
unfolding free_from
free_shift i [] = refl
free_shift i (None ∷ slots) = refl
free_shift i (Some s ∷ slots) = let e : suc i + 1 ≡ suc (i + 1) = omega arith in
    rw e (free_shift (i + 1) slots)

free_behind : (slots : Slots) → free_from (0 + 1) slots ≡ suc (free_from 0 slots)
free_behind slots = free_shift 0 slots

pub entry_grows : EntryGrows
unfolding with_entry free_from
entry_grows [] s = omega arith
entry_grows (None ∷ slots) s = omega arith
entry_grows (Some t ∷ slots) s = omega (arith, free_behind slots, entry_grows slots s)

pub freed_is_free : FreedIsFree
unfolding free_from
freed_is_free [] i lt = absurd (omega arith)
freed_is_free (s ∷ slots) zero lt = omega arith
freed_is_free (None ∷ slots) (suc i) lt = omega arith
freed_is_free (Some s ∷ slots) (suc i) lt =
    omega (
      arith,
      free_behind slots,
      free_behind (set slots i None),
      freed_is_free slots i (omega (arith, lt)),
    )

none_left : (c : ℕ) (slots : Slots) → 2 < c
    → (page_of 2 0 (entries_from c slots)).1 ≡ has_no_entry slots
unfolding entries_from page_of
none_left c [] lt = refl
none_left c (None ∷ slots) lt = none_left (c + 1) slots (omega (arith, lt))
none_left c (Some s ∷ slots) lt =
    ap (λ (p : List DirEntry × Bool). p.1)
    (page_stop 2 0 (record { fileid = s.number; name = s.name; cookie = c })
    (entries_from (c + 1) slots) lt
    (omega arith))

pub empty_is_last : EmptyIsLast
unfolding page_of
empty_is_last dir parent slots = none_left 3 slots (omega arith)

each_free : (slots : Slots) (slot : ℕ) → has_no_entry slots ≡ true → get_or slots slot None ≡ None
each_free [] slot e = refl
each_free (None ∷ slots) zero e = refl
each_free (None ∷ slots) (suc slot) e = each_free slots slot e
each_free (Some s ∷ slots) slot e = absurd cc

pub empty_holds_none : EmptyHoldsNone
empty_holds_none cells dir slots e holds slot = holds slot ∙ ap slot_value (each_free slots slot e)
