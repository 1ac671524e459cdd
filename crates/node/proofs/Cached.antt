-- The cells that a server keeps in memory are those of its store.
use Rattle.std.proofs.Common.{◌≡◌, [], Bool, true, false, List, Option, None, Some, refl, sym, ap, ◌∙◌, subst, inl, inr, arith, if◌then◌else◌}
use Rattle.cell_cache.specs.Entries.{AreOf, Entries}
use Rattle.file_tree.specs.Book.{Entry}
use Rattle.group_rules.specs.Moves.{Move}
use Rattle.harp_cells.specs.Effect.{Cells}
use Rattle.harp_store.specs.Disk.{Moments, after_step, cells_told, reads, with_mark}
use Rattle.harp_store.specs.Mark.{MarkFields}
use Rattle.node.specs.Cached.{IsCachedAs}
use Rattle.node.specs.Disk.{MayLeave, disk_after, write_mark}

-- none are those of any store
pub none_cached : (told : Option Cells) → AreOf told []
none_cached told cells is e c = absurd (omega (arith, c.1))

pub same_cached : (old new : Entries) → new ≡ old → IsCachedAs old new
same_cached old new is = inl is

pub no_cached : (old new : Entries) → new ≡ [] → IsCachedAs old new
no_cached old new is = inr is

pub cached_then : (old mid new : Entries) → IsCachedAs old mid → IsCachedAs mid new
    → IsCachedAs old new
cached_then old mid new first (inr none) = inr none
cached_then old mid new (inl same) (inl is) = inl (is ∙ same)
cached_then old mid new (inr none) (inl is) = inr (is ∙ none)

-- what a step keeps in memory, where no cell of the store changes
pub stays_cached : (old new : Entries) (told left : Option Moments) → IsCachedAs old new
    → cells_told left ≡ cells_told told → AreOf (cells_told told) old
    → AreOf (cells_told left) new
stays_cached old new told left (inl is) same h =
    subst (λ (es : Entries). AreOf (cells_told left) es) (sym is)
    (subst (λ (cells : Option Cells). AreOf cells old) (sym same) h)
stays_cached old new told left (inr is) same h =
    subst (λ (es : Entries). AreOf (cells_told left) es) (sym is) (none_cached (cells_told left))

-- ---- the mark is no cell

mark_cells : (mark : MarkFields) (told : Option Moments)
    → cells_told (after_step (with_mark mark) told) ≡ cells_told told
unfolding reads
mark_cells mark None = refl
mark_cells mark (Some h) = refl

pub disk_cells : (ms : List (Move Entry)) (mark : MarkFields) (told : Option Moments)
    → cells_told (disk_after ms mark told) ≡ cells_told told
disk_cells ms mark told = one (write_mark ms)
  where
    one : (b : Bool) → cells_told (if b then after_step (with_mark mark) told else told)
        ≡ cells_told told
    one true = mark_cells mark told
    one false = refl

pub left_cells : (ms : List (Move Entry)) (mark : MarkFields) (old new : Option Moments)
    → MayLeave ms mark old new → cells_told new ≡ cells_told old
left_cells ms mark old new (inl is) = ap cells_told is
left_cells ms mark old new (inr both) = ap cells_told both.1 ∙ mark_cells mark old
