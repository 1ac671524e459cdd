use Rattle.std.proofs.Common.{◌≡◌, ℕ, take, ◌==◌, ◌&&◌, ◌||◌}
use Rattle.overlay.specs.Index.{Place, changes_at, names}
use Rattle.overlay.proofs.index.CellIndex.add_all.Given as goal

-- the changes so far are added
abbrev pub invariant-loop-change : goal.invariant-loop-change
invariant-loop-change l = (p : Place) (i : ℕ) → names l.self p i
    ≡ ((l.index == i) && changes_at (take l.change-index l.changes) p || names l.fn.self p i)
