use Rattle.std.proofs.Common.{◌≡◌, ℕ, take, ◌==◌, ◌&&◌}
use Rattle.std.specs.Prelude.{not}
use Rattle.overlay.specs.Index.{Place, changes_at, names}
use Rattle.overlay.proofs.index.CellIndex.take_back.Given as goal

-- the changes so far are taken back
abbrev pub invariant-loop-change : goal.invariant-loop-change
invariant-loop-change l = (p : Place) (i : ℕ) → names l.self p i
    ≡ (not ((l.index == i) && changes_at (take l.change-index l.changes) p) && names l.fn.self p i)
