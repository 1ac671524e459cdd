-- What a checker knows of the lines that it has seen.
use Rattle.std.specs.Prelude.{◌≡◌, ◌++◌, ◌∷◌, []}
use Rattle.file_tree.specs.Book.{tree_after}
use Rattle.trace_types.specs.declared.line.Line.{Line}
use Rattle.trace_claims.specs.Trace.{Trace, entries}
use Rattle.trace_check.specs.Asks.{AreAsksOf}
use Rattle.trace_check.specs.Breaches.{IsAccepted}
use Rattle.trace_check.specs.ClocksRead.{AreClocksOf}
use Rattle.trace_check.specs.History.{IsHistoryOf}
use Rattle.trace_check.specs.Network.{IsNetworkOf}
use Rattle.trace_check.specs.ServersSeen.{AreServersOf}
use Rattle.trace_check.specs.UnderWay.{IsUnderWay}
use Rattle.trace_check.specs.declared.checker.Checker.{Checker}

-- all that a checker keeps, but for its tree, is of these lines
pub record Kept (c : Checker) (trace : Trace) : Type 0 where
  pub history : IsHistoryOf c.history (entries trace)
  pub asks : AreAsksOf c.asks trace
  pub network : IsNetworkOf c.network trace
  pub servers : AreServersOf c.servers trace
  pub clocks : AreClocksOf c.clocks trace
  pub under_way : IsUnderWay c.under_way trace

-- it has seen these lines, and nothing is broken
pub record Saw (c : Checker) (trace : Trace) : Type 0 where
  pub accepted : IsAccepted trace
  pub tree : c.tree ≡ tree_after (entries trace)
  pub kept : Kept c trace

-- the tree is that after a line too, and the rest stays
pub record FollowsLine (before : Trace) (l : Line) (old new : Checker) : Type 0 where
  pub tree : new.tree ≡ tree_after (entries (before ++ l ∷ []))
  pub rest : new ≡ record old { tree = new.tree }
