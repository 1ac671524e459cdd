-- How many lines listings and runs have.
use Rattle.std.specs.Prelude.{◌+◌, ◌*◌, ◌≤◌, ◌^◌, List, length}
use Rattle.harp_base.specs.Fields.{AllFit}
use Rattle.trace_types.specs.declared.step.Step.{Step}
use Rattle.trace_claims.specs.Listing.{tree_lines}
use Rattle.file_tree.specs.Sound.{IsSound}
use Rattle.file_tree.specs.Tree.{Tree}
use Rattle.group_trace.specs.Run.{AreTaken, run_lines}
use Rattle.group_trace.specs.Scene.{Measures, first_scene}
use Rattle.accept_laws.specs.Laws.{TakeBytes, ToldFits, all_told}

-- THE LISTING OF A SOUND TREE has at most 2^22 lines
abbrev pub ListingsAreFew : Type 0
ListingsAreFew = (tree : Tree) → IsSound tree → length (tree_lines tree) ≤ 2 ^ 22

-- THE LINES OF A RUN: at most two for each step and 2^22 for each one that is no delivery, beside
-- the packets, of which there are at most 2^29
abbrev pub RunsAreShort : Type 0
RunsAreShort = (m : Measures) → TakeBytes m → (ss : List Step) → AreTaken m first_scene ss
    → AllFit ToldFits ss
    → length (run_lines m first_scene ss) ≤ 2 ^ 29 + 2 * length ss + 2 ^ 22 * all_told ss
