use Rattle.store_folder.proofs.CutBlocks.{HasCut}
use Rattle.store_folder.proofs.CoverLaws.{Covered}
use Rattle.store_folder.proofs.unsynced.Unsynced.add_cuts.Given as goal

abbrev pub invariant-loop-object : goal.invariant-loop-object
invariant-loop-object l =
    Covered (HasCut l.self l.cells.items) l.initial.object-iterator l.object-iterator
