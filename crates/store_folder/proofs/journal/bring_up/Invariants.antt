use Rattle.store_folder.specs.Journal.{BringsUp}
use Rattle.store_folder.proofs.journal.bring_up.Given as goal

-- at most so many were brought up
abbrev pub invariant-loop : goal.invariant-loop
invariant-loop g l =
    BringsUp l.counter l.folder l.initial.waiting l.waiting (g.F.DiskFiles.told l.initial.files)
    (g.F.DiskFiles.told l.files)
