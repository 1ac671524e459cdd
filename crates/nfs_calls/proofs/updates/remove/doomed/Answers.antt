use Rattle.file_tree.specs.Tree.{place, slots_of}
use Rattle.nfs_calls.proofs.TakenAway.{find_entry}
use Rattle.nfs_calls.proofs.updates.remove.doomed.Goals as goal

pub returns-clause-entry : goal.returns-clause-entry
returns-clause-entry g c t told is =
    find_entry (slots_of (place t.tree c.args.dir)) c.args.name.now c.in_ok-found.found
    (c.in_ok-found.ensures.step t told is)
