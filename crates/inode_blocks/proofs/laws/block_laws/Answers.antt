use Rattle.inode_blocks.proofs.TreeLaws.{trees_hold, files_stand, others_are_exact, erasures_lead, texts_lead}
use Rattle.inode_blocks.proofs.laws.block_laws.Goals as goal

pub returns-clause-trees : goal.returns-clause-trees
returns-clause-trees c = trees_hold

pub returns-clause-files : goal.returns-clause-files
returns-clause-files c = files_stand

pub returns-clause-others : goal.returns-clause-others
returns-clause-others c = others_are_exact

pub returns-clause-erased : goal.returns-clause-erased
returns-clause-erased c = erasures_lead

pub returns-clause-texts : goal.returns-clause-texts
returns-clause-texts c = texts_lead
