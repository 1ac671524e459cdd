use Rattle.file_tree.specs.Tree.{place}
use Rattle.harp_cells.specs.CellsOfTree.{content_of}
use Rattle.inode_blocks.proofs.TreeLaws.{trees_hold}
use Rattle.nfs_calls.proofs.Inodes.{content_size}
use Rattle.nfs_calls.proofs.parts.file.content.Goals as goal

pub returns-clause-bytes : goal.returns-clause-bytes
returns-clause-bytes g c t told is =
    c.read_bytes.ensures.range t.cells (content_of (place t.tree c.args.number)) told
    (trees_hold t.cells t.tree t.stamp t.stand c.args.number)
    (content_size t.tree c.args.number c.args.inode.now is c.requires)
