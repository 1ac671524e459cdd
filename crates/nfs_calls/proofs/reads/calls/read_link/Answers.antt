use Rattle.std.proofs.Common.{◌≡◌, Ok, ◌∙◌}
use Rattle.file_tree.specs.Tries.{text_in}
use Rattle.nfs_calls.specs.TreeCells.{IsInode, object_at, bytes_within}
use Rattle.nfs_calls.proofs.Inodes.{read_link_is, kind_is}
use Rattle.nfs_calls.proofs.reads.calls.read_link.Goals as goal

pub returns-clause-reply : goal.returns-clause-reply
returns-clause-reply g c t told =
    let is : IsInode t.tree c.args.handle c.in_ok-inode.inode =
    c.in_ok-inode.ensures.inode t told in
    let body = (object_at t.tree c.args.handle).body in
    let link : text_in body ≡ Ok (bytes_within body) =
    c.in_ok-text_in.ensures.step body (kind_is t.tree c.args.handle c.in_ok-inode.inode is) in
    let text = c.in_ok-text.ensures.bytes t (c.live.ensures.kept ∙ told) is in
    read_link_is t.tree c.args.handle c.in_ok-inode.inode c.new.result t.sound is link (cc (text))
