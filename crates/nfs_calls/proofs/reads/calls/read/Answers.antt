use Rattle.std.proofs.Common.{◌≡◌, Ok, sym, ◌∙◌}
use Rattle.file_tree.specs.Tries.{bytes_in}
use Rattle.nfs_calls.specs.TreeCells.{IsInode, object_at, bytes_within}
use Rattle.nfs_calls.proofs.Inodes.{read_is, kind_is}
use Rattle.nfs_calls.proofs.reads.calls.read.Goals as goal

pub returns-clause-reply : goal.returns-clause-reply
returns-clause-reply g c t told =
    let is : IsInode t.tree c.args.handle c.in_ok-inode.inode =
    c.in_ok-inode.ensures.inode t told in
    let body = (object_at t.tree c.args.handle).body in
    let file : bytes_in body ≡ Ok (bytes_within body) =
    c.in_ok-bytes_in.ensures.step body (kind_is t.tree c.args.handle c.in_ok-inode.inode is) in
    let read = c.in_ok-bytes.ensures.bytes t (c.live.ensures.kept ∙ told) is in
    read_is t.tree c.args.cred c.args.handle c.args.offset c.args.count c.in_ok-inode.inode
    c.attr_by.result c.new.result is file
    (sym (c.in_ok-allowed.ensures t.tree c.args.handle is)) c.attr_by.ensures (cc (read))
