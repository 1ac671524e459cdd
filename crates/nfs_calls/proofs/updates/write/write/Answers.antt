use Rattle.std.proofs.Common.{◌≡◌, ℕ, ◌+◌, max, length, ltb, false, Ok, refl, sym, ap, ◌∙◌}
use Rattle.harp_types.specs.declared.reply.Status.TheVariants.{FBig}
use Rattle.harp_types.specs.Limits.{largest_file}
use Rattle.nfs_calls.specs.Space.{replaced_blocks}
use Rattle.nfs_calls.specs.TreeCells.{object_at}
use Rattle.nfs_calls.proofs.Inodes.{kind_is}
use Rattle.nfs_calls.proofs.FilePlans.{put_behind}
use Rattle.nfs_calls.proofs.NewPlans.{passed}
use Rattle.nfs_calls.proofs.WritePlans.{IsWritten, IsPlaced, write_nothing, write_plan}
use Rattle.nfs_calls.proofs.updates.write.write.Goals as goal

pub returns-then-is_empty-clause-plan : goal.returns-then-is_empty-clause-plan
returns-then-is_empty-clause-plan g c t told totals =
    let a = c.args in
    let i = c.in_ok-inode.inode in
    let own = c.in_ok-inode.ensures.inode t told in
    let is : IsWritten t.tree a.cred a.handle i = record {
      own = own;
      bytes = c.in_ok-bytes_in.ensures.step (object_at t.tree a.handle).body
          (kind_is t.tree a.handle i own);
      file = c.in_ok-bytes_in.ensures.kind;
      may = sym (c.in_ok-allowed.ensures t.tree a.handle own);
    } in
    let small : ltb largest_file (a.offset + length a.bytes.now) ≡ false =
    ap (λ (n : ℕ). ltb largest_file (n + length a.bytes.now)) (sym c.from.ensures)
    ∙ passed FBig _ c.in_ok-refuse.ensures in
    write_nothing t a.cred a.handle a.offset a.bytes.now a.now i a.totals c.attr_by.result _ is
    totals small (sym c.if-is_empty.ensures) c.attr_by.ensures
    c.new.ensures.items

pub returns-clause-plan : goal.returns-clause-plan
returns-clause-plan g c t told totals =
    let a = c.args in
    let i = c.in_ok-inode.inode in
    let own = c.in_ok-inode.ensures.inode t told in
    let is : IsWritten t.tree a.cred a.handle i = record {
      own = own;
      bytes = c.in_ok-bytes_in.ensures.step (object_at t.tree a.handle).body
          (kind_is t.tree a.handle i own);
      file = c.in_ok-bytes_in.ensures.kind;
      may = sym (c.in_ok-allowed.ensures t.tree a.handle own);
    } in
    let small : ltb largest_file (a.offset + length a.bytes.now) ≡ false =
    ap (λ (n : ℕ). ltb largest_file (n + length a.bytes.now)) (sym c.from.ensures)
    ∙ passed FBig _ c.in_ok-refuse.ensures in
    let used = sym c.from-2.ensures in
    let size = sym c.from-3.ensures in
    let room : replaced_blocks a.totals.used i.size c.max-size.result ≡ Ok c.in_ok-used.used =
    (λ k. replaced_blocks (used k) i.size (size k)) ∙ sym c.in_ok-used.ensures in
    let placed : IsPlaced t.cells a.handle a.offset a.bytes.now a.now i
    (record i {
      size = c.max-size.result;
      mtime = a.now;
      ctime = a.now;
    }) c.max-size.result c.put_object.new.changes.items = record {
      size_is =
          c.max-size.ensures ∙ ap (λ (n : ℕ). max i.size (n + length a.bytes.now)) c.from.ensures;
      inode = refl;
      are = put_behind _ _ _ _ (c.in_ok-changes.ensures.changes t.cells
          (c.live.ensures.kept ∙ told)) c.in_ok-put_object.ensures;
    } in
    write_plan t a.cred a.handle a.offset a.bytes.now a.now i
    (record i {
      size = c.max-size.result;
      mtime = a.now;
      ctime = a.now;
    }) a.totals c.max-size.result c.in_ok-used.used c.attr_by-2.result
    c.put_object.new.changes.items is totals small
    (sym c.if-is_empty.ensures) room placed c.attr_by-2.ensures
