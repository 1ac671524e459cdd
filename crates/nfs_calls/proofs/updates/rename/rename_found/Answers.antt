use Rattle.std.proofs.Common.{◌≡◌, ℕ, None, Some, ◌∙◌, subst, sym}
use Rattle.file_tree.specs.Tree.{place, slots_of, entry}
use Rattle.nfs_calls.specs.declared.updates.relocation.Relocation.{Relocation}
use Rattle.inode_dirs.specs.Searches.{IsSought}
use Rattle.nfs_calls.specs.TreeCells.{IsInode}
use Rattle.nfs_calls.specs.Moves.{IsMoving}
use Rattle.nfs_calls.proofs.MovedEntry.{directory_is_one}
use Rattle.nfs_calls.proofs.Renames.{above_refused, moved_gives}
use Rattle.nfs_calls.proofs.updates.rename.rename_found.Goals as goal

pub returns-then-branch-clause-plan : goal.returns-then-branch-clause-plan
returns-then-branch-clause-plan g c t name told totals from to found right =
    let d = c.args.directories.now in
    let x : ℕ × ℕ = (c.args.slot, c.args.number) in
    let moved : IsInode t.tree x.1 c.in_ok-moved.moved =
    c.in_ok-moved.ensures.inode t d.dir x.0 name told found in
    let above =
    c.in_ok-holds_itself.ensures.above t (c.named.ensures.kept ∙ told) moved
    (directory_is_one t.tree d.to_dir d.to to) in
    above_refused t.cells t.tree d.dir x d.to_dir name c.args.to_name.now c.args.now
    (sym above ∙ c.if-branch.true)

pub returns-in-Free-clause-plan : goal.returns-in-Free-clause-plan
returns-in-Free-clause-plan g c t name told totals from to found right =
    let d = c.args.directories.now in
    let x : ℕ × ℕ = (c.args.slot, c.args.number) in
    let moved : IsInode t.tree x.1 c.in_ok-moved.moved =
    c.in_ok-moved.ensures.inode t d.dir x.0 name told found in
    let later = c.named.ensures.kept ∙ told in
    let above =
    c.in_ok-holds_itself.ensures.above t later moved
    (directory_is_one t.tree d.to_dir d.to to) in
    let m : Relocation =
    record {
      dir = d.dir;
      from = d.from;
      slot = x.0;
      number = x.1;
      moved = c.in_ok-moved.moved;
      to_dir = d.to_dir;
      to = d.to;
    } in
    let is : IsMoving t.tree m name c.args.to_name.now =
    record {
      from = from;
      to = to;
      entry = found;
      moved = moved;
      right = right;
      apart = sym above ∙ c.if-branch.false;
    } in
    let last = c.holds_itself.ensures.kept ∙ later in
    let none =
    subst (IsSought (slots_of (place t.tree d.to_dir)) c.args.to_name.now) c.in-Free.is
    (c.in_ok-slot.ensures.sought t last to) in
    moved_gives t.cells t.tree m name c.in_ok-owned.owned c.args.to_name.now c.args.now None
    c.move_in.result c.in_ok-owned.ensures
    (λ moving empty. c.move_in.ensures.plan t name totals none.1 moving empty) is none.0

pub returns-in-Entry-clause-plan : goal.returns-in-Entry-clause-plan
returns-in-Entry-clause-plan g c t name told totals from to found right =
    let d = c.args.directories.now in
    let x : ℕ × ℕ = (c.args.slot, c.args.number) in
    let y : ℕ × ℕ = (c.in-Entry.slot, c.in-Entry.object) in
    let moved : IsInode t.tree x.1 c.in_ok-moved.moved =
    c.in_ok-moved.ensures.inode t d.dir x.0 name told found in
    let later = c.named.ensures.kept ∙ told in
    let above =
    c.in_ok-holds_itself.ensures.above t later moved
    (directory_is_one t.tree d.to_dir d.to to) in
    let m : Relocation =
    record {
      dir = d.dir;
      from = d.from;
      slot = x.0;
      number = x.1;
      moved = c.in_ok-moved.moved;
      to_dir = d.to_dir;
      to = d.to;
    } in
    let is : IsMoving t.tree m name c.args.to_name.now =
    record {
      from = from;
      to = to;
      entry = found;
      moved = moved;
      right = right;
      apart = sym above ∙ c.if-branch.false;
    } in
    let last = c.holds_itself.ensures.kept ∙ later in
    let some : entry (slots_of (place t.tree d.to_dir)) c.args.to_name.now ≡ Some y =
    subst (IsSought (slots_of (place t.tree d.to_dir)) c.args.to_name.now) c.in-Entry.is
    (c.in_ok-slot.ensures.sought t last to) in
    moved_gives t.cells t.tree m name c.in_ok-owned.owned c.args.to_name.now c.args.now
    (Some y) c.move_over.result c.in_ok-owned.ensures
    (λ moving target. c.move_over.ensures.plan t name
    (c.entry_or_slot.ensures.kept ∙ last) totals moving target) is some

pub returns-in-Free-clause-rose : goal.returns-in-Free-clause-rose
returns-in-Free-clause-rose g c e = absurd (c.move_in.ensures.store e)
