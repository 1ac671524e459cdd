use Rattle.std.proofs.Common.{◌≡◌, ℕ, ◌+◌, ◌*◌, ltb, [], length, sym, ap, ◌∙◌}
use Rattle.harp_types.specs.declared.attr.Kind.TheVariants as kind
use Rattle.harp_types.specs.declared.reply.Status.TheVariants.{FBig}
use Rattle.file_tree.specs.Tree.{place, slots_of, blocks_of, with_entry}
use Rattle.file_tree.specs.Outcome.{given, room_for}
use Rattle.harp_types.specs.Limits.{largest_file}
use Rattle.nfs_calls.specs.NewEntries.{made_inode}
use Rattle.nfs_calls.specs.Space.{replaced_blocks}
use Rattle.nfs_calls.proofs.Makes.{IsComputed, is_open}
use Rattle.nfs_calls.proofs.NewPlans.{create_new_plan, passed}
use Rattle.nfs_calls.proofs.updates.create.create_new.Goals as goal

pub returns-clause-plan : goal.returns-clause-plan
returns-clause-plan c t totals is free right none =
    let a = c.args in
    let i = a.inode.now in
    let room = c.in_ok-room.room in
    let size = given a.attr.now.size 0 in
    let slots = slots_of (place t.tree a.dir) in
    let sized : size ≡ c.given-size.result = sym c.given-size.ensures in
    let computed : IsComputed a.dir i a.name.now [] room 0
    (made_inode a.cred a.attr.now kind.Regular 1 0 size a.now) a.now a.totals c.made-made.result
    c.in_ok-changes.changes.items = record {
      stored = c.in_ok-name_of.field-0;
      with = c.entered.result;
      inode = c.made-made.ensures ∙ ap
          (λ (n : ℕ). made_inode a.cred a.attr.now kind.Regular 1 0 n a.now) (sym sized);
      directory = c.entered.ensures;
      named = c.in_ok-name_of.ensures;
      are = c.in_ok-changes.ensures;
    } in
    create_new_plan t a.totals a.cred a.dir i a.name.now a.attr.now room a.now c.made-made.result
    c.attr_by.result c.in_ok-changes.changes.items totals
    (is_open t.tree a.totals a.dir i a.name.now size room totals is
    (c.in_ok-room.ensures.room t.tree a.dir is free)
    (ap (room_for t.tree a.dir slots a.name.now) sized
    ∙ c.in_ok-room.ensures.step t.tree a.dir a.name.now totals is free)
    (λ s. ap (λ (n : ℕ). replaced_blocks (a.totals.used + blocks_of n) i.size
    (264 * length (with_entry slots s))) sized ∙ c.in_ok-room.ensures.used t.tree a.dir s is free))
    right (ap (ltb largest_file) sized ∙ passed FBig _ c.in_ok-refuse.ensures) none
    (sym (c.in_ok-may_make.ensures t.tree a.dir is.own)) computed c.attr_by.ensures
