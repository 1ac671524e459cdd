use Rattle.std.proofs.Common.{arith, length, sym, ap, subst}
use Rattle.file_tree.specs.Tree.{Tree, place, blocks_at, size_of}
use Rattle.plain_tree.specs.Counts.{HasRoomFor, IsEntered}
use Rattle.plain_tree.proofs.CountLaws.{counts_add, room_pushed}
use Rattle.plain_tree.proofs.objects.Objects.add_object.Goals as goal

pub reslot-requires-clause-room : goal.reslot-requires-clause-room
reslot-requires-clause-room c =
    rw c.in_ok-push.ensures.items (room_pushed c.self.inside.items.items c.args.dir c.args.slots
    c.args.object
    (subst (λ (t : Tree). IsEntered t c.args.dir c.args.slots (length t)) (sym c.self.view_is)
    c.requires.entered)
    (subst (λ (t : Tree). HasRoomFor t c.args.dir c.args.slots (size_of c.args.object.body))
    (sym c.self.view_is) c.requires.room))

pub invariant_of-self-2 : goal.invariant_of-self-2
invariant_of-self-2 c =
    rw (
      c.reslot.ensures.value,
      c.in_ok-push.ensures.items,
      c.push_reserved.ensures.items,
      c.reserve.ensures.items,
    ) (counts_add c.self.inside.items.items c.self.inside.used c.self.inside.names.items c.args.dir
    c.args.slots c.args.object c.args.now c.exchanged-self-inside.result c.self.invariant
    (subst (λ (t : Tree). IsEntered t c.args.dir c.args.slots (length t)) (sym c.self.view_is)
    c.requires.entered) c.requires.empty
    (omega (
      arith,
      c.exchanged-self-inside.ensures,
      c.blocks_in-before.ensures.value,
      ap (λ (t : Tree). blocks_at (place t c.args.dir)) c.as_slice.ensures.value,
      c.blocks_of-after.ensures,
      c.len.ensures,
      c.blocks_of-size.ensures,
      c.size_of.ensures,
    )))
