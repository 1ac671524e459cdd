use Rattle.std.proofs.Common.{arith, sym}
use Rattle.file_tree.proofs.Bounds.{place_fits}
use Rattle.plain_tree.proofs.computed.blocks_in.Goals as goal

pub size_of-requires : goal.size_of-requires
size_of-requires c =
    omega (
      arith,
      c.requires,
      place_fits c.args.tree.now c.args.number c.in-Some.object.now (sym c.in-Some.ensures),
    )

pub blocks_of-requires : goal.blocks_of-requires
blocks_of-requires c =
    omega (
      arith,
      c.requires,
      c.size_of.ensures,
      place_fits c.args.tree.now c.args.number c.in-Some.object.now (sym c.in-Some.ensures),
    )
