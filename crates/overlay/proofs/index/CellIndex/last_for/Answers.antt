use Rattle.overlay.specs.Index.{names}
use Rattle.overlay.proofs.Indexing.{last_of_block}
use Rattle.overlay.proofs.index.CellIndex.last_for.Goals as goal

pub returns-in-Block : goal.returns-in-Block
returns-in-Block c =
    last_of_block c.args.self.now c.self.inside.places.entries c.args.cell c.in-Block.object c.in-Block.block c.args.upto
    c.key.result c.blocks_of.result c.later.result c.self.view_is c.in-Block.is c.key.ensures c.blocks_of.ensures
    (c.later.ensures (names c.self.inside.places.entries c.key.result)
    (names c.self.inside.places.entries c.blocks_of.result) c.args.upto c.last_at-own.ensures c.last_at.ensures)
