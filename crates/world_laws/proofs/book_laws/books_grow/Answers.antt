use Rattle.world_laws.proofs.Growth.{deeds_grow, deliveries_grow}
use Rattle.world_laws.proofs.book_laws.books_grow.Goals as goal

pub returns : goal.returns
returns c = record { deeds = deeds_grow; deliveries = deliveries_grow }
