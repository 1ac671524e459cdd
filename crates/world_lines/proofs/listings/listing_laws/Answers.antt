use Rattle.world_lines.proofs.TreeLines.{count_is, lines_are}
use Rattle.world_lines.proofs.listings.listing_laws.Goals as goal

pub returns-clause-lines : goal.returns-clause-lines
returns-clause-lines c = lines_are

pub returns-clause-count : goal.returns-clause-count
returns-clause-count c = count_is
