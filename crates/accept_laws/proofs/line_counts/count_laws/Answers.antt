use Rattle.accept_laws.proofs.ListingCounts.{listings_few}
use Rattle.accept_laws.proofs.RunCounts.{runs_short}
use Rattle.accept_laws.proofs.line_counts.count_laws.Goals as goal

pub returns : goal.returns
returns c = record { listings = listings_few; runs = runs_short }
