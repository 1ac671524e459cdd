use Rattle.world_lines.proofs.TreeLines.{count_is, lines_are}
use Rattle.audit_verdict.proofs.ListingTexts.{listing_is_tree}
use Rattle.audit_verdict.proofs.laws.verdict_laws.Goals as goal

pub returns : goal.returns
returns c = listing_is_tree count_is lines_are
