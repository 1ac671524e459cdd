use Rattle.harp_store.proofs.Erased.{in_numbers}
use Rattle.harp_store.proofs.table.Table.note_block.Goals as goal

pub returns-in_default-clause-fits : goal.returns-in_default-clause-fits
returns-in_default-clause-fits c = in_numbers c.args.block c.ranges.block.fits

pub returns-in_err-push-clause-fits : goal.returns-in_err-push-clause-fits
returns-in_err-push-clause-fits c = in_numbers c.args.block c.ranges.block.fits

pub returns-in_ok-push-clause-fits : goal.returns-in_ok-push-clause-fits
returns-in_ok-push-clause-fits c = in_numbers c.args.block c.ranges.block.fits

pub returns-else-holds-clause-fits : goal.returns-else-holds-clause-fits
returns-else-holds-clause-fits c = in_numbers c.args.block c.ranges.block.fits
