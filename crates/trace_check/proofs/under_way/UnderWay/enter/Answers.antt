use Rattle.std.proofs.Common.{Some, refl, ap}
use Rattle.harp_types.specs.declared.book.BookEntry.{BookEntry}
use Rattle.trace_types.specs.declared.line.Line.TheVariants as line
use Rattle.trace_check.proofs.UnderWayLemmas.{goes_on}
use Rattle.trace_check.proofs.under_way.UnderWay.enter.Goals as goal

pub returns : goal.returns
returns c before place a =
    goes_on c.args.self.now before (line.Entered place c.args.entry.now)
    (Some c.in_ok-copy.field-0) a refl
    (λ reads. ap (λ (e : BookEntry). Some e) c.in_ok-copy.ensures)
