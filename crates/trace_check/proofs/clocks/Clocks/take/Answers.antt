use Rattle.std.proofs.Common.{◌≡◌, Some}
use Rattle.trace_check.specs.Readings.{clock_told}
use Rattle.trace_check.specs.declared.readings.ClockTold.TheVariants as clock
use Rattle.trace_check.proofs.ClockLemmas.{sets_clock}
use Rattle.trace_check.proofs.clocks.Clocks.take.Goals as goal

pub returns-in-Some-Set : goal.returns-in-Some-Set
returns-in-Some-Set c before a =
    let e = c.clock_told.ensures in
    let e0 = c.in-Some-Set.is in
    let e1 = c.in-Some-Set.field-0-is in
    let e2 = c.in-Some-Set.server-is in
    let e3 = c.in-Some-Set.reading-is in
    let told : clock_told c.args.line.now
    ≡ Some (clock.Set c.in-Some-Set.server c.in-Some-Set.reading) = cc in
    sets_clock c.args.self.now c.set.new.self before c.args.line.now c.in-Some-Set.server
    c.in-Some-Set.reading a told c.set.ensures.within c.set.ensures.is_set
