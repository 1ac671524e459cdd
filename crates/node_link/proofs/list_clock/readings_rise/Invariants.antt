use Rattle.std.proofs.Common.{◌≡◌, drop}
use Rattle.node_link.specs.Readings.{rises_from}
use Rattle.node_link.proofs.list_clock.readings_rise.Given as goal

-- what is left is all
abbrev pub invariant-loop-reading : goal.invariant-loop-reading
invariant-loop-reading l = rises_from l.least (drop l.reading-index l.readings)
    ≡ rises_from 0 l.readings
