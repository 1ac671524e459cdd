-- Which steps are refused, and why.
use Rattle.std.specs.Prelude.{ℕ, Bool, true, false, not, ◌&&◌, nat_lt, length, Option, None, Some, if◌then◌else◌}
use Rattle.harp_types.specs.declared.server.ServerId.{ServerId}
use Rattle.trace_types.specs.declared.step.Step.{Step}
use Rattle.trace_types.specs.declared.line.LineFault.{LineFault}
use Rattle.file_tree.specs.Book.{Entry}
use Rattle.group_rules.specs.Names.{place_of}
use Rattle.group_rules.specs.Places.{Place, at}
use Rattle.group_rules.specs.State.{Group}
use Rattle.group_rules.specs.Step.{near}
use Rattle.trace_types.specs.declared.step.Step.TheVariants as step
use Rattle.trace_types.specs.declared.line.LineFault.TheVariants as fault
use Rattle.group_trace.specs.Scene.{Measures, Scene}

-- the first of two reasons
abbrev pub before_it : Option LineFault → Option LineFault → Option LineFault
before_it None second = second
before_it (Some first) second = Some first

-- refused at a server that is down
abbrev pub where_down : Group Entry → ServerId → Option LineFault
where_down g server = if (g.server (place_of server)).up then None else Some fault.ServerDown

-- why a step isn't taken, beside the bytes that were sent
abbrev pub clock_refusal : Group Entry → Place → ℕ → Option LineFault
clock_refusal g q reading =
    if nat_lt reading (g.clock q) then Some fault.ClockBack
    else (if near reading (at g.clock q reading) then None else Some fault.ClockApart)

-- why a step is refused, whatever was sent
abbrev pub own_refusal : Measures → Group Entry → Step → Option LineFault
own_refusal m g (step.Ask server client number cred call) = where_down g server
own_refusal m g (step.Deliver n) = if nat_lt n (length g.packets) then None else
    Some fault.NoPacket
own_refusal m g (step.Pump among) = None
own_refusal m g (step.Tick server) = where_down g server
own_refusal m g (step.Suspect server) = where_down g server
own_refusal m g (step.Apply server most) = where_down g server
own_refusal m g (step.Flush server) = where_down g server
own_refusal m g (step.List server) = where_down g server
own_refusal m g (step.Boot server) = if (g.server (place_of server)).up then
    Some fault.ServerUp else None
own_refusal m g (step.Power server) = where_down g server
own_refusal m g (step.PowerCut server calls pick) = where_down g server
own_refusal m g (step.Crash server pick) = where_down g server
own_refusal m g (step.Stop server calls pick) = where_down g server
own_refusal m g (step.Noise server bytes) = if m.is_message bytes then
    Some fault.NoiseIsMessage else None
own_refusal m g (step.Clock server reading) = clock_refusal g (place_of server) reading
own_refusal m g (step.Advance millis) = None
own_refusal m g (step.Delta millis) = None

-- the most bytes of packets after which servers still step
unfoldable pub net_limit : ℕ
net_limit = 532676608

-- the steps that are taken however much was sent
abbrev pub passes_full_net : Step → Bool
passes_full_net (step.Clock server reading) = true
passes_full_net (step.Advance millis) = true
passes_full_net (step.Delta millis) = true
passes_full_net (step.Crash server pick) = true
passes_full_net (step.Stop server calls pick) = true
passes_full_net s = false

-- refused after too many bytes
abbrev pub net_refusal : Scene → Step → Option LineFault
net_refusal w s = if not (passes_full_net s) && nat_lt net_limit w.sent then
    Some fault.NetFull else None

-- the first reason why a step is refused
abbrev pub refusal : Measures → Scene → Step → Option LineFault
refusal m w s = before_it (own_refusal m w.group s) (net_refusal w s)
