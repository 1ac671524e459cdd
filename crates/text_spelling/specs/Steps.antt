-- The one spelling of each step of a schedule.
use Rattle.std.specs.Prelude.{ℕ, Bool, List, [], ◌∷◌, ◌++◌, map, codes, decimal, Option, Some, None, if◌then◌else◌}
use Rattle.harp_types.specs.Server.{number_of}
use Rattle.harp_types.specs.declared.server.ServerId.{ServerId}
use Rattle.harp_types.specs.declared.pick.Pick.{Pick}
use Rattle.harp_types.specs.declared.pick.Pick.TheVariants as pick
use Rattle.trace_types.specs.declared.step.Step.{Step}
use Rattle.trace_types.specs.declared.step.Step.TheVariants as step
use Rattle.text_spelling.specs.Text.{spaced, hex_text, call_text, cred_text, ask_head, among_text}

-- a server's number behind a space
abbrev pub server_text : ServerId → List ℕ
server_text server = spaced (decimal (number_of server))

-- the digit 1 or 0 of each bit
unfoldable pub bits_text : List Bool → List ℕ
bits_text bits = map (λ bit. if bit then 49 else 48) bits

abbrev pub pick_text : Pick → List ℕ
pick_text pick.All = codes "all"
pick_text pick.None = codes "none"
pick_text (pick.Bits bits) = bits_text bits

unfoldable pub step_text : Step → List ℕ
step_text (step.Ask server client number cred call) =
    ask_head server client number ++ cred_text cred ++ spaced (call_text call)
step_text (step.Deliver packet) = codes "deliver" ++ spaced (decimal packet)
step_text (step.Pump among) = codes "pump" ++ among_text among
step_text (step.Tick server) = codes "tick" ++ server_text server
step_text (step.Suspect server) = codes "suspect" ++ server_text server
step_text (step.Apply server most) = codes "apply" ++ server_text server ++ spaced (decimal most)
step_text (step.Flush server) = codes "flush" ++ server_text server
step_text (step.List server) = codes "list" ++ server_text server
step_text (step.Boot server) = codes "boot" ++ server_text server
step_text (step.Power server) = codes "power" ++ server_text server ++ spaced (codes "all")
step_text (step.PowerCut server calls pick) =
    codes "power" ++ server_text server ++ spaced (decimal calls) ++ spaced (pick_text pick)
step_text (step.Crash server pick) = codes "crash" ++ server_text server ++ spaced (pick_text pick)
step_text (step.Stop server calls pick) =
    codes "stop" ++ server_text server ++ spaced (decimal calls) ++ spaced (pick_text pick)
step_text (step.Noise server bytes) = codes "noise" ++ server_text server ++ spaced (hex_text bytes)
step_text (step.Clock server reading) =
    codes "clock" ++ server_text server ++ spaced (decimal reading)
step_text (step.Advance millis) = codes "advance" ++ spaced (decimal millis)
step_text (step.Delta millis) = codes "delta" ++ spaced (decimal millis)
