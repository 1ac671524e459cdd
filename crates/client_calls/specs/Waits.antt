-- When and where a call is asked again that isn't answered by then.
use Rattle.std.specs.Prelude.{ℕ, ◌+◌, ◌*◌, min, Some, None, if◌then◌else◌}
use Rattle.harp_types.specs.Server.{same_server}
use Rattle.harp_types.specs.declared.cause.Cause.{Cause}
use Rattle.harp_types.specs.declared.cause.Cause.TheVariants as cause
use Rattle.harp_types.specs.declared.server.ServerId.{ServerId}
use Rattle.harp_types.specs.declared.server.ServerId.TheVariants.{Zero, One, Two}
use Rattle.client_calls.specs.declared.wait.Wait.{Wait}

abbrev pub longest_pause : ℕ
longest_pause = 2000

abbrev pub next_round : ServerId → ServerId
next_round Zero = One
next_round One = Two
next_round Two = Zero

-- where a call is asked next that this server can't serve; one that names itself may wait for long
abbrev pub place_after : ServerId → Cause → ServerId
place_after place (cause.NotLeader (Some hint)) =
    if same_server hint place then next_round place else hint
place_after place (cause.NotLeader None) = next_round place
place_after place cause.BadClient = place
place_after place cause.NotYetOpen = place
place_after place cause.NoPromise = place
place_after place cause.LogFull = place
place_after place cause.Old = place

-- a call was asked for the first time, at this moment: after 200 ms it is asked again, of the next
-- server
abbrev pub first_wait : ServerId → ℕ → Wait
first_wait place now = record { place = next_round place; due = now + 200; pause = 200 }

abbrev pub wait_of : ServerId → ℕ → ℕ → Wait
wait_of place now pause = record { place = next_round place; due = now + pause; pause = pause }

-- it was asked again: the next pause is twice as long, up to 2 s
abbrev pub asked_again : ℕ → Wait → Wait
asked_again now w = wait_of w.place now (min (2 * w.pause) longest_pause)

-- a server can't serve it
abbrev pub hinted : ServerId → Cause → Wait → Wait
hinted by cause w = record w { place = place_after by cause }
