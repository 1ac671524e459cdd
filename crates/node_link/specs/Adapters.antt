-- The adapters over sockets and the day's clock: how many of their calls have failed, how many
-- datagrams couldn't be sent, and the clock's last reading.
use Rattle.std.specs.Prelude.{ℕ}
use Rattle.node_link.specs.declared.udp.UdpLink.{UdpLink}
use Rattle.node_link.specs.declared.wall_clock.WallClock.{WallClock}

abbrev pub link_faults : {R : Type 0} → UdpLink R → ℕ
link_faults link = link.faults

abbrev pub link_unsent : {R : Type 0} → UdpLink R → ℕ
link_unsent link = link.unsent

abbrev pub clock_faults : {R : Type 0} → WallClock R → ℕ
clock_faults clock = clock.faults

abbrev pub last_of : {R : Type 0} → WallClock R → ℕ
last_of clock = clock.last
