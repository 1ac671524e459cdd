-- The exit statuses.
use Rattle.std.specs.Prelude.{ℕ}
use Rattle.play_commands.specs.declared.exit.Exit.{Exit}
use Rattle.play_commands.specs.declared.exit.Exit.TheVariants as exit

abbrev pub status_of : Exit → ℕ
status_of exit.Done = 0
status_of exit.SaysNo = 1
status_of exit.RefusedWords = 2
status_of exit.SourceFailed = 3
status_of exit.SinkFailed = 4
status_of exit.RefusedLine = 5
status_of exit.RefusedRecord = 5
status_of exit.NoMemory = 6
status_of exit.DiskFailed = 7
status_of exit.LinkFailed = 8
status_of exit.CallSpent = 9
status_of exit.NetFull = 10
