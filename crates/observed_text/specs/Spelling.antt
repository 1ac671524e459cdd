-- The one spelling of what is done with an observer, and of each line of an observed trace.
use Rattle.std.specs.Prelude.{◌≡◌, ℕ, ◌<◌, ◌≤◌, ◌^◌, false, List, ◌++◌, codes, decimal}
use Rattle.harp_types.specs.Update.{is_update}
use Rattle.text_spelling.specs.Text.{spaced, call_text, reply_text}
use Rattle.text_spelling.specs.Steps.{server_text, step_text}
use Rattle.text_spelling.specs.TraceLines.{line_text}
use Rattle.text_spelling.specs.Fits.{CallFits}
use Rattle.observed_text.specs.declared.step.Act.{Act}
use Rattle.observed_text.specs.declared.step.Act.TheVariants as act
use Rattle.observed_text.specs.declared.step.ObservedStep.{ObservedStep}
use Rattle.observed_text.specs.declared.step.ObservedStep.TheVariants as observed
use Rattle.observed_text.specs.declared.line.ShownNumbers.{ShownNumbers}
use Rattle.observed_text.specs.declared.line.ShownNumbers.TheVariants as shown
use Rattle.observed_text.specs.declared.line.ObservedLine.{ObservedLine}
use Rattle.observed_text.specs.declared.line.ObservedLine.TheVariants as line

unfoldable pub act_text : Act → List ℕ
act_text act.Copy = codes "copy"
act_text (act.Want server) = codes "want" ++ server_text server
act_text (act.Take packet) = codes "take" ++ spaced (decimal packet)
act_text (act.Drain server count) = codes "drain" ++ server_text server ++ spaced (decimal count)
act_text (act.Peek call) = codes "peek" ++ spaced (call_text call)

abbrev pub observed_text : ObservedStep → List ℕ
observed_text (observed.Played step) = step_text step
observed_text (observed.Acted act) = act_text act

-- acts that have a spelling; a call that is peeked reads
abbrev pub ActFits : Act → Type 0
ActFits act.Copy = Unit {0}
ActFits (act.Want server) = Unit {0}
ActFits (act.Take packet) = packet < 10 ^ 18
ActFits (act.Drain server count) = (1 ≤ count) × (count ≤ 100000)
ActFits (act.Peek call) = CallFits call × (is_update call ≡ false)

-- ---- lines

abbrev pub shown_text : ShownNumbers → List ℕ
shown_text (shown.Cell cp) = codes "cell" ++ spaced (decimal cp)
shown_text (shown.Records first records) =
    codes "records" ++ spaced (decimal first) ++ spaced (decimal records)
shown_text (shown.Gone base) = codes "gone" ++ spaced (decimal base)

unfoldable pub observed_line : ObservedLine → List ℕ
observed_line (line.Traced traced) = line_text traced
observed_line (line.Event act) = codes ">" ++ spaced (act_text act)
observed_line (line.Shown packet server shown) =
    codes "shown" ++ spaced (decimal packet) ++ server_text server ++ spaced (shown_text shown)
observed_line (line.Unshown server) = codes "unshown" ++ server_text server
observed_line (line.Observer top) = codes "observer" ++ spaced (decimal top)
observed_line (line.Peeked updates reply) =
    codes "peeked" ++ spaced (decimal updates) ++ spaced (reply_text reply)
observed_line line.Blind = codes "blind"
