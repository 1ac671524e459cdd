-- No text has a line end in it.
use Rattle.std.proofs.Common.{[], ◌∷◌, refl}
use Rattle.std.specs.Prelude.{decimal, codes}
use Rattle.harp_types.specs.Server.{number_of}
use Rattle.text_spelling.specs.Text.{call_text, reply_text}
use Rattle.text_spelling.specs.Lines.{IsOneLine}
use Rattle.text_writer.proofs.OneLine.{known, number, words, call_line, reply_line}
use Rattle.text_writer.proofs.OneStepLine.{step_line, trace_line}
use Rattle.observed_text.specs.declared.step.Act.{Act}
use Rattle.observed_text.specs.declared.step.Act.TheVariants as act
use Rattle.observed_text.specs.declared.step.ObservedStep.{ObservedStep}
use Rattle.observed_text.specs.declared.step.ObservedStep.TheVariants as observed
use Rattle.observed_text.specs.declared.line.ShownNumbers.{ShownNumbers}
use Rattle.observed_text.specs.declared.line.ShownNumbers.TheVariants as shown
use Rattle.observed_text.specs.declared.line.ObservedLine.{ObservedLine}
use Rattle.observed_text.specs.declared.line.ObservedLine.TheVariants as line
use Rattle.observed_text.specs.Spelling.{act_text, observed_text, shown_text, observed_line}

act_line : (a : Act) → IsOneLine (act_text a)
unfolding act_text
act_line act.Copy = known (codes "copy") refl
act_line (act.Want server) =
    words (codes "want") (decimal (number_of server) ∷ []) (known (codes "want") refl)
    (number (number_of server), tt)
act_line (act.Take packet) =
    words (codes "take") (decimal packet ∷ []) (known (codes "take") refl) (number packet, tt)
act_line (act.Drain server count) =
    words (codes "drain") (decimal (number_of server) ∷ decimal count ∷ [])
    (known (codes "drain") refl) (number (number_of server), (number count, tt))
act_line (act.Peek call) =
    words (codes "peek") (call_text call ∷ []) (known (codes "peek") refl) (call_line call, tt)

pub one_step : (s : ObservedStep) → IsOneLine (observed_text s)
one_step (observed.Played step) = step_line step
one_step (observed.Acted act) = act_line act

numbers_line : (s : ShownNumbers) → IsOneLine (shown_text s)
numbers_line (shown.Cell cp) =
    words (codes "cell") (decimal cp ∷ []) (known (codes "cell") refl) (number cp, tt)
numbers_line (shown.Records first records) =
    words (codes "records") (decimal first ∷ decimal records ∷ []) (known (codes "records") refl)
    (number first, (number records, tt))
numbers_line (shown.Gone base) =
    words (codes "gone") (decimal base ∷ []) (known (codes "gone") refl) (number base, tt)

pub one_line : (l : ObservedLine) → IsOneLine (observed_line l)
unfolding observed_line
one_line (line.Traced traced) = trace_line traced
one_line (line.Event act) =
    words (codes ">") (act_text act ∷ []) (known (codes ">") refl) (act_line act, tt)
one_line (line.Shown packet server shown) =
    words (codes "shown") (decimal packet ∷ decimal (number_of server) ∷ shown_text shown ∷ [])
    (known (codes "shown") refl)
    (number packet, (number (number_of server), (numbers_line shown, tt)))
one_line (line.Unshown server) =
    words (codes "unshown") (decimal (number_of server) ∷ []) (known (codes "unshown") refl)
    (number (number_of server), tt)
one_line (line.Observer top) =
    words (codes "observer") (decimal top ∷ []) (known (codes "observer") refl) (number top, tt)
one_line (line.Peeked updates reply) =
    words (codes "peeked") (decimal updates ∷ reply_text reply ∷ []) (known (codes "peeked") refl)
    (number updates, (reply_line reply, tt))
one_line line.Blind = known (codes "blind") refl
