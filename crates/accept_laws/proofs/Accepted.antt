-- The text of the trace of a schedule is right.
use Rattle.std.proofs.Common.{ℕ, List, [], ◌∷◌, map, refl, sym, subst, arith}
use Rattle.std.specs.List.{AllByRecursion}
use Rattle.group_trace.specs.DiskCalls.{measures_of}
use Rattle.group_trace.specs.Scene.{Measures}
use Rattle.schedule_play.specs.Trace.{trace_of, trace_text}
use Rattle.schedule_play.proofs.TextLaws.{right}
use Rattle.world_rules.specs.Spellings.{spellings}
use Rattle.text_spelling.specs.TraceLines.{line_text}
use Rattle.trace_claims.specs.Trace.{Trace}
use Rattle.accept_laws.specs.Laws.{LineIn, TakeBytes}
use Rattle.accept_laws.proofs.Few.{traces_few}
use Rattle.accept_laws.proofs.Fits.{traces_fit}
use Rattle.accept_laws.proofs.TextLines.{text_lines}
use Rattle.trace_verdict.specs.Verdicts.{AreLines, IsRightText}
use Rattle.accept_laws.specs.AcceptLaws.{HasShortLines, PlaysAreAccepted}

-- lines that fit are the lines of their spellings
spelled : (trace : Trace) → AllByRecursion LineIn trace → AreLines (map line_text trace) trace
spelled [] h = tt
spelled (l ∷ ls) h = ((record { fits = h.0.0; spelled = refl }, h.0.1), spelled ls h.1)

-- whatever the numbers of bytes of messages, if each has a byte
right_text : (m : Measures) → TakeBytes m → (text : List ℕ) → HasShortLines text
    → IsRightText (trace_text (trace_of m text))
right_text m bytes text short =
    let trace = trace_of m text in
    let is = right m text in
    record {
      trace = trace;
      lines = subst (λ (lines : List (List ℕ)). AreLines lines trace) (sym (text_lines trace))
          (spelled trace (traces_fit m bytes text short));
      closed = is.closed;
      accepted = record {
        faithful = is.faithful;
        acknowledged = is.acknowledged;
        promises = is.promises;
      };
      few = traces_few m bytes text short;
    }

-- a message has its tag
pub take_bytes : TakeBytes (measures_of spellings)
take_bytes list message = omega arith

pub accepted : PlaysAreAccepted
accepted = right_text (measures_of spellings) take_bytes
