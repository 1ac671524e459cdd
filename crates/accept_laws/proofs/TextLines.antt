-- The lines of the text of a trace.
use Rattle.std.proofs.Common.{◌≡◌, ℕ, ◌==◌, false, List, [], ◌∷◌, ◌++◌, append_assoc, refl, ap, ◌∙◌}
use Rattle.std.proofs.lemmas.Bool.{ne_eqb}
use Rattle.line_reader.specs.Lines.{begun_with, lines_of}
use Rattle.text_writer.proofs.OneStepLine.{trace_line}
use Rattle.text_spelling.specs.Lines.{IsOneLine}
use Rattle.text_spelling.specs.TraceLines.{line_text}
use Rattle.schedule_play.specs.Trace.{trace_text}
use Rattle.accept_laws.specs.TextLaws.{TextsHaveTheirLines}

-- a line with its line feed
line_first : (xs rest : List ℕ) → IsOneLine xs → lines_of (xs ++ 10 ∷ rest) ≡ xs ∷ lines_of rest
unfolding lines_of
line_first [] rest h = refl
line_first (b ∷ xs) rest h =
    let other : (b == 10) ≡ false = ne_eqb b 10 h.0 in
    rw other (ap (begun_with b) (line_first xs rest h.1))

pub text_lines : TextsHaveTheirLines
unfolding lines_of trace_text
text_lines [] = refl
text_lines (l ∷ ls) =
    ap lines_of (append_assoc (line_text l) (10 ∷ []) (trace_text ls))
    ∙ line_first (line_text l) (trace_text ls) (trace_line l)
    ∙ ap (λ (texts : List (List ℕ)). line_text l ∷ texts) (text_lines ls)
