-- The line that tells a verdict.
use Rattle.std.specs.Prelude.{ℕ, List, [], ◌∷◌, ◌++◌, codes, decimal}
use Rattle.text_spelling.specs.Text.{spaced}
use Rattle.trace_check.specs.declared.breach.Breach.{Breach}
use Rattle.trace_check.specs.declared.breach.Breach.TheVariants as breach
use Rattle.trace_verdict.specs.declared.verdict.Unread.{Unread}
use Rattle.trace_verdict.specs.declared.verdict.Unread.TheVariants as unread
use Rattle.trace_verdict.specs.declared.verdict.Verdict.{Verdict}
use Rattle.trace_verdict.specs.declared.verdict.Verdict.TheVariants as verdict

-- what a line breaks
abbrev pub breach_word : Breach → List ℕ
breach_word breach.Book = codes "book"
breach_word breach.Order = codes "order"
breach_word breach.Answer = codes "answer"
breach_word breach.Ack = codes "ack"
breach_word breach.Promise = codes "promise"

-- why no trace is read at a line
abbrev pub unread_word : Unread → List ℕ
unread_word unread.Grammar = codes "grammar"
unread_word unread.TooLong = codes "too-long"
unread_word unread.TooMany = codes "too-many"
unread_word unread.Unfinished = codes "unfinished"

-- the number of a line, and what is found there, behind a word
abbrev pub found_text : List ℕ → ℕ → List ℕ → List ℕ
found_text word number cause = word ++ spaced (decimal number) ++ spaced cause

unfoldable pub verdict_text : Verdict → List ℕ
verdict_text verdict.Yes = codes "yes"
verdict_text (verdict.No number b) = found_text (codes "no") number (breach_word b)
verdict_text (verdict.Bad number u) = found_text (codes "bad") number (unread_word u)

-- the line with its line feed
abbrev pub verdict_line : Verdict → List ℕ
verdict_line v = verdict_text v ++ 10 ∷ []
