-- an eighth of a number is less
use Rattle.text_writer.proofs.put.+put_octal.Given as goal

abbrev pub decreases-put_octal : goal.decreases-put_octal
decreases-put_octal l = l.n
