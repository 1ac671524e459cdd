-- what is written so far, and the digits of the rest
use Rattle.std.proofs.Common.{◌≡◌, ◌++◌, drop}
use Rattle.text_spelling.specs.Steps.{bits_text}
use Rattle.text_writer.proofs.put_step.put_bits.Given as goal

abbrev pub invariant-loop-bit : goal.invariant-loop-bit
invariant-loop-bit l =
    l.out.items ++ bits_text (drop l.bit-index l.bits) ≡ l.fn.out.items ++ bits_text l.bits
