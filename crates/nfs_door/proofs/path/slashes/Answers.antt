use Rattle.std.proofs.Common.{arith, sym}
use Rattle.std.proofs.lemmas.List.Sums.{position_or_len_is}
use Rattle.nfs_door.proofs.PathLaws.{is_other, other_byte}
use Rattle.nfs_door.proofs.path.slashes.Goals as goal

pub returns-then-byte-ne-SLASH-clause-value : goal.returns-then-byte-ne-SLASH-clause-value
returns-then-byte-ne-SLASH-clause-value c =
    sym (position_or_len_is is_other c.args.path.now c.loop-place.place 0 (omega arith)
    c.loop-place.invariant
    (λ within. other_byte _ c.if-byte-ne-SLASH.true))

pub returns-clause-value : goal.returns-clause-value
returns-clause-value c =
    sym (position_or_len_is is_other c.args.path.now _ 0 (omega arith)
    (λ k h. c.loop-place.invariant k (omega arith))
    (λ within. absurd (omega arith)))
