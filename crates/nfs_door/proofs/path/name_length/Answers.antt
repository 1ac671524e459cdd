use Rattle.std.proofs.Common.{arith, sym}
use Rattle.std.proofs.lemmas.List.Sums.{position_or_len_is}
use Rattle.nfs_door.specs.Paths.{is_slash}
use Rattle.nfs_door.proofs.PathLaws.{slash_byte}
use Rattle.nfs_door.proofs.path.name_length.Goals as goal

pub returns-then-byte-eq-SLASH-clause-value : goal.returns-then-byte-eq-SLASH-clause-value
returns-then-byte-eq-SLASH-clause-value c =
    sym (position_or_len_is is_slash c.args.path.now c.loop-place.place 0 (omega arith)
    c.loop-place.invariant
    (λ within. slash_byte _ c.if-byte-eq-SLASH.true))

pub returns-clause-value : goal.returns-clause-value
returns-clause-value c =
    sym (position_or_len_is is_slash c.args.path.now _ 0 (omega arith)
    (λ k h. c.loop-place.invariant k (omega arith))
    (λ within. absurd (omega arith)))
