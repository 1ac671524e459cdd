-- What a check comes to.
use Rattle.std.proofs.Common.{◌≡◌, ℕ, List, refl, ap, ◌∙◌, Option, arith}
use Rattle.std.specs.Io.KnownBytes.{Appends}
use Rattle.trace_verdict.specs.Verdicts.{IsRightText}
use Rattle.trace_verdict.specs.declared.verdict.Verdict.{Verdict}
use Rattle.trace_verdict.specs.declared.verdict.Verdict.TheVariants as verdict
use Rattle.trace_verdict.specs.Texts.{verdict_line}
use Rattle.play_commands.specs.declared.exit.Exit.{Exit}
use Rattle.play_commands.specs.declared.exit.Exit.TheVariants as exit
use Rattle.harp_cli.specs.Check.{CheckEnds, IsFound, StatusAgrees, exit_after}
use Rattle.play_commands.specs.Exit.{status_of}

-- a verdict that was found and written whole
pub told : (text : List ℕ) (source before after : Option (List ℕ)) (v : Verdict)
    → IsFound text source v → Appends before after (verdict_line v)
    → CheckEnds text source before after (exit_after v)
told text source before after verdict.Yes found wrote =
    record { tells = verdict.Yes; found = found; wrote = wrote; exit_is = refl }
told text source before after (verdict.No n b) found wrote =
    record { tells = verdict.No n b; found = found; wrote = wrote; exit_is = refl }
told text source before after (verdict.Bad n u) found wrote =
    record { tells = verdict.Bad n u; found = found; wrote = wrote; exit_is = refl }

-- ---- the status

done_right : (text : List ℕ) (source : Option (List ℕ)) (v : Verdict) → exit.Done ≡ exit_after v
    → IsFound text source v → IsRightText text
done_right text source verdict.Yes is found = found.on
done_right text source (verdict.No n b) is found = absurd cc
done_right text source (verdict.Bad n u) is found = absurd cc

right_done : (text : List ℕ) (source : Option (List ℕ)) (v : Verdict) (e : Exit) → e ≡ exit_after v
    → IsFound text source v → IsRightText text → e ≡ exit.Done
right_done text source v e is found right = is ∙ ap exit_after (found.right right)

pub agrees : (text : List ℕ) (source before after : Option (List ℕ)) (e : Exit)
    → CheckEnds text source before after e → StatusAgrees text (status_of e)
agrees text source before after exit.Done h = (
  λ z. done_right text source h.tells h.exit_is h.found,
  λ right. (λ z. absurd (omega (arith, z)), λ z. absurd (omega (arith, z))),
)
agrees text source before after exit.SaysNo h = (
  λ z. absurd (omega (arith, z)),
  λ right. let none : exit.SaysNo ≡ exit.Done =
      right_done text source h.tells exit.SaysNo h.exit_is h.found right in absurd cc,
)
agrees text source before after exit.RefusedLine h = (
  λ z. absurd (omega (arith, z)),
  λ right. let none : exit.RefusedLine ≡ exit.Done =
      right_done text source h.tells exit.RefusedLine h.exit_is h.found right in absurd cc,
)
agrees text source before after exit.SourceFailed h = (
  λ z. absurd (omega (arith, z)),
  λ right. (λ z. absurd (omega (arith, z)), λ z. absurd (omega (arith, z))),
)
agrees text source before after exit.SinkFailed h = (
  λ z. absurd (omega (arith, z)),
  λ right. (λ z. absurd (omega (arith, z)), λ z. absurd (omega (arith, z))),
)
agrees text source before after exit.NoMemory h = (
  λ z. absurd (omega (arith, z)),
  λ right. (λ z. absurd (omega (arith, z)), λ z. absurd (omega (arith, z))),
)
agrees text source before after exit.RefusedWords h = absurd h
agrees text source before after exit.DiskFailed h = absurd h
agrees text source before after exit.LinkFailed h = absurd h
agrees text source before after exit.RefusedRecord h = absurd h
agrees text source before after exit.NetFull h = absurd h
agrees text source before after exit.CallSpent h = absurd h
