-- How a sweep ends.
use Rattle.std.proofs.Common.{◌≡◌, ◌∙◌, ℕ, ◌+◌, List, append-nil, length, ap, sym, subst, Option, Some, None}
use Rattle.std.proofs.lemmas.List.FromFn.{length-map-range_with_len}
use Rattle.harp_types.specs.Streams.{GrewByPart}
use Rattle.trace_types.specs.declared.step.Step.{Step}
use Rattle.sweep.specs.Lines.{generated}
use Rattle.sweep.specs.Runs.{summaries}
use Rattle.sweep.specs.declared.summary.Summary.{Summary}
use Rattle.play_commands.specs.declared.exit.Exit.{Exit}
use Rattle.harp_cli.specs.Sweep.{SweepEnds}

pub same_sweep : (summary_of : List Step → Summary) (s k n seed runs lines : ℕ)
    (before after : Option (List ℕ)) (exit : Exit) → s ≡ seed → k ≡ runs → n ≡ lines
    → SweepEnds summary_of s k n before after exit
    → SweepEnds summary_of seed runs lines before after exit
same_sweep summary_of s k n seed runs lines before after exit a b d ends =
    subst (λ x. SweepEnds summary_of x runs lines before after exit) a
    (subst (λ x. SweepEnds summary_of s x lines before after exit) b
    (subst (λ x. SweepEnds summary_of s k x before after exit) d ends))

-- there is a summary for each run
pub swept_length : (summary_of : List Step → Summary) (seed runs lines : ℕ) (all : List Summary)
    → all ≡ summaries summary_of seed runs lines → length all ≡ runs
swept_length summary_of seed runs lines all is =
    ap length is
    ∙ length-map-range_with_len (λ run. summary_of (generated (seed + run) lines)) 0 runs

-- nothing was written
pub grew_none : (before : Option (List ℕ)) (bytes : List ℕ) → GrewByPart before before bytes
grew_none None bytes = (0, tt)
grew_none (Some xs) bytes = (0, sym (append-nil xs))
