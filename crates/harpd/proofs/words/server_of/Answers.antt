use Rattle.std.proofs.Common.{sym, subst, length, take, drop, ◌-◌}
use Rattle.std.specs.Prelude.{MatchOption, string_bytes, codes}
use Rattle.harpd.specs.declared.words.Command.{Command}
use Rattle.harpd.specs.Words.{Named, texts}
use Rattle.harpd.proofs.WordLaws.{first_word, no_loop}
use Rattle.harpd.proofs.words.server_of.Goals as goal

pub returns-in_err-runs : goal.returns-in_err-runs
returns-in_err-runs c =
    let words = c.args.words.now in
    subst (λ r. MatchOption r ((asked : Command) → Named (codes "server") (texts words) asked → ⊥)
    (Named (codes "server") (texts words))) (sym c.from_residual-in_err-runs.ensures)
    (no_loop (texts words) (texts (take (length words - 1) (drop 1 words)))
    (string_bytes c.place-item.result)
    (first_word words c.place-item.result c.in-len1-up.len_at_least c.place-item.is)
    c.in_err-runs.ensures)
