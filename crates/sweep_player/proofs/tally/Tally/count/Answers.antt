use Rattle.std.proofs.Common.{◌+◌, ◌∙◌, ap, refl}
use Rattle.sweep_player.specs.Counts.{one_if}
use Rattle.sweep_player.proofs.TallyLaws.{tally-push}
use Rattle.sweep_player.proofs.tally.Tally.count.Goals as goal

pub returns : goal.returns
returns c = λ trace h.
    let old = c.args.self.now in
    rw c.keep.ensures
    (tally-push trace old _ c.args.line.now (record {
      entered = c.in_ok-self.ensures
          ∙ ap (λ b. old.summary.entered + one_if b) c.is_entered.ensures;
      answered = c.in_ok-self-2.ensures
          ∙ ap (λ b. old.summary.answered + one_if b) c.is_answered.ensures;
      refused = c.in_ok-self-3.ensures
          ∙ ap (λ b. old.summary.refused + one_if b) c.is_refused.ensures;
      opened = c.in_ok-self-4.ensures
          ∙ ap (λ b. old.summary.opened + one_if b) c.opens-opens.ensures;
      stands_open = refl;
    }) h)
