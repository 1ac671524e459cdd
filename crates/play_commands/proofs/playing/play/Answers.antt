use Rattle.std.proofs.Common.{ap, inl, inr, ◌∙◌}
use Rattle.play_commands.specs.Play.{exit_of_play}
use Rattle.play_commands.proofs.playing.play.Goals as goal

pub returns-clause-complete : goal.returns-clause-complete
returns-clause-complete g c = λ text told source sink.
    elim (c.play.ensures.complete text told source sink) [
      | inl e ↦ inl (c.from.ensures ∙ ap exit_of_play e)
      | inr e ↦ inr (c.from.ensures ∙ ap exit_of_play e)
    ]
