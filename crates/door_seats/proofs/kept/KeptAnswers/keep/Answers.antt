use Rattle.std.proofs.Common.{◌∙◌, ap}
use Rattle.door_seats.specs.Kept.{with_answer}
use Rattle.door_seats.proofs.KeptLaws.{put}
use Rattle.door_seats.proofs.kept.KeptAnswers.keep.Goals as goal

pub returns-in-Ok-clause-ok : goal.returns-in-Ok-clause-ok
returns-in-Ok-clause-ok c =
    ap (λ x. x.entries) c.in-Ok.ensures.entries
    ∙ put c.self.inside.answers c.args.request c.args.answer c.self.invariant
    ∙ ap (with_answer c.args.request c.args.answer) c.self.view_is
