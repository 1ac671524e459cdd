use Rattle.view_form.proofs.Choices.{chooses_so}
use Rattle.view_form.proofs.Unique.{chooses_none, none_so, some_so}
use Rattle.view_form.proofs.laws.choices_are_right.Goals as goal

pub returns : goal.returns
returns c = record { some = chooses_so; only = some_so; none = chooses_none; only_none = none_so }
