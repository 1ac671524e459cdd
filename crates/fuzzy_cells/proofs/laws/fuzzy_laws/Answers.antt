use Rattle.fuzzy_cells.proofs.Alike.{alike_stand}
use Rattle.fuzzy_cells.proofs.Fuzzy.{applies_on, each_moment, gives_exactly, is_prolonged, is_wider, left_is_between}
use Rattle.fuzzy_cells.proofs.laws.fuzzy_laws.Goals as goal

pub returns : goal.returns
returns c = record {
  applied = applies_on;
  exact = gives_exactly;
  moments = each_moment;
  left =
      left_is_between;
  wider = is_wider;
  prolonged = is_prolonged;
  stand = alike_stand;
}
