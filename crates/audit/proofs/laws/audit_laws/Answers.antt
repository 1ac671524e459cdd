use Rattle.audit.proofs.Back.{sound_where_nothing_is_found}
use Rattle.audit.proofs.NamedLaw.{named_law}
use Rattle.audit.proofs.Rescued.{nothing_found_in_a_tree, standing_named, well_cells_stand_for_one}
use Rattle.audit.proofs.laws.audit_laws.Goals as goal

pub returns : goal.returns
returns c = record {
  sound = sound_where_nothing_is_found;
  nothing = nothing_found_in_a_tree;
  whole = standing_named;
  one = well_cells_stand_for_one;
  named = named_law;
}
