use Rattle.cell_changes.proofs.Leads.{updates_lead, others_stay}
use Rattle.cell_changes.proofs.laws.update_laws.Goals as goal

pub returns : goal.returns
returns c = record { lead = updates_lead; others = others_stay }
