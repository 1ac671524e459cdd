use Rattle.std.proofs.Common.{ap, ◌∙◌}
use Rattle.store_folder.specs.Unsynced.{Pending, is_touched}
use Rattle.store_folder.proofs.KeyLaws.{found_at}
use Rattle.store_folder.proofs.unsynced.Unsynced.is_touched.Goals as goal

pub returns : goal.returns
returns c =
    c.contains_key.ensures
    ∙ found_at c.self.inside.touched.entries c.args.cell c.key.result c.key.ensures
    ∙ ap (λ (p : Pending). is_touched p.touched c.args.cell) c.self.view_is
