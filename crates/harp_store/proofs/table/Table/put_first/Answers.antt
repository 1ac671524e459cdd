use Rattle.std.proofs.Common.{None, Some}
use Rattle.harp_store.proofs.Keys.{placed}
use Rattle.harp_store.proofs.table.Table.put_first.Goals as goal

pub returns-clause-put : goal.returns-clause-put
returns-clause-put c =
    rw (← c.self.view_is) (placed c.self.inside.entries.entries c.insert.new.self.entries
    c.args.cell c.key.result (record { base = None; latest = Some (Some c.args.value) })
    c.key.ensures c.in_ok-insert.ensures.updates.0)
