use Rattle.std.proofs.Common.{◌≡◌, true, rules, sym, ap, ◌∙◌}
use Rattle.audit.specs.Named.{is_own, names}
use Rattle.audit.proofs.NamedReads.{names_is, reads_named}
use Rattle.audit.proofs.named.NamedCellRead.fetch.Goals as goal

pub returns-clause-found : goal.returns-clause-found
returns-clause-found g c =
    let objects = c.args.self.now.objects.now in
    let cell = c.args.cell in
    let asked : c.names.result ≡ true = search rules in
    let named : names objects cell ≡ true =
    sym (names_is objects cell c.names.result c.args.self.now.order c.names.ensures) ∙ asked in
    reads_named (g.R.CellRead.cells c.args.self.now.under.now) objects cell
    (g.R.CellRead.found c.fetch.new.self) c.is_own-self.result named
    c.in_ok-fetch.ensures.found (c.is_own-self.ensures ∙ ap (is_own cell) c.value.ensures)
