use Rattle.std.proofs.Common.{refl, sym, ◌∙◌}
use Rattle.store_folder.proofs.BringLaws.{not_some, nothing_up, one_up, stale_up}
use Rattle.store_folder.proofs.journal.bring_up_one.Goals as goal

pub returns-in_default : goal.returns-in_default
returns-in_default g c =
    nothing_up 1 c.args.folder.now c.args.waiting.now c.args.waiting.now
    (g.F.DiskFiles.told c.args.files.now) (g.F.DiskFiles.told c.args.files.now) (λ d. refl) refl

pub returns-in_err-value : goal.returns-in_err-value
returns-in_err-value g c =
    nothing_up 1 c.args.folder.now c.args.waiting.now c.args.waiting.now
    (g.F.DiskFiles.told c.args.files.now) (g.F.DiskFiles.told c.args.files.now) (λ d. refl) refl

pub returns-in_default-2 : goal.returns-in_default-2
returns-in_default-2 g c =
    stale_up c.args.folder.now c.args.waiting.now c.settle.new.self
    (g.F.DiskFiles.told c.args.files.now) (g.F.DiskFiles.told c.args.files.now) c.in-Some.cell
    (sym c.in_ok-value.ensures ∙ not_some c.in_ok-value.field-0 c.in_default-2.not-Some)
    c.settle.ensures refl

pub returns-in_err-write_cell : goal.returns-in_err-write_cell
returns-in_err-write_cell g c =
    nothing_up 1 c.args.folder.now c.args.waiting.now c.args.waiting.now
    (g.F.DiskFiles.told c.args.files.now) (g.F.DiskFiles.told c.write_cell.new.files) (λ d. refl)
    c.in_err-write_cell.ensures.kept

pub returns : goal.returns
returns g c =
    one_up c.args.folder.now c.args.waiting.now c.settle-2.new.self
    (g.F.DiskFiles.told c.args.files.now) (g.F.DiskFiles.told c.write_cell.new.files) c.in-Some.cell
    c.in-Some-2.value (sym c.in_ok-value.ensures ∙ c.in-Some-2.is) c.settle-2.ensures
    c.in_ok-write_cell.ensures.written
