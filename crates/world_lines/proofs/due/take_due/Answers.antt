use Rattle.std.proofs.Common.{◌≡◌, Some, refl, sym, subst, true, false, ◌∙◌}
use Rattle.std.specs.Prelude.{eqb}
use Rattle.std.specs.Option.{option_eq}
use Rattle.world_lines.specs.Kept.{AreFirst, Ways, way}
use Rattle.world_lines.proofs.Ways.{moved, stood}
use Rattle.world_lines.proofs.due.take_due.Goals as goal

pub returns-then-eq : goal.returns-then-eq
returns-then-eq c ps is first =
    let q = c.index-kept-n.result in
    let due = c.args.due.now in
    let was : option_eq eqb (way due q.packet.from q.packet.to) (Some c.args.n) ≡ true =
    rw (← c.from-from.ensures, ← c.to-to.ensures, ← c.get.ensures, ← c.get-2.ensures)
    (sym c.eq.ensures ∙ c.if-eq.true) in
    subst (λ (w : Ways). AreFirst c.args.kept.now w)
    (sym (c.set_way.ensures
    ∙ rw (c.first_after.ensures, c.from-from.ensures, c.to-to.ensures) refl))
    (moved ps c.args.kept.now due c.args.n q is first c.requires c.index-kept-n.is was)

pub returns : goal.returns
returns c ps is first =
    let q = c.index-kept-n.result in
    let due = c.args.due.now in
    let was : option_eq eqb (way due q.packet.from q.packet.to) (Some c.args.n) ≡ false =
    rw (← c.from-from.ensures, ← c.to-to.ensures, ← c.get.ensures, ← c.get-2.ensures)
    (sym c.eq.ensures ∙ c.if-eq.false) in
    stood ps c.args.kept.now due c.args.n q is first c.requires c.index-kept-n.is was
