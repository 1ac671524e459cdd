use Rattle.std.proofs.Common.{◌≡◌, ◌+◌, ◌-◌, ℕ, List, [], ◌∷◌, drop, sym, subst, arith}
use Rattle.std.proofs.lemmas.List.{take_rest}
use Rattle.harp_cells.specs.declared.change.Change.{Change}
use Rattle.overlay.specs.Overlay.{IsToldBy, Leaves, Sets, value_of}
use Rattle.overlay.proofs.Walks.{told_from}
use Rattle.overlay.proofs.set.from_last.Goals as goal

pub returns-then-sets : goal.returns-then-sets
returns-then-sets c =
    let changes = c.args.changes.now in
    let cell = c.args.cell in
    let at = c.loop-at.at - 1 in
    let more = c.loop-at-test.true in
    let within = c.loop-at.invariant.within in
    let next : c.loop-at.at ≡ c.loop-at.at - 1 + 1 = omega (arith, more) in
    subst (λ (l : List Change). IsToldBy cell changes l) (sym (take_rest changes at))
    (told_from cell changes at c.index-changes-at.result (omega (arith, more, within))
    (subst (λ (x : Change). Sets cell (x ∷ []) (value_of x)) c.index-changes-at.is
    (c.sets.ensures.sets c.if-sets.true))
    (subst (λ (n : ℕ). Leaves cell (drop n changes)) next c.loop-at.invariant.leave))
