use Rattle.std.proofs.Common.{ap, sym, ◌∙◌, arith, length-take, length-drop}
use Rattle.harp_types.proofs.Grown.{left_after, nothing_left}
use Rattle.harp_types.proofs.memory.MemSourceSource.read.Goals as goal

pub returns-clause-taken : goal.returns-clause-taken
returns-clause-taken c =
    let is = ap (λ v. v.left) c.self.view_is in
    let value = c.deref.ensures.value in
    let front = rw value at c.copy_front-n.ensures.front in
    let count = simp (value, length-take, length-drop) at c.copy_front-n.ensures.count in (
      sym is ∙ left_after _ _ _ _ front,
      λ none some. sym is ∙ nothing_left _
          (omega (arith, none, some, count, length-drop c.self.inside.at c.self.inside.bytes.items)),
    )
