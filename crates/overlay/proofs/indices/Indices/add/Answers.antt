use Rattle.std.proofs.Common.{sym, subst}
use Rattle.overlay.specs.Indices.{Ascend}
use Rattle.overlay.proofs.Ascending.{IsEnd, below_next, end_by, first_pushed, push_ascends}
use Rattle.overlay.proofs.indices.Indices.add.Goals as goal
use Rattle.overlay.proofs.indices.Indices.add.Goals.{in_default-via-in-Some+else-index-last, in_default-via-in_default}

pub invariant_of-self-in_default : goal.invariant_of-self-in_default
invariant_of-self-in_default c = subst Ascend (sym c.in_ok-push_back-in_default.ensures.items)
    (elim c.in_default.branch [
      | in_default-via-in-Some+else-index-last w ↦
          let items = c.self.inside.items.items in
          let last = w.in-Some.last.now in
          let there = w.in-Some.ensures.item.3 in
          let end : IsEnd items last = end_by items last c.self.inside.items.len c.self.inside.items.ok.0 there.0 there.1 in
          rw w.self-inside-is (push_ascends items c.args.index c.self.invariant
          (below_next items last c.args.index c.self.invariant end w.if-index-last.false))
      | in_default-via-in_default w ↦
          rw w.self-inside-is (first_pushed c.self.inside.items.items c.args.index w.in_default.ensures.item.3)
    ])
