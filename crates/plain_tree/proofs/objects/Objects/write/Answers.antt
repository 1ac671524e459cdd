use Rattle.std.proofs.Common.{◌≡◌, ◌+◌, ◌≤◌, length, true, arith, refl, sym, ap, subst}
use Rattle.file_tree.specs.Tree.{Tree, place, blocks_at, blocks_of, used_blocks}
use Rattle.file_tree.specs.Within.{IsWithinLimits}
use Rattle.file_tree.specs.Outcome.{is_regular_at, rewritten, written}
use Rattle.plain_tree.specs.Counts.{bytes_of}
use Rattle.plain_tree.proofs.CountLaws.{counts_bytes, kept_bytes}
use Rattle.plain_tree.proofs.objects.Objects.write.Goals as goal

pub invariant_of-self-2 : goal.invariant_of-self-2
invariant_of-self-2 c =
    let items = c.self.inside.items.items in
    let new = written (bytes_of (place items c.args.handle)) c.args.offset c.args.bytes.now in
    let size = subst (λ (t : Tree). c.args.size
    ≡ length (written (bytes_of (place t c.args.handle)) c.args.offset c.args.bytes.now))
    (sym c.self.view_is) c.requires.size in
    rw c.in_ok-write_at.ensures.ok (counts_bytes items c.self.inside.used c.self.inside.names.items
    c.args.handle (rewritten c.args.now new) new c.exchanged-used.result c.self.invariant
    (subst (λ (t : Tree). is_regular_at (place t c.args.handle) ≡ true) (sym c.self.view_is)
    c.requires.file) (λ o. refl)
    (omega (
      arith,
      size,
      c.exchanged-used.ensures,
      c.blocks_in-before.ensures.value,
      ap (λ (t : Tree). blocks_at (place t c.args.handle)) c.as_slice.ensures.value,
      c.blocks_of.ensures,
    )))

pub returns-clause-kept : goal.returns-clause-kept
returns-clause-kept c =
    let items = c.self.inside.items.items in
    let new = written (bytes_of (place items c.args.handle)) c.args.offset c.args.bytes.now in
    let size = subst (λ (t : Tree). c.args.size
    ≡ length (written (bytes_of (place t c.args.handle)) c.args.offset c.args.bytes.now))
    (sym c.self.view_is) c.requires.size in
    let room = subst (λ (t : Tree). used_blocks t + blocks_of c.args.size
    ≤ 65536 + blocks_at (place t c.args.handle)) (sym c.self.view_is) c.requires.room in
    rw c.in_ok-write_at.ensures.ok (kept_bytes items c.args.handle (rewritten c.args.now new) new
    (subst IsWithinLimits (sym c.self.view_is) c.requires.tree)
    (subst (λ (t : Tree). is_regular_at (place t c.args.handle) ≡ true) (sym c.self.view_is)
    c.requires.file) (λ o. refl) (omega (arith, size, room)))
