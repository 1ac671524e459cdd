use Rattle.std.proofs.Common.{◌≡◌, ℕ, ◌*◌, length, ◌∙◌, sym, ap, Ok}
use Rattle.file_tree.specs.Tree.{place, slots_of, with_entry, used_blocks}
use Rattle.harp_cells.specs.declared.value.Inode.{Inode}
use Rattle.nfs_calls.specs.declared.parts.totals.Totals.{Totals}
use Rattle.nfs_calls.specs.NewEntries.{entered}
use Rattle.nfs_calls.specs.Space.{replaced_blocks}
use Rattle.nfs_calls.specs.Entries.{link_of}
use Rattle.nfs_calls.proofs.MovesIn.{moved_slot, in_view}
use Rattle.nfs_calls.proofs.MovesAcross.{across_planned, across_full}
use Rattle.nfs_calls.proofs.updates.relocate.move_across.Goals as goal

pub returns-in-Err-clause-plan : goal.returns-in-Err-clause-plan
returns-in-Err-clause-plan c t name totals free two is none =
    let m = c.args.moving.now in
    let s = moved_slot m c.args.to_name in
    let many = 264 * length (with_entry (slots_of (place t.tree m.to_dir)) s) in
    let used : c.from.result ≡ used_blocks t.tree = c.from.ensures
    ∙ ap (λ (n : Totals). n.used) totals in
    across_full t.cells t.tree m name c.args.to_name c.args.now c.in-Err.refusal two is
    (ap (λ (n : ℕ). replaced_blocks n m.to.size many) (sym used)
    ∙ c.in-Err.ensures.step t.tree m.to_dir s is.to free)

pub returns-in_ok-plan_in-in-Ok-clause-plan : goal.returns-in_ok-plan_in-in-Ok-clause-plan
returns-in_ok-plan_in-in-Ok-clause-plan c t name totals free two is none =
    let m = c.args.moving.now in
    let s = moved_slot m c.args.to_name in
    let room = c.in-Ok.ensures.room t.tree m.to_dir is.to free in
    let count = room.slots_are s in
    let used : c.from.result ≡ used_blocks t.tree = c.from.ensures
    ∙ ap (λ (n : Totals). n.used) totals in
    let fits = ap (λ (n : ℕ). replaced_blocks n m.to.size (264 * c.in-Ok.room.slots)) (sym used)
    ∙ ap (λ (n : ℕ). replaced_blocks c.from.result m.to.size (264 * n)) count
    ∙ c.in-Ok.ensures.step t.tree m.to_dir s is.to free in
    let next : c.args.totals.next ≡ length t.tree = ap (λ (n : Totals). n.next) totals in
    let after : Totals = record { next = c.args.totals.next; used = c.in-Ok.room.used } in
    across_planned t.cells t.tree m name c.args.to_name c.args.now c.in-Ok.room.slot
    c.in-Ok.room.slots c.in-Ok.room.used t.sound two is none room.slot count fits
    ∙ ap Ok (sym (c.in_ok-plan_in-in-Ok.ensures.plan
    ∙ ap (λ (to : Inode). in_view m c.in-Ok.room.slot c.args.to_name c.args.now to after)
    (c.entered-to.ensures ∙ ap (λ (l : ℕ). entered m.to c.in-Ok.room.slots l c.args.now)
    c.link_of.ensures)
    ∙ ap (λ (n : ℕ). in_view m c.in-Ok.room.slot c.args.to_name c.args.now
    (entered m.to c.in-Ok.room.slots (link_of m.moved.kind) c.args.now)
    (record { next = n; used = c.in-Ok.room.used })) next))
