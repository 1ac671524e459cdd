use Rattle.std.proofs.Common.{◌≡◌, ◌+◌, max, rules, sym, ◌∙◌}
use Rattle.nfs_calls.proofs.Entered.{slots_grow}
use Rattle.nfs_calls.proofs.parts.new_entry.room_at.Goals as goal

pub returns-in_err-used-clause-step : goal.returns-in_err-used-clause-step
returns-in_err-used-clause-step c tree dir s is free =
    let many : c.max-slots.result ≡ max c.args.inode.now.slots (c.args.slot + 1) = cc in
    let grown =
    slots_grow tree dir c.args.inode.now c.args.slot c.max-slots.result s is free many in
    rw (sym grown) (search rules)

pub returns-clause-step : goal.returns-clause-step
returns-clause-step c tree dir s is free =
    let many : c.max-slots.result ≡ max c.args.inode.now.slots (c.args.slot + 1) = cc in
    let grown =
    slots_grow tree dir c.args.inode.now c.args.slot c.max-slots.result s is free many in
    rw (sym grown) (sym c.replaced.ensures ∙ c.in_ok-used.was)

pub returns-clause-room : goal.returns-clause-room
returns-clause-room c tree dir is free =
    let many : c.max-slots.result ≡ max c.args.inode.now.slots (c.args.slot + 1) = cc in
    record {
      slot = free;
      slots_are = λ s.
          slots_grow tree dir c.args.inode.now c.args.slot c.max-slots.result s is free many;
    }
