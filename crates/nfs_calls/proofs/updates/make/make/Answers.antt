use Rattle.nfs_calls.proofs.RoomLaws.{chained}
use Rattle.nfs_calls.proofs.updates.make.make.Goals as goal

pub returns : goal.returns
returns c =
    chained _ _ _ _ _ _ _ _ _ c.new-changes.ensures.items c.in_ok-put_slot.ensures
    c.in_ok-put_text.ensures c.in_ok-put_object.ensures c.in_ok-put_object-2.ensures
