-- the words so far, and then those that are left, are all
use Rattle.std.proofs.Common.{◌≡◌, ◌≤◌, ◌-◌, length}
use Rattle.harp_base.specs.Fields.{many_at, u32_at}
use Rattle.harp_base.proofs.ListLaws.{after_fields}
use Rattle.nfs_door.proofs.credential.each_at.Given as goal

abbrev pub invariant-loop : goal.invariant-loop
invariant-loop l = record {
  within : l.at ≤ length l.bytes;
  step : many_at u32_at l.count l.bytes l.fn.from
      ≡ after_fields l.words.items (many_at u32_at (l.count - l.counter) l.bytes l.at);
}
