use Rattle.std.proofs.Common.{◌≡◌, ◌++◌, drop}
use Rattle.harp_base.specs.Fields.{many_bytes, AllFit}
use Rattle.harp_base.specs.Replies.{entry_bytes, EntryFits}
use Rattle.harp_base.proofs.reply_writing.put_each.Given as goal

abbrev pub invariant-loop-entry : goal.invariant-loop-entry
invariant-loop-entry l = record {
  value : l.out.items ++ many_bytes entry_bytes (drop l.entry-index l.entries) ≡ l.initial.out.items
      ++ many_bytes entry_bytes l.entries;
  fits : AllFit EntryFits (drop l.entry-index l.entries) → AllFit EntryFits l.entries;
}
