-- what is written so far, and the text of the rest
use Rattle.std.proofs.Common.{◌≡◌, ◌++◌, drop}
use Rattle.std.specs.List.{flat_map}
use Rattle.text_spelling.specs.Text.{spaced, entry_text}
use Rattle.text_writer.proofs.write_reply.put_entries.Given as goal

abbrev pub invariant-loop-entry : goal.invariant-loop-entry
invariant-loop-entry l =
    l.out.items ++ flat_map (λ e. spaced (entry_text e)) (drop l.entry-index l.entries)
    ≡ l.fn.out.items ++ flat_map (λ e. spaced (entry_text e)) l.entries
