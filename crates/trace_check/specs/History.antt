-- What is kept of the entered calls.
use Rattle.std.specs.Prelude.{◌≡◌, ℕ, true, List, length, map, Contains}
use Rattle.std.specs.Option.{option_map}
use Rattle.harp_types.specs.declared.reply.Reply.{Reply}
use Rattle.harp_types.specs.Update.{is_update}
use Rattle.file_tree.specs.Book.{Entry, last_of, last_stamp, updates}
use Rattle.trace_check.specs.Marks.{mark_at}
use Rattle.trace_check.specs.declared.history.History.{History}
use Rattle.trace_check.specs.declared.history.Kept.{Kept}

abbrev pub kept_of : Entry → Kept
kept_of e = record { client = e.client; number = e.number; reply = e.reply }

-- these calls were entered
pub record IsHistoryOf (history : History) (entries : List Entry) : Type 0 where
  pub entered : history.entered ≡ length entries
  pub updates_kept : history.updates.items ≡ map kept_of (updates entries)
  pub stamp : history.stamp ≡ last_stamp entries
  pub numbers : (client : ℕ) → mark_at history.numbers (client, 0, 0, 0)
      ≡ option_map (λ (e : Entry). e.number) (last_of client entries)

-- an entered update has this client, number, index and reply
pub record HasReply (entries : List Entry) (client number index : ℕ) (reply : Reply) : Type 0 where
  pub entry : Entry
  pub stands : Contains entries entry
  pub updates : is_update entry.call ≡ true
  pub client_is : entry.client ≡ client
  pub number_is : entry.number ≡ number
  pub index_is : entry.index ≡ index
  pub reply_is : entry.reply ≡ reply
