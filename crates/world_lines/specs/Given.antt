-- What the outputs of a server's step come to: entries, packets and lines.
use Rattle.std.specs.Prelude.{ℕ, ◌+◌, List, [], ◌∷◌, ◌++◌, length, map, Option, None, Some}
use Rattle.std.specs.List.{flat_map}
use Rattle.file_tree.specs.Book.{Entry}
use Rattle.group_trace.specs.Lines.{entered_lines}
use Rattle.group_trace.specs.Shown.{message_shown}
use Rattle.harp_types.specs.declared.server.ServerId.{ServerId}
use Rattle.world_lines.specs.Lines.{lines_of_listing}
use Rattle.node_outputs.specs.Messages.{heard}
use Rattle.node_outputs.specs.Said.{entered}
use Rattle.node_outputs.specs.declared.outputs.Answered.{Answered}
use Rattle.node_outputs.specs.declared.outputs.Outputs.{Outputs}
use Rattle.node_outputs.specs.declared.outputs.Refused.{Refused}
use Rattle.node_outputs.specs.declared.outputs.Sent.{Sent}
use Rattle.world_lines.specs.Posted.{Posted, posted}
use Rattle.trace_types.specs.declared.line.Line.{Line}
use Rattle.trace_types.specs.declared.line.Line.TheVariants as line
use Rattle.tree_listing.specs.declared.listing.Listing.{Listing}
use Rattle.world_lines.specs.Book.{BookValue, new_updates, with_reads, with_updates}

-- ---- entries

-- a read is entered with the answer that it gets
abbrev pub read_in : Answered → List Entry
read_in a = elim a.asked [
  | None ↦ []
  | Some asked ↦ record {
    index = 0;
    client = a.client;
    number = a.number;
    cred = asked.cred;
    call = asked.call;
    stamp = 0;
    reply = a.reply;
  } ∷ []
]

abbrev pub reads_in : List Answered → List Entry
reads_in answers = flat_map read_in answers

-- the updates that come to a book
abbrev pub updates_in : BookValue → Outputs → List Entry
updates_in b outs = new_updates b.updates (map entered outs.committed.items)

-- the book afterwards
abbrev pub book_given : BookValue → Outputs → BookValue
book_given b outs = with_reads (with_updates b (updates_in b outs)) (reads_in outs.answers.items)

-- ---- answers and refusals

abbrev pub answered_line : ServerId → Answered → Line
answered_line server a = line.Answered server a.client a.number a.index a.reply

abbrev pub answered_lines : ServerId → List Answered → List Line
answered_lines server answers = map (answered_line server) answers

abbrev pub refused_line : ServerId → Refused → Line
refused_line server r = line.Refused server r.client r.number r.cause

abbrev pub refused_lines : ServerId → List Refused → List Line
refused_lines server refusals = map (refused_line server) refusals

-- ---- packets, of the messages between servers

abbrev pub packet_of : ServerId → Sent → List Posted
packet_of from s = elim (heard s.message) [
  | None ↦ []
  | Some m ↦ posted from s.to s.message ∷ []
]

abbrev pub packets_of : ServerId → List Sent → List Posted
packets_of from sends = flat_map (packet_of from) sends

-- the line of one, with n packets before it
abbrev pub sent_line : ServerId → ℕ → Sent → List Line
sent_line from n s = elim (heard s.message) [
  | None ↦ []
  | Some m ↦ line.Sent n from s.to (message_shown m) ∷ []
]

unfoldable pub sent_lines : ServerId → ℕ → List Sent → List Line
sent_lines from n [] = []
sent_lines from n (s ∷ sends) =
    sent_line from n s ++ sent_lines from (n + length (packet_of from s)) sends

-- ---- all

-- the lines of a server's outputs, with this book and so many packets before them
abbrev pub lines_given : ServerId → BookValue → ℕ → Outputs → List Line
lines_given server b packets outs =
    entered_lines (length b.entries) (updates_in b outs ++ reads_in outs.answers.items)
    ++ (answered_lines server outs.answers.items
    ++ (refused_lines server outs.refusals.items
    ++ sent_lines server packets outs.sends.items))

-- the lines of a listing that was asked for
abbrev pub listing_shown : ServerId → Option Listing → List Line
listing_shown server None = line.Unlisted server ∷ []
listing_shown server (Some listing) = lines_of_listing server listing
