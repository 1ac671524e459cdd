-- The lines that one step writes beside its event line.
use Rattle.std.specs.Prelude.{ℕ, ◌+◌, List, [], ◌∷◌, ◌++◌, length, map, take, drop, Option, Some, None, if◌then◌else◌}
use Rattle.harp_types.specs.declared.state.StateLine.{StateLine}
use Rattle.trace_types.specs.declared.step.Step.{Step}
use Rattle.trace_types.specs.declared.step.Step.TheVariants as step
use Rattle.trace_types.specs.declared.line.Line.{Line}
use Rattle.trace_types.specs.declared.line.Line.TheVariants as line
use Rattle.trace_claims.specs.Listing.{living, tree_lines}
use Rattle.file_tree.specs.Book.{Entry, tree_after}
use Rattle.file_tree.specs.Tree.{Tree}
use Rattle.group_rules.specs.Disk.{settled_tests}
use Rattle.group_rules.specs.Moves.{Move}
use Rattle.group_rules.specs.Names.{id_of, place_of}
use Rattle.group_rules.specs.Places.{Place, all_of}
use Rattle.group_rules.specs.Said.{Answer, Refusal, answers_said, refusals_said, sends_said}
use Rattle.group_rules.specs.Shown.{cause_of}
use Rattle.group_rules.specs.State.{Group, Message}
use Rattle.group_rules.specs.Step.{list_of}
use Rattle.group_trace.specs.Shown.{message_shown, same_shown, shown_of}

-- ---- the book

-- the line of an entry at a place of the book
abbrev pub entered_line : ℕ → Entry → Line
entered_line place e = line.Entered place (record {
  index = e.index;
  client = e.client;
  number = e.number;
  cred = e.cred;
  stamp = e.stamp;
  call = e.call;
  reply = e.reply;
})

-- entries of the book, the first with n before it
unfoldable pub entered_lines : ℕ → List Entry → List Line
entered_lines n [] = []
entered_lines n (e ∷ es) = entered_line (n + 1) e ∷ entered_lines (n + 1) es

-- ---- what the moves of a server say

-- the line of an answer
abbrev pub answered_line : Place → Answer → Line
answered_line q a = line.Answered (id_of q) a.entry.client a.entry.number a.index a.entry.reply

-- the answers of moves, in their order
abbrev pub answered_lines : Place → List (Move Entry) → List Line
answered_lines q ms = map (answered_line q) (answers_said ms)

-- the line of a refusal
abbrev pub refused_line : Place → Refusal → Line
refused_line q r = line.Refused (id_of q) r.client r.number (cause_of r.cause)

-- the refusals of moves, in their order
abbrev pub refused_lines : Place → List (Move Entry) → List Line
refused_lines q ms = map (refused_line q) (refusals_said ms)

-- the line of packet n
abbrev pub sent_line : ℕ → Place → Place → Message Entry → Line
sent_line n q to m = line.Sent n (id_of q) (id_of to) (message_shown m)

-- the lines of packets, the first with n before it
unfoldable pub packet_lines : ℕ → Place → List (Place × Message Entry) → List Line
packet_lines n q [] = []
packet_lines n q (x ∷ xs) = sent_line n q x.0 x.1 ∷ packet_lines (n + 1) q xs

-- the packets that moves send, the first with n before it
abbrev pub sent_lines : ℕ → Place → List (Move Entry) → List Line
sent_lines n q ms = packet_lines n q (sends_said ms)

-- a server's state, or that it is down
abbrev pub state_line : Place → Option StateLine → Line
state_line q (Some state) = line.State (id_of q) state
state_line q None = line.Down (id_of q)

-- a state line where the server has another state than before
abbrev pub state_lines : Place → Option StateLine → Option StateLine → List Line
state_lines q before now = if same_shown before now then [] else state_line q now ∷ []

-- ---- listings

-- the listing of a tree at CP
abbrev pub listed_lines : Place → ℕ → Tree → List Line
listed_lines q cp tree = line.Listed (id_of q) cp (living tree) ∷ tree_lines tree

-- a settled data server lists the tree at CP, another one nothing
abbrev pub list_lines : Group Entry → Place → List Line
list_lines g q = if all_of (settled_tests q (g.server q))
    then listed_lines q (g.server q).cp (tree_after (take (g.server q).cp (list_of g q)))
    else line.Unlisted (id_of q) ∷ []

-- the listing that a step writes
abbrev pub listing_of : Group Entry → Step → List Line
listing_of g (step.List server) = list_lines g (place_of server)
listing_of g s = []

-- the lines of a server's moves that lead from a group to another: what came to the book, answers,
-- refusals, packets, the server's state, and a listing
abbrev pub lines_of_moves : Group Entry → Group Entry → Place → List (Move Entry) → List Line
    → List Line
lines_of_moves g g' q ms listing =
    entered_lines (length g.book) (drop (length g.book) g'.book)
    ++ (answered_lines q ms ++ (refused_lines q ms
    ++ (sent_lines (length g.packets) q ms
    ++ (state_lines q (shown_of (g.server q)) (shown_of (g'.server q)) ++ listing))))
