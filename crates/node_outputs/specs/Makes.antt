-- A call makes moves of the group's machine.
use Rattle.std.specs.Prelude.{◌≡◌, ℕ, List, [], ◌++◌, map}
use Rattle.harp_types.specs.declared.peer.Peer.{Peer}
use Rattle.file_tree.specs.Book.{Entry}
use Rattle.group_rules.specs.Moves.{Move, acts}
use Rattle.group_rules.specs.Places.{Place}
use Rattle.group_rules.specs.Said.{answers_said, committed_of, refusals_said, sends_said}
use Rattle.group_rules.specs.State.{Server}
use Rattle.node_outputs.specs.Messages.{as_heard}
use Rattle.node_outputs.specs.Said.{Said, answers_of, chosen_of, listed_of, opened_of, refusals_of, said}
use Rattle.node_outputs.specs.declared.outputs.Outputs.{Outputs}

-- what was said, and then by these moves of a server. Answers and refusals go to these peers in
-- turn
abbrev pub with_moves : Place → ℕ → Server Entry → List (Move Entry) → List Peer → Said → Said
with_moves q clock s ms peers before = record {
  committed = before.committed ++ committed_of q clock s ms;
  answers = before.answers ++ answers_of ms peers;
  refusals = before.refusals ++ refusals_of ms peers;
  sends = before.sends ++ map as_heard (sends_said ms);
  opened = opened_of q clock s ms before.opened;
  chosen = chosen_of q clock s ms before.chosen;
  listed = listed_of ms before.listed;
}

-- A call made these moves: the server is the one after them, and the outputs grew by just what
-- they say
pub record Makes (q : Place) (clock : ℕ) (ms : List (Move Entry)) (peers : List Peer)
    (old new : Server Entry)
    (before after : Outputs) : Type 0 where
  pub state : new ≡ acts q clock old ms
  pub said : said after ≡ with_moves q clock old ms peers (said before)

-- nobody is answered or refused
pub record IsMute (ms : List (Move Entry)) : Type 0 where
  pub answers : answers_said ms ≡ []
  pub refusals : refusals_said ms ≡ []

-- two calls make the moves of both, where the second one answers and refuses nobody
abbrev pub MakesThen : Type 0
MakesThen = (q : Place) (clock : ℕ) (ms ns : List (Move Entry)) (peers others : List Peer)
    (old mid new : Server Entry)
    (before between after : Outputs) → Makes q clock ms peers old mid before between
    → Makes q clock ns others mid new between after → IsMute ns
    → Makes q clock (ms ++ ns) peers old new before after
