-- What the moves of a step say: messages, answers and refusals, and the entries that come into
-- the book.
use Rattle.std.specs.Prelude.{ℕ, ◌-◌, Bool, true, false, List, [], ◌∷◌, ◌++◌, take, drop}
use Rattle.std.specs.List.{flat_map}
use Rattle.file_tree.specs.Book.{Entry}
use Rattle.group_rules.specs.Moves.{Committing, Move, Opening, Reading, Saying, Sending, act}
use Rattle.group_rules.specs.Places.{Place}
use Rattle.group_rules.specs.State.{Answers, Cause, Lists, Message, Refuses, Say, Server}

-- ---- messages, each with whom it is for

abbrev pub sent_by : Move Entry → List (Place × Message Entry)
sent_by (Sending to m) = (to, m) ∷ []
sent_by m = []

abbrev pub sends_said : List (Move Entry) → List (Place × Message Entry)
sends_said ms = flat_map sent_by ms

-- ---- answers

-- an answer: the index that it names, the entry that is answered, and whether it is a read
pub record Answer : Type 0 where
  pub index : ℕ
  pub entry : Entry
  pub reads : Bool

abbrev pub answered_say : Say Entry → List Answer
answered_say (Answers index e) = record { index = index; entry = e; reads = false } ∷ []
answered_say (Refuses client number cause) = []
answered_say (Lists n) = []

abbrev pub answered_by : Move Entry → List Answer
answered_by (Saying say) = answered_say say
answered_by (Reading index e) = record { index = index; entry = e; reads = true } ∷ []
answered_by m = []

abbrev pub answers_said : List (Move Entry) → List Answer
answers_said ms = flat_map answered_by ms

-- ---- refusals

pub record Refusal : Type 0 where
  pub client : ℕ
  pub number : ℕ
  pub cause : Cause

abbrev pub refused_say : Say Entry → List Refusal
refused_say (Answers index e) = []
refused_say (Refuses client number cause) = record {
  client = client;
  number = number;
  cause = cause;
} ∷ []
refused_say (Lists n) = []

abbrev pub refused_by : Move Entry → List Refusal
refused_by (Saying say) = refused_say say
refused_by m = []

abbrev pub refusals_said : List (Move Entry) → List Refusal
refusals_said ms = flat_map refused_by ms

-- ---- the book

-- the entries above CP that a move of a leader commits
abbrev pub committed_by : Server Entry → Move Entry → List Entry
committed_by s (Committing n) = take (n - s.cp) (drop (s.cp - s.base) s.items)
committed_by s (Opening lb) = drop (s.cp - s.base) s.items
committed_by s m = []

abbrev pub committed_of : Place → ℕ → Server Entry → List (Move Entry) → List Entry
committed_of q clock s [] = []
committed_of q clock s (m ∷ ms) = committed_by s m ++ committed_of q clock (act q clock s m) ms

-- a read's entry; it has no index and no stamp
abbrev pub read_by : Move Entry → List Entry
read_by (Reading n e) = record e { index = 0; stamp = 0 } ∷ []
read_by m = []

abbrev pub reads_said : List (Move Entry) → List Entry
reads_said ms = flat_map read_by ms
