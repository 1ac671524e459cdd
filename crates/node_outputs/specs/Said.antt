-- What calls give to others, and what the moves of a step say.
use Rattle.std.specs.Prelude.{ℕ, List, [], ◌∷◌, map, Option, None, Some, option_map, if◌then◌else◌}
use Rattle.std.specs.List.{flat_map}
use Rattle.harp_types.specs.declared.peer.Peer.{Peer}
use Rattle.file_tree.specs.Book.{Entry}
use Rattle.group_rules.specs.Moves.{Appending, Choosing, Move, Opening, Saying, act}
use Rattle.group_rules.specs.Names.{number_of_view, place_of}
use Rattle.group_rules.specs.Places.{Place}
use Rattle.group_rules.specs.Said.{Answer, Refusal, answers_said, refusals_said}
use Rattle.group_rules.specs.Shown.{cause_of}
use Rattle.group_rules.specs.State.{Answers, Lists, Message, Refuses, Say, Server}
use Rattle.harp_types.specs.declared.book.BookEntry.{BookEntry}
use Rattle.tree_listing.specs.declared.listing.Listing.{Listing}
use Rattle.node_outputs.specs.Messages.{heard}
use Rattle.node_outputs.specs.declared.outputs.Answered.{Answered}
use Rattle.node_outputs.specs.declared.outputs.Chosen.{Chosen}
use Rattle.node_outputs.specs.declared.outputs.Outputs.{Outputs}
use Rattle.node_outputs.specs.declared.outputs.Refused.{Refused}
use Rattle.node_outputs.specs.declared.outputs.Sent.{Sent}

-- What calls gave so far: the entries that came within CP at an open leader, answers, refusals and
-- messages, each in their order; the view that was opened last, the one that was chosen last with
-- the one that it starts from, and the CP of the last listing
pub record Said : Type 0 where
  pub committed : List Entry
  pub answers : List Answered
  pub refusals : List Refused
  pub sends : List (Place × Option (Message Entry))
  pub opened : Option ℕ
  pub chosen : Option (ℕ × ℕ)
  pub listed : Option ℕ

abbrev pub nothing : Said
nothing = record {
  committed = [];
  answers = [];
  refusals = [];
  sends = [];
  opened = None;
  chosen = None;
  listed = None;
}

abbrev pub entered : BookEntry → Entry
entered e = record {
  index = e.index;
  client = e.client;
  number = e.number;
  cred = e.cred;
  call = e.call;
  stamp = e.stamp;
  reply = e.reply;
}

abbrev pub sent : Sent → Place × Option (Message Entry)
sent s = (place_of s.to, heard s.message)

abbrev pub chosen_from : Chosen → ℕ × ℕ
chosen_from c = (number_of_view c.view, number_of_view c.from)

abbrev pub said : Outputs → Said
said o = record {
  committed = map entered o.committed.items;
  answers = o.answers.items;
  refusals = o.refusals.items;
  sends = map sent o.sends.items;
  opened = option_map number_of_view o.opened;
  chosen = option_map chosen_from o.chosen;
  listed = option_map (λ (l : Listing). l.cp) o.listing;
}

-- ---- answers and refusals

-- what is said goes to the peers in turn
abbrev pub in_turn : {A B : Type 0} → (Peer → A → B) → List A → List Peer → List B
in_turn say [] peers = []
in_turn say (x ∷ xs) [] = []
in_turn say (x ∷ xs) (peer ∷ peers) = say peer x ∷ in_turn say xs peers

abbrev pub answered : Peer → Answer → Answered
answered peer a = record {
  peer = peer;
  client = a.entry.client;
  number = a.entry.number;
  index = a.index;
  reply = a.entry.reply;
  asked = if a.reads then Some (record { cred = a.entry.cred; call = a.entry.call }) else None;
}

abbrev pub answers_of : List (Move Entry) → List Peer → List Answered
answers_of ms peers = in_turn answered (answers_said ms) peers

abbrev pub refused : Peer → Refusal → Refused
refused peer r = record {
  peer = peer;
  client = r.client;
  number = r.number;
  cause = cause_of r.cause;
}

abbrev pub refusals_of : List (Move Entry) → List Peer → List Refused
refusals_of ms peers = in_turn refused (refusals_said ms) peers

-- who waits for the commit of what a move appends
abbrev pub waits_by : Peer → Move Entry → List Peer
waits_by peer (Appending e) = peer ∷ []
waits_by peer m = []

abbrev pub waits_of : Peer → List (Move Entry) → List Peer
waits_of peer ms = flat_map (waits_by peer) ms

-- ---- what is told of the last one alone

-- a leader opens its accepted view
abbrev pub opened_by : Server Entry → Move Entry → Option ℕ → Option ℕ
opened_by s (Opening lb) before = Some s.accepted
opened_by s m before = before

abbrev pub opened_of : Place → ℕ → Server Entry → List (Move Entry) → Option ℕ → Option ℕ
opened_of q clock s [] before = before
opened_of q clock s (m ∷ ms) before = opened_of q clock (act q clock s m) ms (opened_by s m before)

-- a coordinator chooses its promised view
abbrev pub chosen_by : Server Entry → Move Entry → Option (ℕ × ℕ) → Option (ℕ × ℕ)
chosen_by s (Choosing plan from) before = Some (s.promised, from)
chosen_by s m before = before

abbrev pub chosen_of : Place → ℕ → Server Entry → List (Move Entry) → Option (ℕ × ℕ) → Option (ℕ
    × ℕ)
chosen_of q clock s [] before = before
chosen_of q clock s (m ∷ ms) before = chosen_of q clock (act q clock s m) ms (chosen_by s m before)

abbrev pub listed_say : Say Entry → Option ℕ → Option ℕ
listed_say (Answers index e) before = before
listed_say (Refuses client number cause) before = before
listed_say (Lists n) before = Some n

abbrev pub listed_by : Move Entry → Option ℕ → Option ℕ
listed_by (Saying say) before = listed_say say before
listed_by m before = before

abbrev pub listed_of : List (Move Entry) → Option ℕ → Option ℕ
listed_of [] before = before
listed_of (m ∷ ms) before = listed_of ms (listed_by m before)
