-- The answer to an ask, and appending.
use Rattle.std.specs.Prelude.{ℕ, ◌+◌, ◌||◌, ◌==◌, nat_lt, nat_le, List, [], ◌∷◌, length, take, Option, None, Some, max, if◌then◌else◌}
use Rattle.harp_types.specs.Limits.{last_client}
use Rattle.harp_types.specs.declared.call.Call.{Call}
use Rattle.harp_types.specs.declared.cred.Cred.{Cred}
use Rattle.file_tree.specs.Calls.{outcome}
use Rattle.harp_types.specs.Update.{is_update}
use Rattle.file_tree.specs.Book.{Entry, tree_after, last_of, last_stamp}
use Rattle.group_rules.specs.Limits.{is_active, is_open, limit, room}
use Rattle.group_rules.specs.Moves.{Appending, Move, Reading, Saying, Sending}
use Rattle.group_rules.specs.Places.{Place, all_of, leader, number, partner, same}
use Rattle.group_rules.specs.State.{Answers, BadClient, Cause, Event, Follows, Leads, LogFull, NoPromise, NotLeader, NotYetOpen, Old, Outside, Refuses, Role, Server, top}

-- the leader of the accepted view, where the server is one of its storers
abbrev pub hint_of : Place → Role → Option Place
hint_of q (Leads p) = Some q
hint_of q (Follows p) = Some p
hint_of q Outside = None

-- Appending: the stamp is the larger of the clock and the last one, the reply is the outcome on the tree at top
abbrev pub new_entry : ℕ → List Entry → ℕ → ℕ → Cred → Call → Entry
new_entry clock list client number cred c = record {
  index = length list + 1;
  client = client;
  number = number;
  cred = cred;
  call = c;
  stamp = max clock (last_stamp list);
  reply = (outcome (tree_after list) cred c (max clock (last_stamp list))).0;
}

-- a read's reply is its outcome on the tree at CP
abbrev pub read_entry : ℕ → List Entry → ℕ → ℕ → Cred → Call → Entry
read_entry cp list client number cred c = record {
  index = 0;
  client = client;
  number = number;
  cred = cred;
  call = c;
  stamp = 0;
  reply = (outcome (tree_after (take cp list)) cred c 0).0;
}

abbrev pub refuse : ℕ → ℕ → Cause → List (Move Entry)
refuse client number cause = Saying (Refuses client number cause) ∷ []

-- A new update is refused where the log is full, else it goes to the log and in an Event, with CP and base, to the
-- partner
abbrev pub append : Server Entry → Entry → List (Move Entry)
append s e =
    if nat_le room (length s.items) || nat_le limit (top s) then refuse e.client e.number LogFull
    else Appending e ∷ Sending (partner s.plan.storers) (Event s.accepted (top s + 1) s.cp s.base e) ∷ []

-- An update at an open leader, by its client's last one. The same number again is answered with the kept reply where
-- it is committed, and later with the commit where it isn't; a lower number is old
abbrev pub update_moves : Server Entry → Entry → Option Entry → List (Move Entry)
update_moves s e None = append s e
update_moves s e (Some last) =
    if e.number == last.number then (if nat_le last.index s.cp then Saying (Answers last.index last) ∷ [] else [])
    else (if nat_lt e.number last.number then refuse e.client e.number Old else append s e)

-- A read at an open leader, which answers it while the partner's promise runs
abbrev pub read_moves : ℕ → Server Entry → Entry → List (Move Entry)
read_moves clock s e = if nat_le s.grant clock then refuse e.client e.number NoPromise else Reading s.cp e ∷ []

-- The answer to an ask; `list` is the server's list of entries up to its top
abbrev pub on_ask : Place → ℕ → List Entry → Server Entry → ℕ → ℕ → Cred → Call → List (Move Entry)
on_ask q clock list s client number cred c =
    if nat_lt last_client client then refuse client number BadClient
    else (if all_of (is_active s.mode ∷ same q (leader s.plan.storers) ∷ [])
    then (if is_open s.mode
    then (if is_update c
    then update_moves s (new_entry clock list client number cred c) (last_of client list)
    else read_moves clock s (read_entry s.cp list client number cred c))
    else refuse client number NotYetOpen)
    else refuse client number (NotLeader (hint_of q s.role)))
