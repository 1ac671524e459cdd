-- How far the moves of a step go: which views they take up, how long promises they carry over, which
-- entries they append, read or refuse, and what they send.
use Rattle.std.specs.Prelude.{◌≡◌, ℕ, ◌+◌, ◌/◌, ◌<◌, ◌≤◌, ◌^◌, max, List, [], ◌∷◌, length, Option, Some, ⊤}
use Rattle.harp_types.specs.declared.call.Call.{Call}
use Rattle.harp_types.specs.declared.cred.Cred.{Cred}
use Rattle.text_spelling.specs.Fits.{CallFits, CredFits}
use Rattle.file_tree.specs.Book.{Entry, last_stamp}
use Rattle.group_rules.specs.Moves.{Appending, Choosing, Demoting, Joining, Move, Reading, Saying, Sending, act}
use Rattle.group_rules.specs.Places.{Place, Trio, get}
use Rattle.group_rules.specs.State.{Collects, Demote, Fetch, Formed, Give, Invite, Join, Log, Message, Pulls, Refuses, Report, Say, Server, top}
use Rattle.group_rules.specs.Step.{Ask, Comes, Does, Input, Suspect, step}

-- a client and its number
abbrev pub AskerFits : ℕ → ℕ → Type 0
AskerFits client number = (client < 2 ^ 32) × (number < 10 ^ 18)

-- an asked call with its index, up to n, and its stamp, up to a moment
pub record EntryWithin (n late : ℕ) (e : Entry) : Type 0 where
  pub asker : AskerFits e.client e.number
  pub cred : CredFits e.cred
  pub call : CallFits e.call
  pub index : e.index ≤ n
  pub stamp : e.stamp ≤ late

-- what a server tells in a message
abbrev pub SendFits : Server Entry → Message Entry → Type 0
SendFits s (Invite v) = v ≤ s.promised
SendFits s (Fetch v index) = (s.mode ≡ Pulls) × (index ≡ s.wanted_from + length s.staged + 1)
SendFits s (Formed v lb) = lb ≡ s.lb
SendFits s (Give v index items) = (1 ≤ length items) × (length items ≤ length s.items)
SendFits s m = ⊤

abbrev pub SayFits : Say Entry → Type 0
SayFits (Refuses client number cause) = AskerFits client number
SayFits say = ⊤

-- a move with views of a count of at most n, a choice with a horizon of at most so many milliseconds
-- after a moment, and entries up to both
abbrev pub MoveFits : (n late : ℕ) → Server Entry → Move Entry → Type 0
MoveFits n late s (Joining v duty) = v / 3 ≤ n
MoveFits n late s (Demoting v) = v / 3 ≤ n
MoveFits n late s (Choosing plan from) = plan.horizon ≤ late + 100000
MoveFits n late s (Appending e) = EntryWithin n late e
MoveFits n late s (Reading index e) = EntryWithin n late e
MoveFits n late s (Saying say) = SayFits say
MoveFits n late s (Sending to m) = SendFits s m
MoveFits n late s m = ⊤

-- what holds of each move at the server that makes it
abbrev pub Walks : (Server Entry → Move Entry → Type 0) → Place → ℕ → Server Entry
    → List (Move Entry) → Type 0
Walks F q clock s [] = ⊤
Walks F q clock s (m ∷ ms) = F s m × Walks F q clock (act q clock s m) ms

-- an ask at a server with this clock and list
pub record AskFits (n late clock : ℕ) (list : List Entry) (client number : ℕ) (cred : Cred)
    (call : Call) : Type 0 where
  pub asker : AskerFits client number
  pub cred_fits : CredFits cred
  pub call_fits : CallFits call
  pub next : length list + 1 ≤ n
  pub stamp : max clock (last_stamp list) ≤ late

-- what a step begins with is within these bounds
abbrev pub InputFits : (n late : ℕ) → ℕ → List Entry → Server Entry → Input → Type 0
InputFits n late clock list s (Does Suspect) = s.promised / 3 < n
InputFits n late clock list s (Does (Ask client number cred call)) =
    AskFits n late clock list client number cred call
InputFits n late clock list s (Comes from (Invite v)) = v / 3 ≤ n
InputFits n late clock list s (Comes from (Demote v)) = v / 3 ≤ n
InputFits n late clock list s (Comes from (Join v t)) = t.horizon ≤ late + 100000
InputFits n late clock list s i = ⊤

-- and so is what the server has
pub record ServerKnown (late : ℕ) (s : Server Entry) : Type 0 where
  pub told : (reports : Trio (Option Report)) → s.duty ≡ Collects reports → (x : Place)
      → (t : Report) → get reports x ≡ Some t → t.horizon ≤ late + 100000
  pub served : s.held ≡ Log → s.served ≤ top s

-- each move of each step is
abbrev pub StepsWalk : Type 0
StepsWalk = (n late : ℕ) (size : List Entry → Entry → ℕ) (q : Place) (clock : ℕ)
    (list : List Entry) (s : Server Entry) (i : Input) → ServerKnown late s
    → InputFits n late clock list s i
    → Walks (MoveFits n late) q clock s (step size q clock list s i)
