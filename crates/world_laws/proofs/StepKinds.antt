-- Asks commit nothing; so each step answers no read or commits nothing.
use Rattle.std.proofs.Common.{◌≡◌, ◌⊎◌, ℕ, ◌||◌, ◌==◌, Bool, List, [], ◌∷◌, ◌++◌, append_assoc, length, Option, None, Some, refl, sym, ap, ◌∙◌, inl, inr, nat_lt, nat_le, if◌then◌else◌}
use Rattle.harp_types.specs.declared.call.Call.{Call}
use Rattle.harp_types.specs.declared.cred.Cred.{Cred}
use Rattle.harp_types.specs.Limits.{last_client}
use Rattle.harp_types.specs.Update.{is_update}
use Rattle.file_tree.specs.Book.{Entry, last_of}
use Rattle.group_rules.proofs.Tests.{by_if}
use Rattle.group_rules.specs.Ask.{append, new_entry, on_ask, read_entry, read_moves, update_moves}
use Rattle.group_rules.specs.Limits.{is_active, is_open, limit, room}
use Rattle.group_rules.specs.Moves.{Move, act, acts}
use Rattle.group_rules.specs.Open.{base_tests, rebase}
use Rattle.group_rules.specs.Places.{Place, all_of, leader, same}
use Rattle.group_rules.specs.Said.{committed_by, committed_of}
use Rattle.group_rules.specs.State.{Server, top}
use Rattle.group_rules.specs.Step.{Apply, Ask, Comes, Crash, Deed, Does, Flush, Input, ListTree, Power, Suspect, Tick, step}
use Rattle.world_laws.proofs.NoReads.{NoReads, comes_none, does_none}

-- moves that commit nothing
abbrev pub NoCommits : Place → ℕ → Server Entry → List (Move Entry) → Type 0
NoCommits q clock s ms = committed_of q clock s ms ≡ []

both : (q : Place) (clock : ℕ) (a b : List (Move Entry)) (s : Server Entry)
    → committed_of q clock s (a ++ b)
    ≡ committed_of q clock s a ++ committed_of q clock (acts q clock s a) b
both q clock [] b s = refl
both q clock (m ∷ a) b s = ap (λ es. committed_by s m ++ es) (both q clock a b (act q clock s m))
    ∙ sym (append_assoc (committed_by s m) (committed_of q clock (act q clock s m) a)
    (committed_of q clock (acts q clock (act q clock s m) a) b))

either : (q : Place) (clock : ℕ) (s : Server Entry) (b : Bool) (x y : List (Move Entry))
    → NoCommits q clock s x → NoCommits q clock s y → NoCommits q clock s (if b then x else y)
either q clock s b x y h k = by_if (NoCommits q clock s) b x y (λ _. h) (λ _. k)

base_none : (q : Place) (clock : ℕ) (s : Server Entry) → NoCommits q clock s (rebase s)
base_none q clock s = either q clock s (all_of (base_tests s)) _ [] refl refl

append_none : (q : Place) (clock : ℕ) (s : Server Entry) (e : Entry)
    → NoCommits q clock s (append s e)
append_none q clock s e = either q clock s
    (nat_le room (length s.items) || nat_le limit (top s)) _ _ refl refl

update_none : (q : Place) (clock : ℕ) (s : Server Entry) (e : Entry) (last : Option Entry)
    → NoCommits q clock s (update_moves s e last)
update_none q clock s e None = append_none q clock s e
update_none q clock s e (Some last) = either q clock s (e.number == last.number) _ _
    (either q clock s (nat_le last.index s.cp) _ [] refl refl)
    (either q clock s (nat_lt e.number last.number) _ _ refl (append_none q clock s e))

read_none : (q : Place) (clock : ℕ) (s : Server Entry) (e : Entry)
    → NoCommits q clock s (read_moves clock s e)
read_none q clock s e = either q clock s (nat_le s.grant clock) _ _ refl refl

asked_none : (q : Place) (clock : ℕ) (list : List Entry) (s : Server Entry) (client number : ℕ)
    (cred : Cred) (c : Call) → NoCommits q clock s (on_ask q clock list s client number cred c)
asked_none q clock list s client number cred c =
    either q clock s (nat_lt last_client client) _ _ refl
    (either q clock s (all_of (is_active s.mode ∷ same q (leader s.plan.storers) ∷ [])) _ _
    (either q clock s (is_open s.mode) _ _
    (either q clock s (is_update c) _ _
    (update_none q clock s (new_entry clock list client number cred c) (last_of client list))
    (read_none q clock s (read_entry s.cp list client number cred c)))
    refl)
    refl)

ask_none : (size : List Entry → Entry → ℕ) (q : Place) (clock : ℕ) (list : List Entry)
    (s : Server Entry) (client number : ℕ) (cred : Cred) (c : Call)
    → NoCommits q clock s (step size q clock list s (Does (Ask client number cred c)))
ask_none size q clock list s client number cred c =
    let ms = on_ask q clock list s client number cred c in
    let s' = acts q clock s ms in
    both q clock ms (rebase s') s
    ∙ ap (λ es. es ++ committed_of q clock s' (rebase s'))
    (asked_none q clock list s client number cred c)
    ∙ base_none q clock s'

-- one of both
pub one_kind : (size : List Entry → Entry → ℕ) (q : Place) (clock : ℕ) (list : List Entry)
    (s : Server Entry) (i : Input)
    → NoReads (step size q clock list s i) ⊎ NoCommits q clock s (step size q clock list s i)
one_kind size q clock list s (Comes from m) = inl (comes_none size q clock list s from m)
one_kind size q clock list s (Does d) = of_deed d
  where
    of_deed : (d : Deed) → NoReads (step size q clock list s (Does d))
        ⊎ NoCommits q clock s (step size q clock list s (Does d))
    of_deed (Ask client number cred c) = inr (ask_none size q clock list s client number cred c)
    of_deed Tick = inl (does_none size q clock list s Tick tt)
    of_deed Suspect = inl (does_none size q clock list s Suspect tt)
    of_deed (Apply n) = inl (does_none size q clock list s (Apply n) tt)
    of_deed Flush = inl (does_none size q clock list s Flush tt)
    of_deed ListTree = inl (does_none size q clock list s ListTree tt)
    of_deed Power = inl (does_none size q clock list s Power tt)
    of_deed Crash = inl (does_none size q clock list s Crash tt)
