-- One server's step, and what happens to a group.
use Rattle.std.specs.Prelude.{◌≤◌, ℕ, zero, suc, ◌+◌, ◌-◌, nat_lt, nat_le, Bool, true, false, List, [], ◌∷◌, length, take, Option, None, Some, slice_get, if◌then◌else◌}
use Rattle.harp_types.specs.Limits.{clock_skew, first_promise}
use Rattle.harp_types.specs.declared.call.Call.{Call}
use Rattle.harp_types.specs.declared.cred.Cred.{Cred}
use Rattle.file_tree.specs.Book.{Entry}
use Rattle.group_rules.specs.Ask.{on_ask}
use Rattle.group_rules.specs.Disk.{apply, flush, list_tree, on_demote}
use Rattle.group_rules.specs.Effects.{down, first_mark, taken}
use Rattle.group_rules.specs.Form.{on_form, on_give}
use Rattle.group_rules.specs.Joining.{on_invite, on_join, suspect}
use Rattle.group_rules.specs.Limits.{delta_tests}
use Rattle.group_rules.specs.Misfits.{misfits}
use Rattle.group_rules.specs.Moves.{Accepting, Applying, Booting, Demoting, Falling, Flushing, Joining, Move, Saving, act, moved_by}
use Rattle.group_rules.specs.Open.{and_then, on_formed, rebase, try_open}
use Rattle.group_rules.specs.Places.{Zero, One, Two, Place, all_of, at, number}
use Rattle.group_rules.specs.Replicate.{on_ack, on_event}
use Rattle.group_rules.specs.Serving.{on_fetch}
use Rattle.group_rules.specs.State.{Ack, Beat, Demote, Empty, Event, Fetch, Form, Formed, Give, Group, Held, Invite, Join, Log, Lost, Message, Packet, Page, Saved, Server, no_plan, top}
use Rattle.group_rules.specs.Tick.{tick}

-- what a server does by itself or is asked for
pub data Deed : Type 0 where
  Tick : Deed
  Suspect : Deed
  Ask : (client number : ℕ) → Cred → Call → Deed
  Apply : ℕ → Deed
  Flush : Deed
  ListTree : Deed
  Power : Deed
  Crash : Deed

-- what a step begins with: a deed, or a message with its sender
pub data Input : Type 0 where
  Does : Deed → Input
  Comes : Place → Message Entry → Input

abbrev pub does : Place → ℕ → List Entry → Server Entry → Deed → List (Move Entry)
does q clock list s Tick = tick q clock s
does q clock list s Suspect = suspect q s
does q clock list s (Ask client number cred c) = on_ask q clock list s client number cred c
does q clock list s (Apply n) = apply q s n
does q clock list s Flush = flush q s
does q clock list s ListTree = list_tree q s
does q clock list s Power = Saving ∷ []
does q clock list s Crash = Falling ∷ []

abbrev pub on_message : (List Entry → Entry → ℕ) → Place → ℕ → List Entry → Server Entry → Place → Message Entry
    → List (Move Entry)
on_message size q clock list s from (Invite v) = on_invite s from v
on_message size q clock list s from (Join v t) = on_join q s from v t s.duty
on_message size q clock list s from (Form v plan) = on_form q s v plan
on_message size q clock list s from (Fetch v index) = on_fetch size list s from v index
on_message size q clock list s from (Give v index items) = on_give q s v index items
on_message size q clock list s from (Formed v lb) = on_formed s from v lb
on_message size q clock list s from (Event v index cp base e) = on_event q clock s from v cp base (taken s index e)
on_message size q clock list s from (Beat v cp base) = on_event q clock s from v cp base s.items
on_message size q clock list s from (Ack v t lb until) = on_ack s v t lb until
on_message size q clock list s from (Demote v) = on_demote q s v

-- A misfit is tried first and ignored. Each other message ends with the test of opening
abbrev pub rule : (List Entry → Entry → ℕ) → Place → ℕ → List Entry → Server Entry → Input → List (Move Entry)
rule size q clock list s (Does d) = does q clock list s d
rule size q clock list s (Comes from m) =
    if misfits q s from m then [] else and_then q clock s (on_message size q clock list s from m) (try_open q clock)

-- The step of a server that is up, from its state, its list of entries up to its top, and its clock's reading. The
-- base is tried once around the whole step. `size before e` is the size of the record of e after the entries `before`
abbrev pub step : (List Entry → Entry → ℕ) → Place → ℕ → List Entry → Server Entry → Input → List (Move Entry)
step size q clock list s i = and_then q clock s (rule size q clock list s i) rebase

-- the entries of a server's list up to its top
abbrev pub list_of : Group Entry → Place → List Entry
list_of g q = take (top (g.server q)) (g.page (g.server q).accepted).list

abbrev pub step_of : (List Entry → Entry → ℕ) → Group Entry → Place → Input → List (Move Entry)
step_of size g q i = step size q (g.clock q) (list_of g q) (g.server q) i

abbrev pub steps : (List Entry → Entry → ℕ) → Group Entry → Place → Input → Group Entry
steps size g q i = if (g.server q).up then moved_by g q (g.server q) (step_of size g q i) else g

abbrev pub saves : Held → Option (Saved Entry) → Bool
saves Log None = true
saves Log (Some v) = false
saves Lost saved = false
saves Empty saved = false

-- Whether a move of a server makes calls that change its disk, which a stop can cut
abbrev pub writes : Server Entry → Move Entry → Bool
writes s (Joining v duty) = true
writes s (Accepting plan role n) = true
writes s (Applying n) = nat_lt s.ap n
writes s Flushing = true
writes s (Demoting v) = true
writes s Saving = saves s.held s.saved
writes s m = false

abbrev pub writes_any : Place → ℕ → Server Entry → List (Move Entry) → Bool
writes_any q clock s [] = false
writes_any q clock s (m ∷ ms) = if writes s m then true else writes_any q clock (act q clock s m) ms

-- A step that stops at a call which changes the disk: nothing of it happens but that the server falls. A step without
-- such a call is whole
abbrev pub cut_steps : (List Entry → Entry → ℕ) → Group Entry → Place → Input → Group Entry
cut_steps size g q i =
    if (g.server q).up
    then (if writes_any q (g.clock q) (g.server q) (step_of size g q i)
    then moved_by g q (g.server q) (Falling ∷ [])
    else moved_by g q (g.server q) (step_of size g q i))
    else g

-- What happens to a group: a deed at a server, the delivery of packet N, each also cut at a call that changes the
-- disk; a boot; a clock that is set, or all that go on; the group's delta that is set
pub data Happening : Type 0 where
  At : Place → Deed → Happening
  Deliver : (which : ℕ) → Happening
  CutAt : Place → Deed → Happening
  CutDeliver : (which : ℕ) → Happening
  Boot : Place → Happening
  Clock : Place → ℕ → Happening
  Advance : ℕ → Happening
  Delta : ℕ → Happening

-- packet N is the one before which N were sent; the list has the newest first
abbrev pub numbered : {E : Type 0} → List (Packet E) → ℕ → Option (Packet E)
numbered packets n = if nat_lt n (length packets) then slice_get packets (length packets - suc n) else None

abbrev pub delivered : (List Entry → Entry → ℕ) → Group Entry → Option (Packet Entry) → Group Entry
delivered size g None = g
delivered size g (Some p) = steps size g p.to (Comes p.from p.body)

abbrev pub cut_delivered : (List Entry → Entry → ℕ) → Group Entry → Option (Packet Entry) → Group Entry
cut_delivered size g None = g
cut_delivered size g (Some p) = cut_steps size g p.to (Comes p.from p.body)

abbrev pub near_tests : ℕ → (Place → ℕ) → List Bool
near_tests t clock =
    nat_le t (clock Zero + clock_skew) ∷ nat_le (clock Zero) (t + clock_skew)
    ∷ nat_le t (clock One + clock_skew) ∷ nat_le (clock One) (t + clock_skew)
    ∷ nat_le t (clock Two + clock_skew) ∷ nat_le (clock Two) (t + clock_skew) ∷ []

-- readings don't go back, and are at most their skew apart
abbrev pub near : ℕ → (Place → ℕ) → Bool
near t clock = all_of (near_tests t clock)

-- the clocks are at most their skew apart
abbrev pub Near : (Place → ℕ) → Type 0
Near clock = (x y : Place) → clock x ≤ clock y + clock_skew

abbrev pub clock_tests : Group Entry → Place → ℕ → List Bool
clock_tests g q t = nat_le (g.clock q) t ∷ near t (at g.clock q t) ∷ []

-- a boot of a server that is down, at the group's delta
abbrev pub boot : Group Entry → Place → Group Entry
boot g q = if (g.server q).up then g else moved_by g q (g.server q) (Booting g.delta ∷ [])

abbrev pub happens : (List Entry → Entry → ℕ) → Group Entry → Happening → Group Entry
happens size g (At q d) = steps size g q (Does d)
happens size g (Deliver which) = delivered size g (numbered g.packets which)
happens size g (CutAt q d) = cut_steps size g q (Does d)
happens size g (CutDeliver which) = cut_delivered size g (numbered g.packets which)
happens size g (Boot q) = boot g q
happens size g (Clock q t) = if all_of (clock_tests g q t) then record g { clock = at g.clock q t } else g
happens size g (Advance d) = record g { clock = λ q. g.clock q + d }
happens size g (Delta d) = if all_of (delta_tests d) then record g { delta = d } else g

abbrev pub run : (List Entry → Entry → ℕ) → Group Entry → List Happening → Group Entry
run size g [] = g
run size g (h ∷ hs) = run size (happens size g h) hs

-- View 0 has the storers (0,1), the empty list and is never open
abbrev pub first_page : ℕ → Page Entry
first_page zero = record {
  formed = true;
  plan = no_plan;
  from = 0;
  list = [];
  leader_in = true;
  partner_in = true;
  opened = false;
  held_twice = 0;
  until = 0;
}
first_page (suc n) = record {
  formed = false;
  plan = no_plan;
  from = 0;
  list = [];
  leader_in = false;
  partner_in = false;
  opened = false;
  held_twice = 0;
  until = 0;
}

-- three servers that are down, with the marks of new disks
abbrev pub new_disks : Group Entry
new_disks = record {
  server = λ q. down (first_mark Entry first_promise q);
  page = first_page;
  joins = [];
  packets = [];
  committed = [];
  book = [];
  answered = [];
  clock = λ q. 0;
  delta = first_promise;
}

-- the group at first: the three have booted
abbrev pub first_group : Group Entry
first_group = boot (boot (boot new_disks Zero) One) Two
