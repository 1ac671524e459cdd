-- The moves of an ask, by what is found.
use Rattle.std.proofs.Common.{◌≡◌, ℕ, ◌+◌, ◌<◌, ◌≤◌, Bool, true, false, List, [], ◌∷◌, length, Option, Some, None, refl, ap, ◌∙◌, inl, inr, fold, if◌then◌else◌}
use Rattle.std.specs.Prelude.{◌==◌, ◌||◌, IfSome, nat_le, nat_lt}
use Rattle.std.proofs.lemmas.Bool.{cases_Bool, eq-eqb, eqb-true, le-leb, le-ltb, lt-leb, lt-ltb, ltb-false, ltb-true}
use Rattle.std.proofs.lemmas.Bool.Decides.{eqb_tells}
use Rattle.dedup.specs.declared.repeat.Seen.{Seen}
use Rattle.dedup.specs.declared.repeat.Seen.TheVariants as seen
use Rattle.dedup.specs.declared.repeat.Seen.TheVariants.{Kept, New, Pending}
use Rattle.dedup.specs.Repeats.{seen_after}
use Rattle.file_tree.specs.Book.{Entry, last_next, last_of}
use Rattle.group_rules.specs.Ask.{append, new_entry, on_ask, read_entry, read_moves, refuse, update_moves}
use Rattle.group_rules.specs.Limits.{is_active, limit, room}
use Rattle.group_rules.specs.Moves.{Appending, Reading, Saying, Sending}
use Rattle.group_rules.specs.Places.{Place, all_of, partner, same}
use Rattle.group_rules.specs.State.{Answers, BadClient, Event, LogFull, NoPromise, NotYetOpen, Old, Server, top}
use Rattle.harp_types.specs.Limits.{last_client}
use Rattle.harp_types.specs.Update.{is_update}
use Rattle.harp_types.specs.declared.call.Call.{Call}
use Rattle.harp_types.specs.declared.cred.Cred.{Cred}
use Rattle.harp_types.specs.declared.reply.Reply.{Reply}
use Rattle.replica.proofs.Follows.{same_place}
use Rattle.replica.proofs.Lists.{entries_length}
use Rattle.replica.specs.Asking.{reads_tree}
use Rattle.replica.specs.Leading.{Leading, Outer, led, mode_led, place_led}
use Rattle.volatile_log.specs.Log.{top as top_of}

-- ---- which ask

pub asks_bad : (l : Leading) (o : Outer) (now client number : ℕ) (list : List Entry) (cred : Cred)
    (c : Call) → last_client < client
    → on_ask (place_led l o) now list (led l o) client number cred c
    ≡ refuse client number BadClient
asks_bad l o now client number list cred c many = rw (lt-ltb last_client client many) refl

asked_tests : (opened : Bool) (q : Place)
    → all_of (is_active (mode_led opened) ∷ same q q ∷ []) ≡ true
unfolding all_of
asked_tests true q = rw (same_place q) refl
asked_tests false q = rw (same_place q) refl

pub asks_shut : (l : Leading) (o : Outer) (now client number : ℕ) (list : List Entry) (cred : Cred)
    (c : Call) → client ≤ last_client → l.opened ≡ false
    → on_ask (place_led l o) now list (led l o) client number cred c
    ≡ refuse client number NotYetOpen
asks_shut l o now client number list cred c few shut =
    rw (le-ltb last_client client few, shut, asked_tests false (place_led l o)) refl

pub asks_update : (l : Leading) (o : Outer) (now client number : ℕ) (list : List Entry)
    (cred : Cred) (c : Call) → client ≤ last_client → l.opened ≡ true → is_update c ≡ true
    → on_ask (place_led l o) now list (led l o) client number cred c
    ≡ update_moves (led l o) (new_entry now list client number cred c) (last_of client list)
asks_update l o now client number list cred c few is update =
    rw (le-ltb last_client client few, is, asked_tests true (place_led l o), update) refl

pub asks_read : (l : Leading) (o : Outer) (now client number : ℕ) (list : List Entry) (cred : Cred)
    (c : Call) → client ≤ last_client → l.opened ≡ true → is_update c ≡ false
    → on_ask (place_led l o) now list (led l o) client number cred c
    ≡ read_moves now (led l o) (read_entry l.log.cp list client number cred c)
asks_read l o now client number list cred c few is update =
    rw (le-ltb last_client client few, is, asked_tests true (place_led l o), update) refl

-- ---- whether the tree is read

pub update_reads : (l : Leading) (client now : ℕ) (c : Call) → client ≤ last_client
    → l.opened ≡ true → is_update c ≡ true → reads_tree l client c now ≡ true
update_reads l client now c few is update =
    rw (le-leb client last_client few, is, update) refl

pub read_reads : (l : Leading) (client now : ℕ) (c : Call) → client ≤ last_client
    → l.opened ≡ true → is_update c ≡ false → nat_lt now l.grant ≡ true
    → reads_tree l client c now ≡ true
read_reads l client now c few is update runs =
    rw (le-leb client last_client few, is, update, runs) refl

-- ---- a read

pub read_refused : (l : Leading) (o : Outer) (now : ℕ) (e : Entry) → nat_lt now l.grant ≡ false
    → read_moves now (led l o) e ≡ refuse e.client e.number NoPromise
read_refused l o now e over = rw (le-leb l.grant now (ltb-false now l.grant over)) refl

pub read_allowed : (l : Leading) (o : Outer) (now : ℕ) (e : Entry) → nat_lt now l.grant ≡ true
    → read_moves now (led l o) e ≡ Reading l.log.cp e ∷ []
read_allowed l o now e runs = rw (lt-leb l.grant now (ltb-true now l.grant runs)) refl

-- ---- an update by its client's last one

abbrev pub IsOf : ℕ → Option Entry → Type 0
IsOf client last = IfSome last (λ e. e.client ≡ client)

next_of : (client : ℕ) (last : Option Entry) (e : Entry) → IsOf client last
    → IsOf client (last_next client last e)
next_of client last e h = elim (cases_Bool (is_update e.call)) [
  | inl u ↦ elim (eqb_tells e.client client) [
    | inl t ↦ rw (u, eq-eqb e.client client t.1) t.1
    | inr t ↦ rw (u, t.0) h
  ]
  | inr u ↦ rw u h
]

folded_of : (client : ℕ) (last : Option Entry) (items : List Entry) → IsOf client last
    → IsOf client (fold (last_next client) last items)
folded_of client last [] h = h
folded_of client last (e ∷ items) h =
    folded_of client (last_next client last e) items (next_of client last e h)

-- a client's last update is of this client
pub last_of_client : (client : ℕ) (items : List Entry) → IsOf client (last_of client items)
last_of_client client items = folded_of client None items tt

-- what a number is beside the last one, by three tests
abbrev beside_by : Bool → Bool → Bool → ℕ → Reply → Seen
beside_by same told lower index reply =
    if same then (if told then Kept index reply else Pending)
    else (if lower then seen.Old else New)

record IsKept (same told : Bool) (x : Entry) (index : ℕ) (reply : Reply) : Type 0 where
  number : same ≡ true
  committed : told ≡ true
  index_is : index ≡ x.index
  reply_is : reply ≡ x.reply

is_kept : (same told lower : Bool) (x : Entry) (index : ℕ) (reply : Reply)
    → Kept index reply ≡ beside_by same told lower x.index x.reply
    → IsKept same told x index reply
is_kept true true lower x index reply h = record {
  number = refl;
  committed = refl;
  index_is = cc;
  reply_is = cc;
}
is_kept true false lower x index reply h = absurd cc
is_kept false told true x index reply h = absurd cc
is_kept false told false x index reply h = absurd cc

is_pending : (same told lower : Bool) (index : ℕ) (reply : Reply)
    → Pending ≡ beside_by same told lower index reply → (same ≡ true) × (told ≡ false)
is_pending true true lower index reply h = absurd cc
is_pending true false lower index reply h = (refl, refl)
is_pending false told true index reply h = absurd cc
is_pending false told false index reply h = absurd cc

is_old : (same told lower : Bool) (index : ℕ) (reply : Reply)
    → seen.Old ≡ beside_by same told lower index reply → (same ≡ false) × (lower ≡ true)
is_old true true lower index reply h = absurd cc
is_old true false lower index reply h = absurd cc
is_old false told true index reply h = (refl, refl)
is_old false told false index reply h = absurd cc

is_new : (same told lower : Bool) (index : ℕ) (reply : Reply)
    → New ≡ beside_by same told lower index reply → (same ≡ false) × (lower ≡ false)
is_new true true lower index reply h = absurd cc
is_new true false lower index reply h = absurd cc
is_new false told true index reply h = absurd cc
is_new false told false index reply h = (refl, refl)

-- a repeat whose update is committed, and what is kept of it
pub record AnswersAgain (s : Server Entry) (ne : Entry) (last : Option Entry) (index : ℕ)
    (reply : Reply) : Type 0 where
  pub entry : Entry
  pub last_is : last ≡ Some entry
  pub number : ne.number ≡ entry.number
  pub index_is : index ≡ entry.index
  pub reply_is : reply ≡ entry.reply
  pub moves : update_moves s ne last ≡ Saying (Answers entry.index entry) ∷ []

pub kept_moves : (s : Server Entry) (ne : Entry) (last : Option Entry) (index : ℕ) (reply : Reply)
    → Kept index reply ≡ seen_after last ne.number s.cp → AnswersAgain s ne last index reply
kept_moves s ne None index reply h = absurd cc
kept_moves s ne (Some x) index reply h =
    let k = is_kept (ne.number == x.number) (nat_le x.index s.cp) (nat_lt ne.number x.number) x
    index reply h in
    record {
      entry = x;
      last_is = refl;
      number = eqb-true ne.number x.number k.number;
      index_is = k.index_is;
      reply_is = k.reply_is;
      moves = rw (k.number, k.committed) refl;
    }

pub pending_moves : (s : Server Entry) (ne : Entry) (last : Option Entry)
    → Pending ≡ seen_after last ne.number s.cp → update_moves s ne last ≡ []
pending_moves s ne None h = absurd cc
pending_moves s ne (Some x) h =
    let k = is_pending (ne.number == x.number) (nat_le x.index s.cp) (nat_lt ne.number x.number)
    x.index x.reply h in
    rw (k.0, k.1) refl

pub old_moves : (s : Server Entry) (ne : Entry) (last : Option Entry)
    → seen.Old ≡ seen_after last ne.number s.cp
    → update_moves s ne last ≡ refuse ne.client ne.number Old
old_moves s ne None h = absurd cc
old_moves s ne (Some x) h =
    let k = is_old (ne.number == x.number) (nat_le x.index s.cp) (nat_lt ne.number x.number)
    x.index x.reply h in
    rw (k.0, k.1) refl

pub new_moves : (s : Server Entry) (ne : Entry) (last : Option Entry)
    → New ≡ seen_after last ne.number s.cp → update_moves s ne last ≡ append s ne
new_moves s ne None h = refl
new_moves s ne (Some x) h =
    let k = is_new (ne.number == x.number) (nat_le x.index s.cp) (nat_lt ne.number x.number)
    x.index x.reply h in
    rw (k.0, k.1) refl

-- ---- whether the log is full

full_tests : (l : Leading) (o : Outer)
    → (nat_le room (length (led l o).items) || nat_le limit (top (led l o)))
    ≡ (nat_le room (length l.log.records) || nat_le limit (top_of l.log))
full_tests l o =
    ap (λ n. nat_le room n || nat_le limit (l.log.base + n)) (entries_length l.log)

pub full_refuses : (l : Leading) (o : Outer) (e : Entry)
    → (nat_le room (length l.log.records) || nat_le limit (top_of l.log)) ≡ true
    → append (led l o) e ≡ refuse e.client e.number LogFull
full_refuses l o e full = rw (full_tests l o ∙ full) refl

pub room_appends : (l : Leading) (o : Outer) (e : Entry)
    → (nat_le room (length l.log.records) || nat_le limit (top_of l.log)) ≡ false
    → append (led l o) e ≡ Appending e ∷ Sending (partner (led l o).plan.storers)
    (Event l.view (top (led l o) + 1) l.log.cp l.log.base e) ∷ []
room_appends l o e fits = rw (full_tests l o ∙ fits) refl
