-- The partner of a view as a server of the group's machine.
use Rattle.std.specs.Prelude.{◌≡◌, ℕ, ◌+◌, ◌==◌, Bool, true, false, List, [], ◌∷◌, OnErr, OnOk, Option, None, Result, Some, max, min, if◌then◌else◌}
use Rattle.cell_cache.specs.Entries.{Entries}
use Rattle.file_tree.specs.Book.{Entry}
use Rattle.group_rules.specs.Moves.{Move, act}
use Rattle.group_rules.specs.Places.{Zero, One, Two, Pair, Place, S01, S02, S12, nobody, partner}
use Rattle.group_rules.specs.State.{Ack, Follows, Live, Log, Message, Mode, Server, Waits, no_report}
use Rattle.volatile_log.specs.Log.{LogValue, committed_to, top, with_record}
use Rattle.event_record.specs.declared.record.RecordFields.{RecordFields}
use Rattle.replica.specs.Leading.{Outer, entries}
use Rattle.replica.specs.declared.partner.Ahead.{Ahead}
use Rattle.replica.specs.declared.partner.Ahead.TheVariants as ahead

-- What a partner has of its view: its number, who leads it, and its start; its log, and the cells of
-- its store that it keeps in memory; and whether it heeded an Event or a Beat of the view
pub record Following : Type 0 where
  pub view : ℕ
  pub ahead : Ahead
  pub start : ℕ
  pub log : LogValue
  pub cached : Entries
  pub settled : Bool

-- the storers of a view in which this server is the partner. Behind server 1 that is the witness
abbrev pub storers_followed : Ahead → Place → Pair
storers_followed ahead.Zero Zero = S01
storers_followed ahead.Zero One = S01
storers_followed ahead.Zero Two = S02
storers_followed ahead.One me = S12

abbrev pub leader_of : Ahead → Place
leader_of ahead.Zero = Zero
leader_of ahead.One = One

abbrev pub mode_followed : Bool → Mode
mode_followed settled = if settled then Live else Waits

-- the server's place
abbrev pub place_followed : Following → Outer → Place
place_followed f o = partner (storers_followed f.ahead o.me)

-- the partner as a server
abbrev pub followed : Following → Outer → Server Entry
followed f o = record {
  up = true;
  promised = f.view;
  accepted = f.view;
  role = Follows (leader_of f.ahead);
  lb = f.log.lb;
  saved = None;
  longest = o.longest;
  held = Log;
  base = f.log.base;
  ap = f.log.ap;
  cp = f.log.cp;
  items = entries f.log;
  mode = mode_followed f.settled;
  report = no_report;
  plan = record (o.plan) { storers = storers_followed f.ahead o.me; start = f.start };
  wanted_from = 0;
  staged = [];
  heard = nobody;
  told_top = 0;
  told_lb = 0;
  grant = 0;
  served = o.served;
  duty = o.duty;
  delta = o.delta;
  horizon = o.horizon;
}

-- a partner that has just accepted its view, without any cell in memory
abbrev pub unsettled : ℕ → Ahead → ℕ → LogValue → Following
unsettled view a start log = record {
  view = view;
  ahead = a;
  start = start;
  log = log;
  cached = [];
  settled = false;
}

-- a log with a record, where that is the next one
abbrev pub with_next : LogValue → RecordFields → LogValue
with_next log r = if r.index == top log + 1 then with_record log r else log

-- a record, where that is the next one of a log
abbrev pub next_of : LogValue → RecordFields → List RecordFields
next_of log r = if r.index == top log + 1 then r ∷ [] else []

-- the partner after it heeded an Event or a Beat with this CP, its log having the record and the
-- base of it
abbrev pub settled : Following → ℕ → Following
settled f cp = record f {
  log = committed_to f.log (max f.log.cp (min cp
      (top f.log)));
  settled = true;
}

-- the Ack for its leader, with a promise up to this moment
abbrev pub acknowledged : Following → ℕ → Place × Option (Message Entry)
acknowledged f until = (leader_of f.ahead, Some (Ack f.view (top f.log) f.log.lb until))

-- THE PARTNER AFTER A MOVE of its log alone has this log, and as a server has made the move; after
-- an error it is as before. It may keep other cells in memory
pub record MovesFollowed {A E : Type 0} (result : Result A E) (made : LogValue)
    (move : Move Entry) (old new : Following) : Type 0 where
  pub log : OnOk result (new ≡ record old { log = made; cached = new.cached })
  pub still : OnErr result (new ≡ record old { cached = new.cached })
  pub moves : OnOk result ((o : Outer) (clock : ℕ)
      → followed new o ≡ act (place_followed old o) clock (followed old o) move)
