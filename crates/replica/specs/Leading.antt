-- The leader of a view as a server of the group's machine.
use Rattle.std.specs.Prelude.{◌≡◌, ℕ, ◌+◌, ◌≤◌, Bool, true, false, List, [], length, map, OnErr, OnOk, Option, None, Result, Some, if◌then◌else◌}
use Rattle.harp_types.specs.declared.peer.Peer.{Peer}
use Rattle.cell_cache.specs.Entries.{Entries}
use Rattle.event_record.specs.Record.{entry_of}
use Rattle.file_tree.specs.Book.{Entry}
use Rattle.group_rules.specs.Moves.{Move, act}
use Rattle.group_rules.specs.Places.{Zero, One, Two, Pair, Place, S01, S02, S12, Trio, leader, nobody, with_at}
use Rattle.group_rules.specs.State.{Duty, Leads, Log, Mode, Open, Plan, Server, Waits, no_report}
use Rattle.promise.specs.Promise.{HorizonValue}
use Rattle.volatile_log.specs.Log.{LogValue, top}
use Rattle.replica.specs.declared.leader.Beside.{Beside}
use Rattle.replica.specs.declared.leader.Beside.TheVariants as beside

-- What a server has that its leader or partner doesn't know: its place, the plan of its view beyond
-- what the other knows, its mark's longest promise, how much it serves, its duty, and its promises
pub record Outer : Type 0 where
  pub me : Place
  pub plan : Plan
  pub longest : Option ℕ
  pub served : ℕ
  pub duty : Duty
  pub delta : ℕ
  pub horizon : ℕ

-- the rest of a server with this horizon
abbrev pub at_horizon : Outer → HorizonValue → Outer
at_horizon o h = record o { delta = h.delta; horizon = h.until }

-- What a leader has of its view: its number, who is beside it, its start and horizon; its log, and
-- the cells of its store that it keeps in memory; its partner's Formed until it opens; then what the
-- partner's Acks told, and who waits for the records above CP
pub record Leading : Type 0 where
  pub view : ℕ
  pub beside : Beside
  pub start : ℕ
  pub horizon : ℕ
  pub log : LogValue
  pub cached : Entries
  pub formed : Option ℕ
  pub opened : Bool
  pub told_top : ℕ
  pub told_lb : ℕ
  pub grant : ℕ
  pub peers : List Peer

-- the storers of a view that this server leads. Beside a data server that is server 0
abbrev pub storers_led : Beside → Place → Pair
storers_led beside.DataServer me = S01
storers_led beside.Witness Zero = S02
storers_led beside.Witness One = S12
storers_led beside.Witness Two = S12

abbrev pub partner_of : Beside → Place
partner_of beside.DataServer = One
partner_of beside.Witness = Two

-- the Formed that a waiting leader keeps
abbrev pub heard_from : Beside → Option ℕ → Trio (Option ℕ)
heard_from b None = nobody
heard_from b (Some lb) = with_at nobody (partner_of b) (Some lb)

abbrev pub mode_led : Bool → Mode
mode_led opened = if opened then Open else Waits

abbrev pub entries : LogValue → List Entry
entries log = map entry_of log.records

-- the server's place
abbrev pub place_led : Leading → Outer → Place
place_led l o = leader (storers_led l.beside o.me)

-- the leader as a server
abbrev pub led : Leading → Outer → Server Entry
led l o = record {
  up = true;
  promised = l.view;
  accepted = l.view;
  role = Leads (partner_of l.beside);
  lb = l.log.lb;
  saved = None;
  longest = o.longest;
  held = Log;
  base = l.log.base;
  ap = l.log.ap;
  cp = l.log.cp;
  items = entries l.log;
  mode = mode_led l.opened;
  report = no_report;
  plan = record (o.plan) {
    storers = storers_led l.beside o.me;
    start = l.start;
    horizon = l.horizon;
  };
  wanted_from = 0;
  staged = [];
  heard = heard_from l.beside l.formed;
  told_top = l.told_top;
  told_lb = l.told_lb;
  grant = l.grant;
  served = o.served;
  duty = o.duty;
  delta = o.delta;
  horizon = o.horizon;
}

-- a leader that has just accepted its view, without any cell in memory
abbrev pub waiting : ℕ → Beside → ℕ → ℕ → LogValue → Leading
waiting view b start horizon log = record {
  view = view;
  beside = b;
  start = start;
  horizon = horizon;
  log = log;
  cached = [];
  formed = None;
  opened = false;
  told_top = 0;
  told_lb = 0;
  grant = 0;
  peers = [];
}

-- What stands of a leader's numbers. Where it is open, one peer waits for each record above CP; no
-- Formed is kept then
pub record IsLeading (l : Leading) : Type 0 where
  pub start : l.start ≤ top l.log
  pub told_top : l.told_top ≤ top l.log
  pub waits : l.opened ≡ true → l.log.cp + length l.peers ≡ top l.log
  pub first : l.opened ≡ false → l.peers ≡ []
  pub formed : l.opened ≡ true → l.formed ≡ None

-- THE LEADER AFTER A MOVE of its log alone has this log, and as a server has made the move; after
-- an error it is as before. It may keep other cells in memory
pub record MovesLed {A E : Type 0} (result : Result A E) (made : LogValue) (move : Move Entry)
    (old new : Leading) : Type 0 where
  pub log : OnOk result (new ≡ record old { log = made; cached = new.cached })
  pub still : OnErr result (new ≡ record old { cached = new.cached })
  pub moves : OnOk result ((o : Outer) (clock : ℕ)
      → led new o ≡ act (place_led old o) clock (led old o) move)
