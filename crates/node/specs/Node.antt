-- A node as a server of the group's machine.
use Rattle.std.specs.Prelude.{◌≡◌, ℕ, Bool, true, List, None, option_map}
use Rattle.cell_cache.specs.Entries.{Entries}
use Rattle.event_record.specs.declared.record.RecordFields.{RecordFields}
use Rattle.file_tree.specs.Book.{Entry}
use Rattle.group_rules.specs.Effects.{down}
use Rattle.group_rules.specs.Names.{number_of_view, place_of}
use Rattle.group_rules.specs.Places.{Place}
use Rattle.group_rules.specs.State.{Mark, Saved, Server, mark_of}
use Rattle.harp_types.specs.declared.peer.Peer.{Peer}
use Rattle.harp_types.specs.declared.server.ServerId.{ServerId}
use Rattle.harp_store.specs.Mark.{MarkFields, SavedNumbers}
use Rattle.idle_log.specs.Kept.{with_kept}
use Rattle.idle_log.specs.declared.kept.Kept.{Kept}
use Rattle.node.specs.State.{ap_in, base_in, cached_in, cp_in, duty_of, heard_in, held_in, is_gone, items_in, mode_in, peers_in, plan_in, pulled_in, records_in, report_in, role_of, staged_in, told_in, wanted_in}
use Rattle.node.specs.declared.state.State.{State}
use Rattle.node.specs.declared.state.Task.{Task}
use Rattle.promise.specs.Promise.{HorizonValue}

-- a server with this mark, which is in this state; of its saved log nothing
abbrev pub server_in : MarkFields → HorizonValue → ℕ → Task → State → Server Entry
server_in mark horizon served duty s = record {
  up = true;
  promised = number_of_view mark.promised;
  accepted = number_of_view mark.accepted;
  role = role_of mark.role;
  lb = mark.lb;
  saved = None;
  longest = mark.longest;
  held = held_in s;
  base = base_in s;
  ap = ap_in s;
  cp = cp_in s;
  items = items_in s;
  mode = mode_in s;
  report = report_in s;
  plan = plan_in s;
  wanted_from = wanted_in s;
  staged = staged_in s;
  heard = heard_in s;
  told_top = (told_in s).top;
  told_lb = (told_in s).lb;
  grant = (told_in s).grant;
  served = served;
  duty = duty_of duty;
  delta = horizon.delta;
  horizon = horizon.until;
}

-- A node: its place, whether it is halted, its mark as it stands on the disk, and its server but
-- for the saved log, whose records are on the disk alone; its log's records, whole, and those that
-- it pulled; who waits for those above CP; and the cells of its store that it keeps in memory. Of a
-- halted one the server tells nothing
pub record NodeValue : Type 0 where
  pub me : Place
  pub halted : Bool
  pub mark : MarkFields
  pub plain : Server Entry
  pub records : List RecordFields
  pub pulled : List RecordFields
  pub peers : List Peer
  pub cached : Entries

abbrev pub value : ServerId → MarkFields → HorizonValue → ℕ → Task → State → NodeValue
value me mark horizon served duty s = record {
  me = place_of me;
  halted = is_gone s;
  mark = mark;
  plain = server_in mark horizon served duty s;
  records = records_in s;
  pulled = pulled_in s;
  peers = peers_in s;
  cached = cached_in s;
}

abbrev pub saved_with : List Entry → SavedNumbers → Saved Entry
saved_with items v = record { base = v.base; cp = v.cp; items = items }

-- the machine's server, the saved log on its disk having these records
abbrev pub server : NodeValue → List Entry → Server Entry
server n items = record (n.plain) { saved = option_map (saved_with items) n.mark.saved }

-- the machine's mark, the saved log having these records
abbrev pub mark_with : List Entry → MarkFields → Mark Entry
mark_with items mark = record {
  promised = number_of_view mark.promised;
  accepted = number_of_view mark.accepted;
  role = role_of mark.role;
  lb = mark.lb;
  saved = option_map (saved_with items) mark.saved;
  longest = mark.longest;
}

-- A NODE IS A SERVER of the machine that is up, whose mark is the node's
pub record IsServer (n : NodeValue) : Type 0 where
  pub up : n.plain.up ≡ true
  pub mark : (items : List Entry) → mark_of (server n items) ≡ mark_with items n.mark

-- a server that rests with what it kept, as after a boot or a demotion
abbrev pub rested_with : List Entry → MarkFields → HorizonValue → Kept → Server Entry
rested_with items mark horizon kept = with_kept (record (down (mark_with items mark)) {
  up = true;
  delta = horizon.delta;
  horizon = horizon.until;
}) kept
