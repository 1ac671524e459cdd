-- A server's state line, from what it is made of.
use Rattle.harp_store.specs.Mark.{MarkFields}
use Rattle.harp_types.specs.declared.state.Held.{Held}
use Rattle.harp_types.specs.declared.state.Mode.{Mode}
use Rattle.harp_types.specs.declared.state.StateLine.{StateLine}
use Rattle.volatile_log.specs.Log.{LogValue, top}

-- the line of a server with this mark that is at this, and holds this with these numbers
abbrev pub line_of : MarkFields → Mode → Held → LogValue → StateLine
line_of mark mode held log = record {
  mode = mode;
  promised = mark.promised;
  accepted = mark.accepted;
  role = mark.role;
  held = held;
  base = log.base;
  lb = log.lb;
  ap = log.ap;
  cp = log.cp;
  top = top log;
}
