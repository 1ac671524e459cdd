-- A run of the group: what each step leaves, and the lines that it writes.
use Rattle.std.specs.Prelude.{◌≡◌, ℕ, ◌+◌, Bool, true, false, List, [], ◌∷◌, ◌++◌, Option, None, Some, if◌then◌else◌}
use Rattle.trace_types.specs.declared.step.Step.{Step}
use Rattle.trace_types.specs.declared.line.Line.{Line}
use Rattle.file_tree.specs.Book.{Entry}
use Rattle.group_rules.specs.Limits.{delta_tests}
use Rattle.group_rules.specs.Moves.{Booting, Move, Sending, moved_by}
use Rattle.group_rules.specs.Names.{place_of}
use Rattle.group_rules.specs.Places.{Place, all_of, at}
use Rattle.group_rules.specs.State.{Group, Packet}
use Rattle.group_rules.specs.Step.{Apply, Ask, Comes, Crash, Does, Flush, ListTree, Power, Suspect, Tick, list_of, numbered}
use Rattle.group_trace.specs.Lines.{lines_of_moves, listing_of}
use Rattle.trace_types.specs.declared.step.Step.TheVariants as step
use Rattle.trace_types.specs.declared.line.Line.TheVariants as line
use Rattle.group_trace.specs.Scene.{Measures, Scene}
use Rattle.group_trace.specs.Calls.{moves_of}
use Rattle.group_trace.specs.Refusals.{own_refusal, refusal}

-- ---- one step

-- the server that steps, with its moves
abbrev pub Turn : Type 0
Turn = Place × List (Move Entry)

-- a packet is lost at a server that is down
abbrev pub delivery : Measures → Scene → Option (Packet Entry) → Option Turn
delivery m w None = None
delivery m w (Some p) = if (w.group.server p.to).up
    then Some (p.to, moves_of m w.group (w.armed p.to) p.to (Comes p.from p.body)) else None

-- who steps, and how; nobody where only the clocks or the group's delta change, a stop is armed or
-- bytes are dropped
abbrev pub turn : Measures → Scene → Step → Option Turn
turn m w (step.Ask server client number cred call) =
    Some (
      place_of server,
      moves_of m w.group (w.armed (place_of server)) (place_of server)
          (Does (Ask client number cred call)),
    )
turn m w (step.Deliver n) = delivery m w (numbered w.group.packets n)
turn m w (step.Tick server) =
    Some (
      place_of server,
      moves_of m w.group (w.armed (place_of server)) (place_of server)
          (Does Tick),
    )
turn m w (step.Suspect server) =
    Some (
      place_of server,
      moves_of m w.group (w.armed (place_of server)) (place_of server)
          (Does Suspect),
    )
turn m w (step.Apply server most) =
    Some (
      place_of server,
      moves_of m w.group (w.armed (place_of server)) (place_of server)
          (Does (Apply most)),
    )
turn m w (step.Flush server) =
    Some (
      place_of server,
      moves_of m w.group (w.armed (place_of server)) (place_of server)
          (Does Flush),
    )
turn m w (step.List server) =
    Some (
      place_of server,
      moves_of m w.group (w.armed (place_of server)) (place_of server)
          (Does ListTree),
    )
turn m w (step.Boot server) = Some (place_of server, Booting w.group.delta ∷ [])
turn m w (step.Power server) = Some (
  place_of server,
  moves_of m w.group None (place_of server) (Does Power),
)
turn m w (step.PowerCut server calls pick) =
    Some (place_of server, moves_of m w.group (Some calls) (place_of server) (Does Power))
turn m w (step.Crash server pick) = Some (
  place_of server,
  moves_of m w.group None (place_of server) (Does Crash),
)
turn m w s = None

-- the group after a server's moves
abbrev pub moved_in : Group Entry → Turn → Group Entry
moved_in g x = moved_by g x.0 (g.server x.0) x.1

-- the group after the moves, if a server steps
abbrev pub moved_where : Group Entry → Option Turn → Group Entry
moved_where g None = g
moved_where g (Some x) = moved_in g x

-- the length of later promises; none is taken up outside its bounds
abbrev pub with_delta : Group Entry → ℕ → Group Entry
with_delta g millis = if all_of (delta_tests millis) then record g { delta = millis } else g

-- the group after a step
abbrev pub group_after : Measures → Scene → Step → Group Entry
group_after m w (step.Clock server reading) =
    record w.group { clock = at w.group.clock (place_of server) reading }
group_after m w (step.Advance millis) = record w.group { clock = λ q. w.group.clock q + millis }
group_after m w (step.Delta millis) = with_delta w.group millis
group_after m w s = moved_where w.group (turn m w s)

-- the numbers of the packets that were delivered
abbrev pub delivered_after : List ℕ → Step → List ℕ
delivered_after delivered (step.Deliver n) = n ∷ delivered
delivered_after delivered s = delivered

-- no stop is armed at the server that stepped
abbrev pub disarmed : (Place → Option ℕ) → Option Turn → Place → Option ℕ
disarmed armed None = armed
disarmed armed (Some x) = at armed x.0 None

-- a stop is armed until the server's next step
abbrev pub armed_after : Measures → Scene → Step → Place → Option ℕ
armed_after m w (step.Stop server calls pick) = at w.armed (place_of server) (Some calls)
armed_after m w s = disarmed w.armed (turn m w s)

-- the bytes of the messages that these moves send
unfoldable pub bytes_of : Measures → List Entry → List (Move Entry) → ℕ
bytes_of m list [] = 0
bytes_of m list (Sending to message ∷ ms) = m.bytes list message + bytes_of m list ms
bytes_of m list (move ∷ ms) = bytes_of m list ms

-- the bytes that a step sends
abbrev pub bytes_where : Measures → Group Entry → Option Turn → ℕ
bytes_where m g None = 0
bytes_where m g (Some x) = bytes_of m (list_of (moved_in g x) x.0) x.1

-- what a step leaves
abbrev pub next : Measures → Scene → Step → Scene
next m w s = record {
  group = group_after m w s;
  delivered = delivered_after w.delivered s;
  armed = armed_after m w s;
  sent = w.sent + bytes_where m w.group (turn m w s);
}

-- what a step gives beside its event line, if a server steps
abbrev pub lines_where : Group Entry → Option Turn → List Line → List Line
lines_where g None listing = []
lines_where g (Some x) listing = lines_of_moves g (moved_in g x) x.0 x.1 listing

-- the lines of a step: its event line, and then what it gives
abbrev pub step_lines : Measures → Scene → Step → List Line
step_lines m w s = line.Event s ∷ lines_where w.group (turn m w s) (listing_of w.group s)

-- ---- a run

-- a step of one server, of the clocks, or of the group's delta
abbrev pub is_elementary : Step → Bool
is_elementary (step.Pump among) = false
is_elementary s = true

-- no step is refused, and each is elementary
abbrev pub AreTaken : Measures → Scene → List Step → Type 0
AreTaken m w [] = Unit {0}
AreTaken m w (s ∷ ss) = (refusal m w s ≡ None) × (is_elementary s ≡ true)
    × AreTaken m (next m w s) ss

-- only a full net may refuse a step, and each is elementary
abbrev pub CanFollow : Measures → Scene → List Step → Type 0
CanFollow m w [] = Unit {0}
CanFollow m w (s ∷ ss) = (own_refusal m w.group s ≡ None) × (is_elementary s ≡ true)
    × CanFollow m (next m w s) ss

-- what steps leave, one after the other
unfoldable pub run : Measures → Scene → List Step → Scene
run m w [] = w
run m w (s ∷ ss) = run m (next m w s) ss

-- the lines of steps, one after the other
unfoldable pub run_lines : Measures → Scene → List Step → List Line
run_lines m w [] = []
run_lines m w (s ∷ ss) = step_lines m w s ++ run_lines m (next m w s) ss
