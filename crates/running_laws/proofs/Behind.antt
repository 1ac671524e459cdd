-- Behind a step that may be cut behind a call that changes the disk: its node, by the rules alone.
use Rattle.std.proofs.Common.{◌≡◌, true, false, List, [], map, Option, None, Some, refl, sym, ap, ◌∙◌}
use Rattle.std.specs.Prelude.{option_map}
use Rattle.event_record.specs.Record.{entry_of}
use Rattle.event_record.specs.declared.record.RecordFields.{RecordFields}
use Rattle.file_tree.specs.Book.{Entry}
use Rattle.fuzzy_cells.specs.Disk.{Disk}
use Rattle.group_rules.specs.Moves.{acts}
use Rattle.group_rules.specs.State.{Group, Mark, Saved, Server, mark_of}
use Rattle.group_rules.specs.Step.{Input as Begins, list_of, step}
use Rattle.group_trace.specs.DiskCalls.{measures_of}
use Rattle.group_trace.specs.DiskRun.{disk_after}
use Rattle.harp_store.specs.Disk.{Moments}
use Rattle.harp_store.specs.Mark.{MarkFields}
use Rattle.harp_types.specs.declared.pick.Pick.{Pick}
use Rattle.node.specs.Input.{came}
use Rattle.node.specs.Node.{IsServer, NodeValue, mark_with, saved_with}
use Rattle.node.specs.Stock.{Stock, stock_after}
use Rattle.node.specs.Stored.{disk_by, mark_by}
use Rattle.node.specs.declared.input.Input.{Input}
use Rattle.world_host.proofs.Givens.{is_given, is_no_crash}
use Rattle.world_host.proofs.Marks.{base_written, mark_written, saves_written}
use Rattle.world_host.proofs.NodeCalls.{plain_moves, whole_called}
use Rattle.world_host.proofs.Stops.{step_sound}
use Rattle.world_host.proofs.Wholes.{can_call, node_base, node_saves}
use Rattle.world_rules.specs.Host.{IsHostAt}
use Rattle.world_rules.specs.Spellings.{spellings}
use Rattle.world_rules.specs.Steps.{CanTakeAt, moves_at, peers_by}
use Rattle.running_laws.proofs.Bare.{MayWrite}
use Rattle.running_laws.proofs.Marked.{mark_writes}

-- what stands at a place before such a step, and the disk behind its last call
pub record IsBehind (g : Group Entry) (given : Input) (i : Begins) (k : Stock)
    (saved : List RecordFields) (r : Disk) (n : NodeValue) (old left : Moments) : Type 0 where
  pub may : MayWrite i
  pub host : IsHostAt (g.server n.me) k saved r n.me (Some n) old.now
  pub can : CanTakeAt g n.me given i r (Some n) old.now
  pub served : IsServer n
  pub up : (acts n.me (g.clock n.me) (g.server n.me) (moves_at g n.me i)).up ≡ true
  pub made : Some left ≡ disk_by n (plain_moves g n i) (Some i) (Some old)

module _ (g : Group Entry) (given : Input) (i : Begins) (k : Stock) (saved : List RecordFields)
    (r : Disk) (n : NodeValue) (old left : Moments)
    (t : IsBehind g given i k saved r n old left) where
  abbrev s : Server Entry
  s = g.server n.me

  -- the server afterwards, and what it has beside
  abbrev after : Server Entry
  after = acts n.me (g.clock n.me) s (moves_at g n.me i)

  abbrev stock_left : Stock
  stock_left = stock_after n.me (g.clock n.me) (list_of g n.me) (came given) (peers_by k given) s
      (moves_at g n.me i) k

  abbrev mark_left : MarkFields
  mark_left = mark_by n (plain_moves g n i) (Some i)

  -- THE NODE behind the step
  abbrev pub node_left : NodeValue
  node_left = record {
    me = n.me;
    halted = false;
    mark = mark_left;
    plain = after;
    records = stock_left.log;
    pulled = stock_left.pulled;
    peers = stock_left.waits;
    cached = [];
  }

  abbrev items : List Entry
  items = map entry_of saved

  has_mark : mark_with items mark_left ≡ mark_of after
  has_mark = mark_writes (measures_of spellings).size (g.clock n.me) (list_of g n.me) n t.served
      items i t.may
      ∙ ap (λ (z : Server Entry). mark_of (acts n.me (g.clock n.me) z
      (step (measures_of spellings).size n.me (g.clock n.me) (list_of g n.me) z i)))
      t.host.node.server

  pub left_served : IsServer node_left
  left_served = record {
    up = t.up;
    mark = λ es. ap (λ (m : Mark Entry). record m {
      saved = option_map (saved_with es) mark_left.saved;
    }) (sym has_mark);
  }

  written : left.now.mark ≡ Some mark_left
  written = mark_written n (plain_moves g n i) i old left mark_left t.host.node.mark t.made refl

  -- IT IS THE HOST'S
  pub left_host : (pick : Pick) → IsHostAt after stock_left saved
      (disk_after spellings g None pick n.me i r) n.me (Some node_left) left.now
  left_host pick =
      let calls = can_call g given i k saved r n old.now t.host t.can in
      record {
        node = record {
          me = refl;
          server = ap (λ (o : Option (Saved Entry)). record after { saved = o })
              (ap (λ (m : Mark Entry). m.saved) has_mark);
          stock = refl;
          mark = written;
        };
        mark = record {
          mark = mark_left;
          written = written;
          machine = has_mark;
          saves = saves_written n (plain_moves g n i) i saved old left calls.unsaved
              (node_saves s k saved r n old.now t.host) t.made;
          base = base_written n (plain_moves g n i) i (node_base s k saved r n old.now t.host);
        };
        disk = step_sound spellings g pick n.me i n.mark old left r t.host.disk t.can.few
            (is_no_crash given i t.can.begins)
            (whole_called g n i (Some old) (Some left) calls (is_given given i t.can.begins)
            t.made);
      }
