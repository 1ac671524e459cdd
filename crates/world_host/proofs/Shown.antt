-- What a trace shows of a host.
use Rattle.std.proofs.Common.{◌≡◌, true, List, None, Option, Some, ap, subst, sym, ◌∙◌}
use Rattle.event_record.specs.Record.{entry_of}
use Rattle.event_record.specs.declared.record.RecordFields.{RecordFields}
use Rattle.file_tree.specs.Book.{Entry}
use Rattle.fuzzy_cells.specs.Disk.{Disk}
use Rattle.group_rules.proofs.Tests.{if_is}
use Rattle.group_rules.specs.Shown.{state_of}
use Rattle.group_rules.specs.State.{Server}
use Rattle.group_trace.specs.Shown.{shown_of}
use Rattle.harp_types.specs.declared.state.StateLine.{StateLine}
use Rattle.world_host.specs.Shows.{IsShown}
use Rattle.world_rules.specs.Host.{HostValue, IsHost, IsNodeOf, Runs, disk_of}
use Rattle.node.specs.Node.{IsServer, NodeValue}
use Rattle.node.specs.Stock.{Stock}
use Rattle.std.specs.Prelude.{map}

-- the node of a host that is up
pub its_node : (s : Server Entry) (k : Stock) (saved : List RecordFields) (r : Disk)
    (h : HostValue) (n : NodeValue) → IsHost s k saved r h → h.node ≡ Some n
    → Runs s k saved h.me (disk_of h) n
its_node s k saved r h n host is =
    subst (λ (o : Option NodeValue). IsNodeOf s k saved h.me (disk_of h) o) is host.node

-- the line that is kept of it is that of the machine's server
pub shown_up : (s : Server Entry) (k : Stock) (saved : List RecordFields) (r : Disk)
    (h : HostValue) (n : NodeValue) (line : Option StateLine) → IsHost s k saved r h
    → h.node ≡ Some n → IsServer n → IsShown line n → line ≡ shown_of s
shown_up s k saved r h n line host is served shows =
    let same = (its_node s k saved r h n host is).server in
    let up : s.up ≡ true = ap (λ (x : Server Entry). x.up) (sym same) ∙ served.up in
    shows (map entry_of saved)
    ∙ ap (λ (x : Server Entry). Some (state_of x)) same
    ∙ sym (if_is s.up (Some (state_of s)) None up)
