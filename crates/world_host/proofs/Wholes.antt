-- A host after a whole step of its node.
use Rattle.std.proofs.Common.{◌≡◌, Box, ℕ, List, [], ◌++◌, map, Option, Some, None, refl, sym, ap, subst, ◌∙◌}
use Rattle.std.specs.Prelude.{IfSome, option_map}
use Rattle.std.specs.declared.alloc.Global.{Global}
use Rattle.event_record.specs.Record.{entry_of}
use Rattle.event_record.specs.declared.record.RecordFields.{RecordFields}
use Rattle.file_tree.specs.Book.{Entry}
use Rattle.fuzzy_cells.specs.Disk.{Disk}
use Rattle.group_trace.specs.DiskCalls.{measures_of}
use Rattle.world_host.proofs.Givens.{listing_is, same_fills, same_peers, same_tree}
use Rattle.world_host.proofs.Marks.{base_written, mark_written, saves_written}
use Rattle.world_host.proofs.NodeCalls.{CanCall, is_of, none_saved, plain_moves}
use Rattle.world_rules.specs.Host.{HostValue, IsHost, IsHostAt, IsRunning, SavesRecords, disk_of, with_node}
use Rattle.world_rules.specs.Spellings.{spellings}
use Rattle.world_rules.specs.Steps.{CanTakeAt, TakesWhole, listing_by, moves_at, peers_by}
use Rattle.group_rules.specs.Moves.{Move, acts}
use Rattle.group_rules.specs.Places.{Place}
use Rattle.group_rules.specs.State.{Group, Server, mark_of}
use Rattle.group_rules.specs.Step.{Input as Begins, list_of, step}
use Rattle.harp_types.specs.declared.peer.Peer.{Peer}
use Rattle.harp_store.specs.Disk.{Disk as ToldDisk, Moments}
use Rattle.harp_store.specs.Mark.{MarkFields}
use Rattle.idle_log.specs.Gives.{StandIn}
use Rattle.node.specs.Boot.{HasBase}
use Rattle.node.specs.Input.{FillsInput, came, input_of, peers_of}
use Rattle.node.specs.Node.{IsServer, NodeValue, server}
use Rattle.node.specs.Serving.{entry_size}
use Rattle.node.specs.Step.{ListsFor, StepsWhole}
use Rattle.node.specs.Stock.{Stock, stock, stock_after}
use Rattle.node.specs.Stored.{LeavesBy, disk_by, log_of, mark_by}
use Rattle.node.specs.Taking.{stepped}
use Rattle.node.specs.declared.input.Input.{Input}
use Rattle.node_outputs.specs.Makes.{with_moves}
use Rattle.node_outputs.specs.Records.{records_sent}
use Rattle.node_outputs.specs.Said.{nothing, said}
use Rattle.node_outputs.specs.declared.outputs.Outputs.{Outputs}
use Rattle.store_laws.specs.Told.{IsDiskOf}
use Rattle.replica.specs.Asking.{recorded}

-- what a node says of a step that went well
pub record Stepped (clock : ℕ) (given : Input) (n new : NodeValue) (told left : Option Moments)
    (outs : Outputs) : Type 0 where
  pub steps : (items list : List Entry) → FillsInput list n clock told given
      → StepsWhole clock list items given
      (stepped entry_size n.me clock list (server n items) (input_of given)) n new outs
  pub listing : ListsFor given n told None outs.listing
  pub me : new.me ≡ n.me
  pub served : IsServer new
  pub mark : (size : List Entry → Entry → ℕ) (list : List Entry) → new.mark ≡ mark_by n
      (stepped size n.me clock list n.plain (input_of given)) (input_of given)
  pub written : (size : List Entry → Entry → ℕ) (list : List Entry) → left ≡ disk_by n
      (stepped size n.me clock list n.plain (input_of given)) (input_of given) told

-- ---- the node that a host had

pub ran_node : (o : Option (Box NodeValue Global)) (b : Box NodeValue Global) (d : ToldDisk)
    → o ≡ Some b → IfSome (option_map (λ x. x.value) o) (IsRunning d) → IsRunning d b.value
ran_node o b d is runs = subst (λ (o : Option (Box NodeValue Global)).
    IfSome (option_map (λ x. x.value) o) (IsRunning d)) is runs

pub had_node : (h : HostValue) (o : Option (Box NodeValue Global)) (b : Box NodeValue Global)
    → option_map (λ x. x.value) o ≡ h.node → o ≡ Some b → with_node h b.value ≡ h
had_node h o b had is = ap (λ (n : Option NodeValue). record h { node = n })
    (sym (ap (λ (o : Option (Box NodeValue Global)). option_map (λ x. x.value) o) is) ∙ had)

-- ---- hosts by their parts

-- a host is at this place, with this node, if any, over this disk
pub record Holds (h : HostValue) (q : Place) (o : Option NodeValue) (d : ToldDisk) : Type 0 where
  pub me : h.me ≡ q
  pub node : h.node ≡ o
  pub disk : disk_of h ≡ d

pub host_from : (s : Server Entry) (k : Stock) (saved : List RecordFields) (r : Disk)
    (h : HostValue) (q : Place) (o : Option NodeValue) (d : ToldDisk) → Holds h q o d
    → IsHostAt s k saved r q o d → IsHost s k saved r h
host_from s k saved r h q o d holds at =
    subst (λ (x : Place). IsHostAt s k saved r x h.node (disk_of h)) (sym holds.me)
    (subst (λ (x : Option NodeValue). IsHostAt s k saved r q x (disk_of h)) (sym holds.node)
    (subst (λ (x : ToldDisk). IsHostAt s k saved r q o x) (sym holds.disk) at))

-- ---- what its disk has of the mark

-- the mark on the disk is the node's
pub node_mark : (s : Server Entry) (k : Stock) (saved : List RecordFields) (r : Disk)
    (n : NodeValue) (d : ToldDisk) → (h : IsHostAt s k saved r n.me (Some n) d)
    → h.mark.mark ≡ n.mark
node_mark s k saved r n d h = let both = sym h.mark.written ∙ h.node.mark in cc

pub node_saves : (s : Server Entry) (k : Stock) (saved : List RecordFields) (r : Disk)
    (n : NodeValue) (d : ToldDisk) → IsHostAt s k saved r n.me (Some n) d
    → IfSome n.mark.saved (SavesRecords saved d)
node_saves s k saved r n d h = subst (λ (m : MarkFields). IfSome m.saved (SavesRecords saved d))
    (node_mark s k saved r n d h) h.mark.saves

pub node_base : (s : Server Entry) (k : Stock) (saved : List RecordFields) (r : Disk)
    (n : NodeValue) (d : ToldDisk) → IsHostAt s k saved r n.me (Some n) d → HasBase n.me n.mark
node_base s k saved r n d h =
    subst (λ (m : MarkFields). HasBase n.me m) (node_mark s k saved r n d h) h.mark.base

-- ---- what the node's calls rest on

pub can_call : (g : Group Entry) (given : Input) (i : Begins) (k : Stock)
    (saved : List RecordFields) (r : Disk) (n : NodeValue) (d : ToldDisk)
    → IsHostAt (g.server n.me) k saved r n.me (Some n) d
    → CanTakeAt g n.me given i r (Some n) d → CanCall g n
can_call g given i k saved r n d h can =
    let items = map entry_of saved in
    let of = is_of g n items h.node.server in
    record {
      of = of;
      unsaved = λ e. none_saved items n.mark
          (ap (λ (s : Server Entry). s.saved) h.node.server ∙ can.unsaved (of.settled ∙ e));
      applied = λ most e. can.applied n most refl e;
    }

-- ---- the host afterwards

moves_as : (g : Group Entry) (n : NodeValue) (i : Begins) (items : List Entry)
    → server n items ≡ g.server n.me
    → step (measures_of spellings).size n.me (g.clock n.me) (list_of g n.me) (server n items) i
    ≡ moves_at g n.me i
moves_as g n i items same = ap (λ (s : Server Entry).
    step (measures_of spellings).size n.me (g.clock n.me) (list_of g n.me) s i) same

-- the node's step, as one of the group
steps_at : (g : Group Entry) (given : Input) (i : Begins) (n new : NodeValue)
    (told left : Option Moments) (outs : Outputs) (items : List Entry)
    → server n items ≡ g.server n.me → input_of given ≡ Some i
    → Stepped (g.clock n.me) given n new told left outs
    → FillsInput (list_of g n.me) n (g.clock n.me) told given
    → StepsWhole (g.clock n.me) (list_of g n.me) items given (moves_at g n.me i) n new outs
steps_at g given i n new told left outs items same begins h fills =
    let clock = g.clock n.me in
    let list = list_of g n.me in
    subst (λ (ms : List (Move Entry)). StepsWhole clock list items given ms n new outs)
    (moves_as g n i items same)
    (subst (λ (o : Option Begins). StepsWhole clock list items given
    (stepped entry_size n.me clock list (server n items) o) n new outs) begins
    (h.steps items list fills))

mark_at : (g : Group Entry) (given : Input) (i : Begins) (n new : NodeValue)
    (told left : Option Moments) (outs : Outputs) → input_of given ≡ Some i
    → Stepped (g.clock n.me) given n new told left outs
    → new.mark ≡ mark_by n (plain_moves g n i) (Some i)
mark_at g given i n new told left outs begins h =
    let clock = g.clock n.me in
    let list = list_of g n.me in
    subst (λ (o : Option Begins). new.mark ≡ mark_by n
    (stepped (measures_of spellings).size n.me clock list n.plain o) o) begins
    (h.mark (measures_of spellings).size list)

pub disk_begun : (g : Group Entry) (given : Input) (i : Begins) (n : NodeValue)
    (told left : Option Moments) → input_of given ≡ Some i
    → ((size : List Entry → Entry → ℕ) (list : List Entry) → left ≡ disk_by n
    (stepped size n.me (g.clock n.me) list n.plain (input_of given)) (input_of given) told)
    → left ≡ disk_by n (plain_moves g n i) (Some i) told
disk_begun g given i n told left begins made =
    let clock = g.clock n.me in
    let list = list_of g n.me in
    subst (λ (o : Option Begins). left ≡ disk_by n
    (stepped (measures_of spellings).size n.me clock list n.plain o) o told) begins
    (made (measures_of spellings).size list)

pub written_at : (g : Group Entry) (given : Input) (i : Begins) (n new : NodeValue)
    (told left : Option Moments) (outs : Outputs) → input_of given ≡ Some i
    → Stepped (g.clock n.me) given n new told left outs
    → left ≡ disk_by n (plain_moves g n i) (Some i) told
written_at g given i n new told left outs begins h =
    disk_begun g given i n told left begins h.written

-- the same after an error
pub part_at : (g : Group Entry) (given : Input) (i : Begins) (n : NodeValue)
    (told left : Option Moments) → input_of given ≡ Some i
    → ((size : List Entry → Entry → ℕ) (list : List Entry) → LeavesBy n
    (stepped size n.me (g.clock n.me) list n.plain (input_of given)) (input_of given) told left)
    → LeavesBy n (plain_moves g n i) (Some i) told left
part_at g given i n told left begins h =
    let clock = g.clock n.me in
    let list = list_of g n.me in
    subst (λ (o : Option Begins). LeavesBy n
    (stepped (measures_of spellings).size n.me clock list n.plain o) o told left) begins
    (h (measures_of spellings).size list)

-- THE HOST after the step
pub taken_whole : (g : Group Entry) (given : Input) (i : Begins) (k : Stock)
    (saved : List RecordFields) (r rest : Disk) (n new : NodeValue) (old left : Moments)
    (outs : Outputs) (host : HostValue) → Holds host n.me (Some new) left.now
    → IsHostAt (g.server n.me) k saved r n.me (Some n) old.now
    → CanTakeAt g n.me given i r (Some n) old.now
    → Stepped (g.clock n.me) given n new (Some old) (Some left) outs → IsDiskOf left.now rest
    → TakesWhole g n.me given i k saved rest host outs
taken_whole g given i k saved r rest n new old left outs host holds h can st disk =
    let q = n.me in
    let clock = g.clock q in
    let list = list_of g q in
    let s = g.server q in
    let items = map entry_of saved in
    let same : server n items ≡ s = h.node.server in
    let ms = moves_at g q i in
    let calls = can_call g given i k saved r n old.now h can in
    let here : Moments = record { past = []; now = old.now } in
    let fills : FillsInput list n clock (Some old) given =
    same_fills list n clock here old given refl (can.fills n refl) in
    let w = steps_at g given i n new (Some old) (Some left) outs items same can.begins st fills in
    let peers : peers_of n given ≡ peers_by k given = same_peers n given
    ∙ ap (λ (x : Stock). peers_by x given) h.node.stock in
    let marked = mark_at g given i n new (Some old) (Some left) outs can.begins st in
    let made = written_at g given i n new (Some old) (Some left) outs can.begins st in
    let state : server new items ≡ acts q clock s ms = w.machine.state
    ∙ ap (λ (x : Server Entry). acts q clock x ms) same in
    let has : left.now.mark ≡ Some new.mark = mark_written n (plain_moves g n i) i old left
    new.mark h.node.mark made marked in
    let whole = w.whole
    ∙ ap (λ (ps : List Peer). stock_after q clock list (came given) ps (server n items) ms
    (stock n)) peers
    ∙ ap (λ (x : Server Entry). stock_after q clock list (came given) (peers_by k given) x ms
    (stock n)) same
    ∙ ap (stock_after q clock list (came given) (peers_by k given) s ms) h.node.stock in
    record {
      said = w.machine.said
          ∙ ap (λ (ps : List Peer). with_moves q clock (server n items) ms ps nothing) peers
          ∙ ap (λ (x : Server Entry). with_moves q clock x ms (peers_by k given) nothing) same;
      sent = subst (λ (x : Stock). StandIn (x.log ++ recorded s.accepted list ms)
          (records_sent outs)) h.node.stock
          (subst (λ (x : Server Entry). StandIn (n.records ++ recorded x.accepted list ms)
          (records_sent outs)) same w.sent);
      listing = listing_is outs n items list clock (measures_of spellings).size given i
          (peers_of n given) (Some old) can.begins st.listing
          (λ e. same_tree list n.plain.cp (log_of n) here old refl (can.tree n refl e))
          (subst (λ (x : List (Move Entry)). said outs
          ≡ with_moves q clock (server n items) x (peers_of n given) nothing)
          (sym (moves_as g n i items same)) w.machine.said)
          ∙ ap (λ (x : Server Entry). listing_by x q list given) same;
      host = host_from _ _ saved rest host q (Some new) left.now holds (record {
        node = record { me = st.me; server = state; stock = whole; mark = has };
        mark = record {
          mark = new.mark;
          written = has;
          machine = sym (st.served.mark items) ∙ ap (λ (x : Server Entry). mark_of x) state;
          saves = subst (λ (m : MarkFields). IfSome m.saved (SavesRecords saved left.now))
              (sym marked)
              (saves_written n (plain_moves g n i) i saved old left calls.unsaved
              (node_saves s k saved r n old.now h) made);
          base = subst (λ (m : MarkFields). HasBase q m) (sym marked)
              (base_written n (plain_moves g n i) i (node_base s k saved r n old.now h));
        };
        disk = disk;
      });
    }
