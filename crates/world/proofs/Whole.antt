-- A whole turn of a server: what its host gives in the world is what the scene after it has.
use Rattle.std.proofs.Common.{◌≡◌, ◌+◌, List, [], ◌++◌, append-nil, drop, length, sym, ap, ◌∙◌, append_assoc}
use Rattle.file_tree.specs.Book.{Entry}
use Rattle.fuzzy_cells.specs.Disk.{Disk}
use Rattle.world_lines.specs.Given.{answered_lines as answered_lines_of, book_given, lines_given, packets_of, reads_in, refused_lines as refused_lines_of, sent_lines as sent_lines_of, updates_in}
use Rattle.group_trace.specs.DiskCalls.{measures_of}
use Rattle.group_trace.specs.DiskRun.{DiskScene, Stores}
use Rattle.group_rules.specs.Moves.{Move, moved_by}
use Rattle.group_rules.specs.Names.{place_of}
use Rattle.group_rules.specs.Places.{Place}
use Rattle.group_rules.specs.Said.{committed_of, reads_said, sends_said}
use Rattle.group_rules.specs.State.{Group}
use Rattle.group_rules.specs.Step.{Input as Begins, list_of}
use Rattle.group_trace.specs.Lines.{answered_lines, entered_lines, refused_lines, state_lines}
use Rattle.group_trace.specs.Shown.{shown_of}
use Rattle.harp_types.specs.Trio.{value_of}
use Rattle.harp_types.specs.declared.server.ServerId.{ServerId}
use Rattle.world_laws.specs.Waits.{StepWaits}
use Rattle.world_rules.specs.Host.{HostValue}
use Rattle.world_rules.specs.Spellings.{spellings}
use Rattle.world_rules.specs.Steps.{TakesWhole, moves_at, peers_by}
use Rattle.node.specs.declared.input.Input.{Input}
use Rattle.node_outputs.specs.Said.{Said}
use Rattle.node_outputs.specs.declared.outputs.Outputs.{Outputs}
use Rattle.world_lines.proofs.Machine.{as_many_stand}
use Rattle.trace_types.specs.declared.line.Line.{Line}
use Rattle.world.specs.Turns.{TurnBegins}
use Rattle.world.specs.World.{IsServer, IsWorld, WorldValue}
use Rattle.world.proofs.Begun.{Begun}
use Rattle.world.proofs.Books.{Brings, book_brought, book_lines}
use Rattle.world.proofs.Laws.{Laws}
use Rattle.world.proofs.Says.{answers_are, reads_are, refusals_are}
use Rattle.world.proofs.Scenes.{lines_after, scene_after}
use Rattle.world.proofs.Sends.{sends_lines}
use Rattle.world.proofs.Servers.{turned_to}
use Rattle.world.proofs.Turned.{Turned, sent_all, turn_begun, turn_waits, turned_stands}

regroup : (e a r s t : List Line) → (e ++ (a ++ (r ++ s))) ++ t
    ≡ e ++ (a ++ (r ++ (s ++ (t ++ []))))
regroup e a r s t = append_assoc e (a ++ (r ++ s)) t
    ∙ ap (λ x. e ++ x) (append_assoc a (r ++ s) t
    ∙ ap (λ x. a ++ x) (append_assoc r s t
    ∙ ap (λ x. r ++ (s ++ x)) (sym (append-nil t))))

-- what a turn that isn't cut has: its beginning, its server's host before it, and what the host
-- makes of it
pub record WholeTurn (w : DiskScene) (x : WorldValue) (server : ServerId) (given : Input)
    (i : Begins) (left : Disk) (h : HostValue) (outs : Outputs) : Type 0 where
  pub begins : TurnBegins w x (place_of server) given i
  pub me : h.me ≡ place_of server
  pub takes : TakesWhole w.scene.group (place_of server) given i
      (begins.stands.servers server).stock (begins.stands.servers server).saved left h outs

module _ (l : Laws) (w : DiskScene) (x : WorldValue) (server : ServerId) (given : Input)
    (i : Begins) (left : Disk) (h : HostValue) (outs : Outputs)
    (t : WholeTurn w x server given i left h outs) where
  abbrev q : Place
  q = place_of server

  abbrev g : Group Entry
  g = w.scene.group

  abbrev ms : List (Move Entry)
  ms = moves_at g q i

  abbrev after : Group Entry
  after = moved_by g q (g.server q) ms

  abbrev own : IsServer w server (value_of x.hosts server)
  own = t.begins.stands.servers server

  -- the same of its messages alone
  abbrev turned : Turned w x server given i left h outs.sends.items
  turned = record {
    begins = t.begins;
    me = t.me;
    host = t.takes.host;
    said = ap (λ (s : Said). s.sends) t.takes.said;
    sent = t.takes.sent;
  }

  begins : Begun (measures_of spellings).size g q given i
  begins = turn_begun l w x server given i left h outs.sends.items turned

  waits : StepWaits g q own.stock given i
  waits = turn_waits l w x server given i left h outs.sends.items turned

  -- ---- the book

  brings : Brings g after outs
  brings =
      let grows = begins.grows in
      record {
        committed = committed_of q (g.clock q) (g.server q) ms;
        reads = reads_said ms;
        has_committed = ap (λ (s : Said). s.committed) t.takes.said;
        has_reads = ap reads_in (ap (λ (s : Said). s.answers) t.takes.said)
            ∙ reads_are ms (peers_by own.stock given) waits.answers;
        updates = grows.committed;
        book = grows.book;
      }

  -- ---- all of it

  pub whole_stands : (disks : Stores) → disks q ≡ left
      → ((y : Place) → (y ≡ q → ⊥) → disks y ≡ w.disks y)
      → IsWorld (scene_after w q ms disks)
      (turned_to x server h (x.packets ++ packets_of server outs.sends.items)
      (book_given x.book outs))
  whole_stands disks is others = turned_stands l w x server given i left h outs.sends.items turned
      disks is others (book_given x.book outs)
      (book_brought g after outs x.book brings t.begins.stands.book)

  pub whole_lines : lines_given server x.book (length x.packets) outs
      ++ state_lines q (shown_of (g.server q)) (shown_of (after.server q)) ≡ lines_after w q ms
  whole_lines =
      let e = entered_lines (length x.book.entries)
      (updates_in x.book outs ++ reads_in outs.answers.items) in
      let a = answered_lines_of server outs.answers.items in
      let r = refused_lines_of server outs.refusals.items in
      let s = sent_lines_of server (length x.packets) outs.sends.items in
      let now = state_lines q (shown_of (g.server q)) (shown_of (after.server q)) in
      let e' = entered_lines (length g.book) (drop (length g.book) after.book) in
      let a' = answered_lines q ms in
      let r' = refused_lines q ms in
      regroup e a r s now
      ∙ ap (λ y. y ++ (a ++ (r ++ (s ++ (now ++ [])))))
      (book_lines g after outs x.book brings t.begins.stands.book)
      ∙ ap (λ y. e' ++ (y ++ (r ++ (s ++ (now ++ [])))))
      (ap (answered_lines_of server) (ap (λ (s : Said). s.answers) t.takes.said)
      ∙ answers_are server ms (peers_by own.stock given) waits.answers)
      ∙ ap (λ y. e' ++ (a' ++ (y ++ (s ++ (now ++ [])))))
      (ap (refused_lines_of server) (ap (λ (s : Said). s.refusals) t.takes.said)
      ∙ refusals_are server ms (peers_by own.stock given) waits.refusals)
      ∙ ap (λ y. e' ++ (a' ++ (r' ++ (y ++ (now ++ [])))))
      (ap (λ n. sent_lines_of server n outs.sends.items)
      (as_many_stand x.packets g.packets w.scene.delivered t.begins.stands.packets.packets)
      ∙ sends_lines after.page ((measures_of spellings).bytes (list_of after q)) server
      (length g.packets) outs.sends.items (sends_said ms)
      (sent_all l w x server given i left h outs.sends.items turned))
