-- What a whole step of a place adds to the book, and that its answers are the book's.
use Rattle.std.proofs.Common.{◌≡◌, ℕ, List, ◌++◌, Contains, Option, sym, ap, ◌∙◌, subst}
use Rattle.file_tree.specs.Book.{Entry}
use Rattle.group_rules.specs.Names.{place_of}
use Rattle.group_rules.specs.Said.{answers_said, reads_said}
use Rattle.group_rules.specs.Step.{Input as Begins, list_of}
use Rattle.group_trace.specs.DiskCalls.{measures_of}
use Rattle.group_trace.specs.DiskRun.{DiskScene}
use Rattle.harp_types.specs.declared.peer.Peer.{Peer}
use Rattle.harp_types.specs.declared.server.ServerId.{ServerId}
use Rattle.node.specs.declared.input.Input.{Input}
use Rattle.node_outputs.specs.Said.{Said, answered, in_turn}
use Rattle.node_outputs.specs.declared.outputs.Answered.{Answered}
use Rattle.node_outputs.specs.declared.outputs.Outputs.{Outputs}
use Rattle.trace_laws.proofs.Answering.{kind_answers}
use Rattle.world.specs.Turns.{TurnBegins}
use Rattle.world.specs.World.{WorldValue}
use Rattle.world_lines.specs.Given.{book_given}
use Rattle.world_rules.specs.Spellings.{spellings}
use Rattle.world_rules.specs.Steps.{moves_at, peers_by}
use Rattle.running_laws.specs.Books.{IsOfBook, answers_in}
use Rattle.running_laws.specs.Events.{Event, Site}
use Rattle.running_laws.proofs.Booked.{answers_of_book}
use Rattle.running_laws.proofs.Owed.{AnswersTo, Owes, step_owed}
use Rattle.running_laws.proofs.Takings.{IsTurn}
use Rattle.running_laws.proofs.Whole.{after_whole, book_after, book_before, book_grows, kind, taken}

module _ (es : List Event) (v : DiskScene) (x : WorldValue) (place : ServerId) (now : ℕ)
    (given : Input) (outs : Option Outputs) (a b : Site) (t : IsTurn x place now given outs a b)
    (i : Begins) (begins : TurnBegins v x (place_of place) given i) where
  -- the book afterwards
  abbrev pub book_left : List Entry
  book_left = (book_given x.book t.step.puts).entries

  pub grows_so : (more : List Entry) × (book_left ≡ x.book.entries ++ more)
  grows_so =
      let grows = book_grows v x place now given outs a b t i begins in
      let after = book_after v x place now given outs a b t i begins in
      let before = book_before v x place now given outs a b t i begins in (
        grows.0 ++ reads_said (moves_at v.scene.group (place_of place) i),
        after ∙ grows.1
            ∙ ap (λ (es : List Entry). es
            ++ (grows.0 ++ reads_said (moves_at v.scene.group (place_of place) i))) (sym before),
      )

  abbrev peers : List Peer
  peers = peers_by (begins.stands.servers place).stock given

  owes : AnswersTo es peers (v.scene.group.server (place_of place)) i
      → Owes es peers (moves_at v.scene.group (place_of place) i)
  owes to =
      let q = place_of place in
      let g = v.scene.group in
      step_owed es peers (measures_of spellings).size q (g.clock q) (list_of g q) (g.server q) i to

  -- the answers that are put out are those of the moves, in turn
  are_said : (r : Answered) → Contains (answers_in outs) r → Contains
      (in_turn answered (answers_said (moves_at v.scene.group (place_of place) i)) peers) r
  are_said r has =
      let put = subst (λ (o : Option Outputs). Contains (answers_in o) r) t.step.outs_are has in
      subst (λ (rs : List Answered). Contains rs r)
      (ap (λ (s : Said). s.answers) (taken v x place now given outs a b t i begins).said) put

  pub answered_so : AnswersTo es peers (v.scene.group.server (place_of place)) i
      → (r : Answered) → Contains (answers_in outs) r → IsOfBook x.book.entries book_left es r
  answered_so to r has =
      let q = place_of place in
      let g = v.scene.group in
      let ms = moves_at g q i in
      let grows = book_grows v x place now given outs a b t i begins in
      let after = book_after v x place now given outs a b t i begins in
      subst (λ (old : List Entry). IsOfBook old book_left es r)
      (sym (book_before v x place now given outs a b t i begins))
      (answers_of_book es g q (g.server q) i ms
      (kind_answers q (g.clock q) (g.server q) i ms
      (kind v x place now given outs a b t i begins))
      (after_whole v x place now given outs a b t i begins) book_left grows.0 after
      (after ∙ grows.1) peers (owes to) r (are_said r has))
