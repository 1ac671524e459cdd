-- The book of a history: what was asked for, and what was answered.
use Rattle.std.specs.Prelude.{◌≡◌, ℕ, List, [], ◌∷◌, ◌++◌, Contains, MatchBool, Option, None, Some, true}
use Rattle.file_tree.specs.Book.{Entry, IsBook}
use Rattle.harp_types.specs.Update.{is_update}
use Rattle.harp_types.specs.declared.call.Call.{Call}
use Rattle.harp_types.specs.declared.cred.Cred.{Cred}
use Rattle.harp_types.specs.declared.peer.Peer.{Peer}
use Rattle.node_link.specs.declared.link.Datagram.{Datagram}
use Rattle.node_loop.specs.Arriving.{IsMessage}
use Rattle.node_outputs.specs.declared.outputs.Answered.{Answered}
use Rattle.node_outputs.specs.declared.outputs.Outputs.{Outputs}
use Rattle.wire.specs.declared.message.Message.TheVariants.{Ask}
use Rattle.running_laws.specs.Events.{Event, Takes}

abbrev pub answers_in : Option Outputs → List Answered
answers_in None = []
answers_in (Some outs) = outs.answers.items

-- a datagram with this call under this number of a client was taken, from this peer
pub record WasAsked (events : List Event) (client number : ℕ) (cred : Cred) (call : Call)
    (peer : Peer) : Type 0 where
  pub event : Event
  pub among : Contains events event
  pub datagram : Datagram
  pub takes : event.what ≡ Takes datagram
  pub from : datagram.from ≡ peer
  pub asks : IsMessage datagram.bytes (Ask client number cred call)

-- AN ANSWER IS THE BOOK'S: it tells the reply of an entry, to a peer that asked under its number.
-- An update's entry is the one that stands under the number, whatever call was asked under it
-- again; a read's is of the call that was asked, and the last one, which the same event entered
pub record IsOfBook (before book : List Entry) (events : List Event) (a : Answered) : Type 0 where
  pub entry : Entry
  pub client : entry.client ≡ a.client
  pub number : entry.number ≡ a.number
  pub reply : entry.reply ≡ a.reply
  pub cred : Cred
  pub call : Call
  pub asked : WasAsked events a.client a.number cred call a.peer
  pub place : MatchBool (is_update entry.call)
      ((is_update call ≡ true) × Contains book entry × (entry.index ≡ a.index))
      ((call ≡ entry.call) × (cred ≡ entry.cred)
      × ((more : List Entry) × (book ≡ before ++ (more ++ entry ∷ []))))

-- AN EVENT ADDS TO THE BOOK: it is one run of one file tree still, each call in it was asked for by
-- then, and each answer of the event is its
pub record AddsTo (before : List Event) (e : Event) (old new : List Entry) : Type 0 where
  pub more : List Entry
  pub grows : new ≡ old ++ more
  pub is_book : IsBook new
  pub asked : (x : Entry) → Contains new x
      → (peer : Peer) × WasAsked (before ++ e ∷ []) x.client x.number x.cred x.call peer
  pub answers : (a : Answered) → Contains (answers_in e.outs) a
      → IsOfBook old new (before ++ e ∷ []) a

-- events add to it, one after the other
unfoldable pub AddTo : (before events : List Event) → (old new : List Entry) → Type 0
AddTo before [] old new = new ≡ old
AddTo before (e ∷ es) old new =
    (mid : List Entry) × AddsTo before e old mid × AddTo (before ++ e ∷ []) es mid new

-- THE BOOK OF A HISTORY, which is empty at first
abbrev pub HasBook : List Event → List Entry → Type 0
HasBook events book = AddTo [] events [] book
