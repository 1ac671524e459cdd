-- A faithful trace: its entered lines are a book, its answers are the book's, and each entry was
-- asked for.
use Rattle.std.specs.Prelude.{Bool, ◌≡◌, ℕ, ◌+◌, true, false, [], ◌∷◌, ◌++◌, length, Option, Some, Contains}
use Rattle.harp_types.specs.declared.call.Call.{Call}
use Rattle.harp_types.specs.declared.cred.Cred.{Cred}
use Rattle.harp_types.specs.declared.reply.Reply.{Reply}
use Rattle.harp_types.specs.declared.server.ServerId.{ServerId}
use Rattle.trace_types.specs.declared.step.Step.{Step}
use Rattle.trace_types.specs.declared.step.Step.TheVariants as step
use Rattle.harp_types.specs.declared.book.BookEntry.{BookEntry}
use Rattle.trace_types.specs.declared.line.Line.{Line}
use Rattle.trace_types.specs.declared.line.Line.TheVariants as line
use Rattle.trace_claims.specs.Trace.{Trace, entries, steps, step_under_way, AtEachPlace}
use Rattle.harp_types.specs.Update.{is_update}
use Rattle.file_tree.specs.Book.{Entry, IsBook}

-- an entered line has the next number, from 1
abbrev pub IsNumbered : Trace → Line → Type 0
IsNumbered before (line.Entered place entry) = place ≡ length (entries before) + 1
IsNumbered before l = Unit {0}

-- an entered update before has this client, number, index and reply
pub record IsUpdateReply (before : Trace) (client number index : ℕ) (reply : Reply) : Type 0 where
  pub entry : Entry
  pub stands : Contains (entries before) entry
  pub updates : is_update entry.call ≡ true
  pub client_is : entry.client ≡ client
  pub number_is : entry.number ≡ number
  pub index_is : entry.index ≡ index
  pub reply_is : entry.reply ≡ reply

-- the line just before enters the read with this client, number, credential, call and reply
pub record IsReadReply (before : Trace) (client number : ℕ) (cred : Cred) (call : Call)
    (reply : Reply) : Type 0 where
  pub earlier : Trace
  pub place : ℕ
  pub entry : BookEntry
  pub stands : before ≡ earlier ++ line.Entered place entry ∷ []
  pub client_is : entry.client ≡ client
  pub number_is : entry.number ≡ number
  pub cred_is : entry.cred ≡ cred
  pub call_is : entry.call ≡ call
  pub reply_is : entry.reply ≡ reply

-- the reply to an update is that of an entered update, the reply to a read that of the read just
-- entered
abbrev pub IsReplyTo : (updates : Bool) → Trace → ℕ → ℕ → ℕ → Cred → Call → Reply → Type 0
IsReplyTo true before client number index cred call reply =
    IsUpdateReply before client number index reply
IsReplyTo false before client number index cred call reply =
    IsReadReply before client number cred call reply

-- an answer of a step that asks for no read is one to an update
abbrev pub IsReplyIn : Option Step → Trace → ℕ → ℕ → ℕ → Reply → Type 0
IsReplyIn (Some (step.Ask server asker asked cred call)) before client number index reply =
    IsReplyTo (is_update call) before client number index cred call reply
IsReplyIn s before client number index reply = IsUpdateReply before client number index reply

-- an answer is its call's reply in the book
abbrev pub IsBookReply : Trace → Line → Type 0
IsBookReply before (line.Answered server client number index reply) =
    IsReplyIn (step_under_way before) before client number index reply
IsBookReply before l = Unit {0}

-- an entered call was asked before, at some server
abbrev pub WasAsked : Trace → Line → Type 0
WasAsked before (line.Entered place entry) = (server : ServerId)
    × Contains (steps before) (step.Ask server entry.client entry.number entry.cred entry.call)
WasAsked before l = Unit {0}

-- Numbered entered lines that are a book, answers that are its replies, and entries that were
-- asked for
pub record IsFaithful (trace : Trace) : Type 0 where
  pub numbered : AtEachPlace IsNumbered trace
  pub book : IsBook (entries trace)
  pub answers : AtEachPlace IsBookReply trace
  pub asked : AtEachPlace WasAsked trace
