-- Linearizable: each answered call took effect at one moment between an ask of it and the answer,
-- and in the order of these moments the calls are those of one tree.
use Rattle.std.specs.Prelude.{◌≡◌, ℕ, ◌∷◌, ◌++◌, Contains}
use Rattle.harp_types.specs.declared.book.BookEntry.{BookEntry}
use Rattle.harp_types.specs.declared.reply.Reply.{Reply}
use Rattle.harp_types.specs.declared.server.ServerId.{ServerId}
use Rattle.trace_types.specs.declared.step.Step.TheVariants as step
use Rattle.trace_types.specs.declared.line.Line.{Line}
use Rattle.trace_types.specs.declared.line.Line.TheVariants as line
use Rattle.trace_claims.specs.Trace.{AtEachPlace, Trace, entries, steps}
use Rattle.file_tree.specs.Book.{IsBook}

-- A client's call with this number and this reply was entered among these lines, and asked for
-- before that at some server
pub record TookEffect (before : Trace) (client number : ℕ) (reply : Reply) : Type 0 where
  pub earlier : Trace
  pub place : ℕ
  pub entry : BookEntry
  pub behind : Trace
  pub parts : before ≡ earlier ++ line.Entered place entry ∷ behind
  pub client_is : entry.client ≡ client
  pub number_is : entry.number ≡ number
  pub reply_is : entry.reply ≡ reply
  pub server : ServerId
  pub asked : Contains (steps earlier) (step.Ask server client number entry.cred entry.call)

-- the answered call took effect before its answer
abbrev pub IsInEffect : Trace → Line → Type 0
IsInEffect before (line.Answered server client number index reply) =
    TookEffect before client number reply
IsInEffect before l = Unit {0}

-- The entered calls are those of one tree, one after the other, each with its reply there; and each
-- answered call was entered between an ask of it and its answer
pub record IsLinearizable (trace : Trace) : Type 0 where
  pub order : IsBook (entries trace)
  pub effect : AtEachPlace IsInEffect trace
