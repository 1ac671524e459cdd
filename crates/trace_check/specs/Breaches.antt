-- What a line of a trace may break.
use Rattle.std.specs.Prelude.{◌≡◌, ℕ, ◌+◌, ◌<◌, length, MatchBool, Option, Some, None}
use Rattle.harp_types.specs.Update.{is_update}
use Rattle.file_tree.specs.Book.{IsNextUpdate, IsRead, tree_after, updates}
use Rattle.file_tree.specs.Calls.{outcome}
use Rattle.harp_types.specs.declared.book.BookEntry.{BookEntry}
use Rattle.trace_types.specs.declared.line.Line.{Line}
use Rattle.trace_types.specs.declared.line.Line.TheVariants as line
use Rattle.trace_claims.specs.Acknowledged.{AreAcknowledged, IsAcknowledged}
use Rattle.trace_claims.specs.Faithful.{IsBookReply, IsFaithful, WasAsked}
use Rattle.trace_claims.specs.Reading.{PromisesAreUsed, UsesPromise}
use Rattle.trace_claims.specs.Trace.{Trace, entries, entry_of}
use Rattle.trace_check.specs.declared.breach.Breach.{Breach}
use Rattle.trace_check.specs.declared.breach.Breach.TheVariants as breach

-- what is asked of a trace, line by line
pub record IsAccepted (trace : Trace) : Type 0 where
  pub faithful : IsFaithful trace
  pub acknowledged : AreAcknowledged trace
  pub promises : PromisesAreUsed trace

-- an entered reply is the outcome on the tree of the entries before
abbrev pub HasOutcome : Trace → Line → Type 0
HasOutcome before (line.Entered place entry) =
    entry.reply ≡ (outcome (tree_after (entries before)) entry.cred entry.call entry.stamp).0
HasOutcome before l = Unit {0}

-- an entered line has the next number, its entry comes next, and its call was asked
pub record ComesInOrder (before : Trace) (place : ℕ) (entry : BookEntry) : Type 0 where
  pub numbered : place ≡ length (entries before) + 1
  pub next : MatchBool (is_update entry.call)
      (IsNextUpdate (updates (entries before)) (entry_of entry)) (IsRead (entry_of entry))
  pub asked : WasAsked before (line.Entered place entry)

abbrev pub IsInOrder : Trace → Line → Type 0
IsInOrder before (line.Entered place entry) = ComesInOrder before place entry
IsInOrder before l = Unit {0}

-- what a line keeps that isn't such a breach
abbrev pub Keeps : Breach → Trace → Line → Type 0
Keeps breach.Book before l = HasOutcome before l
Keeps breach.Order before l = IsInOrder before l
Keeps breach.Answer before l = IsBookReply before l
Keeps breach.Ack before l = IsAcknowledged before l
Keeps breach.Promise before l = UsesPromise before l

-- the places of the breaches in their order
abbrev pub rank : Breach → ℕ
rank breach.Book = 0
rank breach.Order = 1
rank breach.Answer = 2
rank breach.Ack = 3
rank breach.Promise = 4

-- a line breaks this, and nothing of what comes before it in the order
pub record IsFirst (b : Breach) (before : Trace) (l : Line) : Type 0 where
  pub broken : ¬ (Keeps b before l)
  pub kept : (earlier : Breach) → rank earlier < rank b → Keeps earlier before l

-- what is found of a line: nothing is broken, or this is the first
abbrev pub IsVerdict : Trace → Line → Option Breach → Type 0
IsVerdict before l None = (b : Breach) → Keeps b before l
IsVerdict before l (Some b) = IsFirst b before l
