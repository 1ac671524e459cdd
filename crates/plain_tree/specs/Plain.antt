-- What a function of the plain program gives.
use Rattle.std.specs.Prelude.{◌≡◌, ℕ, ◌<◌, List, length, slice_index_or, Result, Ok, Err}
use Rattle.harp_types.specs.declared.reply.Reply.{Reply}
use Rattle.plain_tree.specs.declared.error.TreeError.{TreeError}
use Rattle.plain_tree.specs.declared.error.TreeError.TheVariants as error
use Rattle.file_tree.specs.Tree.{Tree, holder_from}
use Rattle.file_tree.specs.Tries.{Tried}
use Rattle.file_tree.specs.Outcome.{Outcome}

abbrev pub Fails : {Y : Type 0} → TreeError → Tried Y → Type 0
Fails error.NoMemory step = Unit {0}
Fails (error.Status status) step = step ≡ Err status

-- what a function returned, seen by view, is the step's value or refusal, unless memory ran out
abbrev pub Gives : {X Y : Type 0} → (X → Y) → Result X TreeError → Tried Y → Type 0
Gives view (Ok x) step = step ≡ Ok (view x)
Gives view (Err e) step = Fails e step

-- what a call of a tree that may change it does: its reply and the new tree are the step's; after a
-- refusal, and where memory ran out, the tree is as before
abbrev pub Does : Tree → Tree → Result Reply TreeError → Outcome → Type 0
Does old new (Ok reply) outcome = outcome ≡ Ok (reply, new)
Does old new (Err error.NoMemory) outcome = new ≡ old
Does old new (Err (error.Status status)) outcome = (outcome ≡ Err status) × (new ≡ old)

-- the same of a step that gives a tree alone
abbrev pub DoesStep : Tree → Tree → Result (Unit {0}) TreeError → Tried Tree → Type 0
DoesStep old new (Ok x) step = step ≡ Ok new
DoesStep old new (Err error.NoMemory) step = new ≡ old
DoesStep old new (Err (error.Status status)) step = (step ≡ Err status) × (new ≡ old)

-- a table with the holder of each number, 0 where none has a slot that names it
pub record AreHolders (tree : Tree) (holders : List ℕ) : Type 0 where
  pub size : length holders ≡ length tree
  pub at : (number : ℕ) → number < length tree
      → slice_index_or holders number 0 ≡ holder_from 0 tree number 0
