-- The calls of a step that change a disk, and what a stop cuts.
use Rattle.std.specs.Prelude.{ℕ, ◌+◌, ◌-◌, Bool, true, nat_le, List, [], ◌∷◌, ◌++◌, length, replicate, take, drop, Option, None, Some, if◌then◌else◌}
use Rattle.file_tree.specs.Book.{Entry}
use Rattle.group_rules.specs.Moves.{Accepting, Applying, Demoting, Falling, Flushing, Joining, Move, Saving, act}
use Rattle.group_rules.specs.Places.{Place}
use Rattle.group_rules.specs.State.{Group, Server}
use Rattle.group_rules.specs.Step.{Input, list_of, saves, step_of}
use Rattle.group_trace.specs.Scene.{Measures}

-- ---- change calls

-- the changes of these entries, which have those before them
unfoldable pub changes_of : (List Entry → Entry → ℕ) → List Entry → List Entry → ℕ
changes_of changes before [] = 0
changes_of changes before (e ∷ es) = changes before e + changes_of changes (before ++ e ∷ []) es

-- a call that changes a disk: a change of cells, a sync, or the writing of the mark
pub data CallKind : Type 0 where
  Changes : CallKind
  Syncs : CallKind
  Marks : CallKind

-- the calls of a move, in their order: an apply makes each change of its records, a flush is a
-- sync and a mark, a save a change for each record, a sync and a mark
abbrev pub calls_in : Measures → List Entry → Server Entry → Move Entry → List CallKind
calls_in m list s (Joining v duty) = Marks ∷ []
calls_in m list s (Accepting plan role n) = Marks ∷ []
calls_in m list s (Applying n) =
    replicate (changes_of m.changes (take s.ap list) (take (n - s.ap) (drop s.ap list))) Changes
calls_in m list s Flushing = Syncs ∷ Marks ∷ []
calls_in m list s (Demoting v) = Marks ∷ []
calls_in m list s Saving =
    if saves s.held s.saved then replicate (length s.items) Changes ++ Syncs ∷ Marks ∷ [] else []
calls_in m list s move = []

-- the calls of a step's moves; `list` is the server's list of entries up to its top
unfoldable pub calls_of : Measures → Place → ℕ → List Entry → Server Entry → List (Move Entry)
    → List CallKind
calls_of m q clock list s [] = []
calls_of m q clock list s (move ∷ ms) =
    calls_in m list s move ++ calls_of m q clock list (act q clock s move) ms

-- whether a step of these calls passes a stop
abbrev pub passes : Option ℕ → List CallKind → Bool
passes None calls = true
passes (Some most) calls = nat_le (length calls) most

-- a step that a stop cuts does nothing but that the server falls
abbrev pub cut_moves : Measures → Group Entry → Place → Option ℕ → List (Move Entry)
    → List (Move Entry)
cut_moves m g q stop ms =
    if passes stop (calls_of m q (g.clock q) (list_of g q) (g.server q) ms)
    then ms else Falling ∷ []

-- the moves of a step that begins so
abbrev pub moves_of : Measures → Group Entry → Option ℕ → Place → Input → List (Move Entry)
moves_of m g stop q i = cut_moves m g q stop (step_of m.size g q i)
