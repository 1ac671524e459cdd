-- A listing shows the tree after the first updates of the book.
use Rattle.std.specs.Prelude.{◌≡◌, ℕ, zero, suc, ◌+◌, ◌≤◌, Bool, true, false, ◌==◌, List, [], ◌∷◌, ◌++◌, length, take, drop, Option, Some, None, if◌then◌else◌}
use Rattle.trace_types.specs.declared.line.Line.{Line}
use Rattle.trace_types.specs.declared.line.Line.TheVariants as line
use Rattle.file_tree.specs.Book.{tree_after, updates}
use Rattle.file_tree.specs.Tree.{Slots, Tree, attr_of, blocks_of}
use Rattle.file_tree.specs.declared.object.Body.{Body}
use Rattle.file_tree.specs.declared.object.Body.TheVariants as body
use Rattle.file_tree.specs.declared.object.Object.{Object}
use Rattle.trace_claims.specs.Trace.{AtPlacesAmid, Trace, entries}

-- ---- the lines of a tree

-- the used slots of a directory, the first with i slots before it
unfoldable pub slot_lines : ℕ → ℕ → Slots → List Line
slot_lines dir i [] = []
slot_lines dir i (None ∷ slots) = slot_lines dir (i + 1) slots
slot_lines dir i (Some s ∷ slots) = line.Slot dir i s.number s.name ∷ slot_lines dir (i + 1) slots

-- no byte but 0
unfoldable pub all_zero : List ℕ → Bool
all_zero [] = true
all_zero (b ∷ bytes) = if b == 0 then all_zero bytes else false

-- a block with another byte than 0
abbrev pub block_line : ℕ → ℕ → List ℕ → List Line
block_line file i bytes = if all_zero bytes then [] else line.Block file i bytes ∷ []

-- the next n blocks of a file whose bytes aren't all zero, the first with i blocks before it; the
-- last one goes up to the file's end
unfoldable pub block_lines : ℕ → ℕ → ℕ → List ℕ → List Line
block_lines file i zero bytes = []
block_lines file i (suc n) bytes = block_line file i (take 4096 bytes)
    ++ block_lines file (i + 1) n (drop 4096 bytes)

-- the parts of an object
abbrev pub body_lines : ℕ → Body → List Line
body_lines number (body.Regular bytes) = block_lines number 0 (blocks_of (length bytes)) bytes
body_lines number (body.Directory slots) = slot_lines number 0 slots
body_lines number (body.Link text) = line.Text number text ∷ []

-- an object, followed by its parts
abbrev pub object_lines : Tree → ℕ → Option Object → List Line
object_lines tree number None = []
object_lines tree number (Some o) = line.Object (attr_of tree number o) ∷ body_lines number o.body

-- these objects of a tree, the first with this number
unfoldable pub objects_from : Tree → ℕ → List (Option Object) → List Line
objects_from tree number [] = []
objects_from tree number (o ∷ os) = object_lines tree number o ++ objects_from tree (number + 1) os

-- each object of a tree by number
abbrev pub tree_lines : Tree → List Line
tree_lines tree = objects_from tree 0 tree

-- how many objects live
unfoldable pub living : List (Option Object) → ℕ
living [] = 0
living (None ∷ os) = living os
living (Some o ∷ os) = living os + 1

-- ---- listings of a trace

-- whether a line is an object or a part of one
abbrev pub is_listing : Line → Bool
is_listing (line.Object attr) = true
is_listing (line.Slot dir slot number name) = true
is_listing (line.Block file block bytes) = true
is_listing (line.Text link text) = true
is_listing l = false

-- the lines of objects and their parts that these lines begin with
abbrev pub listing_front : Trace → List Line
listing_front [] = []
listing_front (l ∷ lines) = if is_listing l then l ∷ listing_front lines else []

-- the listing is that of the tree after the first c updates entered
pub record Lists (before : Trace) (c n : ℕ) (later : Trace) : Type 0 where
  pub within : c ≤ length (updates (entries before))
  pub objects : n ≡ living (tree_after (take c (updates (entries before))))
  pub lines : listing_front later ≡ tree_lines (tree_after (take c (updates (entries before))))

-- a listing is that of a tree of the book
abbrev pub ListsTree : Trace → Line → Trace → Type 0
ListsTree before (line.Listed server c n) later = Lists before c n later
ListsTree before l later = Unit {0}

-- each listing shows the tree of the book's first updates
abbrev pub AllListTheTree : Trace → Type 0
AllListTheTree trace = AtPlacesAmid ListsTree [] trace
