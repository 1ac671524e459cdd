-- The lines of a trace that show a listing.
use Rattle.std.specs.Prelude.{ℕ, List, [], ◌∷◌, ◌++◌, length, map, Option, Some, None}
use Rattle.std.specs.List.{flat_map}
use Rattle.harp_types.specs.declared.server.ServerId.{ServerId}
use Rattle.trace_types.specs.declared.line.Line.{Line}
use Rattle.trace_types.specs.declared.line.Line.TheVariants as line
use Rattle.tree_listing.specs.declared.listing.Listed.{Listed}
use Rattle.tree_listing.specs.declared.listing.ListedBlock.{ListedBlock}
use Rattle.tree_listing.specs.declared.listing.ListedSlot.{ListedSlot}
use Rattle.tree_listing.specs.declared.listing.Listing.{Listing}

-- a used slot of a directory
abbrev pub line_of_slot : ℕ → ListedSlot → Line
line_of_slot dir s = line.Slot dir s.slot s.object s.name

-- a block of a file
abbrev pub line_of_block : ℕ → ListedBlock → Line
line_of_block file b = line.Block file b.block b.bytes

-- the text of a link
abbrev pub lines_of_text : ℕ → Option (List ℕ) → List Line
lines_of_text link None = []
lines_of_text link (Some text) = line.Text link text ∷ []

-- an object, followed by its parts
abbrev pub lines_of_object : Listed → List Line
lines_of_object l =
    line.Object l.attr
    ∷ (map (line_of_slot l.attr.fileid) l.slots
    ++ (map (line_of_block l.attr.fileid) l.blocks
    ++ lines_of_text l.attr.fileid l.text))

-- objects, each followed by its parts
unfoldable pub lines_of_objects : List Listed → List Line
lines_of_objects objects = flat_map lines_of_object objects

-- THE LINES OF A LISTING by a server
abbrev pub lines_of_listing : ServerId → Listing → List Line
lines_of_listing server l =
    line.Listed server l.cp (length l.objects) ∷ lines_of_objects l.objects
