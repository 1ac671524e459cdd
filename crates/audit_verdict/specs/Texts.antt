-- The text of a verdict.
use Rattle.std.specs.Prelude.{ℕ, List, [], ◌∷◌, ◌++◌, length, codes, decimal}
use Rattle.std.specs.List.{flat_map}
use Rattle.audit.specs.declared.flaw.Finding.{Finding}
use Rattle.audit.specs.declared.flaw.Flaw.{Flaw}
use Rattle.audit.specs.declared.flaw.Flaw.TheVariants as flaw
use Rattle.file_tree.specs.Tree.{Tree}
use Rattle.text_spelling.specs.Text.{spaced}
use Rattle.text_spelling.specs.TraceLines.{line_text}
use Rattle.trace_claims.specs.Listing.{living, tree_lines}
use Rattle.trace_types.specs.declared.line.Line.{Line}
use Rattle.tree_listing.specs.declared.listing.Listing.{Listing}
use Rattle.world_lines.specs.Lines.{lines_of_objects}
use Rattle.audit_verdict.specs.declared.verdict.Verdict.{Verdict}
use Rattle.audit_verdict.specs.declared.verdict.Verdict.TheVariants as verdict

-- ---- what is wrong

abbrev pub flaw_word : Flaw → List ℕ
flaw_word flaw.Root = codes "root"
flaw_word flaw.Space = codes "space"
flaw_word flaw.Form = codes "form"
flaw_word flaw.Slot = codes "slot"
flaw_word flaw.Links = codes "links"
flaw_word flaw.Parent = codes "parent"
flaw_word flaw.Lost = codes "lost"

-- a finding, with its line feed
unfoldable pub finding_text : Finding → List ℕ
finding_text f =
    codes "fault" ++ spaced (decimal f.number) ++ spaced (flaw_word f.flaw) ++ 10 ∷ []

unfoldable pub unsound_text : List Finding → List ℕ
unsound_text found =
    codes "unsound" ++ spaced (decimal (length found)) ++ 10 ∷ flat_map finding_text found

-- ---- a tree

-- lines, each with its line feed
unfoldable pub lines_text : List Line → List ℕ
lines_text lines = flat_map (λ l. line_text l ++ 10 ∷ []) lines

-- so many updates and objects, and the lines of these
unfoldable pub objects_text : ℕ → ℕ → List Line → List ℕ
objects_text cp objects lines =
    codes "sound" ++ spaced (decimal cp) ++ spaced (decimal objects) ++ 10 ∷ lines_text lines

-- THE TEXT OF A TREE after so many updates: how many objects live, and the lines of each
abbrev pub tree_text : ℕ → Tree → List ℕ
tree_text cp tree = objects_text cp (living tree) (tree_lines tree)

-- ---- verdicts

abbrev pub listing_text : Listing → List ℕ
listing_text l = objects_text l.cp (length l.objects) (lines_of_objects l.objects)

abbrev pub unsaved_text : List ℕ
unsaved_text = codes "unsaved\n"

-- THE TEXT OF A VERDICT
abbrev pub verdict_text : Verdict → List ℕ
verdict_text verdict.Unsaved = unsaved_text
verdict_text (verdict.Unsound found) = unsound_text found.items
verdict_text (verdict.Sound listing) = listing_text listing
