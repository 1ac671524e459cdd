-- The text of a listing is that of its tree.
use Rattle.std.proofs.Common.{◌≡◌, ℕ, List, length, ap, ◌∙◌}
use Rattle.file_tree.specs.Tree.{Tree}
use Rattle.trace_claims.specs.Listing.{living}
use Rattle.trace_types.specs.declared.line.Line.{Line}
use Rattle.tree_listing.specs.Listing.{tree_listed}
use Rattle.tree_listing.specs.declared.listing.Listed.{Listed}
use Rattle.tree_listing.specs.declared.listing.Listing.{Listing}
use Rattle.world_lines.specs.Laws.{CountIsLiving, LinesAreTheTrees}
use Rattle.world_lines.specs.Lines.{lines_of_objects}
use Rattle.audit_verdict.specs.Texts.{listing_text, objects_text, tree_text}

pub listing_is_tree : CountIsLiving → LinesAreTheTrees → (listing : Listing) (tree : Tree)
    → listing.objects ≡ tree_listed tree → listing_text listing ≡ tree_text listing.cp tree
listing_is_tree count lines listing tree is =
    ap (λ (objects : List Listed).
    objects_text listing.cp (length objects) (lines_of_objects objects)) is
    ∙ ap (λ (n : ℕ). objects_text listing.cp n (lines_of_objects (tree_listed tree))) (count tree)
    ∙ ap (λ (ls : List Line). objects_text listing.cp (living tree) ls) (lines tree)
