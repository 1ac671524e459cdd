-- The text of the tree that a power failure left.
use Rattle.std.proofs.Common.{◌≡◌, ℕ, List, Option, ap, subst, ◌∙◌}
use Rattle.std.specs.Io.KnownBytes.{Appends}
use Rattle.audit_verdict.specs.Laws.{ListingsAreTrees}
use Rattle.audit_verdict.specs.Left.{TellsTree, tree_at_cp}
use Rattle.audit_verdict.specs.Texts.{listing_text, tree_text}
use Rattle.audit_verdict.specs.declared.verdict.Verdict.{Verdict}
use Rattle.audit_verdict.specs.declared.verdict.Verdict.TheVariants as verdict
use Rattle.file_tree.specs.Book.{Entry}
use Rattle.tree_listing.specs.declared.listing.Listing.{Listing}
use Rattle.volatile_log.specs.Log.{LogValue}
use Rattle.harp_cli.specs.Audit.{VerdictEnds, WritesTree}
use Rattle.play_commands.specs.declared.exit.Exit.{Exit}
use Rattle.play_commands.specs.declared.exit.Exit.TheVariants as exit

text_is : ListingsAreTrees → (list : List Entry) (log : LogValue) (l : Listing)
    → TellsTree list log (verdict.Sound l)
    → listing_text l ≡ tree_text log.cp (tree_at_cp list log)
text_is laws list log l tells = laws l (tree_at_cp list log) tells.1
    ∙ ap (λ (n : ℕ). tree_text n (tree_at_cp list log)) tells.0

pub tree_ends : ListingsAreTrees → (list : List Entry) (log : LogValue) (v : Verdict)
    (before after : Option (List ℕ)) (e : Exit) → TellsTree list log v
    → VerdictEnds v before after e → WritesTree list log before after e
tree_ends laws list log verdict.Unsaved before after e tells ends = absurd tells
tree_ends laws list log (verdict.Unsound found) before after e tells ends = absurd tells
tree_ends laws list log (verdict.Sound l) before after exit.Done tells ends =
    subst (Appends before after) (text_is laws list log l tells) ends.1
tree_ends laws list log (verdict.Sound l) before after exit.SaysNo tells ends =
    let is : exit.Done ≡ exit.SaysNo = ends.0 in absurd cc
tree_ends laws list log (verdict.Sound l) before after exit.SinkFailed tells ends = tt
tree_ends laws list log (verdict.Sound l) before after exit.NoMemory tells ends = tt
tree_ends laws list log (verdict.Sound l) before after exit.RefusedWords tells ends = ends
tree_ends laws list log (verdict.Sound l) before after exit.SourceFailed tells ends = ends
tree_ends laws list log (verdict.Sound l) before after exit.RefusedLine tells ends = ends
tree_ends laws list log (verdict.Sound l) before after exit.DiskFailed tells ends = absurd ends
tree_ends laws list log (verdict.Sound l) before after exit.LinkFailed tells ends = ends
tree_ends laws list log (verdict.Sound l) before after exit.RefusedRecord tells ends = ends
tree_ends laws list log (verdict.Sound l) before after exit.NetFull tells ends = ends
tree_ends laws list log (verdict.Sound l) before after exit.CallSpent tells ends = ends
