-- What holds of the texts of verdicts.
use Rattle.std.specs.Prelude.{◌≡◌}
use Rattle.file_tree.specs.Tree.{Tree}
use Rattle.tree_listing.specs.Listing.{tree_listed}
use Rattle.tree_listing.specs.declared.listing.Listing.{Listing}
use Rattle.audit_verdict.specs.Texts.{listing_text, tree_text}

-- the text of a listing is that of its tree
abbrev pub ListingsAreTrees : Type 0
ListingsAreTrees = (listing : Listing) (tree : Tree) → listing.objects ≡ tree_listed tree
    → listing_text listing ≡ tree_text listing.cp tree
