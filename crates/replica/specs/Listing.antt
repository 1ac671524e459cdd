-- What a leader or a partner lists.
use Rattle.std.specs.Prelude.{◌≡◌, ℕ, List, take, Option, Some}
use Rattle.file_tree.specs.Book.{Entry, tree_after}
use Rattle.tree_listing.specs.Listing.{tree_listed}
use Rattle.tree_listing.specs.declared.listing.Listing.{Listing}

-- THE LISTING of the tree after so many updates of a list
abbrev pub listing_at : ℕ → List Entry → Listing
listing_at cp list = record { cp = cp; objects = tree_listed (tree_after (take cp list)) }
