-- What was done to the folders of servers.
use Rattle.std.specs.Prelude.{ℕ, List, [], ◌∷◌, ◌++◌, map, string_bytes}
use Rattle.harpd.specs.declared.deeds.Deed.{Deed}
use Rattle.harpd.specs.declared.deeds.Deed.TheVariants.{Made, Entered, Left}
use Rattle.harpd.specs.declared.deeds.FolderDeed.{FolderDeed}

-- this was done to the folder of this name
pub record Done : Type 0 where
  pub deed : Deed
  pub folder : List ℕ

-- this was done last
abbrev pub with_deed : Deed → List ℕ → List Done → List Done
with_deed deed folder done = done ++ record { deed = deed; folder = folder } ∷ []

abbrev pub with_made : List ℕ → List Done → List Done
with_made folder done = with_deed Made folder done

abbrev pub with_entered : List ℕ → List Done → List Done
with_entered folder done = with_deed Entered folder done

abbrev pub with_left : List ℕ → List Done → List Done
with_left folder done = with_deed Left folder done

-- what was done, where it is kept as this
abbrev pub done_by : List FolderDeed → List Done
done_by deeds = map (λ d. record { deed = d.deed; folder = string_bytes d.folder }) deeds
