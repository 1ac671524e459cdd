-- Stretches of the objects of a picture, what is found in one, and what that takes.
use Rattle.std.specs.Prelude.{◌≡◌, ℕ, ◌≤◌, List, [], ◌∷◌, ◌++◌, drop, take, length}
use Rattle.std.specs.List.{flat_map}
use Rattle.audit.specs.declared.auditing.Prepared.{Prepared}
use Rattle.audit.specs.declared.entries.Names.{Names}
use Rattle.audit.specs.declared.flaw.Finding.{Finding}
use Rattle.audit.specs.declared.flaw.Flaw.TheVariants as flaw
use Rattle.audit.specs.declared.picture.Picture.{Picture}
use Rattle.audit.specs.declared.picture.Portrait.{Portrait}
use Rattle.audit.specs.declared.stretches.Stretch.{Stretch}
use Rattle.audit.specs.Entries.{AreNamedBy, AreWays}
use Rattle.audit.specs.Flaws.{finding_at, finding_where, has_no_root, has_wrong_space}

-- each begins where the one before ends, from a place up to another
abbrev pub AreStretches : ℕ → ℕ → List Stretch → Type 0
AreStretches from to [] = from ≡ to
AreStretches from to (s ∷ rest) = (s.from ≡ from) × (from ≤ s.to) × AreStretches s.to to rest

-- the findings of its objects
abbrev pub findings_in : List Portrait → Stretch → List Finding
findings_in objects s = flat_map (finding_at objects) (drop s.from (take s.to objects))

-- the findings of the whole
abbrev pub findings_of_whole : Picture → List Finding
findings_of_whole p =
    finding_where (has_no_root p.objects) flaw.Root
    ++ finding_where (has_wrong_space p) flaw.Space

-- what entries say of each object, and ways up of enough steps
pub record ArePrepared (objects : List Portrait) (made : Prepared) : Type 0 where
  pub named : AreNamedBy objects made.low.items made.high.items
  pub enough : AreWays (length objects) objects made.ways.items

-- what the entries of two parts say of each object, and stretches of all objects
pub record AreCounted (objects : List Portrait) (low high : List Names) (stretches : List Stretch)
    : Type 0 where
  pub named : AreNamedBy objects low high
  pub all : AreStretches 0 (length objects) stretches

-- what was found of the whole, and ways up of enough steps
pub record AreOthers (p : Picture) (found : List Finding) (ways : List ℕ) : Type 0 where
  pub whole : found ≡ findings_of_whole p
  pub enough : AreWays (length p.objects) p.objects ways
