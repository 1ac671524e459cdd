-- What several threads make of the elements of a slice, and what is found.
use Rattle.std.proofs.Common.{◌≡◌, List, [], ◌∷◌, map, Bor, Result, Ok, Err, IfOk, MatchResult, sym}
use Rattle.std.proofs.Common.{subst, ◌∙◌}
use Rattle.std.specs.Prelude.{◌↔◌}
use Rattle.std.specs.List.{AllZip}
use Rattle.std.specs.declared.alloc.AllocError.{AllocError}
use Rattle.rayon.proofs.ToStd.{slice-AllZip}
use Rattle.audit.specs.declared.flaw.Finding.{Finding}
use Rattle.audit.specs.declared.picture.Picture.{Picture}
use Rattle.audit.specs.Flaws.{findings}
use Rattle.audit.specs.Pictures.{IsShaped}
use Rattle.audit.specs.Sound.{IsSoundPicture}
use Rattle.audit.proofs.Back.{sound_where_nothing_is_found}

-- each may have failed, and none did
all_made : {X Y : Type 0} (P : X → Y → Type 0) (xs : List X) (made : List Y)
    → AllZip (λ x (r : Result Y AllocError). IfOk r (P x)) xs (map Ok made) → AllZip P xs made
all_made P [] [] each = tt
all_made P [] (y ∷ made) each = absurd each
all_made P (x ∷ xs) [] each = absurd each
all_made P (x ∷ xs) (y ∷ made) each = (each.0, all_made P xs made each.1)

-- what several threads made of the elements of a slice
pub made_of_each : {X Y : Type 0} (P : X → Y → Type 0) (shown : List (Bor X)) (slice : List X)
    (results : List (Result Y AllocError)) (made items : List Y)
    → map (λ (x : Bor X). x.now) shown ≡ slice → results ≡ map Ok made → items ≡ made
    → AllZip (λ (x : Bor X) (r : Result Y AllocError). IfOk r (P x.now)) shown results
    → AllZip P slice items
made_of_each {X = X} {Y = Y} P shown slice results made items is oks same each =
    subst (AllZip P slice) (sym same) (slice-AllZip shown slice is P made
    (all_made (λ (x : Bor X). P x.now) shown made
    (subst (AllZip (λ (x : Bor X) (r : Result Y AllocError). IfOk r (P x.now)) shown) oks each)))

-- what was found, in a sound picture and in others
pub found_sound : (p : Picture) (found : List Finding) → IsShaped p → found ≡ findings p
    → found ≡ [] ↔ IsSoundPicture p
found_sound p found shape is = (
  λ e. (sound_where_nothing_is_found p shape).0 (sym is ∙ e),
  λ s. is ∙ (sound_where_nothing_is_found p shape).1 s,
)

pub if_ok : {V E : Type 0} (result : Result V E) (P S : V → Type 0) (Q : E → Type 0)
    → ((v : V) → P v → S v) → MatchResult result P Q → IfOk result S
if_ok (Ok v) P S Q leads h = leads v h
if_ok (Err e) P S Q leads h = tt

pub at_ok : {V E : Type 0} (result : Result V E) (P : V → Type 0) (v : V) → result ≡ Ok v
    → IfOk result P → P v
at_ok {V = V} {E = E} result P v is h = subst (λ (r : Result V E). IfOk r P) is h
