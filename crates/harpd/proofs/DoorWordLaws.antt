-- The words that say how connections are served.
use Rattle.std.proofs.Common.{◌≡◌, ◌<◌, ◌≤◌, ◌^◌, ℕ, List, [], ◌∷◌, length, get_or, drop}
use Rattle.std.proofs.Common.{refl, sym, ap, ◌∙◌, subst, arith, Global, Option, Some, None, decimal}
use Rattle.std.specs.Prelude.{MatchOption, IfSome, String, string_bytes}
use Rattle.harp_types.specs.declared.cred.Cred.{Cred}
use Rattle.harpd.specs.declared.words.Serving.{Serving}
use Rattle.harpd.specs.Words.{DoorWords, IsCred, cred_words, texts}

pub five_words : (ws : List (String Global)) (a b c d e : String Global) → 5 ≤ length ws
    → length ws < 6 → a ≡ get_or ws 0 a → b ≡ get_or ws 1 b → c ≡ get_or ws 2 c
    → d ≡ get_or ws 3 d → e ≡ get_or ws 4 e
    → texts ws
    ≡ string_bytes a ∷ string_bytes b ∷ string_bytes c ∷ string_bytes d ∷ string_bytes e ∷ []
five_words [] a b c d e some few p q r s t = absurd (omega arith)
five_words (v ∷ []) a b c d e some few p q r s t = absurd (omega arith)
five_words (v ∷ w ∷ []) a b c d e some few p q r s t = absurd (omega arith)
five_words (v ∷ w ∷ x ∷ []) a b c d e some few p q r s t = absurd (omega arith)
five_words (v ∷ w ∷ x ∷ y ∷ []) a b c d e some few p q r s t = absurd (omega arith)
five_words (v ∷ w ∷ x ∷ y ∷ z ∷ []) a b c d e some few p q r s t = rw (p, q, r, s, t) refl
five_words (v ∷ w ∷ x ∷ y ∷ z ∷ o ∷ ws) a b c d e some few p q r s t = absurd (omega arith)

-- what words tell, by another spelling of them
pub of_these : (words list : List (List ℕ)) → words ≡ list → (r : Option Serving)
    → MatchOption r ((serves : Serving) → DoorWords serves list → ⊥) (λ s. DoorWords s list)
    → MatchOption r ((serves : Serving) → DoorWords serves words → ⊥) (λ s. DoorWords s words)
of_these words list are None none = λ serves told. none serves (subst (DoorWords serves) are told)
of_these words list are (Some serves) told = subst (DoorWords serves) (sym are) told

told_cred : (o : Option Cred) (uid gid : List ℕ) → cred_words o ≡ uid ∷ gid ∷ [] → IfSome o IsCred
    → ((u g : ℕ) → u < 2 ^ 32 → g < 2 ^ 32 → uid ≡ decimal u → gid ≡ decimal g → ⊥) → ⊥
told_cred None uid gid is within none = absurd cc
told_cred (Some cred) uid gid is within none = none cred.uid cred.gid within.0 within.1
    (sym (ap (λ (ts : List (List ℕ)). get_or ts 0 []) is))
    (sym (ap (λ (ts : List (List ℕ)). get_or ts 1 []) is))

-- two words that are no user and no group
pub no_cred : (words : List (List ℕ)) (port door client uid gid : List ℕ)
    → words ≡ port ∷ door ∷ client ∷ uid ∷ gid ∷ []
    → ((u g : ℕ) → u < 2 ^ 32 → g < 2 ^ 32 → uid ≡ decimal u → gid ≡ decimal g → ⊥)
    → (serves : Serving) → DoorWords serves words → ⊥
no_cred words port door client uid gid are none serves told =
    told_cred serves.everyone uid gid (ap (drop 3) (sym told.are ∙ are)) told.within.everyone none
