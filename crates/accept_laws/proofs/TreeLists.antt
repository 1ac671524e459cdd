-- What holds of each element, and bytes.
use Rattle.std.proofs.Common.{ℕ, zero, suc, ◌<◌, ◌++◌, List, [], ◌∷◌, take, drop, set, get_or, replicate, arith}
use Rattle.std.specs.List.{AllByRecursion}
use Rattle.accept_laws.specs.Trees.{AreOctets}

pub all-append : {A : Type 0} (P : A → Type 0) (xs ys : List A) → AllByRecursion P xs
    → AllByRecursion P ys → AllByRecursion P (xs ++ ys)
all-append P [] ys h k = k
all-append P (x ∷ xs) ys h k = (h.0, all-append P xs ys h.1 k)

pub all-take : {A : Type 0} (P : A → Type 0) (n : ℕ) (xs : List A) → AllByRecursion P xs
    → AllByRecursion P (take n xs)
all-take P zero xs h = tt
all-take P (suc n) [] h = tt
all-take P (suc n) (x ∷ xs) h = (h.0, all-take P n xs h.1)

pub all-drop : {A : Type 0} (P : A → Type 0) (n : ℕ) (xs : List A) → AllByRecursion P xs
    → AllByRecursion P (drop n xs)
all-drop P zero xs h = h
all-drop P (suc n) [] h = tt
all-drop P (suc n) (x ∷ xs) h = all-drop P n xs h.1

pub all-replicate : {A : Type 0} (P : A → Type 0) (n : ℕ) (x : A) → P x
    → AllByRecursion P (replicate n x)
all-replicate P zero x h = tt
all-replicate P (suc n) x h = (h, all-replicate P n x h)

pub all-set : {A : Type 0} (P : A → Type 0) (xs : List A) (i : ℕ) (x : A) → P x
    → AllByRecursion P xs → AllByRecursion P (set xs i x)
all-set P [] i x p h = tt
all-set P (y ∷ ys) zero x p h = (p, h.1)
all-set P (y ∷ ys) (suc i) x p h = (h.0, all-set P ys i x p h.1)

pub all-at : {A : Type 0} (P : A → Type 0) (xs : List A) (i : ℕ) (d : A) → P d
    → AllByRecursion P xs → P (get_or xs i d)
all-at P [] i d p h = p
all-at P (y ∷ ys) zero d p h = h.0
all-at P (y ∷ ys) (suc i) d p h = all-at P ys i d p h.1

pub octets : (bytes : List ℕ) → ((i : ℕ) → get_or bytes i 0 < 256) → AreOctets bytes
octets [] h = tt
octets (b ∷ bytes) h = (h 0, octets bytes (λ i. h (suc i)))

pub octet_at : (bytes : List ℕ) → AreOctets bytes → (i : ℕ) → get_or bytes i 0 < 256
octet_at bytes h i = all-at (λ b. b < 256) bytes i 0 (omega arith) h
