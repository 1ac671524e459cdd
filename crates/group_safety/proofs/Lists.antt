-- Reading a list at a place.
use Rattle.std.proofs.Common.{◌≡◌, ℕ, zero, suc, ◌+◌, ◌-◌, ◌<◌, ◌≤◌, List, [], ◌∷◌, ◌++◌, length, slice_get, take, drop, min, refl, ap, ◌∙◌, arith, length-append, ⊎_elim}
use Rattle.std.proofs.lemmas.List.{length-drop, length-take}
use Rattle.std.proofs.lemmas.Bool.{cases_lt}
use Rattle.group_safety.specs.Words.{Part}

pub get_take : {E : Type 0} (n : ℕ) (xs : List E) (k : ℕ) → k < n → slice_get (take n xs) k ≡ slice_get xs k
get_take zero xs k h = absurd (omega arith)
get_take (suc n) [] k h = refl
get_take (suc n) (x ∷ xs) zero h = refl
get_take (suc n) (x ∷ xs) (suc k) h = get_take n xs k (omega arith)

pub get_drop : {E : Type 0} (n : ℕ) (xs : List E) (k : ℕ) → slice_get (drop n xs) k ≡ slice_get xs (n + k)
get_drop zero xs k = let e : zero + k ≡ k = omega arith in rw e
get_drop (suc n) [] k = refl
get_drop (suc n) (x ∷ xs) k = let e : suc n + k ≡ suc (n + k) = omega arith in rw e (get_drop n xs k)

pub get_front : {E : Type 0} (xs ys : List E) (k : ℕ) → k < length xs → slice_get (xs ++ ys) k ≡ slice_get xs k
get_front [] ys k h = absurd (omega arith)
get_front (x ∷ xs) ys zero h = refl
get_front (x ∷ xs) ys (suc k) h = get_front xs ys k (omega arith)

pub get_back : {E : Type 0} (xs ys : List E) (k : ℕ) → slice_get (xs ++ ys) (length xs + k) ≡ slice_get ys k
get_back {E = E} [] ys k = let e : length {A = E} [] + k ≡ k = omega arith in rw e
get_back (x ∷ xs) ys k = let e : length (x ∷ xs) + k ≡ suc (length xs + k) = omega arith in rw e (get_back xs ys k)

pub part_drop : {E : Type 0} (base base' d : ℕ) (items xs : List E) → base' ≡ base + d → Part base items xs → Part base' (drop d items) xs
part_drop base base' d items xs e h k l =
    let n : d + k < length items = omega (arith, length-drop d items) in
    let i : base + (d + k) ≡ base' + k = omega arith in
    get_drop d items k ∙ h (d + k) n ∙ ap (slice_get xs) i

pub part_append : {E : Type 0} (base : ℕ) (items more xs : List E) → Part base items xs → Part (base + length items) more xs → Part base (items ++ more) xs
part_append base items more xs h t k l = ⊎_elim
    (λ (a : k < length items). get_front items more k a ∙ h k a)
    (λ (b : length items ≤ k).
    let j = k - length items in
    let e : k ≡ length items + j = omega arith in
    let n : j < length more = omega (arith, length-append items more) in
    let i : base + length items + j ≡ base + k = omega arith in
    ap (slice_get (items ++ more)) e ∙ get_back items more j ∙ t j n ∙ ap (slice_get xs) i)
    (cases_lt k (length items))

pub part_take : {E : Type 0} (base n : ℕ) (items xs : List E) → Part base items xs → Part base (take n items) xs
part_take base n items xs h k l =
    let size : length (take n items) ≡ min n (length items) = length-take n items in
    let a : k < n = omega arith in
    let b : k < length items = omega arith in
    get_take n items k a ∙ h k b
