-- What a reader gave: at a place, at the front of an input, and within a limit.
use Rattle.std.proofs.Common.{◌≡◌, ℕ, zero, suc, ◌+◌, ◌-◌, ◌≤◌, List, [], ◌∷◌, ◌++◌, length, take, drop, Result, Ok, Err, refl, sym, ap, subst, ◌∙◌, append_assoc, arith, zero-add}
use Rattle.std.specs.Prelude.{IfOk}
use Rattle.std.proofs.lemmas.List.{take-append-drop, length-append, length-take, length-drop, drop-take}
use Rattle.harp_base.specs.declared.field.Misread.{Misread}
use Rattle.harp_base.specs.declared.field.Misread.TheVariants.{Ends, BadTag, TooLong, NoMemory}
use Rattle.harp_base.specs.declared.field.FieldFault.{FieldFault}
use Rattle.harp_base.specs.Fields.{Spells, Gives, Tells, Read, Reader, told, limited, read_within}
use Rattle.harp_base.proofs.Codec.{IsBytes, IsBytes-take, IsCodec, drop_past}

-- ---- what a function returned

pub is_found : {A : Type 0} (read : Reader A) (spell : A → List ℕ) (Fits : A → Type 0)
    → IsCodec read spell Fits → (bytes : List ℕ) (at : ℕ) (r : Result (A × ℕ) Misread)
    → IsBytes bytes → Gives r (read bytes at)
    → IfOk r (λ x. Spells bytes at (spell x.0) x.1 × Fits x.0)
is_found read spell Fits codec bytes at (Ok x) fits given = codec.takes bytes at x fits given
is_found read spell Fits codec bytes at (Err e) fits given = tt

pub reads_again : {A : Type 0} (read : Reader A) (spell : A → List ℕ) (Fits : A → Type 0)
    → IsCodec read spell Fits → (bytes : List ℕ) (r : Result (A × ℕ) Misread)
    → Gives r (read bytes 0)
    → (x : A) (rest : List ℕ) → Fits x → bytes ≡ spell x ++ rest
    → Gives r (Ok (x, length (spell x)))
reads_again read spell Fits codec bytes r given x rest fits e =
    subst (Gives r) (codec.again bytes 0 x rest fits e ∙ rw zero-add refl) given

-- the place after a field lies within the bytes
within_spelled : (bytes : List ℕ) (at : ℕ) (text : List ℕ) (next : ℕ) → at ≤ length bytes
    → Spells bytes at text next → next ≤ length bytes
within_spelled bytes at text next le s =
    let whole : length (drop at bytes) ≡ length (text ++ drop next bytes) = ap length s.parts in
    omega (
      arith,
      s.length_is,
      whole,
      length-append text (drop next bytes),
      length-drop at bytes,
      length-drop next bytes,
    )

pub is_within : {A : Type 0} (read : Reader A) (spell : A → List ℕ) (Fits : A → Type 0)
    → IsCodec read spell Fits → (bytes : List ℕ) (at : ℕ) (r : Result (A × ℕ) Misread)
    → IsBytes bytes → at ≤ length bytes → Gives r (read bytes at)
    → IfOk r (λ x. x.1 ≤ length bytes)
is_within read spell Fits codec bytes at (Ok x) fits le given =
    within_spelled bytes at (spell x.0) x.1 le (codec.takes bytes at x fits given).0
is_within read spell Fits codec bytes at (Err e) fits le given = tt

-- ---- what a reader of a whole input tells

pub told_found : {A : Type 0} (P : A × ℕ → Type 0) (n : ℕ) (r : Read A) → IfOk r P
    → IfOk (told n r) P
told_found P n (Ok x) holds = holds
told_found P n (Err e) holds = tt

pub told_tells : {A : Type 0} (n : ℕ) (r read : Read A) → Gives r read
    → Tells (told n r) (told n read)
told_tells n (Ok x) read given = ap (told n) given
told_tells n (Err (Ends from to)) read given = ap (told n) given
told_tells n (Err (BadTag k)) read given = ap (told n) given
told_tells n (Err (TooLong k)) read given = ap (told n) given
told_tells n (Err NoMemory) read given = tt

-- what `told` gave, of a reader at the front of the bytes
module _ {A : Type 0} (read : Reader A) (spell : A → List ℕ) (Fits : A
    → Type 0) (codec : IsCodec read spell Fits) (bytes : List ℕ) (r : Read A)
    (result : Result (A × ℕ) FieldFault) where
  pub front_found : IsBytes bytes → Gives r (read bytes 0) → result ≡ told (length bytes) r
      → IfOk result (λ x. Spells bytes 0 (spell x.0) x.1 × Fits x.0)
  front_found fits given is =
      subst (λ (y : Result (A × ℕ) FieldFault). IfOk y
      (λ x. Spells bytes 0 (spell x.0) x.1 × Fits x.0)) (sym is)
      (told_found (λ x. Spells bytes 0 (spell x.0) x.1 × Fits x.0) (length bytes) r
      (is_found read spell Fits codec bytes 0 r fits given))

  pub front_only : Gives r (read bytes 0) → result ≡ told (length bytes) r
      → (x : A) (rest : List ℕ) → Fits x → bytes ≡ spell x ++ rest
      → Tells result (Ok (x, length (spell x)))
  front_only given is x rest fits e =
      subst (λ (y : Result (A × ℕ) FieldFault). Tells y (Ok (x, length (spell x)))) (sym is)
      (told_tells (length bytes) r (Ok (x, length (spell x)))
      (reads_again read spell Fits codec bytes r given x rest fits e))

pub front_exact : {A : Type 0} (read : Reader A) (bytes : List ℕ) (r : Read A)
    (result : Result (A × ℕ) FieldFault) → Gives r (read bytes 0)
    → result ≡ told (length bytes) r → Tells result (told (length bytes) (read bytes 0))
front_exact {A = A} read bytes r result given is =
    subst (λ (y : Result (A × ℕ) FieldFault). Tells y (told (length bytes) (read bytes 0)))
    (sym is) (told_tells (length bytes) r (read bytes 0) given)

-- ---- fields within a limit

-- the front of the bytes that the limit leaves, from a place on
cut_there : (most at : ℕ) (bytes : List ℕ) → drop at (take (at + most) bytes)
    ≡ take most (drop at bytes)
cut_there most at bytes = drop-take at most bytes

-- what stands in the front stands in the whole
spelled_within : (most : ℕ) (bytes : List ℕ) (at : ℕ) (text : List ℕ) (next : ℕ)
    → Spells (take (at + most) bytes) at text next
    → Spells bytes at text next × (length text ≤ most)
spelled_within most bytes at text next s =
    let cut = take (at + most) bytes in
    let left = drop next cut in
    let front : take most (drop at bytes) ≡ text ++ left = sym (cut_there most at bytes) ∙ s.parts in
    let behind = drop most (drop at bytes) in
    let whole : drop at bytes ≡ text ++ (left ++ behind) =
    sym (take-append-drop most (drop at bytes))
    ∙ ap (λ (l : List ℕ). l ++ behind) front ∙ append_assoc text left behind in
    let rest : drop next bytes ≡ left ++ behind =
    ap (λ (n : ℕ). drop n bytes) s.length_is ∙ drop_past bytes at text (left ++ behind) whole in
    let size : length (take most (drop at bytes)) ≡ length (text ++ left) = ap length front in (
      record { parts = whole ∙ ap (λ (l : List ℕ). text ++ l) (sym rest); length_is = s.length_is },
      omega (arith, size, length-take most (drop at bytes), length-append text left),
    )

within_ok : {A : Type 0} (limit : ℕ) (r : Read A) (x : A × ℕ) → read_within limit r ≡ Ok x → r ≡ Ok x
within_ok limit (Ok y) x e = e
within_ok limit (Err f) x e = absurd cc

take_past : (n : ℕ) (x rest : List ℕ) → length x ≤ n
    → take n (x ++ rest) ≡ x ++ take (n - length x) rest
take_past n [] rest le = let same : n ≡ n - 0 = omega arith in
    ap (λ (k : ℕ). take k rest) same
take_past zero (b ∷ x) rest le = absurd (omega arith)
take_past (suc n) (b ∷ x) rest le = let same : n - length x ≡ suc n - suc (length x) = omega arith in
    ap (λ (l : List ℕ). b ∷ l) (take_past n x rest (omega arith)
    ∙ ap (λ (k : ℕ). x ++ take k rest) same)

module _ {A : Type 0} (most : ℕ) (read : Reader A) (spell : A → List ℕ) (Fits : A
    → Type 0) (codec : IsCodec read spell Fits) where
  limited_takes : (bytes : List ℕ) (at : ℕ) (x : A × ℕ) → IsBytes bytes
      → limited most read bytes at ≡ Ok x
      → Spells bytes at (spell x.0) x.1 × (Fits x.0 × (length (spell x.0) ≤ most))
  unfolding limited
  limited_takes bytes at x fits e =
      let cut = take (at + most) bytes in
      let t = codec.takes cut at x (IsBytes-take (at + most) bytes fits)
      (within_ok (at + most) (read cut at) x e) in
      let s = spelled_within most bytes at (spell x.0) x.1 t.0 in
      (s.0, (t.1, s.1))

  limited_again : (bytes : List ℕ) (at : ℕ) (x : A) (rest : List ℕ)
      → Fits x × (length (spell x) ≤ most) → drop at bytes ≡ spell x ++ rest
      → limited most read bytes at ≡ Ok (x, at + length (spell x))
  unfolding limited
  limited_again bytes at x rest fits e =
      let cut = take (at + most) bytes in
      let left = take (most - length (spell x)) rest in
      let there : drop at cut ≡ spell x ++ left =
      cut_there most at bytes ∙ ap (take most) e ∙ take_past most (spell x) rest fits.1 in
      ap (read_within (at + most)) (codec.again cut at x left fits.0 there)

  pub limited_codec : IsCodec (limited most read) spell (λ x. Fits x × (length (spell x) ≤ most))
  limited_codec = record { takes = limited_takes; again = limited_again }
