-- Fields of one kind, read and written one after the other.
use Rattle.std.proofs.Common.{◌≡◌, ℕ, zero, suc, ◌+◌, ◌-◌, ◌<◌, ◌^◌, List, [], ◌∷◌, ◌++◌, length, drop, Ok, Err, refl, sym, ap, subst, ◌∙◌, append_assoc, arith, length-append}
use Rattle.std.specs.Prelude.{Result, IsErr, IsErrAnd}
use Rattle.harp_base.specs.declared.field.Misread.{Misread}
use Rattle.harp_base.specs.declared.field.Misread.TheVariants.{Ends, BadTag, TooLong, NoMemory}
use Rattle.harp_base.specs.Fields.{Read, Reader, Spells, Fails, GivesAs, ◌>>=◌, fields_by_tag, u16_at, u16_bytes, many_at, many_bytes, AllFit}
use Rattle.harp_base.proofs.Codec.{IsBytes, IsCodec, bind_ok, ok_is, drop_past, Spells-then, u16_codec}

-- ---- the loop that reads

-- fields read before, and those that are read after them
abbrev pub after_fields : {A : Type 0} → List A → Read (List A) → Read (List A)
after_fields done (Ok x) = Ok (done ++ x.0, x.1)
after_fields done (Err e) = Err e

abbrev ok_fields : {A : Type 0} → List A → ℕ → Read (List A)
ok_fields l n = Ok (l, n)

after_one : {A : Type 0} (done : List A) (x : A) (r : Read (List A))
    → after_fields done (r >>= λ rest. Ok (x ∷ rest.0, rest.1)) ≡ after_fields (done ++ x ∷ []) r
after_one done x (Ok y) = ap (λ l. ok_fields l y.1) (sym (append_assoc done (x ∷ []) y.0))
after_one done x (Err f) = refl

pub many_more : {A : Type 0} (r : Reader A) (n : ℕ) (done : List A) (bytes : List ℕ) (at : ℕ) (x : A)
    (next : ℕ) → 0 < n → r bytes at ≡ Ok (x, next)
    → after_fields done (many_at r n bytes at)
    ≡ after_fields (done ++ x ∷ []) (many_at r (n - 1) bytes next)
unfolding many_at
many_more r zero done bytes at x next lt is = absurd (omega arith)
many_more r (suc n) done bytes at x next lt is = let one : suc n - 1 ≡ n = omega arith in
    rw (is, one) (after_one done x (many_at r n bytes next))

many_fails : {A : Type 0} (r : Reader A) (n : ℕ) (done : List A) (bytes : List ℕ) (at : ℕ)
    (e : Misread) → 0 < n → r bytes at ≡ Err e
    → after_fields done (many_at r n bytes at) ≡ Err e
unfolding many_at
many_fails r zero done bytes at e lt is = absurd (omega arith)
many_fails r (suc n) done bytes at e lt is = rw is refl

-- a fault of the next field is the fault of all
pub many_faults : {A : Type 0} (r : Reader A) (e : Misread) (n : ℕ) (done : List A)
    (bytes : List ℕ) (at : ℕ) (all : Read (List A)) → all ≡ after_fields done (many_at r n bytes at)
    → 0 < n → Fails e (r bytes at) → Fails e all
many_faults r NoMemory n done bytes at all is lt fails = tt
many_faults r (Ends k l) n done bytes at all is lt fails = is
    ∙ many_fails r n done bytes at (Ends k l) lt fails
many_faults r (BadTag k) n done bytes at all is lt fails = is
    ∙ many_fails r n done bytes at (BadTag k) lt fails
many_faults r (TooLong k) n done bytes at all is lt fails = is
    ∙ many_fails r n done bytes at (TooLong k) lt fails

-- a fault that `?` hands on
pub handed_on : {X Y : Type 0} (view : X
    → Y) (r : Result X Misread) (e : Misread) (read : Result Y Misread) → IsErr r
    → IsErrAnd r (λ f. f ≡ e) → Fails e read → GivesAs view r read
handed_on view (Ok x) e read is same fails = absurd cc
handed_on view (Err f) e read is same fails =
    subst (λ (g : Misread). Fails g read) (sym same) fails

-- ---- laws

module _ {A : Type 0} {r : Reader A} {spell : A → List ℕ} {Fits : A
    → Type 0} (codec : IsCodec r spell Fits) where
  pub many_takes : (n : ℕ) (bytes : List ℕ) (at : ℕ) (x : List A × ℕ) → IsBytes bytes
      → many_at r n bytes at ≡ Ok x → Spells bytes at (many_bytes spell x.0) x.1
      × ((length x.0 ≡ n) × AllFit Fits x.0)
  unfolding many_at many_bytes
  many_takes zero bytes at x fits e =
      subst (λ (y : List A × ℕ). Spells bytes at (many_bytes spell y.0) y.1 × ((length y.0 ≡ 0)
      × AllFit Fits y.0)) (ok_is ([], at) x e)
      (record { parts = refl; length_is = omega arith }, (refl, tt))
  many_takes (suc n) bytes at x fits e =
      let p = bind_ok (r bytes at)
      (λ y. many_at r n bytes y.1 >>= λ rest. Ok (y.0 ∷ rest.0, rest.1)) x e in
      let q = bind_ok (many_at r n bytes p.0.1) (λ rest. Ok (p.0.0 ∷ rest.0, rest.1)) x p.2 in
      let t = codec.takes bytes at p.0 fits p.1 in
      let m = many_takes n bytes p.0.1 q.0 fits q.1 in
      subst (λ (y : List A × ℕ). Spells bytes at (many_bytes spell y.0) y.1 × ((length y.0 ≡ suc n)
      × AllFit Fits y.0)) (ok_is (p.0.0 ∷ q.0.0, q.0.1) x q.2) (
        Spells-then bytes at (spell p.0.0) p.0.1 (many_bytes spell q.0.0) q.0.1 t.0 m.0,
        (ap suc m.1.0, (t.1, m.1.1)),
      )

  pub many_again : (xs : List A) (bytes : List ℕ) (at : ℕ) (rest : List ℕ) → AllFit Fits xs
      → drop at bytes ≡ many_bytes spell xs ++ rest
      → many_at r (length xs) bytes at ≡ Ok (xs, at + length (many_bytes spell xs))
  unfolding many_at many_bytes
  many_again [] bytes at rest fits e = ap (λ n. ok_fields [] n) (omega arith)
  many_again (x ∷ xs) bytes at rest fits e =
      let front : drop at bytes ≡ spell x ++ (many_bytes spell xs ++ rest) = e
      ∙ append_assoc (spell x) (many_bytes spell xs) rest in
      let first = codec.again bytes at x (many_bytes spell xs ++ rest) fits.0 front in
      let second =
      many_again xs bytes (at + length (spell x)) rest fits.1
      (drop_past bytes at (spell x) (many_bytes spell xs ++ rest) front) in
      let len : at + length (spell x ++ many_bytes spell xs)
      ≡ at + length (spell x) + length (many_bytes spell xs) =
      omega (arith, length-append (spell x) (many_bytes spell xs)) in
      rw (first, second, len) refl

  counted_takes : (bytes : List ℕ) (at : ℕ) (x : List A × ℕ) → IsBytes bytes
      → fields_by_tag u16_at (many_at r) bytes at ≡ Ok x
      → Spells bytes at (u16_bytes (length x.0) ++ many_bytes spell x.0) x.1
      × ((length x.0 < 2 ^ 16) × AllFit Fits x.0)
  counted_takes bytes at x fits e =
      let p = bind_ok (u16_at bytes at) (λ n. many_at r n.0 bytes n.1) x e in
      let n = u16_codec.takes bytes at p.0 fits p.1 in
      let t = many_takes p.0.0 bytes p.0.1 x fits p.2 in
      let both =
      Spells-then bytes at (u16_bytes p.0.0) p.0.1 (many_bytes spell x.0) x.1 n.0 t.0 in (
        subst (λ (k : ℕ). Spells bytes at (u16_bytes k ++ many_bytes spell x.0) x.1)
            (sym t.1.0) both,
        (omega (arith, n.1, t.1.0), t.1.1),
      )

  counted_again : (bytes : List ℕ) (at : ℕ) (x : List A) (rest : List ℕ)
      → (length x < 2 ^ 16) × AllFit Fits x
      → drop at bytes ≡ (u16_bytes (length x) ++ many_bytes spell x) ++ rest
      → fields_by_tag u16_at (many_at r) bytes at
      ≡ Ok (x, at + length (u16_bytes (length x) ++ many_bytes spell x))
  counted_again bytes at x rest fits e =
      let front : drop at bytes ≡ u16_bytes (length x) ++ (many_bytes spell x ++ rest) = e
      ∙ append_assoc (u16_bytes (length x)) (many_bytes spell x) rest in
      let first = u16_codec.again bytes at (length x) (many_bytes spell x ++ rest) fits.0 front in
      let second =
      many_again x bytes (at + length (u16_bytes (length x))) rest fits.1
      (drop_past bytes at (u16_bytes (length x)) (many_bytes spell x ++ rest) front) in
      let len : at + length (u16_bytes (length x) ++ many_bytes spell x)
      ≡ at + length (u16_bytes (length x)) + length (many_bytes spell x) =
      omega (arith, length-append (u16_bytes (length x)) (many_bytes spell x)) in
      rw (first, second, len) refl

  -- a u16 number of fields, and the fields
  pub list_codec : IsCodec (fields_by_tag u16_at (many_at r))
      (λ xs. u16_bytes (length xs) ++ many_bytes spell xs)
      (λ xs. (length xs < 2 ^ 16) × AllFit Fits xs)
  list_codec = record { takes = counted_takes; again = counted_again }
