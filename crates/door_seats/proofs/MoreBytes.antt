-- The records at the front of bytes, where more bytes come behind them, or one more is read.
use Rattle.std.proofs.Common.{◌≡◌, ℕ, zero, suc, ◌-◌, ◌%◌, ◌≤◌, Bool, true, false, cond, ltb, List, [], ◌∷◌, ◌++◌, ap, arith, drop, length, length-append, nat_le, refl, subst, sym, take, ◌∙◌}
use Rattle.std.specs.Int.{w32, from_be_bytes}
use Rattle.std.proofs.lemmas.Bool.{le-ltb, ltb-false}
use Rattle.std.proofs.lemmas.List.{drop-append-le, take-append-le}
use Rattle.rpc_door.specs.Marks.{Ends, Front, Large, Long, Part, Piece, Short, Whole, behind, front, front_of, piece_at, piece_with}
use Rattle.rpc_door.specs.Serving.{AreRecords}
use Rattle.rpc_door.proofs.Fronts.{front_ends, front_last, front_long, front_more, front_zero}

-- ---- a fragment

abbrev piece_of : Bool → List ℕ → List ℕ → Piece
piece_of b part rest = Part b part rest

part_is : (b c : Bool) (x y p q : List ℕ) → piece_of b x p ≡ Part c y q
    → (b ≡ c) × (x ≡ y) × (p ≡ q)
part_is b c x y p q e = (cc, cc, cc)

guarded : (b : Bool) (x y : Piece) (is_last : Bool) (part rest : List ℕ)
    → (x ≡ Part is_last part rest → ⊥) → cond b x y ≡ Part is_last part rest
    → (b ≡ false) × (y ≡ Part is_last part rest)
guarded true x y is_last part rest other e = absurd (other e)
guarded false x y is_last part rest other e = (refl, e)

-- a whole fragment stays at the front
piece_more : (room : ℕ) (bytes more : List ℕ) (is_last : Bool) (part rest : List ℕ)
    → piece_at room bytes ≡ Part is_last part rest
    → piece_at room (bytes ++ more) ≡ Part is_last part (rest ++ more)
piece_more room bytes more is_last part rest e =
    let mark = from_be_bytes w32 (take 4 bytes) in
    let tail = drop 4 bytes in
    let size = mark % 2147483648 in
    let found = Part (nat_le 2147483648 mark) (take size tail) (drop size tail) in
    let fits = cond (ltb (length tail) size) Ends found in
    let g = guarded (ltb (length bytes) 4) Ends (piece_with room mark tail) is_last part rest
    (λ x. cc) e in
    let h = guarded (ltb room size) Long fits is_last part rest (λ x. cc) g.1 in
    let k = guarded (ltb (length tail) size) Ends found is_last part rest (λ x. cc) h.1 in
    let is = part_is (nat_le 2147483648 mark) is_last (take size tail) part (drop size tail) rest
    k.1 in
    let four : 4 ≤ length bytes = ltb-false _ _ g.0 in
    let whole : size ≤ length tail = ltb-false _ _ k.0 in
    let long = le-ltb (length (bytes ++ more)) 4 (omega (arith, length-append bytes more)) in
    let enough = le-ltb (length (tail ++ more)) size (omega (arith, length-append tail more)) in
    rw (
      long,
      take-append-le 4 bytes more four,
      drop-append-le 4 bytes more four,
      h.0,
      enough,
      take-append-le size tail more whole,
      drop-append-le size tail more whole,
      is.0,
      is.1,
      is.2,
    ) refl

-- ---- a record

behind_is : (part : List ℕ) (f : Front) (record_ rest : List ℕ)
    → behind part f ≡ Whole record_ rest
    → (tail : List ℕ) × (f ≡ Whole tail rest) × (record_ ≡ part ++ tail)
behind_is part (Whole tail more) record_ rest e =
    (tail, ap (λ (s : List ℕ). Whole tail s) cc, cc)
behind_is part Short record_ rest e = absurd cc
behind_is part Large record_ rest e = absurd cc

abbrev front_as : List ℕ → List ℕ → Front
front_as r rest = Whole r rest

whole_is : (r s p q : List ℕ) → front_as r p ≡ Whole s q → (r ≡ s) × (p ≡ q)
whole_is r s p q e = (cc, cc)

module _ (n : ℕ) (again : (room : ℕ) (bytes more record_ rest : List ℕ)
    → front_of n room bytes ≡ Whole record_ rest
    → front_of n room (bytes ++ more) ≡ Whole record_ (rest ++ more)) where
  by_piece : (room : ℕ) (bytes more record_ rest : List ℕ) (p : Piece) → piece_at room bytes ≡ p
      → front_of (suc n) room bytes ≡ Whole record_ rest
      → front_of (suc n) room (bytes ++ more) ≡ Whole record_ (rest ++ more)
  by_piece room bytes more record_ rest Ends is e =
      let clash : Short ≡ Whole record_ rest = sym (front_ends n room bytes is) ∙ e in
      absurd cc
  by_piece room bytes more record_ rest Long is e =
      let clash : Large ≡ Whole record_ rest = sym (front_long n room bytes is) ∙ e in
      absurd cc
  by_piece room bytes more record_ rest (Part true part left) is e =
      let same = whole_is part record_ left rest (sym (front_last n room bytes part left is) ∙ e) in
      front_last n room (bytes ++ more) part (left ++ more)
      (piece_more room bytes more true part left is)
      ∙ ap (λ (s : List ℕ). Whole s (left ++ more)) same.0
      ∙ ap (λ (s : List ℕ). Whole record_ (s ++ more)) same.1
  by_piece room bytes more record_ rest (Part false part left) is e =
      let b = behind_is part (front_of n (room - length part) left) record_ rest
      (sym (front_more n room bytes part left is) ∙ e) in
      front_more n room (bytes ++ more) part (left ++ more)
      (piece_more room bytes more false part left is)
      ∙ ap (behind part) (again (room - length part) left more b.0 rest b.1)
      ∙ ap (λ (s : List ℕ). Whole s (rest ++ more)) (sym b.2)

none_found : (b : Bool) (record_ rest : List ℕ) → cond b Short Large ≡ Whole record_ rest → ⊥
none_found true record_ rest e = absurd cc
none_found false record_ rest e = absurd cc

front_of_more : (n room : ℕ) (bytes more record_ rest : List ℕ)
    → front_of n room bytes ≡ Whole record_ rest
    → front_of n room (bytes ++ more) ≡ Whole record_ (rest ++ more)
front_of_more zero room bytes more record_ rest e =
    absurd (none_found (ltb (length bytes) 4) record_ rest (sym (front_zero room bytes) ∙ e))
front_of_more (suc n) room bytes more record_ rest e =
    by_piece n (front_of_more n) room bytes more record_ rest (piece_at room bytes) refl e

-- A whole record stays at the front
pub whole_more : (bytes more record_ rest : List ℕ) → front bytes ≡ Whole record_ rest
    → front (bytes ++ more) ≡ Whole record_ (rest ++ more)
whole_more bytes more record_ rest e = front_of_more 1000 20000 bytes more record_ rest e

-- ---- records

pub records_more : (bytes more : List ℕ) (records : List (List ℕ)) (rest : List ℕ)
    → AreRecords bytes records rest → AreRecords (bytes ++ more) records (rest ++ more)
records_more bytes more [] rest h = ap (λ (s : List ℕ). s ++ more) h
records_more bytes more (r ∷ rs) rest h =
    (h.0 ++ more, whole_more bytes more r h.0 h.1, records_more h.0 more rs rest h.2)

pub records_one : (bytes : List ℕ) (records : List (List ℕ)) (pending record_ rest : List ℕ)
    → AreRecords bytes records pending → front pending ≡ Whole record_ rest
    → AreRecords bytes (records ++ record_ ∷ []) rest
records_one bytes [] pending record_ rest h is =
    (rest, subst (λ (s : List ℕ). front s ≡ Whole record_ rest) h is, refl)
records_one bytes (r ∷ rs) pending record_ rest h is =
    (h.0, h.1, records_one h.0 rs pending record_ rest h.2 is)
