-- One turn of reading pairs of digits.
use Rattle.std.proofs.Common.{◌≡◌, ◌<◌, ◌≤◌, ℕ, zero, suc, ◌+◌, ◌-◌, ◌*◌, ◌%◌, List, [], ◌∷◌, ◌++◌, length, take, drop, slice_set, Option, Some, None, refl, sym, ap, subst, ◌∙◌, append_assoc, arith}
use Rattle.std.specs.Prelude.{slice_index, unwrap_or}
use Rattle.std.proofs.lemmas.List.{append-nil, take_more_set, take_all}
use Rattle.std.proofs.Math.Seq.{take-append_seam}
use Rattle.schedule_text.specs.Fields.{hex_value, pair_of, pair_at, pairs_from}

-- what a turn gives
pub turn : ℕ → List ℕ → ℕ → Option ℕ → List ℕ × ℕ
turn next bytes at pair =
    elim pair [
      | None ↦ ([], at)
      | Some b ↦ (b ∷ (pairs_from next bytes (at + 2)).0, (pairs_from next bytes (at + 2)).1)
    ]

pairs_turn : (room next : ℕ) (bytes : List ℕ) (at : ℕ) (pair : Option ℕ) → room ≡ next + 1
    → pair_at bytes at ≡ pair → pairs_from room bytes at ≡ turn next bytes at pair
unfolding pairs_from turn
pairs_turn room next bytes at pair e is =
    ap (λ n. pairs_from n bytes at) {x = room} {y = suc next} (omega arith)
    ∙ ap (turn next bytes at) is

pub pairs_more : (room next : ℕ) (bytes : List ℕ) (at b : ℕ) → room ≡ next + 1
    → pair_at bytes at ≡ Some b
    → pairs_from room bytes
    at ≡ (b ∷ (pairs_from next bytes (at + 2)).0, (pairs_from next bytes (at + 2)).1)
unfolding turn
pairs_more room next bytes at b e is = pairs_turn room next bytes at (Some b) e is

pub pairs_done : (room next : ℕ) (bytes : List ℕ) (at : ℕ) → room ≡ next + 1
    → pair_at bytes at ≡ None → pairs_from room bytes at ≡ ([], at)
unfolding turn
pairs_done room next bytes at e is = pairs_turn room next bytes at None e is

abbrev pub read : List ℕ → ℕ → List ℕ × ℕ
read bytes at = (bytes, at)

-- what was read when no pair is left
pub pairs_end : (items : List ℕ) (place : ℕ) (rest whole : List ℕ × ℕ) → rest ≡ ([], place) → items
    ++ rest.0 ≡ whole.0 → rest.1 ≡ whole.1 → read items place ≡ whole
pairs_end items place rest whole e bytes end =
    let all : items ≡ whole.0 =
    sym (append-nil items) ∙ ap (λ (x : List ℕ × ℕ). items ++ x.0) (sym e) ∙ bytes in
    let at : place ≡ whole.1 = ap (λ (x : List ℕ × ℕ). x.1) (sym e) ∙ end in
    λ i. read (all i) (at i)

-- one more byte in front of the rest
pub pairs_on : (items pushed : List ℕ) (b : ℕ) (rest next whole : List ℕ × ℕ)
    → rest ≡ (b ∷ next.0, next.1) → pushed ≡ items ++ b ∷ [] → items ++ rest.0 ≡ whole.0 → pushed
    ++ next.0 ≡ whole.0
pairs_on items pushed b rest next whole e more bytes =
    ap (λ (l : List ℕ). l ++ next.0) more ∙ append_assoc items (b ∷ []) next.0
    ∙ ap (λ (x : List ℕ × ℕ). items ++ x.0) (sym e) ∙ bytes

-- items, and the pairs from here on, are all that is read
abbrev pub Reads : ℕ → List ℕ → ℕ → List ℕ → List ℕ × ℕ → Type 0
Reads room bytes at items whole =
    (items ++ (pairs_from room bytes at).0 ≡ whole.0) × ((pairs_from room bytes at).1 ≡ whole.1)

-- one more pair
pub reads_on : (room next : ℕ) (bytes : List ℕ) (at b : ℕ) (items pushed : List ℕ)
    (whole : List ℕ × ℕ) → room ≡ next + 1 → pair_at bytes at ≡ Some b → pushed ≡ items ++ b ∷ []
    → Reads room bytes at items whole → Reads next bytes (at + 2) pushed whole
reads_on room next bytes at b items pushed whole e is more h =
    let one = pairs_more room next bytes at b e is in (
      pairs_on items pushed b _ (pairs_from next bytes (at + 2)) whole one more h.0,
      ap (λ (x : List ℕ × ℕ). x.1) (sym one) ∙ h.1,
    )

-- no further pair
pub reads_end : (room next : ℕ) (bytes : List ℕ) (at : ℕ) (items : List ℕ) (whole : List ℕ × ℕ)
    → room ≡ next + 1 → pair_at bytes at ≡ None → Reads room bytes at items whole
    → read items at ≡ whole
reads_end room next bytes at items whole e none h =
    pairs_end items at _ whole (pairs_done room next bytes at e none) h.0 h.1

-- no room for a further one
pub reads_full : (room : ℕ) (bytes : List ℕ) (at : ℕ) (items : List ℕ) (whole : List ℕ × ℕ)
    → room ≡ 0 → Reads room bytes at items whole → read items at ≡ whole
unfolding pairs_from
reads_full zero bytes at items whole e h = pairs_end items at ([], at) whole refl h.0 h.1
reads_full (suc room) bytes at items whole e h = absurd (omega (arith, e))

-- a value that isn't 255 is a digit's
digit_of : (o : Option ℕ) (v : ℕ) → v ≡ unwrap_or o 255 → v < 16 → o ≡ Some v
digit_of None v e small = absurd (omega (arith, e, small))
digit_of (Some d) v e small = ap Some (sym e)

-- the byte that is written for two digits
pub pair_value : (bytes : List ℕ) (at high low : ℕ)
    → high ≡ unwrap_or (hex_value (slice_index bytes at)) 255
    → low ≡ unwrap_or (hex_value (slice_index bytes (at + 1))) 255 → high < 16 → low < 16
    → pair_at bytes at ≡ Some (high % 16 * 16 + low % 16)
pair_value bytes at high low first second h l =
    let one = digit_of (hex_value (slice_index bytes at)) high first h in
    let two = digit_of (hex_value (slice_index bytes (at + 1))) low second l in
    let same : 16 * high + low ≡ high % 16 * 16 + low % 16 = omega (arith, h, l) in
    (λ i. pair_of (one i) (two i)) ∙ ap Some same

-- one more pair over what stood there
pub fill_on : (n k : ℕ) (bytes : List ℕ) (at b : ℕ) (items : List ℕ) (whole : List ℕ × ℕ) → k < n
    → k < length items → pair_at bytes (at + 2 * k) ≡ Some b
    → Reads (n - k) bytes (at + 2 * k) (take k items) whole
    → Reads (n - (k + 1)) bytes (at + 2 * (k + 1)) (take (k + 1) (slice_set items k b)) whole
fill_on n k bytes at b items whole below inside is h =
    let next : at + 2 * k + 2 ≡ at + 2 * (k + 1) = omega arith in
    subst (λ (m : ℕ). Reads (n - (k + 1)) bytes m (take (k + 1) (slice_set items k b)) whole) next
    (reads_on (n - k) (n - (k + 1)) bytes (at + 2 * k) b (take k items) _ whole
    (omega (arith, below)) is (take_more_set items k b inside) h)

-- every place is filled
pub fill_end : (n k : ℕ) (bytes : List ℕ) (at : ℕ) (items : List ℕ) (whole : List ℕ × ℕ) → k ≡ n
    → length items ≡ n → Reads (n - k) bytes (at + 2 * k) (take k items) whole
    → whole ≡ read items (at + 2 * n)
fill_end n k bytes at items whole e count h =
    let all : take k items ≡ items = take_all k items (omega (arith, e, count)) in
    let place : at + 2 * k ≡ at + 2 * n = omega (arith, e) in
    sym (reads_full (n - k) bytes (at + 2 * k) (take k items) whole (omega (arith, e)) h)
    ∙ (λ i. read (all i) (place i))

-- with as many pairs as there is room for, or none behind them, there is no further one
pub pairs_all : (room most : ℕ) (bytes items : List ℕ) (at : ℕ) → room ≤ most
    → (room < most → pair_at bytes (at + 2 * room) ≡ None)
    → pairs_from room bytes at ≡ read items (at + 2 * room)
    → pairs_from most bytes at ≡ read items (at + 2 * room)
unfolding pairs_from
pairs_all zero zero bytes items at le last h = h
pairs_all zero (suc most) bytes items at le last h =
    let here : at + 2 * 0 ≡ at = omega arith in
    pairs_done (suc most) most bytes at (omega arith)
    (subst (λ (n : ℕ). pair_at bytes n ≡ None) here (last (omega arith))) ∙ h
pairs_all (suc room) zero bytes items at le last h = absurd (omega (arith, le))
pairs_all (suc room) (suc most) bytes items at le last h =
    by (pair_at bytes at) refl (λ end. pairs_all room most bytes rest.0 (at + 2) (omega (arith, le))
    (λ l. subst (λ (n : ℕ). pair_at bytes n ≡ None) next (last (omega (arith, l))))
    (λ i. read rest.0 (end i)))
  where
    rest : List ℕ × ℕ
    rest = pairs_from room bytes (at + 2)

    next : at + 2 * suc room ≡ at + 2 + 2 * room
    next = omega arith

    by : (o : Option ℕ) → pair_at bytes at ≡ o
        → (rest.1 ≡ at + 2 + 2 * room
        → pairs_from most bytes (at + 2) ≡ read rest.0 (at + 2 + 2 * room))
        → pairs_from (suc most) bytes at ≡ read items (at + 2 * suc room)
    by None none deeper =
        let end : at ≡ at + 2 * suc room =
        ap (λ (x : List ℕ × ℕ). x.1)
        (sym (pairs_done (suc room) room bytes at (omega arith) none) ∙ h) in
        absurd (omega (arith, end))
    by (Some b) is deeper =
        let one = pairs_more (suc room) room bytes at b (omega arith) is in
        let place : rest.1 ≡ at + 2 * suc room = ap (λ (x : List ℕ × ℕ). x.1) (sym one ∙ h) in
        let end : rest.1 ≡ at + 2 + 2 * room = omega (arith, place) in
        let same : pairs_from most bytes (at + 2) ≡ rest =
        deeper end ∙ (λ i. read rest.0 (sym end i)) in
        pairs_more (suc most) most bytes at b (omega arith) is
        ∙ ap (λ (x : List ℕ × ℕ). read (b ∷ x.0) x.1) same ∙ sym one ∙ h

-- all that was read, where as many places as there is room for were filled
pub filled_all : (most room len count : ℕ) (bytes old new : List ℕ) (at : ℕ)
    → room ≤ most → count ≡ room → len ≡ room → length new ≡ room
    → (room < most → pair_at bytes (at + 2 * room) ≡ None)
    → pairs_from count bytes at ≡ read new (at + 2 * count)
    → read (take len (new ++ drop (length new) old)) (at + 2 * room) ≡ pairs_from most bytes at
filled_all most room len count bytes old new at le all_places same full last h =
    let size : pairs_from room bytes at ≡ read new (at + 2 * room) =
    subst (λ (n : ℕ). pairs_from n bytes at ≡ read new (at + 2 * n)) all_places h in
    let seam : take len (new ++ drop (length new) old) ≡ new =
    ap (λ n. take n (new ++ drop (length new) old)) {x = len} {y = length new}
    (omega (arith, same, full))
    ∙ take-append_seam new (drop (length new) old) in
    ap (λ (l : List ℕ). read l (at + 2 * room)) seam
    ∙ sym (pairs_all room most bytes new at le last size)
