-- Ascending indices, and what a search finds in them.
use Rattle.std.proofs.Common.{◌≡◌, ℕ, zero, suc, ◌+◌, ◌-◌, ◌<◌, ◌≤◌, ◌⊎◌, Bool, true, false, ◌||◌, ◌==◌, cond, ltb, leb, drop-cons, List, [], ◌∷◌, ◌++◌, length, get_or, take, drop, refl, sym, ap, ◌∙◌, subst, inl, inr, arith}
use Rattle.std.specs.Prelude.{Some, None}
use Rattle.std.specs.List.Sorted.{IsPartitionPoint, IsPartitionedBy}
use Rattle.std.proofs.lemmas.Bool.{eqb-true, eq-eqb, leb-false, leb-true, le-leb, lt-ltb, ltb-false, ltb-true, ne_eqb}
use Rattle.std.proofs.lemmas.Bool.Decides.{eqb_tells}
use Rattle.std.proofs.lemmas.List.{append-nil, get_or-drop, get_or-take, length-drop, length-take, take-append-drop}
use Rattle.overlay.specs.Index.{IsLast}
use Rattle.overlay.specs.Indices.{Ascend, is_among}

abbrev Among : List ℕ → ℕ → Type 0
Among indices i = is_among indices i ≡ true

-- ---- or

or_left : (a b : Bool) → a ≡ true → (a || b) ≡ true
or_left true b e = refl
or_left false b e = absurd cc

or_right : (a b : Bool) → b ≡ true → (a || b) ≡ true
or_right true b e = refl
or_right false b e = e

either : (a b : Bool) → (a || b) ≡ true → (a ≡ true) ⊎ (b ≡ true)
either true b e = inl refl
either false b e = inr e

grouped : (a b c : Bool) → (a || (b || c)) ≡ ((a || b) || c)
grouped true b c = refl
grouped false b c = refl

absent : (b : Bool) → (b ≡ true → ⊥) → b ≡ false
absent true h = absurd (h refl)
absent false h = refl

among_append : (a b : List ℕ) (i : ℕ) → is_among (a ++ b) i ≡ (is_among a i || is_among b i)
among_append [] b i = refl
among_append (x ∷ a) b i = ap (λ (o : Bool). (i == x) || o) (among_append a b i)
    ∙ grouped (i == x) (is_among a i) (is_among b i)

-- ---- one part before another

record Parts (a b : List ℕ) : Type 0 where
  front : Ascend a
  back : Ascend b
  before : (x y : ℕ) → Among a x → Among b y → x < y

above_first : (a b : List ℕ) (n x y : ℕ) → Parts a b → ((i : ℕ) → Among (a ++ b) i → n < i)
    → (x ≡ n) ⊎ Among a x → Among b y → x < y
above_first a b n x y parts above (inl e) there =
    subst (λ (m : ℕ). m < y) (sym e) (above y (among_append a b y ∙ or_right (is_among a y) _ there))
above_first a b n x y parts above (inr h) there = parts.before x y h there

by_first : (a : List ℕ) (n x : ℕ) → (x == n) ≡ true ⊎ Among a x → (x ≡ n) ⊎ Among a x
by_first a n x (inl e) = inl (eqb-true x n e)
by_first a n x (inr h) = inr h

parts_of : (a b : List ℕ) → Ascend (a ++ b) → Parts a b
unfolding Ascend
parts_of [] b up = record { front = tt; back = up; before = λ x y here there. absurd cc }
parts_of (n ∷ a) b up =
    let more = parts_of a b up.1 in
    record {
      front = (λ i h. up.0 i (among_append a b i ∙ or_left _ _ h), more.front);
      back = more.back;
      before = λ x y here there.
          above_first a b n x y more up.0 (by_first a n x (either (x == n) (is_among a x) here)) there;
    }

above_both : (a b : List ℕ) (n i : ℕ) → ((j : ℕ) → Among a j → n < j) → ((j : ℕ) → Among b j → n < j)
    → Among a i ⊎ Among b i → n < i
above_both a b n i ha hb (inl h) = ha i h
above_both a b n i ha hb (inr h) = hb i h

joined : (a b : List ℕ) → Parts a b → Ascend (a ++ b)
unfolding Ascend
joined [] b parts = parts.back
joined (n ∷ a) b parts = (
  λ i h. above_both a b n i parts.front.0
      (λ j there. parts.before n j (or_left _ _ (eq-eqb n n refl)) there)
      (either (is_among a i) (is_among b i) (sym (among_append a b i) ∙ h)),
  joined a b (record {
    front = parts.front.1;
    back = parts.back;
    before = λ x y here there. parts.before x y (or_right (x == n) _ here) there;
  }),
)

-- ---- one comes between

mid_is : (p q r : Bool) → (p || (q || r)) ≡ cond q true (p || r)
mid_is true true r = refl
mid_is true false r = refl
mid_is false true r = refl
mid_is false false r = refl

pub same_test : (i n : ℕ) → (i == n) ≡ (n == i)
same_test i n = elim (eqb_tells i n) [
  | inl e ↦ e.0 ∙ sym (eq-eqb n i (sym e.1))
  | inr e ↦ e.0 ∙ sym (ne_eqb n i (λ same. e.1 (sym same)))
]

pub among_put : (a b : List ℕ) (n i : ℕ) → is_among (a ++ n ∷ b) i ≡ cond (n == i) true (is_among (a ++ b) i)
among_put a b n i = among_append a (n ∷ b) i ∙ mid_is (is_among a i) (i == n) (is_among b i)
    ∙ ap (λ (t : Bool). cond t true (is_among a i || is_among b i)) (same_test i n)
    ∙ ap (λ (o : Bool). cond (n == i) true o) (sym (among_append a b i))

first_or : (a : List ℕ) (n y : ℕ) (P : Type 0) → (y ≡ n → P) → (Among a y → P) → Among (n ∷ a) y → P
first_or a n y P f g h = elim (either (y == n) (is_among a y) h) [
  | inl e ↦ f (eqb-true y n e)
  | inr e ↦ g e
]

put_between : (a b : List ℕ) (n : ℕ) → Ascend (a ++ b) → ((i : ℕ) → Among a i → i < n)
    → ((i : ℕ) → Among b i → n < i) → Ascend (a ++ n ∷ b)
unfolding Ascend
put_between a b n up below above =
    let parts = parts_of a b up in
    joined a (n ∷ b) (record {
      front = parts.front;
      back = (above, parts.back);
      before = λ x y here there. first_or b n y (x < y)
          (λ e. subst (λ (m : ℕ). x < m) (sym e) (below x here))
          (λ h. parts.before x y here h) there;
    })

-- ---- one goes

not_in_both : (a b : List ℕ) (n : ℕ) → Parts a (n ∷ b) → Among a n ⊎ Among b n → ⊥
unfolding Ascend
not_in_both a b n parts (inl h) =
    absurd (omega (arith, parts.before n n h (or_left _ (is_among b n) (eq-eqb n n refl))))
not_in_both a b n parts (inr h) = absurd (omega (arith, parts.back.0 n h))

pub taken_out : (a b : List ℕ) (n i : ℕ) → Ascend (a ++ n ∷ b)
    → is_among (a ++ b) i ≡ cond (n == i) false (is_among (a ++ n ∷ b) i)
taken_out a b n i up = elim (eqb_tells n i) [
  | inl e ↦ absent (is_among (a ++ b) i) (λ h. not_in_both a b n (parts_of a (n ∷ b) up)
      (subst (λ (m : ℕ). Among a m ⊎ Among b m) (sym e.1)
      (either (is_among a i) (is_among b i) (sym (among_append a b i) ∙ h))))
      ∙ ap (λ (t : Bool). cond t false (is_among (a ++ n ∷ b) i)) (sym e.0)
  | inr e ↦ ap (λ (t : Bool). cond t true (is_among (a ++ b) i)) (sym e.0)
      ∙ sym (among_put a b n i)
      ∙ ap (λ (t : Bool). cond t false (is_among (a ++ n ∷ b) i)) (sym e.0)
]

pub still_ascend : (a b : List ℕ) (n : ℕ) → Ascend (a ++ n ∷ b) → Ascend (a ++ b)
unfolding Ascend
still_ascend a b n up =
    let parts = parts_of a (n ∷ b) up in
    joined a b (record {
      front = parts.front;
      back = parts.back.1;
      before = λ x y here there. parts.before x y here (or_right (y == n) _ there);
    })

pub one_ascends : (n : ℕ) → Ascend (n ∷ [])
unfolding Ascend
one_ascends n = (λ i h. absurd cc, tt)

-- ---- one behind all others, and the first one

-- where an index stands
record Stands (indices : List ℕ) (i : ℕ) : Type 0 where
  place : ℕ
  within : place < length indices
  is : (d : ℕ) → get_or indices place d ≡ i

stands_later : (x i : ℕ) (indices : List ℕ) → Stands indices i → Stands (x ∷ indices) i
stands_later x i indices s = record { place = suc s.place; within = omega (arith, s.within); is = s.is }

stands : (indices : List ℕ) (i : ℕ) → Among indices i → Stands indices i
stands [] i h = absurd cc
stands (x ∷ indices) i h = elim (either (i == x) (is_among indices i) h) [
  | inl e ↦ record { place = 0; within = omega arith; is = λ d. sym (eqb-true i x e) }
  | inr e ↦ stands_later x i indices (stands indices i e)
]

among_at : (indices : List ℕ) (k d : ℕ) → k < length indices → Among indices (get_or indices k d)
among_at [] k d lt = absurd (omega (arith, lt))
among_at (x ∷ indices) zero d lt = or_left _ _ (eq-eqb x x refl)
among_at (x ∷ indices) (suc k) d lt = or_right (get_or indices k d == x) _ (among_at indices k d (omega (arith, lt)))

-- an earlier one isn't above a later one, and is below it where they are two
rises : (indices : List ℕ) → Ascend indices → (j k d : ℕ) → j < k → k < length indices
    → get_or indices j d < get_or indices k d
unfolding Ascend
rises [] up j k d lt inside = absurd (omega (arith, inside))
rises (x ∷ indices) up zero zero d lt inside = absurd (omega (arith, lt))
rises (x ∷ indices) up zero (suc k) d lt inside = up.0 (get_or indices k d) (among_at indices k d (omega (arith, inside)))
rises (x ∷ indices) up (suc j) zero d lt inside = absurd (omega (arith, lt))
rises (x ∷ indices) up (suc j) (suc k) d lt inside =
    rises indices up.1 j k d (omega (arith, lt)) (omega (arith, inside))

climbs : (indices : List ℕ) → Ascend indices → (j k d : ℕ) → j ≤ k → k < length indices
    → get_or indices j d ≤ get_or indices k d
unfolding Ascend
climbs [] up j k d le inside = absurd (omega (arith, inside))
climbs (x ∷ indices) up zero zero d le inside = omega arith
climbs (x ∷ indices) up zero (suc k) d le inside =
    omega (arith, up.0 (get_or indices k d) (among_at indices k d (omega (arith, inside))))
climbs (x ∷ indices) up (suc j) zero d le inside = absurd (omega (arith, le))
climbs (x ∷ indices) up (suc j) (suc k) d le inside =
    climbs indices up.1 j k d (omega (arith, le)) (omega (arith, inside))

-- one at the end
abbrev pub IsEnd : List ℕ → ℕ → Type 0
IsEnd indices last = (0 < length indices) × ((d : ℕ) → get_or indices (length indices - 1) d ≡ last)

pub end_by : (indices : List ℕ) (last many : ℕ) → many ≡ length indices → 0 < length indices
    → ((d : ℕ) → last ≡ get_or indices (many - 1) d) → IsEnd indices last
end_by indices last many is some at =
    (some, λ d. ap (λ (m : ℕ). get_or indices (m - 1) d) (sym is) ∙ sym (at d))

upto_end : (indices : List ℕ) (last i : ℕ) → Ascend indices → IsEnd indices last → Among indices i → i ≤ last
upto_end indices last i up end there =
    let s = stands indices i there in
    omega (
      arith,
      climbs indices up s.place (length indices - 1) 0 (omega (arith, s.within)) (omega (arith, end.0)),
      s.is 0,
      end.1 0,
    )

pub push_ascends : (indices : List ℕ) (n : ℕ) → Ascend indices
    → ((i : ℕ) → Among indices i → i < n) → Ascend (indices ++ n ∷ [])
push_ascends indices n up below =
    put_between indices [] n (subst Ascend (sym (append-nil indices)) up) below (λ i h. absurd cc)

-- the first one comes
pub first_pushed : (indices : List ℕ) (n : ℕ) → length indices ≤ 0 → Ascend (indices ++ n ∷ [])
first_pushed [] n none = one_ascends n
first_pushed (x ∷ indices) n none = absurd (omega (arith, none))

pub below_next : (indices : List ℕ) (last n : ℕ) → Ascend indices → IsEnd indices last → last < n
    → (i : ℕ) → Among indices i → i < n
below_next indices last n up end lt i there = omega (arith, upto_end indices last i up end there, lt)

pub last_is_end : (indices : List ℕ) (last upto : ℕ) → Ascend indices → IsEnd indices last → last ≤ upto
    → IsLast (is_among indices) upto (Some last)
last_is_end indices last upto up end le = (
  le,
  subst (λ (i : ℕ). Among indices i) (end.1 0) (among_at indices (length indices - 1) 0 (omega (arith, end.0))),
  λ j lt within. absent (is_among indices j)
      (λ there. absurd (omega (arith, lt, upto_end indices last j up end there))),
)

-- ---- where a search ends

pub parted_below : (indices : List ℕ) (n : ℕ) → Ascend indices → IsPartitionedBy (λ i. ltb i n) indices
parted_below indices n up j k d le inside t =
    lt-ltb _ n (omega (arith, climbs indices up j k d le inside, ltb-true _ n t))

pub parted_upto : (indices : List ℕ) (n : ℕ) → Ascend indices → IsPartitionedBy (λ i. leb i n) indices
parted_upto indices n up j k d le inside t =
    le-leb _ n (omega (arith, climbs indices up j k d le inside, leb-true _ n t))

-- the place of an index, before which all are below it
abbrev pub IsPlaceOf : List ℕ → ℕ → ℕ → Type 0
IsPlaceOf indices n k = IsPartitionPoint (λ i. ltb i n ≡ true) (λ i. ltb i n ≡ false) indices k

before_place : (indices : List ℕ) (n k : ℕ) → k ≤ length indices → IsPlaceOf indices n k
    → (i : ℕ) → Among (take k indices) i → i < n
before_place indices n k le point i there =
    let s = stands (take k indices) i there in
    let near : s.place < k = omega (arith, s.within, length-take k indices) in
    ltb-true i n (subst (λ (m : ℕ). ltb m n ≡ true)
    (sym (get_or-take k indices s.place 0 near) ∙ s.is 0) (point.0 s.place 0 (omega arith) near))

strict : (a b : ℕ) → a ≤ b → (a ≡ b → ⊥) → a < b
strict zero zero le ne = absurd (ne refl)
strict zero (suc b) le ne = omega arith
strict (suc a) zero le ne = absurd (omega (arith, le))
strict (suc a) (suc b) le ne = omega (arith, strict a b (omega (arith, le)) (λ e. ne (ap suc e)))

-- the index isn't at its place
abbrev pub IsNotAt : List ℕ → ℕ → ℕ → Type 0
IsNotAt indices n k = k < length indices → n ≡ get_or indices k 0 → ⊥

above_place : (indices : List ℕ) (n k q : ℕ) → Ascend indices → IsPlaceOf indices n k → IsNotAt indices n k
    → k + q < length indices → n < get_or indices (k + q) 0
above_place indices n k zero up point none inside =
    let at : k + zero ≡ k = omega arith in
    subst (λ (j : ℕ). n < get_or indices j 0) (sym at)
    (strict n (get_or indices k 0) (ltb-false _ n (point.1 k 0 (omega arith) (omega (arith, inside)))) (none (omega (arith, inside))))
above_place indices n k (suc q) up point none inside =
    omega (
      arith,
      ltb-false _ n (point.1 k 0 (omega arith) (omega (arith, inside))),
      rises indices up k (k + suc q) 0 (omega arith) inside,
    )

behind_place : (indices : List ℕ) (n k : ℕ) → Ascend indices → IsPlaceOf indices n k → IsNotAt indices n k
    → (i : ℕ) → Among (drop k indices) i → n < i
behind_place indices n k up point none i there =
    let s = stands (drop k indices) i there in
    let inside : k + s.place < length indices = omega (arith, s.within, length-drop k indices) in
    subst (λ (m : ℕ). n < m) (sym (get_or-drop k indices s.place 0) ∙ s.is 0)
    (above_place indices n k s.place up point none inside)

whole : (indices : List ℕ) (k : ℕ) → Ascend indices → Ascend (take k indices ++ drop k indices)
whole indices k up = subst Ascend (sym (take-append-drop k indices)) up

pub inserted_ascends : (indices : List ℕ) (n k : ℕ) → k ≤ length indices → Ascend indices → IsPlaceOf indices n k
    → IsNotAt indices n k → Ascend (take k indices ++ n ∷ drop k indices)
inserted_ascends indices n k le up point none =
    put_between (take k indices) (drop k indices) n (whole indices k up)
    (before_place indices n k le point) (behind_place indices n k up point none)

pub inserted_is : (indices : List ℕ) (n k i : ℕ)
    → is_among (take k indices ++ n ∷ drop k indices) i ≡ cond (n == i) true (is_among indices i)
inserted_is indices n k i = among_put (take k indices) (drop k indices) n i
    ∙ ap (λ (l : List ℕ). cond (n == i) true (is_among l i)) (take-append-drop k indices)

-- one that isn't there
pub not_there : (indices : List ℕ) (n k i : ℕ) → k ≤ length indices → Ascend indices → IsPlaceOf indices n k
    → IsNotAt indices n k → is_among indices i ≡ cond (n == i) false (is_among indices i)
not_there indices n k i le up point none = elim (eqb_tells n i) [
  | inl e ↦ absent (is_among indices i) (λ h. elim (either (is_among (take k indices) i) (is_among (drop k indices) i)
      (sym (among_append (take k indices) (drop k indices) i)
      ∙ ap (λ (l : List ℕ). is_among l i) (take-append-drop k indices) ∙ h)) [
        | inl at ↦ omega (arith, e.1, before_place indices n k le point i at)
        | inr at ↦ omega (arith, e.1, behind_place indices n k up point none i at)
      ])
      ∙ ap (λ (t : Bool). cond t false (is_among indices i)) (sym e.0)
  | inr e ↦ ap (λ (t : Bool). cond t false (is_among indices i)) (sym e.0)
]

-- one that is there
there_is : (indices : List ℕ) (n k : ℕ) → k < length indices → n ≡ get_or indices k 0
    → take k indices ++ n ∷ drop (suc k) indices ≡ indices
there_is indices n k inside is =
    ap (λ (m : ℕ). take k indices ++ m ∷ drop (suc k) indices) is
    ∙ ap (λ (l : List ℕ). take k indices ++ l) (sym (drop-cons indices k 0 inside)) ∙ take-append-drop k indices

pub removed_ascends : (indices : List ℕ) (n k : ℕ) → k < length indices → n ≡ get_or indices k 0 → Ascend indices
    → Ascend (take k indices ++ drop (suc k) indices)
removed_ascends indices n k inside is up =
    still_ascend (take k indices) (drop (suc k) indices) n (subst Ascend (sym (there_is indices n k inside is)) up)

pub removed_is : (indices : List ℕ) (n k i : ℕ) → k < length indices → n ≡ get_or indices k 0 → Ascend indices
    → is_among (take k indices ++ drop (suc k) indices) i ≡ cond (n == i) false (is_among indices i)
removed_is indices n k i inside is up =
    taken_out (take k indices) (drop (suc k) indices) n i (subst Ascend (sym (there_is indices n k inside is)) up)
    ∙ ap (λ (l : List ℕ). cond (n == i) false (is_among l i)) (there_is indices n k inside is)

-- ---- the last one up to a number, by a search

abbrev pub IsBound : List ℕ → ℕ → ℕ → Type 0
IsBound indices upto k = IsPartitionPoint (λ i. leb i upto ≡ true) (λ i. leb i upto ≡ false) indices k

pub none_within : (indices : List ℕ) (upto k : ℕ) → IsBound indices upto k → k ≡ 0
    → IsLast (is_among indices) upto None
none_within indices upto k point nought j le = absent (is_among indices j) (λ there.
    let s = stands indices j there in
    absurd (omega (arith, le, s.is 0, leb-false _ upto (point.1 s.place 0 (omega (arith, nought)) s.within))))

far : (indices : List ℕ) (upto k last j q : ℕ) (b : Bool) → Ascend indices → IsBound indices upto k
    → k ≤ length indices → 0 < k → last ≡ get_or indices (k - 1) 0 → last < j → j ≤ upto → q < length indices
    → get_or indices q 0 ≡ j → ltb q k ≡ b → ⊥
far indices upto k last j q true up point le some is lt within inside at near =
    absurd (omega (
      arith,
      is,
      lt,
      at,
      climbs indices up q (k - 1) 0 (omega (arith, ltb-true q k near)) (omega (arith, le, some)),
    ))
far indices upto k last j q false up point le some is lt within inside at near =
    absurd (omega (arith, within, at, leb-false _ upto (point.1 q 0 (ltb-false q k near) inside)))

pub last_within : (indices : List ℕ) (upto k last : ℕ) → Ascend indices → IsBound indices upto k
    → k ≤ length indices → 0 < k → last ≡ get_or indices (k - 1) 0 → IsLast (is_among indices) upto (Some last)
last_within indices upto k last up point le some is = (
  omega (arith, is, leb-true _ upto (point.0 (k - 1) 0 (omega arith) (omega (arith, some)))),
  subst (λ (i : ℕ). Among indices i) (sym is) (among_at indices (k - 1) 0 (omega (arith, le, some))),
  λ j lt within. absent (is_among indices j) (λ there.
      let s = stands indices j there in
      far indices upto k last j s.place (ltb s.place k) up point le some is lt within s.within (s.is 0) refl),
)
