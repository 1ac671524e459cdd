-- Stretches one after the other, and what is found in all of them.
use Rattle.std.proofs.Common.{◌≡◌, ℕ, zero, suc, ◌+◌, ◌<◌, ◌≤◌, min, max, List, [], ◌∷◌, ◌++◌}
use Rattle.std.proofs.Common.{Option, None, length, map, get_or, take, drop, length-take, refl, sym}
use Rattle.std.proofs.Common.{ap, ◌∙◌, arith, inl, inr}
use Rattle.std.specs.List.{AllZip, flat_map}
use Rattle.std.proofs.lemmas.Bool.{cases_lt}
use Rattle.std.proofs.lemmas.List.{drop_all, drop-append-le, flat_map_more, get_or-map}
use Rattle.std.proofs.lemmas.List.{take-append-drop, take_all, take_min, take_more}
use Rattle.std.proofs.lemmas.List.Concat.{flat_map-append}
use Rattle.audit.specs.declared.flaw.Finding.{Finding}
use Rattle.audit.specs.declared.flaw.Flaw.{Flaw}
use Rattle.audit.specs.declared.picture.Picture.{Picture}
use Rattle.audit.specs.declared.picture.Portrait.{Portrait}
use Rattle.audit.specs.declared.stretches.Stretch.{Stretch}
use Rattle.audit.specs.Entries.{entries_by, entries_in}
use Rattle.audit.specs.Flaws.{finding_at, finding_of, findings, first_flaw}
use Rattle.audit.specs.Stretches.{AreStretches, findings_in, findings_of_whole}

-- ---- lists cut in two

cut : {X : Type 0} (from mid : ℕ) (xs : List X) → from ≤ mid
    → drop from (take mid xs) ++ drop mid xs ≡ drop from xs
cut zero mid xs le = take-append-drop mid xs
cut (suc from) zero xs le = absurd (omega (arith, le))
cut (suc from) (suc mid) [] le = refl
cut (suc from) (suc mid) (x ∷ xs) le = cut from mid xs (omega (arith, le))

shorter : {X : Type 0} (m n : ℕ) (xs : List X) → m ≤ n → take m (take n xs) ≡ take m xs
shorter zero n xs le = refl
shorter (suc m) zero xs le = absurd (omega (arith, le))
shorter (suc m) (suc n) [] le = refl
shorter {X = X} (suc m) (suc n) (x ∷ xs) le =
    ap (λ (l : List X). x ∷ l) (shorter m n xs (omega (arith, le)))

-- the first elements and the next ones
between : {X : Type 0} (from mid to : ℕ) (xs : List X) → from ≤ mid → mid ≤ to
    → drop from (take mid xs) ++ drop mid (take to xs) ≡ drop from (take to xs)
between {X = X} from mid to xs le rest =
    ap (λ (l : List X). drop from l ++ drop mid (take to xs)) (sym (shorter mid to xs rest))
    ∙ cut from mid (take to xs) le

none_between : {X : Type 0} (from to : ℕ) (xs : List X) → to ≤ from
    → drop from (take to xs) ≡ []
none_between from to xs le =
    drop_all from (take to xs) (omega (arith, length-take to xs, le))

-- ---- stretches

pub stretch_more : (from to : ℕ) (stretches : List Stretch) (s : Stretch)
    → AreStretches from to stretches → s.from ≡ to → to ≤ s.to
    → AreStretches from s.to (stretches ++ s ∷ [])
stretch_more from to [] s are is le = (is ∙ sym are, omega (arith, are, le), refl)
stretch_more from to (x ∷ rest) s are is le =
    (are.0, are.1, stretch_more x.to to rest s are.2 is le)

ends : (from to : ℕ) (stretches : List Stretch) → AreStretches from to stretches → from ≤ to
ends from to [] are = omega (arith, are)
ends from to (s ∷ rest) are = omega (arith, are.1, ends s.to to rest are.2)

-- what each part has, is what all stretches have
in_all : {V : Type 0} (items : V → List Finding) (objects : List Portrait) (from to : ℕ)
    (stretches : List Stretch) (parts : List V) → AreStretches from to stretches
    → AllZip (λ s part. items part ≡ findings_in objects s) stretches parts
    → flat_map items parts ≡ flat_map (finding_at objects) (drop from (take to objects))
in_all items objects from to [] [] are each =
    ap (flat_map (finding_at objects)) (sym (none_between from to objects (omega (arith, are))))
in_all items objects from to [] (part ∷ parts) are each = absurd each
in_all items objects from to (s ∷ rest) [] are each = absurd each
in_all items objects from to (s ∷ rest) (part ∷ parts) are each =
    let f = finding_at objects in
    let first : items part ≡ flat_map f (drop from (take s.to objects)) = each.0
    ∙ ap (λ (k : ℕ). flat_map f (drop k (take s.to objects))) are.0 in
    let others = in_all items objects s.to to rest parts are.2 each.1 in
    ap (λ (l : List Finding). l ++ flat_map items parts) first
    ∙ ap (λ (l : List Finding). flat_map f (drop from (take s.to objects)) ++ l) others
    ∙ sym (flat_map-append f (drop from (take s.to objects)) (drop s.to (take to objects)))
    ∙ ap (flat_map f) (between from s.to to objects are.1 (ends s.to to rest are.2))

-- ---- findings

pub none_found : (objects : List Portrait) (from : ℕ) (found : List Finding) → found ≡ []
    → found ≡ flat_map (finding_at objects) (drop from (take from objects))
none_found objects from found none =
    none ∙ ap (flat_map (finding_at objects)) (sym (none_between from from objects (omega arith)))

-- those of a stretch, one object after the other
pub finding_next : (objects : List Portrait) (from at : ℕ) (old new : List Finding) (d : Portrait)
    (flaw : Option Flaw) → from ≤ at → at < length objects
    → old ≡ flat_map (finding_at objects) (drop from (take at objects))
    → flaw ≡ get_or (map (first_flaw objects) objects) at None
    → new ≡ old ++ finding_of (get_or objects at d).number flaw
    → new ≡ flat_map (finding_at objects) (drop from (take (at + 1) objects))
finding_next objects from at old new d flaw le lt is this made =
    let f = finding_at objects in
    let x = get_or objects at d in
    let front = take at objects in
    made ∙ ap (λ (l : List Finding). l ++ finding_of x.number flaw) is
    ∙ ap (λ (o : Option Flaw). flat_map f (drop from front) ++ finding_of x.number o)
    (this ∙ get_or-map (first_flaw objects) objects at d None lt)
    ∙ flat_map_more f [] (drop from front) x
    ∙ ap (flat_map f) (sym (drop-append-le from front (x ∷ [])
    (omega (arith, length-take at objects, le, lt))))
    ∙ ap (λ (l : List Portrait). flat_map f (drop from l)) (sym (take_more objects at d lt))

pub stretch_done : (objects : List Portrait) (s : Stretch) (at : ℕ) (found : List Finding)
    → min s.to (length objects) ≤ at → at ≤ max s.from (min s.to (length objects))
    → found ≡ flat_map (finding_at objects) (drop s.from (take at objects))
    → found ≡ findings_in objects s
stretch_done objects s at found past most is =
    let end = min s.to (length objects) in
    is ∙ ap (flat_map (finding_at objects)) (elim (cases_lt end s.from) [
      | inl none ↦ none_between s.from at objects (omega (arith, none, most))
          ∙ sym (none_between s.from end objects (omega (arith, none)))
      | inr some ↦
          let same : at ≡ end = omega (arith, some, past, most) in
          ap (λ (k : ℕ). drop s.from (take k objects)) same
    ])
    ∙ ap (λ (l : List Portrait). flat_map (finding_at objects) (drop s.from l))
    (take_min s.to objects)

pub all_found : {V : Type 0} (items : V → List Finding) (p : Picture) (found new : List Finding)
    (stretches : List Stretch) (parts : List V) → found ≡ findings_of_whole p
    → AreStretches 0 (length p.objects) stretches
    → AllZip (λ s part. items part ≡ findings_in p.objects s) stretches parts
    → new ≡ found ++ flat_map items parts → new ≡ findings p
all_found items p found new stretches parts whole are each made =
    let f = finding_at p.objects in
    made ∙ ap (λ (l : List Finding). l ++ flat_map items parts) whole
    ∙ ap (λ (l : List Finding). findings_of_whole p ++ l)
    (in_all items p.objects 0 (length p.objects) stretches parts are each
    ∙ ap (flat_map f) (take_all (length p.objects) p.objects (omega arith)))

-- one stretch has them all
pub all_in_one : (p : Picture) (objects : List Portrait) (s : Stretch)
    (found more new : List Finding) → objects ≡ p.objects → s.from ≡ 0
    → s.to ≡ length objects → found ≡ findings_of_whole p
    → more ≡ findings_in objects s → new ≡ found ++ more → new ≡ findings p
all_in_one p objects s found more new same low high whole is made =
    let f = finding_at objects in
    let all : more ≡ flat_map (finding_at p.objects) p.objects = is
    ∙ ap (λ (k : ℕ). flat_map f (drop k (take s.to objects))) low
    ∙ ap (flat_map f) (take_all s.to objects (omega (arith, high)))
    ∙ ap (λ (xs : List Portrait). flat_map (finding_at xs) xs) same in
    made ∙ ap (λ (l : List Finding). l ++ more) whole
    ∙ ap (λ (l : List Finding). findings_of_whole p ++ l) all

-- ---- entries

pub entries_joined : (objects low high : List Portrait) (mid : ℕ) → low ≡ take mid objects
    → high ≡ drop mid objects → entries_in low ++ entries_in high ≡ entries_in objects
unfolding entries_in
entries_joined objects low high mid front back =
    ap (λ (xs : List Portrait). entries_in xs ++ entries_in high) front
    ∙ ap (λ (xs : List Portrait). entries_in (take mid objects) ++ entries_in xs) back
    ∙ sym (flat_map-append entries_by (take mid objects) (drop mid objects))
    ∙ ap (flat_map entries_by) (take-append-drop mid objects)
