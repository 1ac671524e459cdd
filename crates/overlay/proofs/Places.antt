-- What the map of places says that the index names.
use Rattle.std.proofs.Common.{◌≡◌, ℕ, ◌<◌, Bool, true, false, ◌&&◌, ◌||◌, ◌==◌, cond, List, [], ◌∷◌, length, Option, Some, None, refl, sym, ap, ◌∙◌, subst}
use Rattle.std.specs.Prelude.{IfSome, OnErr, OnOk, Result, Ok, Err, not}
use Rattle.std.specs.Map.{lookup}
use Rattle.std.proofs.lemmas.List.{nil_from_length}
use Rattle.std.proofs.lemmas.Result.{on_ok_weaker}
use Rattle.harp_cells.specs.Effect.{is_key}
use Rattle.harp_cells.proofs.CellLemmas.{same_key}
use Rattle.overlay.specs.Indices.{is_among}
use Rattle.overlay.proofs.Ascending.{same_test}
use Rattle.overlay.specs.Index.{AreInUse, Entries, IsLast, Place, has, is_entry, names}

-- what a map has at a place
abbrev pub found : Entries → Place → Option (List ℕ)
found entries p = lookup (is_key p) entries

pub has_found : (entries : Entries) (p : Place) (i : ℕ) → names entries p i ≡ has (found entries p) i
unfolding names
has_found entries p i = refl

-- ---- the last index of a place

-- what the index names at a place that has these indices
named_in : (entries : Entries) (p : Place) (s : List ℕ) (i : ℕ) → Some s ≡ found entries p
    → names entries p i ≡ is_among s i
named_in entries p s i there = has_found entries p i ∙ ap (λ (o : Option (List ℕ)). has o i) (sym there)

-- the place isn't there
pub none_there : (entries : Entries) (p : Place) (u : ℕ) → None ≡ found entries p → IsLast (names entries p) u None
none_there entries p u none j le = has_found entries p j ∙ ap (λ (o : Option (List ℕ)). has o j) (sym none)

-- or it has these
pub last_in : (entries : Entries) (p : Place) (u : ℕ) (s : List ℕ) (last : Option ℕ) → Some s ≡ found entries p
    → IsLast (is_among s) u last → IsLast (names entries p) u last
last_in entries p u s None there is = λ j le. named_in entries p s j there ∙ is j le
last_in entries p u s (Some i) there is =
    (is.0, named_in entries p s i there ∙ is.1, λ j lt le. named_in entries p s j there ∙ is.2 j lt le)

-- ---- a place whose indices change

-- the map has these indices at a place, and at the others what it had
abbrev pub HasAt : Place → Option (List ℕ) → Entries → Entries → Type 0
HasAt place here old new = (p : Place) → found new p ≡ cond (is_key place p) here (found old p)

changed_by : (f : ℕ → Bool → Bool) (here before : Option (List ℕ)) (i : ℕ) → has here i ≡ f i (has before i)
    → (tie : Bool) (at : Option (List ℕ)) → (tie ≡ true → at ≡ before)
    → has (cond tie here at) i ≡ cond tie (f i (has at i)) (has at i)
changed_by f here before i h true at same = h ∙ ap (λ (o : Option (List ℕ)). f i (has o i)) (sym (same refl))
changed_by f here before i h false at same = refl

-- what the index names then
named_after : (f : ℕ → Bool → Bool) (old new : Entries) (place : Place) (here before : Option (List ℕ))
    → before ≡ found old place → ((j : ℕ) → has here j ≡ f j (has before j)) → HasAt place here old new
    → (p : Place) (i : ℕ) → names new p i ≡ cond (is_key place p) (f i (names old p i)) (names old p i)
named_after f old new place here before was h with p i =
    has_found new p i ∙ ap (λ (o : Option (List ℕ)). has o i) (with p)
    ∙ changed_by f here before i (h i) (is_key place p) (found old p)
    (λ e. ap (found old) (sym (same_key place p e)) ∙ sym was)
    ∙ ap (λ (b : Bool). cond (is_key place p) (f i b) b) (sym (has_found old p i))

-- an index comes
put_is : (a b x : Bool) → cond a (cond b true x) x ≡ (a && b || x)
put_is true true x = refl
put_is true false x = refl
put_is false b x = refl

pub one_named : (old new entries : Entries) (place : Place) (index : ℕ) (here before : Option (List ℕ))
    → old ≡ entries → before ≡ found old place → ((j : ℕ) → has here j ≡ cond (index == j) true (has before j))
    → HasAt place here old new → (p : Place) (i : ℕ)
    → names new p i ≡ (is_entry place index (p, i) || names entries p i)
one_named old new entries place index here before is was h with p i =
    named_after (λ j b. cond (index == j) true b) old new place here before was h with p i
    ∙ put_is (is_key place p) (index == i) (names old p i)
    ∙ ap (λ (es : Entries). is_entry place index (p, i) || names es p i) is

-- an index goes
gone_is : (a b x : Bool) → cond a (cond b false x) x ≡ (not (a && b) && x)
gone_is true true x = refl
gone_is true false x = refl
gone_is false b x = refl

pub one_gone : (old new entries : Entries) (place : Place) (index : ℕ) (here before : Option (List ℕ))
    → old ≡ entries → before ≡ found old place → ((j : ℕ) → has here j ≡ cond (index == j) false (has before j))
    → HasAt place here old new → (p : Place) (i : ℕ)
    → names new p i ≡ (not (is_entry place index (p, i)) && names entries p i)
one_gone old new entries place index here before is was h with p i =
    named_after (λ j b. cond (index == j) false b) old new place here before was h with p i
    ∙ gone_is (is_key place p) (index == i) (names old p i)
    ∙ ap (λ (es : Entries). not (is_entry place index (p, i)) && names es p i) is

-- the same indices
same_is : (a x : Bool) → cond a x x ≡ x
same_is true x = refl
same_is false x = refl

pub same_named : (old new entries : Entries) (place : Place) (here before : Option (List ℕ)) → old ≡ entries
    → before ≡ found old place → ((j : ℕ) → has here j ≡ has before j) → HasAt place here old new
    → (p : Place) (i : ℕ) → names new p i ≡ names entries p i
same_named old new entries place here before is was h with p i =
    named_after (λ j b. b) old new place here before was h with p i
    ∙ same_is (is_key place p) (names old p i) ∙ ap (λ (es : Entries). names es p i) is

-- ---- a place's indices

pub same_indices : (old new : List ℕ) → new ≡ old → (i : ℕ) → has (Some new) i ≡ has (Some old) i
same_indices old new e i = ap (λ (l : List ℕ). is_among l i) e

only : (b : Bool) → (b || false) ≡ cond b true false
only true = refl
only false = refl

-- the first one comes, where there was none
pub first_index : (new : List ℕ) (index : ℕ) (before : Option (List ℕ)) → new ≡ index ∷ []
    → ((i : ℕ) → has before i ≡ false) → (i : ℕ) → has (Some new) i ≡ cond (index == i) true (has before i)
first_index new index before is none i =
    ap (λ (l : List ℕ). is_among l i) is
    ∙ ap (λ (b : Bool). b || false) (same_test i index)
    ∙ only (index == i)
    ∙ ap (λ (b : Bool). cond (index == i) true b) (sym (none i))

-- a place has none of which the index names none
pub none_at : (old entries : Entries) (place : Place) → old ≡ entries → ((i : ℕ) → names entries place i ≡ false)
    → (i : ℕ) → has (found old place) i ≡ false
none_at old entries place is none i =
    sym (has_found old place i) ∙ ap (λ (es : Entries). names es place i) is ∙ none i

-- the place isn't there
pub not_there : (entries : Entries) (place : Place) → None ≡ found entries place → (i : ℕ) → names entries place i ≡ false
not_there entries place none i = has_found entries place i ∙ ap (λ (o : Option (List ℕ)). has o i) (sym none)

-- the last one goes, and its place with it
twice : (tie : Bool) (here more at : Option (List ℕ)) → cond tie here (cond tie more at) ≡ cond tie here at
twice true here more at = refl
twice false here more at = refl

pub gone_after : (place : Place) (here more : Option (List ℕ)) (old mid new : Entries) → HasAt place more old mid
    → HasAt place here mid new → HasAt place here old new
gone_after place here more old mid new first second p =
    second p ∙ ap (λ (o : Option (List ℕ)). cond (is_key place p) here o) (first p)
    ∙ twice (is_key place p) here more (found old p)

pub last_index : (old new : List ℕ) (index : ℕ) → length new ≡ 0
    → ((i : ℕ) → is_among new i ≡ cond (index == i) false (is_among old i))
    → (i : ℕ) → has None i ≡ cond (index == i) false (has (Some old) i)
last_index old new index empty h i = ap (λ (l : List ℕ). is_among l i) (sym (nil_from_length new empty)) ∙ h i

-- the place isn't there, and none goes
no_index : (b : Bool) → false ≡ cond b false false
no_index true = refl
no_index false = refl

stays_none : (tie : Bool) (at : Option (List ℕ)) → (tie ≡ true → at ≡ None) → at ≡ cond tie None at
stays_none true at h = h refl
stays_none false at h = refl

pub none_gone : (old new entries : Entries) (place : Place) (index : ℕ) → new ≡ old → old ≡ entries
    → None ≡ found old place → (p : Place) (i : ℕ)
    → names new p i ≡ (not (is_entry place index (p, i)) && names entries p i)
none_gone old new entries place index same is none p i =
    ap (λ (es : Entries). names es p i) same
    ∙ one_gone old old entries place index None None is none (λ j. no_index (index == j))
    (λ q. stays_none (is_key place q) (found old q) (λ e. ap (found old) (sym (same_key place q e)) ∙ sym none)) p i

-- ---- no place is without an index

abbrev HasAny : Option (List ℕ) → Type 0
HasAny o = IfSome o (λ indices. 0 < length indices)

in_use : (tie : Bool) (here at : Option (List ℕ)) → HasAny here → HasAny at → HasAny (cond tie here at)
in_use true here at some before = some
in_use false here at some before = before

pub still_in_use : (place : Place) (here : Option (List ℕ)) (old new : Entries) → AreInUse old → HasAny here
    → HasAt place here old new → AreInUse new
still_in_use place here old new before some with p =
    subst (λ (o : Option (List ℕ)). HasAny o) (sym (with p)) (in_use (is_key place p) here (found old p) some (before p))

used_at : (entries : Entries) (place : Place) (s : List ℕ) → AreInUse entries → Some s ≡ found entries place
    → 0 < length s
used_at entries place s are there =
    subst (λ (o : Option (List ℕ)). HasAny o) (sym there) (are place)

-- whether an index came or memory ran out
pub some_left : {A E : Type 0} (r : Result A E) (entries : Entries) (place : Place) (old new : List ℕ)
    → AreInUse entries → Some old ≡ found entries place → OnOk r (0 < length new) → OnErr r (new ≡ old)
    → 0 < length new
some_left (Ok x) entries place old new are there some same = some
some_left (Err e) entries place old new are there some same =
    subst (λ (s : List ℕ). 0 < length s) (sym same) (used_at entries place old are there)

-- ---- results

pub on_err : {A E : Type 0} (r : Result A E) (P : Type 0) → P → OnErr r P
on_err (Ok x) P p = tt
on_err (Err e) P p = p

-- the index names one more where the place wasn't there
pub newly_named : {A E : Type 0} (r : Result A E) (old mid new entries : Entries) (place : Place) (index : ℕ)
    → mid ≡ old → old ≡ entries → None ≡ found old place
    → OnOk r (((i : ℕ) → names mid place i ≡ false) → (p : Place) (i : ℕ)
    → names new p i ≡ (is_entry place index (p, i) || names mid p i))
    → OnOk r ((p : Place) (i : ℕ) → names new p i ≡ (is_entry place index (p, i) || names entries p i))
newly_named r old mid new entries place index same is none added = on_ok_weaker r
    (λ more p i. more (λ j. ap (λ (es : Entries). names es place j) same ∙ not_there old place none j) p i
    ∙ ap (λ (es : Entries). is_entry place index (p, i) || names es p i) (same ∙ is)) added
