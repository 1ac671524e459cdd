-- A name that stands twice, as a set of the names so far finds it.
use Rattle.std.proofs.Common.{◌≡◌, ℕ, ◌+◌, ◌<◌, ◌≤◌, length, get_or, Bool, true, false, ◌||◌, not}
use Rattle.std.proofs.Common.{Bor, List, [], ◌∷◌, ◌++◌, map, take, drop, refl, sym, ap, subst, ◌∙◌}
use Rattle.std.proofs.Common.{inl, inr, Some, None, Option}
use Rattle.std.specs.BTreeSet.{BTreeSet, insert_key}
use Rattle.std.specs.Cmp.Lexicographic.{slice_cmp}
use Rattle.std.specs.List.{list_any}
use Rattle.std.specs.Ordering.{is_eq, match_ordering, nat_cmp}
use Rattle.std.specs.Str.{bytes_eq}
use Rattle.std.specs.declared.cmp.Ordering.{Ordering}
use Rattle.std.specs.declared.cmp.Ordering.TheVariants.{Less, Equal, Greater}
use Rattle.std.proofs.lemmas.Bool.{cases_Bool}
use Rattle.std.proofs.lemmas.List.{map-append, take-append-drop, take_all, take_more}
use Rattle.std.proofs.lemmas.List.Folds.{list_any-append}
use Rattle.std.proofs.lemmas.Map.Lookups.{exact_bytes}
use Rattle.std.proofs.lemmas.Map.Text.{is_eq-slice_cmp}
use Rattle.std.proofs.lemmas.Slice.Eq.{bytes_eq-Decides}
use Rattle.file_tree.specs.declared.object.Slot.{Slot}
use Rattle.file_tree.specs.Sound.{has_name}
use Rattle.file_tree.specs.Tree.{Slots}
use Rattle.harp_cells.specs.declared.value.Value.{Value}
use Rattle.audit.specs.Flaws.{entry_in, has_twins}

-- ---- names so far

-- a name is among the keys of the set
abbrev pub is_among : List (Bor (List ℕ)) → List ℕ → Bool
is_among keys name = list_any (λ k. is_eq (slice_cmp nat_cmp name k.now)) keys

-- the keys are the names in these slots, each of them once
pub record AreNames (keys : List (Bor (List ℕ))) (slots : Slots) : Type 0 where
  pub among : (name : List ℕ) → is_among keys name ≡ list_any (has_name name) slots
  pub once : has_twins slots ≡ false

-- ---- truth

or_twice : (a b d : Bool) → a ≡ b → (b || d) ≡ (a || (b || d))
or_twice true true d e = refl
or_twice true false d e = absurd cc
or_twice false true d e = absurd cc
or_twice false false d e = refl

or_swap : (a b d : Bool) → (a || (b || d)) ≡ (b || (a || d))
or_swap true true d = refl
or_swap true false d = refl
or_swap false true d = refl
or_swap false false d = refl

or_back : (a b : Bool) → (a || (b || false)) ≡ (b || a)
or_back true true = refl
or_back true false = refl
or_back false true = refl
or_back false false = refl

or_four : (a b l t : Bool) → ((a || (b || false)) || (l || t)) ≡ ((b || l) || (a || t))
or_four true true l t = refl
or_four true false true t = refl
or_four true false false t = refl
or_four false true l t = refl
or_four false false l t = refl

or_true : (a b : Bool) → a ≡ true → (a || b) ≡ true
or_true true b e = refl
or_true false b e = absurd cc

or_after : (a b d : Bool) → ((a || b) ≡ true) → (b ≡ true → d ≡ true) → ((a || d) ≡ true)
or_after true b d h k = refl
or_after false b d h k = k h

-- ---- the set

inserted_at : {V : Type 0} (T : V → Bool) (o : Ordering) (key x : V) (xs rest : List V)
    → (o ≡ Equal → T key ≡ T x) → list_any T rest ≡ (T key || list_any T xs)
    → list_any T (match_ordering o (key ∷ x ∷ xs) (x ∷ xs) (x ∷ rest))
    ≡ (T key || (T x || list_any T xs))
inserted_at T Less key x xs rest same e = refl
inserted_at T Equal key x xs rest same e = or_twice (T key) (T x) (list_any T xs) (same refl)
inserted_at T Greater key x xs rest same e =
    ap (λ (b : Bool). T x || b) e ∙ or_swap (T x) (T key) (list_any T xs)

inserted : (name : List ℕ) (key : Bor (List ℕ)) (keys : List (Bor (List ℕ)))
    → is_among (insert_key (λ x y. slice_cmp nat_cmp x.now y.now) keys key) name
    ≡ (is_eq (slice_cmp nat_cmp name key.now) || is_among keys name)
inserted name key [] = refl
inserted name key (x ∷ keys) =
    inserted_at (λ k. is_eq (slice_cmp nat_cmp name k.now)) (slice_cmp nat_cmp key.now x.now) key x
    keys (insert_key (λ v w. slice_cmp nat_cmp v.now w.now) keys key)
    (λ e. ap (λ (d : List ℕ). is_eq (slice_cmp nat_cmp name d)) (exact_bytes key.now x.now e))
    (inserted name key keys)

-- ---- equal names

bytes_alike : (a b : List ℕ) → bytes_eq a b ≡ bytes_eq b a
bytes_alike a b = elim (cases_Bool (bytes_eq a b)) [
  | inl t ↦ t ∙ sym ((bytes_eq-Decides b a).1 (sym ((bytes_eq-Decides a b).0 t)))
  | inr f ↦ elim (cases_Bool (bytes_eq b a)) [
    | inl t ↦
        let same : bytes_eq a b ≡ true =
        (bytes_eq-Decides a b).1 (sym ((bytes_eq-Decides b a).0 t)) in
        let wrong : false ≡ true = sym f ∙ same in absurd cc
    | inr g ↦ f ∙ sym g
  ]
]

name_alike : (a b : List ℕ) → is_eq (slice_cmp nat_cmp a b) ≡ bytes_eq b a
name_alike a b = is_eq-slice_cmp a b ∙ bytes_alike a b

-- ---- twins

pub twins_more : (slots : Slots) (s : Slot) → has_twins (slots ++ Some s ∷ [])
    ≡ (list_any (has_name s.name) slots || has_twins slots)
unfolding has_twins
twins_more [] s = refl
twins_more (None ∷ slots) s = twins_more slots s
twins_more (Some t ∷ slots) s =
    ap (λ (b : Bool). b || has_twins (slots ++ Some s ∷ []))
    (list_any-append (has_name t.name) slots (Some s ∷ []))
    ∙ ap (λ (b : Bool). (list_any (has_name t.name) slots || (bytes_eq s.name t.name || false)) || b)
    (twins_more slots s)
    ∙ ap (λ (b : Bool). (list_any (has_name t.name) slots || (b || false))
    || (list_any (has_name s.name) slots || has_twins slots)) (bytes_alike s.name t.name)
    ∙ or_four (list_any (has_name t.name) slots) (bytes_eq t.name s.name)
    (list_any (has_name s.name) slots) (has_twins slots)

pub twins_same : (slots : Slots) → has_twins (slots ++ None ∷ []) ≡ has_twins slots
unfolding has_twins
twins_same [] = refl
twins_same (None ∷ slots) = twins_same slots
twins_same (Some t ∷ slots) =
    ap (λ (b : Bool). b || has_twins (slots ++ None ∷ []))
    (list_any-append (has_name t.name) slots (None ∷ []) ∙ no_more (list_any (has_name t.name) slots))
    ∙ ap (λ (b : Bool). list_any (has_name t.name) slots || b) (twins_same slots)
  where
    no_more : (b : Bool) → (b || (false || false)) ≡ b
    no_more true = refl
    no_more false = refl

twins_stay : (slots more : Slots) → has_twins slots ≡ true → has_twins (slots ++ more) ≡ true
unfolding has_twins
twins_stay [] more h = absurd cc
twins_stay (None ∷ slots) more h = twins_stay slots more h
twins_stay (Some t ∷ slots) more h = elim (cases_Bool (list_any (has_name t.name) slots)) [
  | inl there ↦
      or_true (list_any (has_name t.name) (slots ++ more)) (has_twins (slots ++ more))
      (list_any-append (has_name t.name) slots more
      ∙ or_true (list_any (has_name t.name) slots) (list_any (has_name t.name) more) there)
  | inr none ↦
      let later : has_twins slots ≡ true =
      subst (λ (b : Bool). (b || has_twins slots) ≡ true) none h in
      or_after (list_any (has_name t.name) (slots ++ more)) true (has_twins (slots ++ more))
      (or_last (list_any (has_name t.name) (slots ++ more))) (λ t. twins_stay slots more later)
]
  where
    or_last : (b : Bool) → (b || true) ≡ true
    or_last true = refl
    or_last false = refl

-- ---- steps

none_twice : has_twins [] ≡ false
unfolding has_twins
none_twice = refl

pub no_names : (keys : List (Bor (List ℕ))) → keys ≡ [] → AreNames keys []
no_names keys e = record {
  among = λ name. ap (λ (k : List (Bor (List ℕ))). is_among k name) e;
  once = none_twice;
}

pub empty_slot : (keys : List (Bor (List ℕ))) (slots : Slots) → AreNames keys slots
    → AreNames keys (slots ++ None ∷ [])
empty_slot keys slots h = record {
  among = λ name. h.among name ∙ sym (list_any-append (has_name name) slots (None ∷ [])
      ∙ no_more (list_any (has_name name) slots));
  once = twins_same slots ∙ h.once;
}
  where
    no_more : (b : Bool) → (b || (false || false)) ≡ b
    no_more true = refl
    no_more false = refl

pub new_name : (keys : List (Bor (List ℕ))) (slots : Slots) (key : Bor (List ℕ)) (s : Slot)
    → s.name ≡ key.now → is_among keys key.now ≡ false → AreNames keys slots
    → AreNames (insert_key (λ x y. slice_cmp nat_cmp x.now y.now) keys key) (slots ++ Some s ∷ [])
new_name keys slots key s is new h = record {
  among = λ name. inserted name key keys
      ∙ ap (λ (b : Bool). b || is_among keys name) (name_alike name key.now
      ∙ ap (λ (n : List ℕ). bytes_eq n name) (sym is))
      ∙ ap (λ (b : Bool). bytes_eq s.name name || b) (h.among name)
      ∙ sym (list_any-append (has_name name) slots (Some s ∷ [])
      ∙ or_back (list_any (has_name name) slots) (bytes_eq s.name name));
  once = twins_more slots s
      ∙ ap (λ (b : Bool). b || has_twins slots) (ap (λ (n : List ℕ). list_any (has_name n) slots) is
      ∙ sym (h.among key.now) ∙ new) ∙ h.once;
}

-- a name that is there already
pub twins_there : (keys : List (Bor (List ℕ))) (slots more : Slots) (key : Bor (List ℕ)) (s : Slot)
    → s.name ≡ key.now → is_among keys key.now ≡ true → AreNames keys slots
    → has_twins ((slots ++ Some s ∷ []) ++ more) ≡ true
twins_there keys slots more key s is there h =
    twins_stay (slots ++ Some s ∷ []) more (twins_more slots s
    ∙ or_true (list_any (has_name s.name) slots) (has_twins slots)
    (ap (λ (n : List ℕ). list_any (has_name n) slots) is ∙ sym (h.among key.now) ∙ there))

-- ---- the slots of a list, one after another

slots_more : (slots : List (Option Value)) (i : ℕ) (x : Option Value) → i < length slots
    → x ≡ get_or slots i x
    → map entry_in (take (i + 1) slots) ≡ map entry_in (take i slots) ++ entry_in x ∷ []
slots_more slots i x lt read =
    ap (map entry_in) (take_more slots i x lt)
    ∙ map-append entry_in (take i slots) (get_or slots i x ∷ [])
    ∙ ap (λ (y : Option Value). map entry_in (take i slots) ++ entry_in y ∷ []) (sym read)

pub step_none : (slots : List (Option Value)) (i : ℕ) (x : Option Value)
    (old new : BTreeSet (Bor (List ℕ))) → i < length slots → x ≡ get_or slots i x
    → entry_in x ≡ None → new ≡ old → AreNames old.keys (map entry_in (take i slots))
    → AreNames new.keys (map entry_in (take (i + 1) slots))
step_none slots i x old new lt read none same h =
    subst (λ (s : BTreeSet (Bor (List ℕ))). AreNames s.keys (map entry_in (take (i + 1) slots)))
    (sym same)
    (subst (AreNames old.keys) (sym (slots_more slots i x lt read
    ∙ ap (λ (s : Option Slot). map entry_in (take i slots) ++ s ∷ []) none))
    (empty_slot old.keys (map entry_in (take i slots)) h))

is_new : (added among : Bool) → added ≡ not among → added ≡ true → among ≡ false
is_new added true is t = let wrong : false ≡ true = sym is ∙ t in absurd cc
is_new added false is t = refl

is_there : (added among : Bool) → added ≡ not among → added ≡ false → among ≡ true
is_there added true is f = refl
is_there added false is f = let wrong : true ≡ false = sym is ∙ f in absurd cc

pub step_some : (slots : List (Option Value)) (i n : ℕ) (x : Option Value) (key : Bor (List ℕ))
    (old new seen : BTreeSet (Bor (List ℕ))) (added : Bool) → i < length slots → x ≡ get_or slots i x
    → entry_in x ≡ Some (record { name = key.now; number = n })
    → added ≡ not (is_among old.keys key.now) → added ≡ true
    → new.keys ≡ insert_key (λ v w. slice_cmp nat_cmp v.now w.now) old.keys key → seen ≡ new
    → AreNames old.keys (map entry_in (take i slots))
    → AreNames seen.keys (map entry_in (take (i + 1) slots))
step_some slots i n x key old new seen added lt read some is was put same h =
    let s : Slot = record { name = key.now; number = n } in
    subst (λ (k : List (Bor (List ℕ))). AreNames k (map entry_in (take (i + 1) slots))) (sym (ap (λ (t : BTreeSet (Bor (List ℕ))). t.keys) same ∙ put))
    (subst (AreNames (insert_key (λ v w. slice_cmp nat_cmp v.now w.now) old.keys key))
    (sym (slots_more slots i x lt read
    ∙ ap (λ (e : Option Slot). map entry_in (take i slots) ++ e ∷ []) some))
    (new_name old.keys (map entry_in (take i slots)) key s refl
    (is_new added (is_among old.keys key.now) is was) h))

pub found_twin : (slots : List (Option Value)) (i n : ℕ) (x : Option Value) (key : Bor (List ℕ))
    (old : BTreeSet (Bor (List ℕ))) (added : Bool) → i < length slots → x ≡ get_or slots i x
    → entry_in x ≡ Some (record { name = key.now; number = n })
    → added ≡ not (is_among old.keys key.now) → added ≡ false
    → AreNames old.keys (map entry_in (take i slots)) → true ≡ has_twins (map entry_in slots)
found_twin slots i n x key old added lt read some is isnt h =
    let s : Slot = record { name = key.now; number = n } in
    let before = map entry_in (take i slots) in
    let more = map entry_in (drop (i + 1) slots) in
    sym (ap has_twins (ap (map entry_in) (sym (take-append-drop (i + 1) slots))
    ∙ map-append entry_in (take (i + 1) slots) (drop (i + 1) slots)
    ∙ ap (λ (l : Slots). l ++ more) (slots_more slots i x lt read
    ∙ ap (λ (e : Option Slot). before ++ e ∷ []) some))
    ∙ twins_there old.keys before more key s refl
    (is_there added (is_among old.keys key.now) is isnt) h)

pub no_twin : (slots : List (Option Value)) (i : ℕ) (keys : List (Bor (List ℕ)))
    → length slots ≤ i → AreNames keys (map entry_in (take i slots))
    → false ≡ has_twins (map entry_in slots)
no_twin slots i keys le h =
    sym (ap (λ (l : List (Option Value)). has_twins (map entry_in l)) (sym (take_all i slots le))
    ∙ h.once)
