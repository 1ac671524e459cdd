-- What a map by keys says of marks.
use Rattle.std.proofs.Common.{◌≡◌, ℕ, Bool, true, false, cond, [], ◌∷◌, Option, Some, refl, sym, ap, subst, ◌∙◌, ◌==◌, ◌&&◌, inl, inr}
use Rattle.std.specs.Cmp.{unsigned_tied}
use Rattle.std.proofs.lemmas.Bool.{eq-eqb, eqb-true}
use Rattle.std.proofs.lemmas.Bool.Decides.{eqb_tells}
use Rattle.std.specs.Map.{lookup}
use Rattle.std.specs.Ordering.{nat_cmp, ordering_then, is_eq}
use Rattle.std.specs.declared.cmp.Ordering.{Ordering}
use Rattle.std.specs.declared.cmp.Ordering.TheVariants.{Less, Equal, Greater}
use Rattle.trace_check.specs.Marks.{Key, Entries, is_key, mark_at, IsSet}

-- what a map of these keys compares by
abbrev pub key_cmp : Key → Key → Ordering
key_cmp x y = ordering_then (ordering_then (ordering_then (nat_cmp x.0 y.0) (nat_cmp x.1 y.1))
    (nat_cmp x.2 y.2)) (nat_cmp x.3 y.3)

pub tied_then : (a b : Ordering) → is_eq (ordering_then a b) ≡ (is_eq a && is_eq b)
tied_then Less b = refl
tied_then Equal b = refl
tied_then Greater b = refl

-- keys are tied where they are the same
pub tied : (k l : Key) → is_eq (key_cmp k l) ≡ is_key k l
tied k l =
    let c0 = nat_cmp k.0 l.0 in
    let c1 = nat_cmp k.1 l.1 in
    let c2 = nat_cmp k.2 l.2 in
    let c3 = nat_cmp k.3 l.3 in
    tied_then (ordering_then (ordering_then c0 c1) c2) c3
    ∙ ap (λ (b : Bool). b && is_eq c3) (tied_then (ordering_then c0 c1) c2
    ∙ ap (λ (b : Bool). b && is_eq c2) (tied_then c0 c1
    ∙ ap (λ (b : Bool). b && is_eq c1) (unsigned_tied k.0 l.0)
    ∙ ap (λ (b : Bool). (k.0 == l.0) && b) (unsigned_tied k.1 l.1))
    ∙ ap (λ (b : Bool). ((k.0 == l.0) && (k.1 == l.1)) && b) (unsigned_tied k.2 l.2))
    ∙ ap (λ (b : Bool). ((k.0 == l.0) && (k.1 == l.1) && (k.2 == l.2)) && b)
    (unsigned_tied k.3 l.3)

-- two tests that agree find the same
lookup_same : (p q : Key → Bool) → ((k : Key) → p k ≡ q k) → (entries : Entries)
    → lookup p entries ≡ lookup q entries
lookup_same p q h [] = refl
lookup_same p q h (e ∷ entries) =
    ap (λ (b : Bool). cond b (Some e.1) (lookup p entries)) (h e.0)
    ∙ ap (λ (o : Option ℕ). cond (q e.0) (Some e.1) o) (lookup_same p q h entries)

pub at_key : (entries : Entries) (k : Key) → lookup (λ l. is_eq (key_cmp k l)) entries
    ≡ mark_at entries k
unfolding mark_at
at_key entries k = lookup_same (λ l. is_eq (key_cmp k l)) (is_key k) (tied k) entries

pub is_set : (old new : Entries) (key : Key) (n : ℕ)
    → ((k : Key) → lookup (λ l. is_eq (key_cmp k l)) new
    ≡ cond (is_eq (key_cmp key k)) (Some n) (lookup (λ l. is_eq (key_cmp k l)) old))
    → IsSet key n old new
is_set old new key n h k =
    sym (at_key new k) ∙ h k
    ∙ ap (λ (b : Bool). cond b (Some n) (lookup (λ l. is_eq (key_cmp k l)) old)) (tied key k)
    ∙ ap (λ (o : Option ℕ). cond (is_key key k) (Some n) o) (at_key old k)

-- ---- noted

-- ---- one mark before the others

eqb_turned : (a b : ℕ) → (a == b) ≡ (b == a)
eqb_turned a b = elim (eqb_tells a b) [
  | inl p ↦ p.0 ∙ sym (eq-eqb b a (sym p.1))
  | inr p ↦ elim (eqb_tells b a) [
    | inl q ↦ absurd (p.1 (sym q.1))
    | inr q ↦ p.0 ∙ sym q.0
  ]
]

key_turned : (k l : Key) → is_key k l ≡ is_key l k
key_turned k l =
    ap (λ (b : Bool). b && (k.1 == l.1) && (k.2 == l.2) && (k.3 == l.3)) (eqb_turned k.0 l.0)
    ∙ ap (λ (b : Bool). (l.0 == k.0) && b && (k.2 == l.2) && (k.3 == l.3)) (eqb_turned k.1 l.1)
    ∙ ap (λ (b : Bool). (l.0 == k.0) && (l.1 == k.1) && b && (k.3 == l.3)) (eqb_turned k.2 l.2)
    ∙ ap (λ (b : Bool). (l.0 == k.0) && (l.1 == k.1) && (l.2 == k.2) && b) (eqb_turned k.3 l.3)

pub first_mark : (key : Key) (n : ℕ) (others : Entries) → IsSet key n others ((key, n) ∷ others)
unfolding mark_at
first_mark key n others k =
    ap (λ (b : Bool). cond b (Some n) (lookup (is_key k) others)) (key_turned k key)

both_parts : (a b : Bool) → (a && b) ≡ true → (a ≡ true) × (b ≡ true)
both_parts true b e = (refl, e)
both_parts false b e = absurd cc

pub key_same : (k l : Key) → is_key k l ≡ true → k ≡ l
key_same k l e =
    let p = both_parts ((k.0 == l.0) && (k.1 == l.1) && (k.2 == l.2)) (k.3 == l.3) e in
    let q = both_parts ((k.0 == l.0) && (k.1 == l.1)) (k.2 == l.2) p.0 in
    let r = both_parts (k.0 == l.0) (k.1 == l.1) q.0 in
    ap (λ (i : ℕ). (i, k.1, k.2, k.3)) (eqb-true k.0 l.0 r.0)
    ∙ ap (λ (i : ℕ). (l.0, i, k.2, k.3)) (eqb-true k.1 l.1 r.1)
    ∙ ap (λ (i : ℕ). (l.0, l.1, i, k.3)) (eqb-true k.2 l.2 q.1)
    ∙ ap (λ (i : ℕ). (l.0, l.1, l.2, i)) (eqb-true k.3 l.3 p.1)

-- the first mark has another number
pub first_again : (key at : Key) (n before : ℕ) (others : Entries) → is_key key at ≡ true
    → IsSet key n ((at, before) ∷ others) ((key, n) ∷ others)
first_again key at n before others same k =
    first_mark key n others k
    ∙ again (is_key key k) (Some n) (Some before) (mark_at others k)
    ∙ ap (λ (o : Option ℕ). cond (is_key key k) (Some n) o)
    (sym (subst (λ (l : Key). mark_at ((at, before) ∷ others) k
    ≡ cond (is_key l k) (Some before) (mark_at others k)) (sym (key_same key at same))
    (first_mark at before others k)))
  where
    again : (b : Bool) (x y z : Option ℕ) → cond b x z ≡ cond b x (cond b y z)
    again true x y z = refl
    again false x y z = refl

-- the first mark goes to the others
pub first_moved : (key at : Key) (n before : ℕ) (old new : Entries) → IsSet at before old new
    → IsSet key n ((at, before) ∷ old) ((key, n) ∷ new)
first_moved key at n before old new moved k =
    first_mark key n new k
    ∙ ap (λ (o : Option ℕ). cond (is_key key k) (Some n) o)
    (moved k ∙ sym (first_mark at before old k))

pub at_first : (key at : Key) (n : ℕ) (others : Entries) → is_key key at ≡ true
    → Some n ≡ mark_at ((at, n) ∷ others) key
unfolding mark_at
at_first key at n others same =
    sym (ap (λ (b : Bool). cond b (Some n) (lookup (is_key key) others)) same)

pub at_others : (key at : Key) (n : ℕ) (others : Entries) → is_key key at ≡ false
    → mark_at others key ≡ mark_at ((at, n) ∷ others) key
unfolding mark_at
at_others key at n others other =
    sym (ap (λ (b : Bool). cond b (Some n) (lookup (is_key key) others)) other)
