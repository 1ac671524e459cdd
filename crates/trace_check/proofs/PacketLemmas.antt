-- What is kept of packets by number, as packets are sent.
use Rattle.std.proofs.Common.{◌≡◌, ℕ, zero, suc, ◌≤◌, Bool, true, false, cond, is_some, List, [], ◌∷◌, ◌++◌, length, slice_get, Option, Some, None, refl, sym, ap, subst, ◌∙◌, ◌==◌, inl, inr, arith}
use Rattle.std.specs.Bool.{if◌then◌else◌}
use Rattle.std.specs.BTreeMap.{get}
use Rattle.std.specs.Cmp.{unsigned_tied}
use Rattle.std.specs.Map.{lookup}
use Rattle.std.specs.Ordering.{is_eq, nat_cmp}
use Rattle.std.proofs.lemmas.Bool.{eq-eqb, eqb-true}
use Rattle.std.proofs.lemmas.Bool.Decides.{eqb_tells}
use Rattle.std.proofs.lemmas.Option.{slice_get_past}
use Rattle.trace_check.specs.Packets.{or_ack, packet_at, IsNumbered}
use Rattle.trace_check.specs.declared.packets.Packets.{Packets}
use Rattle.trace_check.specs.declared.packets.SentAck.{SentAck}

-- ---- one packet

pub no_packet_at : (p : Packets) → p.in_order.items ≡ [] → p.others.entries ≡ [] → (n : ℕ)
    → packet_at p n ≡ None
unfolding packet_at
no_packet_at p e f n =
    ap (λ (xs : List (Option SentAck)). or_ack (slice_get xs n) (get nat_cmp p.others n)) e
    ∙ ap (lookup (λ k. is_eq (nat_cmp n k))) f

pub within_order : (p : Packets) (n : ℕ) (x : Option SentAck)
    → slice_get p.in_order.items n ≡ Some x → Some x ≡ packet_at p n
unfolding packet_at
within_order p n x e = sym (ap (λ o. or_ack o (get nat_cmp p.others n)) e)

pub past_order : (p : Packets) (n : ℕ) → length p.in_order.items ≤ n
    → get nat_cmp p.others n ≡ packet_at p n
unfolding packet_at
past_order p n h = sym (ap (λ o. or_ack o (get nat_cmp p.others n))
    (slice_get_past p.in_order.items n h))

-- ---- one packet more

or_nothing : (o : Option (Option SentAck)) → o ≡ or_ack o None
or_nothing None = refl
or_nothing (Some p) = refl

or_there : (o p : Option (Option SentAck)) → is_some o ≡ true → o ≡ or_ack o p
or_there None p h = absurd cc
or_there (Some a) p h = refl

there : (p : Packets) (number n : ℕ) (ack : Option SentAck) (same : Bool)
    → (same ≡ true → number ≡ n) → is_some (packet_at p number) ≡ true
    → packet_at p n ≡ or_ack (packet_at p n) (if same then Some ack else None)
there p number n ack true is h = or_there (packet_at p n) (Some ack)
    (subst (λ (k : ℕ). is_some (packet_at p k) ≡ true) (is refl) h)
there p number n ack false is h = or_nothing (packet_at p n)

pub numbered_already : (p : Packets) (number : ℕ) (ack : Option SentAck)
    → is_some (packet_at p number) ≡ true → IsNumbered number ack p p
numbered_already p number ack h n = there p number n ack (number == n) (eqb-true number n) h

absent : (o : Option (Option SentAck)) → is_some o ≡ false → o ≡ None
absent None h = refl
absent (Some p) h = absurd cc

not_first : (n : ℕ) → (0 == suc n) ≡ false
not_first n = elim (eqb_tells 0 (suc n)) [
  | inl p ↦ (let wrong = p.1 in absurd (omega (arith, wrong)))
  | inr p ↦ p.0
]

one_less : (a b : ℕ) → (suc a == suc b) ≡ (a == b)
one_less a b = elim (eqb_tells a b) [
  | inl p ↦ eq-eqb (suc a) (suc b) (ap (λ (k : ℕ). suc k) p.1) ∙ sym p.0
  | inr p ↦ elim (eqb_tells (suc a) (suc b)) [
    | inl q ↦ (let same = q.1 in absurd (p.1 (omega (arith, same))))
    | inr q ↦ q.0 ∙ sym p.0
  ]
]

pushed_at : (xs : List (Option SentAck)) (x : Option SentAck) (n : ℕ)
    → slice_get (xs ++ x ∷ []) n
    ≡ or_ack (slice_get xs n) (if length xs == n then Some x else None)
pushed_at [] x zero = refl
pushed_at [] x (suc n) = sym (ap (λ (b : Bool). if b then Some x else None) (not_first n))
pushed_at (y ∷ xs) x zero = refl
pushed_at (y ∷ xs) x (suc n) = pushed_at xs x n
    ∙ ap (λ (b : Bool). or_ack (slice_get xs n) (if b then Some x else None))
    (sym (one_less (length xs) n))

-- a packet behind those in order
next_one : (s g : Option (Option SentAck)) (ack : Option SentAck) (same : Bool)
    → (same ≡ true → or_ack s g ≡ None)
    → or_ack (or_ack s (if same then Some ack else None)) g
    ≡ or_ack (or_ack s g) (if same then Some ack else None)
next_one (Some x) g ack same none = refl
next_one None None ack true none = refl
next_one None (Some y) ack true none = (let wrong : Some y ≡ None = none refl in absurd cc)
next_one None g ack false none = or_nothing g

pub numbered_next : (old new : Packets) (number : ℕ) (ack : Option SentAck)
    → is_some (packet_at old number) ≡ false → number ≡ length old.in_order.items
    → new.in_order.items ≡ old.in_order.items ++ ack ∷ [] → new.others ≡ old.others
    → IsNumbered number ack old new
unfolding packet_at
numbered_next old new number ack none is items others n =
    ap (λ m. or_ack (slice_get new.in_order.items n) (get nat_cmp m n)) others
    ∙ ap (λ (xs : List (Option SentAck)). or_ack (slice_get xs n) (get nat_cmp old.others n)) items
    ∙ ap (λ o. or_ack o (get nat_cmp old.others n)) (pushed_at old.in_order.items ack n
    ∙ ap (λ (k : ℕ). or_ack (slice_get old.in_order.items n)
    (if k == n then Some ack else None)) (sym is))
    ∙ next_one (slice_get old.in_order.items n) (get nat_cmp old.others n) ack (number == n)
    (λ same. subst (λ (k : ℕ). or_ack (slice_get old.in_order.items k) (get nat_cmp old.others k)
    ≡ None) (eqb-true number n same) (absent (or_ack (slice_get old.in_order.items number)
    (get nat_cmp old.others number)) none))

-- a packet elsewhere
other_one : (s g : Option (Option SentAck)) (ack : Option SentAck) (same : Bool)
    → (same ≡ true → or_ack s g ≡ None)
    → or_ack s (cond same (Some ack) g) ≡ or_ack (or_ack s g) (if same then Some ack else None)
other_one (Some x) g ack same none = refl
other_one None None ack true none = refl
other_one None (Some y) ack true none = (let wrong : Some y ≡ None = none refl in absurd cc)
other_one None g ack false none = or_nothing g

pub numbered_other : (old new : Packets) (number : ℕ) (ack : Option SentAck)
    → is_some (packet_at old number) ≡ false → new.in_order ≡ old.in_order
    → ((n : ℕ) → get nat_cmp new.others n
    ≡ cond (is_eq (nat_cmp number n)) (Some ack) (get nat_cmp old.others n))
    → IsNumbered number ack old new
unfolding packet_at
numbered_other old new number ack none same updates n =
    ap (λ v. or_ack (slice_get v.items n) (get nat_cmp new.others n)) same
    ∙ ap (or_ack (slice_get old.in_order.items n)) (updates n
    ∙ ap (λ (b : Bool). cond b (Some ack) (get nat_cmp old.others n)) (unsigned_tied number n))
    ∙ other_one (slice_get old.in_order.items n) (get nat_cmp old.others n) ack (number == n)
    (λ e. subst (λ (k : ℕ). or_ack (slice_get old.in_order.items k) (get nat_cmp old.others k)
    ≡ None) (eqb-true number n e) (absent (or_ack (slice_get old.in_order.items number)
    (get nat_cmp old.others number)) none))
