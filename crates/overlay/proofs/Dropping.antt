-- Records that go, one after the other.
use Rattle.std.proofs.Common.{◌≡◌, ℕ, ◌+◌, ◌-◌, ◌≤◌, ◌<◌, Bool, true, false, ◌&&◌, ◌==◌, List, [], get_or, length, min, refl, sym, subst, ap, ◌∙◌, inl, inr, arith}
use Rattle.std.specs.Prelude.{nat_lt, not}
use Rattle.std.proofs.Math.Bool.{and-false}
use Rattle.std.proofs.Math.Nat.{min-le_left, le-min}
use Rattle.std.proofs.lemmas.Bool.{cases_Bool, cases_eq, cases_lt, eq-eqb, ne_eqb, le-ltb, lt-ltb}
use Rattle.harp_cells.specs.declared.change.Change.{Change}
use Rattle.fuzzy_cells.specs.History.{History}
use Rattle.overlay.specs.Index.{Entries, IsIndexOf, Place, changes_at, names}
use Rattle.overlay.proofs.Indexing.{at_above, indexed}

-- the index names no record up to this one any more
abbrev pub AreOut : Entries → ℕ → Entries → Type 0
AreOut old at new = (p : Place) (i : ℕ) → names new p i ≡ (nat_lt at i && names old p i)

-- before the first record there is none
pub none_out : (old : Entries) (base : ℕ) (records : History) → IsIndexOf old base records → AreOut old base old
none_out old base records is p i = elim (cases_Bool (names old p i)) [
  | inl named ↦ ap (λ (b : Bool). b && names old p i) (sym (lt-ltb base i (indexed old base records p i is named).0))
  | inr not ↦ not ∙ sym (ap (λ (b : Bool). nat_lt base i && b) not ∙ and-false (nat_lt base i))
]

all_gone : (made above : Bool) → (not made && (above && made)) ≡ false
all_gone true above = refl
all_gone false true = refl
all_gone false false = refl

above_next : (at i : ℕ) → (at + 1 ≡ i → ⊥) → nat_lt at i ≡ nat_lt (at + 1) i
above_next at i other = elim (cases_lt at i) [
  | inl lt ↦ lt-ltb at i lt ∙ sym (lt-ltb (at + 1) i (omega (arith, lt, other)))
  | inr le ↦ le-ltb at i le ∙ sym (le-ltb (at + 1) i (omega (arith, le)))
]

-- the entries of a record are those of its changes
made_by_record : (old : Entries) (base at : ℕ) (records : History) (changes : List Change) (p : Place)
    → IsIndexOf old base records → base < at → changes ≡ get_or records (at - (base + 1)) []
    → names old p at ≡ changes_at changes p
made_by_record old base at records changes p is lt are =
    is p at ∙ ap (λ (l : List Change). changes_at l p) (at_above base records at lt ∙ sym are)

-- one more goes
pub one_more_out : (old mid new : Entries) (base at : ℕ) (records : History) (changes : List Change)
    → IsIndexOf old base records → base ≤ at → changes ≡ get_or records (at + 1 - (base + 1)) []
    → ((p : Place) (i : ℕ) → names new p i ≡ (not ((at + 1 == i) && changes_at changes p) && names mid p i))
    → AreOut old at mid → AreOut old (at + 1) new
one_more_out old mid new base at records changes is le are back out p i =
    back p i
    ∙ ap (λ (b : Bool). not ((at + 1 == i) && changes_at changes p) && b) (out p i)
    ∙ elim (cases_eq (at + 1) i) [
      | inl e ↦
          let made : names old p i ≡ changes_at changes p =
          ap (λ (j : ℕ). names old p j) (sym e) ∙ made_by_record old base (at + 1) records changes p is (omega (arith, le)) are in
          ap (λ (b : Bool). not (b && changes_at changes p) && (nat_lt at i && names old p i)) (eq-eqb (at + 1) i e)
          ∙ ap (λ (b : Bool). not (changes_at changes p) && (nat_lt at i && b)) made
          ∙ all_gone (changes_at changes p) (nat_lt at i)
          ∙ ap (λ (b : Bool). b && names old p i) (sym (le-ltb (at + 1) i (omega (arith, e))))
      | inr other ↦
          ap (λ (b : Bool). not (b && changes_at changes p) && (nat_lt at i && names old p i)) (ne_eqb (at + 1) i other)
          ∙ ap (λ (b : Bool). b && names old p i) (above_next at i other)
    ]

below_least : (i n top to : ℕ) → to ≡ min n top → i ≤ n → i ≤ top → i ≤ to
below_least i n top to e le within = subst (λ (k : ℕ). i ≤ k) (sym e) (le-min le within)

least_below : (n top to : ℕ) → to ≡ min n top → to ≤ n
least_below n top to e = subst (λ (k : ℕ). k ≤ n) (sym e) (min-le_left n top)

-- how far it went is as far as n, of what the index names
same_above : (base top at to n i : ℕ) → base < i → i ≤ top → to ≡ min n top → (base < at → at ≤ to) → to ≤ at
    → nat_lt at i ≡ nat_lt n i
same_above base top at to n i low high least from end = elim (cases_lt n i) [
  | inl lt ↦ elim (cases_lt base at) [
    | inl past ↦ lt-ltb at i (omega (arith, from past, least_below n top to least, lt)) ∙ sym (lt-ltb n i lt)
    | inr none ↦ lt-ltb at i (omega (arith, none, low)) ∙ sym (lt-ltb n i lt)
  ]
  | inr le ↦ le-ltb at i (omega (arith, below_least i n top to least le high, end)) ∙ sym (le-ltb n i le)
]

-- once those are out that there are up to n, all up to n are
pub all_out : (old new : Entries) (base at to n top : ℕ) (records : History) → IsIndexOf old base records
    → top ≡ base + length records → to ≡ min n top → (base < at → at ≤ to) → to ≤ at
    → AreOut old at new → AreOut old n new
all_out old new base at to n top records is last least from end out p i =
    out p i ∙ elim (cases_Bool (names old p i)) [
      | inl named ↦
          let within = indexed old base records p i is named in
          ap (λ (b : Bool). b && names old p i)
          (same_above base top at to n i within.0 (omega (arith, within.1, last)) least from end)
      | inr not ↦ ap (λ (b : Bool). nat_lt at i && b) not ∙ and-false (nat_lt at i)
          ∙ sym (ap (λ (b : Bool). nat_lt n i && b) not ∙ and-false (nat_lt n i))
    ]
