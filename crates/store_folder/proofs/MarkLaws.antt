-- Which fields the bytes of a mark's file give.
use Rattle.std.proofs.Common.{◌≡◌, ℕ, ◌+◌, ◌<◌, ◌≤◌, ◌^◌, Bool, true, false, cond, eqb, List, [], ◌++◌, length, drop, Option, Some, None, Ok, Err, ◌⊎◌, inl, inr, refl, sym, ap, subst, ◌∙◌, arith}
use Rattle.std.specs.Prelude.{IfSome}
use Rattle.std.proofs.Math.Seq.{drop-length}
use Rattle.std.proofs.lemmas.Bool.{eqb-true, eq-eqb, ne_eqb}
use Rattle.std.proofs.lemmas.List.{length-append, append-nil}
use Rattle.harp_base.specs.Fields.{Read, Spells}
use Rattle.harp_base.proofs.Codec.{IsBytes, drop_past}
use Rattle.store_folder.specs.declared.mark_fields.FirstFields.{FirstFields}
use Rattle.store_folder.specs.declared.mark_fields.LastFields.{LastFields}
use Rattle.harp_base.specs.Names.{ViewFits}
use Rattle.harp_store.specs.Mark.{IsLongest, IsRing, MarkFields, SavedNumbers, old_ring}
use Rattle.store_folder.specs.MarkFile.{OptionFits, NumbersFit, SavedFits, MarkFits, IsOld, IsMarkFile, numbers_of, ring_of, first_of, last_of, old_ring_of, FirstFit, first_bytes, first_at, LastFit, last_bytes, last_at, old_last, Fields, fields_whole, fields_behind, fields_in}
use Rattle.store_folder.proofs.MarkCodec.{first_codec, last_codec}

abbrev some_number : ℕ → Option ℕ
some_number n = Some n

abbrev last_with : Option ℕ → Option ℕ → LastFields
last_with longest ring = record { longest = longest; ring = ring }

abbrev both_of : FirstFields → LastFields → Fields
both_of f l = Some (f, l)

-- the fields of an old mark's file, or of a whole one
abbrev pub AreSpelled : List ℕ → FirstFields × LastFields → Type 0
AreSpelled bytes x = ((bytes ≡ first_bytes x.0) × (x.1 ≡ old_last x.0))
    ⊎ ((bytes ≡ first_bytes x.0 ++ last_bytes x.1) × LastFit x.1)

abbrev pub Found : List ℕ → FirstFields × LastFields → Type 0
Found bytes x = FirstFit x.0 × AreSpelled bytes x

fields_is : (x y : FirstFields × LastFields) → Some x ≡ Some y → x ≡ y
fields_is x y e = cc

-- what stands up to the end of the bytes is all
to_end : (bytes text : List ℕ) (at next : ℕ) → Spells bytes at text next → next ≡ length bytes
    → drop at bytes ≡ text
to_end bytes text at next s end =
    s.parts
    ∙ ap (λ (l : List ℕ). text ++ l) (ap (λ (n : ℕ). drop n bytes) end ∙ drop-length bytes)
    ∙ append-nil text

module _ (bytes : List ℕ) (fits : IsBytes bytes) (y : FirstFields × LastFields) where
  whole_if : (f : FirstFields) (at : ℕ) (l : LastFields × ℕ) (b : Bool) → FirstFit f
      → Spells bytes 0 (first_bytes f) at
      → last_at bytes at ≡ Ok l → eqb l.1 (length bytes) ≡ b
      → cond b (Some (f, l.0)) None ≡ Some y → Found bytes y
  whole_if f at l true first s h is e =
      let t = last_codec.takes bytes at l fits h in
      let rest = to_end bytes (last_bytes l.0) at l.1 t.0 (eqb-true l.1 (length bytes) is) in
      let all : bytes ≡ first_bytes f ++ last_bytes l.0 =
      s.parts ∙ ap (λ (r : List ℕ). first_bytes f ++ r) rest in
      subst (λ (x : FirstFields × LastFields). Found bytes x) (fields_is (f, l.0) y e)
      (first, inr (all, t.1))
  whole_if f at l false first s h is e = absurd cc

  whole_found : (f : FirstFields) (at : ℕ) (r : Read LastFields) → FirstFit f
      → Spells bytes 0 (first_bytes f) at → last_at bytes at ≡ r
      → fields_whole bytes f r ≡ Some y → Found bytes y
  whole_found f at (Err d) first s h e = absurd cc
  whole_found f at (Ok l) first s h e =
      whole_if f at l (eqb l.1 (length bytes)) first s h refl e

  behind_if : (f : FirstFields) (at : ℕ) (b : Bool) → FirstFit f
      → Spells bytes 0 (first_bytes f) at → eqb at (length bytes) ≡ b
      → cond b (Some (f, old_last f)) (fields_whole bytes f (last_at bytes at)) ≡ Some y
      → Found bytes y
  behind_if f at true first s is e =
      let all : bytes ≡ first_bytes f =
      to_end bytes (first_bytes f) 0 at s (eqb-true at (length bytes) is) in
      subst (λ (x : FirstFields × LastFields). Found bytes x) (fields_is (f, old_last f) y e)
      (first, inl (all, refl))
  behind_if f at false first s is e = whole_found f at (last_at bytes at) first s refl e

  behind_found : (r : Read FirstFields) → first_at bytes 0 ≡ r → fields_behind bytes r ≡ Some y
      → Found bytes y
  behind_found (Err d) h e = absurd cc
  behind_found (Ok f) h e =
      let t = first_codec.takes bytes 0 f fits h in
      behind_if f.0 f.1 (eqb f.1 (length bytes)) t.1 t.0 refl e

  pub fields_found : fields_in bytes ≡ Some y → Found bytes y
  unfolding fields_in
  fields_found e = behind_found (first_at bytes 0) refl e

-- the last fields have bytes
some_last : (l : LastFields) → 1 ≤ length (last_bytes l)
unfolding last_bytes
some_last l = omega arith

pub fields_old : (bytes : List ℕ) (f : FirstFields) → FirstFit f → bytes ≡ first_bytes f
    → fields_in bytes ≡ Some (f, old_last f)
unfolding fields_in
fields_old bytes f fits e =
    let read = first_codec.again bytes 0 f [] fits (e ∙ sym (append-nil (first_bytes f))) in
    let end : eqb (0 + length (first_bytes f)) (length bytes) ≡ true =
    eq-eqb _ _ (omega (arith, ap length e)) in
    rw (read, end) refl

pub fields_all : (bytes : List ℕ) (f : FirstFields) (l : LastFields) → FirstFit f → LastFit l
    → bytes ≡ first_bytes f ++ last_bytes l → fields_in bytes ≡ Some (f, l)
unfolding fields_in
fields_all bytes f l fits last e =
    let at = 0 + length (first_bytes f) in
    let size : length bytes ≡ length (first_bytes f) + length (last_bytes l) =
    ap length e ∙ length-append (first_bytes f) (last_bytes l) in
    let read = first_codec.again bytes 0 f (last_bytes l) fits e in
    let rest : drop at bytes ≡ last_bytes l ++ [] =
    drop_past bytes 0 (first_bytes f) (last_bytes l) e ∙ sym (append-nil (last_bytes l)) in
    let more = last_codec.again bytes at l [] last rest in
    let more_follows : eqb at (length bytes) ≡ false =
    ne_eqb _ _ (λ same. absurd (omega (arith, same, size, some_last l))) in
    let end : eqb (at + length (last_bytes l)) (length bytes) ≡ true =
    eq-eqb _ _ (omega (arith, size)) in
    rw (read, more_follows, more, end) refl

-- ---- the fields of a mark

longest_fits : (o : Option ℕ) → IsLongest o → OptionFits (λ n. n < 2 ^ 32) o
longest_fits None h = tt
longest_fits (Some n) h = omega (arith, h.1)

ring_small : (n : ℕ) → IsRing n → n < 2 ^ 32
ring_small n (inl e) = omega (arith, e)
ring_small n (inr e) = omega (arith, e)

ring_fits : (s : Option SavedNumbers) → OptionFits SavedFits s
    → OptionFits (λ n. n < 2 ^ 32) (ring_of s)
ring_fits None h = tt
ring_fits (Some s) h = ring_small s.ring h.3

numbers_fit : (s : Option SavedNumbers) → OptionFits SavedFits s
    → OptionFits NumbersFit (numbers_of s)
numbers_fit None h = tt
numbers_fit (Some s) h = (h.0, h.1, h.2)

option_is : (x y : ℕ) → Some x ≡ Some y → x ≡ y
option_is x y e = cc

ring_was : (s : Option SavedNumbers) → ring_of s ≡ old_ring_of (numbers_of s)
    → OptionFits (λ t. t.ring ≡ old_ring) s
ring_was None e = tt
ring_was (Some s) e = option_is s.ring old_ring e

ring_is : (s : Option SavedNumbers) → OptionFits (λ t. t.ring ≡ old_ring) s
    → ring_of s ≡ old_ring_of (numbers_of s)
ring_is None h = refl
ring_is (Some s) h = ap (λ (n : ℕ). some_number n) h

old_from : (m : MarkFields) → last_of m ≡ old_last (first_of m) → IsOld m
old_from m e = (
  ap (λ (l : LastFields). l.longest) e,
  ring_was m.saved (ap (λ (l : LastFields). l.ring) e),
)

old_to : (m : MarkFields) → IsOld m → last_of m ≡ old_last (first_of m)
old_to m h = ap (λ (o : Option ℕ). last_with o (ring_of m.saved)) h.0
    ∙ ap (λ (o : Option ℕ). last_with None o) (ring_is m.saved h.1)

-- the bytes of a mark give its fields
pub fields_of_mark : (bytes : List ℕ) (m : MarkFields) → MarkFits m → IsMarkFile bytes m
    → fields_in bytes ≡ Some (first_of m, last_of m)
fields_of_mark bytes m h (inl e) =
    fields_all bytes (first_of m) (last_of m) (h.0, h.1, h.3, numbers_fit m.saved h.5)
    (longest_fits m.longest h.4, ring_fits m.saved h.5) e
fields_of_mark bytes m h (inr old) =
    fields_old bytes (first_of m) (h.0, h.1, h.3, numbers_fit m.saved h.5) old.1
    ∙ ap (λ (l : LastFields). both_of (first_of m) l) (sym (old_to m old.0))

spelled_so : (bytes : List ℕ) (m : MarkFields) → AreSpelled bytes (first_of m, last_of m)
    → IsMarkFile bytes m
spelled_so bytes m (inl old) = inr (old_from m old.1, old.0)
spelled_so bytes m (inr all) = inl all.0

-- the mark of the fields that the bytes give is spelled so
pub mark_found : (bytes : List ℕ) → IsBytes bytes → (m : MarkFields) (f : FirstFields)
    (l : LastFields) → fields_in bytes ≡ Some (f, l) → first_of m ≡ f → last_of m ≡ l
    → (ViewFits m.promised → ViewFits m.accepted → MarkFits m) → IsMarkFile bytes m × MarkFits m
mark_found bytes fits m f l e first last whole =
    let same : fields_in bytes ≡ Some (first_of m, last_of m) =
    e ∙ ap (λ (g : FirstFields). both_of g l) (sym first)
    ∙ ap (λ (k : LastFields). both_of (first_of m) k) (sym last) in
    let found = fields_found bytes fits (first_of m, last_of m) same in
    (spelled_so bytes m found.1, whole found.0.0 found.0.1)

some_none : (x : FirstFields × LastFields) (r : Fields) → r ≡ Some x → r ≡ None → ⊥
some_none x r e none = absurd cc

-- a mark's bytes give some fields
pub some_fields : (bytes : List ℕ) (m : MarkFields) → MarkFits m → IsMarkFile bytes m
    → (r : Fields) → r ≡ fields_in bytes → r ≡ None → ⊥
some_fields bytes m fits is r e none =
    some_none (first_of m, last_of m) r (e ∙ fields_of_mark bytes m fits is) none

-- these fields are the mark's
pub same_fields : (bytes : List ℕ) (m : MarkFields) → MarkFits m → IsMarkFile bytes m
    → (r : Fields) (f : FirstFields) (l : LastFields) → r ≡ fields_in bytes → r ≡ Some (f, l)
    → (first_of m ≡ f) × (last_of m ≡ l)
same_fields bytes m fits is r f l e some =
    let same : (first_of m, last_of m) ≡ (f, l) =
    fields_is (first_of m, last_of m) (f, l)
    (sym (fields_of_mark bytes m fits is) ∙ sym e ∙ some) in (
      ap (λ (x : FirstFields × LastFields). x.0) same,
      ap (λ (x : FirstFields × LastFields). x.1) same,
    )

pub lifted : (r : Option MarkFields) (P Q : MarkFields → Type 0) → ((m : MarkFields) → P m → Q m)
    → IfSome r P → IfSome r Q
lifted None P Q h holds = tt
lifted (Some m) P Q h holds = h m holds
