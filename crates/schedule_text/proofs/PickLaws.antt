-- Picks, numbers in a range, and bytes of any number: what is read is spelled so, and what is
-- spelled so is read.
use Rattle.std.proofs.Common.{◌≡◌, ℕ, zero, suc, ◌+◌, ◌^◌, ◌<◌, ◌≤◌, Bool, true, false, cond, eqb, leb, inl, inr, List, [], ◌∷◌, ◌++◌, length, get_or, drop, Option, Some, None, Ok, Err, refl, sym, ap, subst, ◌∙◌, arith}
use Rattle.std.specs.Prelude.{decimal, codes}
use Rattle.std.specs.Str.{bytes_eq}
use Rattle.hex.specs.Hex.{encode_lower, encode_with}
use Rattle.std.proofs.lemmas.Bool.{eqb-true, eq-eqb, ne_eqb, leb-true, le-leb}
use Rattle.std.proofs.lemmas.List.{length-append, length-drop}
use Rattle.harp_types.specs.declared.pick.Pick.{Pick}
use Rattle.harp_types.specs.declared.pick.Pick.TheVariants as pick
use Rattle.text_spelling.specs.Text.{spaced, hex_text}
use Rattle.text_spelling.specs.Steps.{bits_text, pick_text}
use Rattle.text_spelling.specs.StepFits.{PickFits, AreAnyBytes}
use Rattle.schedule_text.specs.declared.fault.TextFault.TheVariants.{Grammar}
use Rattle.schedule_text.specs.Fields.{Read, ◌>>=◌, EndsWord, number_at, word_at}
use Rattle.schedule_text.specs.Words.{named_at, ranged_at, all_hex_at}
use Rattle.schedule_text.proofs.Places.{Spells, Spells-then, Spells-byte, IsField, head_at, drop_past, bind_ok, chosen, ok_is, passed, read_of}
use Rattle.schedule_text.proofs.Numbers.{base_ten, number_takes, number_again}
use Rattle.schedule_text.proofs.FieldLaws.{ends_digits}
use Rattle.schedule_text.proofs.Names.{name_field}
use Rattle.schedule_text.proofs.Faults.{PlacedReader}
use Rattle.schedule_text.proofs.Faults as faults
use Rattle.schedule_text.specs.Reading.{bit_of, bits_from, pick_named, pick_at, spaced_pick_at}
use Rattle.schedule_text.proofs.Words.{word_spells, same_word, name_takes, name_again, name_placed}
use Rattle.schedule_text.proofs.Rows.{IsRow, spaced_row}

-- ---- bits

abbrev bit_digit : Bool → ℕ
bit_digit bit = cond bit 49 48

bit_byte : (b : ℕ) (bit : Bool) → bit_of b ≡ Some bit → b ≡ bit_digit bit
bit_byte b bit e =
    elim (chosen (eqb b 48) (Some false) (cond (eqb b 49) (Some true) None) (Some bit) e) [
      | inl naught ↦ eqb-true b 48 naught.0 ∙ ap bit_digit (some_is false bit naught.1)
      | inr more ↦ elim (chosen (eqb b 49) (Some true) None (Some bit) more.1) [
        | inl one ↦ eqb-true b 49 one.0 ∙ ap bit_digit (some_is true bit one.1)
        | inr none ↦ absurd (none_is bit none.1)
      ]
    ]
  where
    some_is : (s t : Bool) → Some s ≡ Some t → s ≡ t
    some_is s t e = cc

    none_is : (s : Bool) → None ≡ Some s → ⊥
    none_is s e = cc

bit_again : (bit : Bool) → bit_of (bit_digit bit) ≡ Some bit
bit_again true = refl
bit_again false = refl

-- what bits that are read say
record BitsRead (room : ℕ) (line : List ℕ) (at : ℕ) (x : List Bool × ℕ) : Type 0 where
  spells : Spells line at (bits_text x.0) x.1
  few : length x.0 ≤ room
  place : x.1 ≡ at + length x.0

abbrev bits_on : ℕ → List ℕ → ℕ → Option Bool → List Bool × ℕ
bits_on room line at o =
    elim o [
      | None ↦ ([], at)
      | Some bit ↦
          (bit ∷ (bits_from room line (at + 1)).0, (bits_from room line (at + 1)).1)
    ]

bits_none_read : (room : ℕ) (line : List ℕ) (at : ℕ) → BitsRead room line at ([], at)
unfolding bits_text
bits_none_read room line at = record {
  spells = record { parts = refl; length_is = omega arith };
  few = omega arith;
  place = omega arith;
}

digit_some : (bit : Bool) → 0 < bit_digit bit
digit_some true = omega arith
digit_some false = omega arith

bits_step : (room : ℕ) (line : List ℕ) (at : ℕ)
    → BitsRead room line (at + 1) (bits_from room line (at + 1))
    → (o : Option Bool) → bit_of (get_or line at 0) ≡ o
    → BitsRead (suc room) line at (bits_on room line at o)
unfolding bits_text
bits_step room line at more None is = bits_none_read (suc room) line at
bits_step room line at more (Some bit) is =
    let x = bits_from room line (at + 1) in
    let byte = bit_byte (get_or line at 0) bit is in
    let here = Spells-byte line at (bit_digit bit) byte (digit_some bit) in
    record {
      spells = Spells-then line at (bit_digit bit ∷ []) (at + 1) (bits_text x.0) x.1 here
          more.spells;
      few = omega (arith, more.few);
      place = omega (arith, more.place);
    }

bits_read : (room : ℕ) (line : List ℕ) (at : ℕ) → BitsRead room line at (bits_from room line at)
unfolding bits_from
bits_read zero line at = bits_none_read zero line at
bits_read (suc room) line at =
    bits_step room line at (bits_read room line (at + 1)) (bit_of (get_or line at 0)) refl

no_bits : (room : ℕ) (line : List ℕ) (at : ℕ) → bit_of (get_or line at 0) ≡ None
    → bits_from room line at ≡ ([], at)
unfolding bits_from
no_bits zero line at none = refl
no_bits (suc room) line at none = ap (bits_on room line at) none

no_bit : (b : ℕ) → (b ≡ 48 → ⊥) → (b ≡ 49 → ⊥) → bit_of b ≡ None
no_bit b naught one =
    ap (λ (c : Bool). cond c (Some false) (cond (eqb b 49) (Some true) None)) (ne_eqb b 48 naught)
    ∙ ap (λ (c : Bool). cond c (Some true) None) (ne_eqb b 49 one)

ends_bits : (rest : List ℕ) → EndsWord rest → bit_of (get_or rest 0 0) ≡ None
ends_bits [] ends = refl
ends_bits (b ∷ rest) ends = no_bit b (λ e. omega (arith, e, ends)) (λ e. omega (arith, e, ends))

bits_stand : (bits : List Bool) (room : ℕ) (line : List ℕ) (at : ℕ) (rest : List ℕ)
    → length bits ≤ room → EndsWord rest → drop at line ≡ bits_text bits ++ rest
    → bits_from room line at ≡ (bits, at + length bits)
unfolding bits_text bits_from
bits_stand [] room line at rest few ends e =
    no_bits room line at (ap bit_of (head_at line at rest e) ∙ ends_bits rest ends)
    ∙ ap (λ (n : ℕ). no_bits_at n) (omega arith)
  where
    no_bits_at : ℕ → List Bool × ℕ
    no_bits_at n = ([], n)
bits_stand (bit ∷ bits) zero line at rest few ends e = absurd (omega (arith, few))
bits_stand (bit ∷ bits) (suc room) line at rest few ends e =
    let byte = head_at line at (bit_digit bit ∷ (bits_text bits ++ rest)) e in
    let past = drop_past line at (bit_digit bit ∷ []) (bits_text bits ++ rest) e in
    let more = bits_stand bits room line (at + 1) rest (omega (arith, few)) ends past in
    let end : at + 1 + length bits ≡ at + length (bit ∷ bits) = omega arith in
    ap (λ (b : ℕ). bits_on room line at (bit_of b)) byte ∙ ap (bits_on room line at) (bit_again bit)
    ∙ ap (λ (x : List Bool × ℕ). behind bit x) more ∙ ap (λ (n : ℕ). ended (bit ∷ bits) n) end
  where
    behind : Bool → List Bool × ℕ → List Bool × ℕ
    behind b x = (b ∷ x.0, x.1)

    ended : List Bool → ℕ → List Bool × ℕ
    ended bs n = (bs, n)

bits_len : (bits : List Bool) → length (bits_text bits) ≡ length bits
unfolding bits_text
bits_len [] = refl
bits_len (b ∷ bits) = let more = bits_len bits in omega (arith, more)

-- ---- picks

abbrev pick_names : List (List ℕ)
pick_names = codes "all" ∷ codes "none" ∷ []

named_pick : (word : List ℕ) (p : Pick) → pick_named word ≡ Some p
    → (word ≡ pick_text p) × PickFits p
named_pick word p e =
    elim (chosen (bytes_eq word (codes "all")) (Some pick.All)
    (cond (bytes_eq word (codes "none")) (Some pick.None) None) (Some p) e) [
      | inl all ↦ subst (λ (q : Pick). (word ≡ pick_text q) × PickFits q)
          (some_is pick.All p all.1) (same_word word (codes "all") all.0, tt)
      | inr more ↦ elim (chosen (bytes_eq word (codes "none")) (Some pick.None) None (Some p)
          more.1) [
            | inl none ↦ subst (λ (q : Pick). (word ≡ pick_text q) × PickFits q)
                (some_is pick.None p none.1) (same_word word (codes "none") none.0, tt)
            | inr nothing ↦ absurd (none_is p nothing.1)
          ]
    ]
  where
    some_is : (s t : Pick) → Some s ≡ Some t → s ≡ t
    some_is s t e = cc

    none_is : (s : Pick) → None ≡ Some s → ⊥
    none_is s e = cc

abbrev pick_read : List ℕ → ℕ → List Bool × ℕ → Bool → Read Pick
pick_read line at bits none =
    cond none (named_at pick_names pick_named line at) (read_of (pick.Bits bits.0) bits.1)

pick_takes : (line : List ℕ) (at : ℕ) (x : Pick × ℕ) → pick_at line at ≡ Ok x
    → Spells line at (pick_text x.0) x.1 × PickFits x.0
unfolding pick_at
pick_takes line at x e =
    let bits = bits_from 64 line at in
    let b = bits_read 64 line at in
    elim (chosen (eqb bits.1 at) (named_at pick_names pick_named line at)
    (read_of (pick.Bits bits.0) bits.1) (Ok x) e) [
      | inl none ↦
          let n = name_takes pick_names pick_named line at x none.1 in
          let p = named_pick (word_at line at) x.0 n.means in (
            subst (λ (l : List ℕ). Spells line at l x.1) p.0
                (subst (λ (k : ℕ). Spells line at (word_at line at) k) (sym n.place)
                (word_spells line at)),
            p.1,
          )
      | inr some ↦
          subst (λ (y : Pick × ℕ). Spells line at (pick_text y.0) y.1 × PickFits y.0)
          (ok_is (pick.Bits bits.0, bits.1) x some.1)
          (b.spells, (moved bits.1 at (length bits.0) b.place some.0, b.few))
    ]
  where
    moved : (n at len : ℕ) → n ≡ at + len → eqb n at ≡ false → 1 ≤ len
    moved n at zero is other = let same = eq-eqb n at (omega (arith, is)) in absurd cc
    moved n at (suc len) is other = omega arith

-- a word, and no bits
word_again : (line : List ℕ) (at : ℕ) (name rest : List ℕ) (p : Pick)
    → bit_of (get_or (name ++ rest) 0 0) ≡ None
    → drop at line ≡ name ++ rest
    → named_at pick_names pick_named line at ≡ Ok (p, at + length name)
    → pick_at line at ≡ Ok (p, at + length name)
unfolding pick_at
word_again line at name rest p none e named =
    let bits = no_bits 64 line at (ap bit_of (head_at line at (name ++ rest) e) ∙ none) in
    ap (λ (x : List Bool × ℕ). pick_read line at x (eqb x.1 at)) bits
    ∙ ap (pick_read line at ([], at)) (eq-eqb at at refl) ∙ named

pick_again : (line : List ℕ) (at : ℕ) (p : Pick) (rest : List ℕ) → PickFits p → EndsWord rest
    → drop at line ≡ pick_text p ++ rest → pick_at line at ≡ Ok (p, at + length (pick_text p))
unfolding pick_at
pick_again line at pick.All rest fits ends e =
    word_again line at (codes "all") rest pick.All refl e
    (name_again pick_names pick_named line at (codes "all") rest pick.All refl refl ends e)
pick_again line at pick.None rest fits ends e =
    word_again line at (codes "none") rest pick.None refl e
    (name_again pick_names pick_named line at (codes "none") rest pick.None refl refl ends e)
pick_again line at (pick.Bits bits) rest fits ends e =
    let read = bits_stand bits 64 line at rest fits.1 ends e in
    let more : eqb (at + length bits) at ≡ false =
    ne_eqb (at + length bits) at (λ same. omega (arith, same, fits.0)) in
    let end : at + length bits ≡ at + length (bits_text bits) = omega (arith, bits_len bits) in
    ap (λ (x : List Bool × ℕ). pick_read line at x (eqb x.1 at)) read
    ∙ ap (pick_read line at (bits, at + length bits)) more ∙ ap (read_of (pick.Bits bits)) end

pick_placed : PlacedReader pick_at
unfolding pick_at
pick_placed line at =
    faults.choice (eqb (bits_from 64 line at).1 at) _ _
    (name_placed pick_names pick_named line at) tt

pub pick_row : IsRow spaced_pick_at (λ p. spaced (pick_text p)) PickFits
pick_row = spaced_row pick_at pick_text PickFits
    (record { takes = pick_takes; again = pick_again }) pick_placed

-- ---- numbers in a range

abbrev IsWithin : ℕ → ℕ → ℕ → Type 0
IsWithin least most n = (least ≤ n) × (n ≤ most)

module _ (least most : ℕ) (small : most < 10 ^ 18) where
  abbrev outside : ℕ × ℕ → ℕ → ℕ
  outside n at = cond (eqb n.0 0) at n.1

  ranged_takes : (line : List ℕ) (at : ℕ) (x : ℕ × ℕ) → ranged_at least most line at ≡ Ok x
      → Spells line at (decimal x.0) x.1 × IsWithin least most x.0
  unfolding ranged_at
  ranged_takes line at x e =
      let p = bind_ok (number_at 10 most line at)
      (λ n. cond (leb least n.0) (read_of n.0 n.1) (Err (Grammar (outside n at)))) x e in
      let q = passed (leb least p.0.0) (Grammar (outside p.0 at)) (read_of p.0.0 p.0.1) x p.2 in
      let t = number_takes 10 most base_ten small line at p.0 p.1 in
      subst (λ (y : ℕ × ℕ). Spells line at (decimal y.0) y.1 × IsWithin least most y.0)
      (ok_is (p.0.0, p.0.1) x q.1) (t.0, (leb-true least p.0.0 q.0, t.1))

  ranged_again : (line : List ℕ) (at n : ℕ) (rest : List ℕ) → IsWithin least most n
      → EndsWord rest → drop at line ≡ decimal n ++ rest
      → ranged_at least most line at ≡ Ok (n, at + length (decimal n))
  unfolding ranged_at
  ranged_again line at n rest fits ends e =
      ap (λ (o : Read ℕ). o >>= λ n. cond (leb least n.0) (read_of n.0 n.1)
      (Err (Grammar (outside n at))))
      (number_again 10 most base_ten small line at n rest fits.1 (ends_digits rest ends) e)
      ∙ ap (λ (b : Bool). cond b (read_of n (at + length (decimal n)))
      (Err (Grammar (outside (n, at + length (decimal n)) at)))) (le-leb least n fits.0)

  ranged_placed : PlacedReader (ranged_at least most)
  unfolding ranged_at
  ranged_placed line at =
      faults.bind (number_at 10 most line at) _ (faults.number 10 most line at)
      (λ n. faults.choice (leb least n.0) _ _ tt tt)

  pub ranged_field : IsField (ranged_at least most) decimal (IsWithin least most)
  ranged_field = record { takes = ranged_takes; again = ranged_again }

  pub ranged_reader : PlacedReader (ranged_at least most)
  ranged_reader = ranged_placed

-- ---- bytes of any number

pairs_long : (bytes : List ℕ) → length bytes ≤ length (encode_lower bytes)
unfolding encode_with
pairs_long [] = omega arith
pairs_long (b ∷ bytes) = let more = pairs_long bytes in omega (arith, more)

hex_long : (bytes : List ℕ) → length bytes ≤ length (hex_text bytes)
unfolding hex_text
hex_long [] = omega arith
hex_long (b ∷ bytes) = pairs_long (b ∷ bytes)

all_hex_takes : (line : List ℕ) (at : ℕ) (x : List ℕ × ℕ) → all_hex_at line at ≡ Ok x
    → Spells line at (hex_text x.0) x.1 × AreAnyBytes x.0
all_hex_takes line at x e =
    let t = (name_field (length line)).takes line at x e in (t.0, t.1.fit)

all_hex_again : (line : List ℕ) (at : ℕ) (bytes : List ℕ) (rest : List ℕ) → AreAnyBytes bytes
    → EndsWord rest → drop at line ≡ hex_text bytes ++ rest
    → all_hex_at line at ≡ Ok (bytes, at + length (hex_text bytes))
all_hex_again line at bytes rest fits ends e =
    (name_field (length line)).again line at bytes rest (record {
      few = omega (
        arith,
        hex_long bytes,
        ap length e,
        length-append (hex_text bytes) rest,
        length-drop at line,
      );
      fit = fits;
    }) ends e

pub all_hex_field : IsField all_hex_at hex_text AreAnyBytes
all_hex_field = record { takes = all_hex_takes; again = all_hex_again }

pub all_hex_placed : PlacedReader all_hex_at
all_hex_placed line at = faults.name (length line) line at
