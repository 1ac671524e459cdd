-- Fields behind spaces, one behind the other, and what is made of them.
use Rattle.std.proofs.Common.{◌≡◌, ℕ, ◌+◌, ◌^◌, ◌<◌, List, ◌++◌, length, drop, Ok, refl, sym, ap, subst, ◌∙◌, append_assoc, arith}
use Rattle.std.specs.Prelude.{decimal}
use Rattle.std.proofs.lemmas.List.{length-append}
use Rattle.text_spelling.specs.Text.{spaced, hex_text, set_attr_text}
use Rattle.text_spelling.specs.Fits.{AreBytes, SetAttrFits}
use Rattle.schedule_text.specs.Fields.{Reader, Read, ◌>>=◌, EndsWord, spaced_at, u32_at, count_at, server_at, hex_at, set_attr_at}
use Rattle.schedule_text.proofs.Places.{Spells, Spells-then, IsField, spaced_field, drop_past, bind_ok, ok_is, read_of}
use Rattle.schedule_text.proofs.FieldLaws.{u32_field, count_field, server_field, server_text}
use Rattle.schedule_text.proofs.Names.{name_field}
use Rattle.schedule_text.proofs.SetAttrLaws.{set_attr_field}
use Rattle.schedule_text.proofs.Faults.{PlacedReader, bind}
use Rattle.schedule_text.proofs.Faults as faults
use Rattle.schedule_text.specs.Reading.{both_at, made_at, spaced_u32_at, spaced_count_at, spaced_server_at, spaced_name_at, spaced_bytes_at, spaced_attr_at}

-- ---- words

pub dir_field : IsField spaced_u32_at (λ n. spaced (decimal n)) (λ n. n < 2 ^ 32)
dir_field = spaced_field u32_at decimal (λ n. n < 2 ^ 32) u32_field

pub number_field : IsField (spaced_at count_at) (λ n. spaced (decimal n)) (λ n. n < 10 ^ 18)
number_field = spaced_field count_at decimal (λ n. n < 10 ^ 18) count_field

pub asked_field : IsField (spaced_at server_at) (λ s. spaced (server_text s)) (λ s. Unit {0})
asked_field = spaced_field server_at server_text (λ s. Unit {0}) server_field

-- ---- two fields

-- a field that stands, and what stands behind it
pub stands : {A : Type 0} (r : Reader A) (spell : A → List ℕ) (Fits : A → Type 0)
    → IsField r spell Fits
    → (line : List ℕ) (at : ℕ) (x : A) (rest : List ℕ) → Fits x → EndsWord rest
    → drop at line ≡ spell x ++ rest
    → (r line at ≡ Ok (x, at + length (spell x))) × (drop (at + length (spell x)) line ≡ rest)
stands r spell Fits field line at x rest fits ends e =
    (field.again line at x rest fits ends e, drop_past line at (spell x) rest e)

module _ {A B : Type 0} (r : Reader A) (spell_r : A → List ℕ) (FitsR : A → Type 0) (s : Reader B)
    (spell_s : B → List ℕ) (FitsS : B → Type 0) where
  abbrev spell_both : A × B → List ℕ
  spell_both x = spell_r x.0 ++ spell_s x.1

  abbrev FitBoth : A × B → Type 0
  FitBoth x = FitsR x.0 × FitsS x.1

  abbrev pair_of : A → B → ℕ → Read (A × B)
  pair_of x y n = Ok ((x, y), n)

  both_takes : IsField r spell_r FitsR → IsField s spell_s FitsS
      → (line : List ℕ) (at : ℕ) (x : (A × B) × ℕ)
      → both_at r s line at ≡ Ok x → Spells line at (spell_both x.0) x.1 × FitBoth x.0
  both_takes first second line at x e =
      let p = bind_ok (r line at) (λ y. s line y.1 >>= λ z. pair_of y.0 z.0 z.1) x e in
      let q = bind_ok (s line p.0.1) (λ z. pair_of p.0.0 z.0 z.1) x p.2 in
      let one = first.takes line at p.0 p.1 in
      let two = second.takes line p.0.1 q.0 q.1 in
      let all = Spells-then line at (spell_r p.0.0) p.0.1 (spell_s q.0.0) q.0.1 one.0 two.0 in
      subst (λ (y : (A × B) × ℕ). Spells line at (spell_both y.0) y.1 × FitBoth y.0)
      (ok_is ((p.0.0, q.0.0), q.0.1) x q.2) (all, (one.1, two.1))

  both_again : IsField r spell_r FitsR → IsField s spell_s FitsS
      → ((y : B) (rest : List ℕ) → EndsWord (spell_s y ++ rest))
      → (line : List ℕ) (at : ℕ) (x : A × B) (rest : List ℕ) → FitBoth x → EndsWord rest
      → drop at line ≡ spell_both x ++ rest
      → both_at r s line at ≡ Ok (x, at + length (spell_both x))
  both_again first second apart line at x rest fits ends e =
      let one = stands r spell_r FitsR first line at x.0 (spell_s x.1 ++ rest) fits.0
      (apart x.1 rest)
      (e ∙ append_assoc (spell_r x.0) (spell_s x.1) rest) in
      let mid = at + length (spell_r x.0) in
      let two = second.again line mid x.1 rest fits.1 ends one.1 in
      let end : mid + length (spell_s x.1) ≡ at + length (spell_both x) = omega
      (arith, length-append (spell_r x.0) (spell_s x.1)) in
      ap (λ (o : Read A). o >>= λ y. s line y.1 >>= λ z. pair_of y.0 z.0 z.1) one.0
      ∙ ap (λ (o : Read B). o >>= λ z. pair_of x.0 z.0 z.1) two ∙ ap (pair_of x.0 x.1) end

  pub both_field : IsField r spell_r FitsR → IsField s spell_s FitsS
      → ((y : B) (rest : List ℕ) → EndsWord (spell_s y ++ rest))
      → IsField (both_at r s) (λ x. spell_r x.0 ++ spell_s x.1) (λ x. FitsR x.0 × FitsS x.1)
  both_field first second apart =
      record { takes = both_takes first second; again = both_again first second apart }

pub both_placed : {A B : Type 0} (r : Reader A) (s : Reader B) → PlacedReader r → PlacedReader s
    → PlacedReader (both_at r s)
both_placed r s p q line at =
    bind (r line at) _ (p line at) (λ x. bind (s line x.1) _ (q line x.1) (λ y. tt))

-- ---- fields of calls

-- a field behind a space, which fails with a place alone
pub record IsRow {A : Type 0} (r : Reader A) (spell : A → List ℕ) (Fits : A → Type 0) : Type 0 where
  pub field : IsField r spell Fits
  pub placed : PlacedReader r
  pub apart : (x : A) (rest : List ℕ) → EndsWord (spell x ++ rest)

pub u32_row : IsRow spaced_u32_at (λ n. spaced (decimal n)) (λ n. n < 2 ^ 32)
u32_row = record {
  field = dir_field;
  placed = faults.spaced u32_at (faults.number 10 4294967295);
  apart = λ n rest. refl;
}

hex_row : (most : ℕ) → IsRow (spaced_at (hex_at most)) (λ s. spaced (hex_text s)) (AreBytes most)
hex_row most = record {
  field = spaced_field (hex_at most) hex_text (AreBytes most) (name_field most);
  placed = faults.spaced (hex_at most) (faults.name most);
  apart = λ s rest. refl;
}

pub name_row : IsRow spaced_name_at (λ s. spaced (hex_text s)) (AreBytes 4096)
name_row = hex_row 4096

pub bytes_row : IsRow spaced_bytes_at (λ s. spaced (hex_text s)) (AreBytes 8192)
bytes_row = hex_row 8192

pub attr_row : IsRow spaced_attr_at (λ a. spaced (set_attr_text a)) SetAttrFits
attr_row = record {
  field = spaced_field set_attr_at set_attr_text SetAttrFits set_attr_field;
  placed = faults.spaced set_attr_at faults.set_attr;
  apart = λ a rest. refl;
}

module _ {A B : Type 0} {r : Reader A} {spell_r : A → List ℕ} {FitsR : A → Type 0} {s : Reader B}
    {spell_s : B → List ℕ} {FitsS : B → Type 0} where
  -- one behind the other
  pub both_row : IsRow r spell_r FitsR → IsRow s spell_s FitsS
      → IsRow (both_at r s) (λ x. spell_r x.0 ++ spell_s x.1) (λ x. FitsR x.0 × FitsS x.1)
  both_row first second = record {
    field = both_field r spell_r FitsR s spell_s FitsS first.field second.field second.apart;
    placed = both_placed r s first.placed second.placed;
    apart = λ x rest. subst EndsWord (sym (append_assoc (spell_r x.0) (spell_s x.1) rest))
        (first.apart x.0 (spell_s x.1 ++ rest));
  }

-- a reader of a word, behind a space
pub spaced_row : {A : Type 0} (r : Reader A) (spell : A → List ℕ) (Fits : A → Type 0)
    → IsField r spell Fits → PlacedReader r → IsRow (spaced_at r) (λ x. spaced (spell x)) Fits
spaced_row r spell Fits field placed = record {
  field = spaced_field r spell Fits field;
  placed = faults.spaced r placed;
  apart = λ x rest. refl;
}

pub server_row : IsRow spaced_server_at (λ s. spaced (server_text s)) (λ s. Unit {0})
server_row = spaced_row server_at server_text (λ s. Unit {0}) server_field faults.server

pub count_row : IsRow spaced_count_at (λ n. spaced (decimal n)) (λ n. n < 10 ^ 18)
count_row = spaced_row count_at decimal (λ n. n < 10 ^ 18) count_field
    (faults.number 10 999999999999999999)

-- ---- what is made of a row

module _ {A B : Type 0} {r : Reader A} {spell : A → List ℕ} {Fits : A → Type 0}
    (row : IsRow r spell Fits) (made : A → B) where
  -- what is read is spelled so, and has what its parts tell
  pub made_takes : (text : B → List ℕ) (Says : B → Type 0)
      → ((a : A) → Fits a → (text (made a) ≡ spell a) × Says (made a))
      → (line : List ℕ) (at : ℕ) (x : B × ℕ) → made_at r made line at ≡ Ok x
      → Spells line at (text x.0) x.1 × Says x.0
  made_takes text Says says line at x e =
      let p = bind_ok (r line at) (λ y. read_of (made y.0) y.1) x e in
      let t = row.field.takes line at p.0 p.1 in
      let s = says p.0.0 t.1 in
      subst (λ (y : B × ℕ). Spells line at (text y.0) y.1 × Says y.0)
      (ok_is (made p.0.0, p.0.1) x p.2)
      (subst (λ (l : List ℕ). Spells line at l p.0.1) (sym s.0) t.0, s.1)

  pub made_again : (a : A) → Fits a → (line : List ℕ) (at : ℕ) (rest : List ℕ) → EndsWord rest
      → drop at line ≡ spell a ++ rest → made_at r made line at ≡ Ok (made a, at + length (spell a))
  made_again a fits line at rest ends e =
      ap (λ (o : Read A). o >>= λ y. read_of (made y.0) y.1)
      (row.field.again line at a rest fits ends e)

  pub made_placed : PlacedReader (made_at r made)
  made_placed line at = faults.bind (r line at) _ (row.placed line at) (λ x. tt)
