-- Fields within a word: what is read is spelled so, and what is spelled so is read.
use Rattle.std.proofs.Common.{◌≡◌, ℕ, suc, ◌+◌, ◌^◌, ◌<◌, ◌⊎◌, inl, inr, Bool, cond, eqb, List, [], ◌∷◌, ◌++◌, length, get_or, drop, None, Result, Ok, Err, refl, sym, ap, subst, ◌∙◌, append_assoc, arith}
use Rattle.std.specs.Prelude.{decimal}
use Rattle.std.proofs.lemmas.Bool.{eqb-true, eq-eqb}
use Rattle.std.proofs.lemmas.List.{length-append}
use Rattle.text_spelling.specs.Text.{spaced, hex_text, octal}
use Rattle.text_spelling.specs.Fits.{AreBytes}
use Rattle.schedule_text.specs.declared.fault.TextFault.{TextFault}
use Rattle.schedule_text.specs.declared.fault.TextFault.TheVariants.{Grammar}
use Rattle.schedule_text.specs.Fields.{Reader, Read, ◌>>=◌, EndsWord, spaced_at, u32_at, count_at, server_at, hex_at, hex_value}
use Rattle.schedule_text.proofs.Places.{Spells, Spells-then, Spells-byte, IsField, head_at, drop_past, bind_ok, ok_is, passed, read_of}
use Rattle.schedule_text.proofs.Numbers.{StopsDigits, base_ten, base_eight, number_takes, number_again}
use Rattle.schedule_text.proofs.FieldLaws.{server_text, server_field, server_reads}
use Rattle.schedule_text.proofs.Names.{name_field}
use Rattle.trace_text.proofs.HexRuns.{StopsHex}
use Rattle.trace_text.proofs.HexRuns as names
use Rattle.schedule_text.proofs.Faults.{PlacedReader}
use Rattle.schedule_text.proofs.Faults as faults
use Rattle.schedule_text.specs.Reading.{both_at, made_at}
use Rattle.schedule_text.proofs.Rows.{IsRow, spaced_row}
use Rattle.schedule_text.proofs.Rows as rows
use Rattle.trace_text.specs.Fields.{sign_at, mark_at, behind_at, mode_at}

-- ---- what may follow

-- nothing, or a byte that goes on with neither a number nor a name
abbrev pub Stops : List ℕ → Type 0
Stops [] = Unit {0}
Stops (b ∷ rest) = (b < 48) ⊎ (b ≡ 58)

stops_ten : (rest : List ℕ) → Stops rest → StopsDigits 10 rest
stops_ten [] stops = tt
stops_ten (b ∷ rest) (inl low) = inl low
stops_ten (b ∷ rest) (inr colon) = inr (omega (arith, colon))

stops_eight : (rest : List ℕ) → Stops rest → StopsDigits 8 rest
stops_eight [] stops = tt
stops_eight (b ∷ rest) (inl low) = inl low
stops_eight (b ∷ rest) (inr colon) = inr (omega (arith, colon))

no_hex : (b : ℕ) → b < 48 → hex_value b ≡ None
no_hex b low = grind (arith)

stops_hex : (rest : List ℕ) → Stops rest → StopsHex rest
stops_hex [] stops = refl
stops_hex (b ∷ rest) (inl low) = no_hex b low
stops_hex (b ∷ rest) (inr colon) = ap hex_value colon

pub word_stops : (rest : List ℕ) → EndsWord rest → Stops rest
word_stops [] ends = tt
word_stops (b ∷ rest) ends = inl (omega (arith, ends))

-- ---- pieces

-- a reader and a spelling that undo each other, up to what may follow
pub record IsPiece {A : Type 0} (read : Reader A) (spell : A → List ℕ) (Fits : A → Type 0)
    : Type 0 where
  pub takes : (line : List ℕ) (at : ℕ) (x : A × ℕ) → read line at ≡ Ok x
      → Spells line at (spell x.0) x.1 × Fits x.0
  pub again : (line : List ℕ) (at : ℕ) (x : A) (rest : List ℕ) → Fits x → Stops rest
      → drop at line ≡ spell x ++ rest → read line at ≡ Ok (x, at + length (spell x))
  pub placed : PlacedReader read

-- a piece that may follow another one
pub record IsTail {A : Type 0} (read : Reader A) (spell : A → List ℕ) (Fits : A → Type 0)
    : Type 0 where
  pub piece : IsPiece read spell Fits
  pub apart : (x : A) (rest : List ℕ) → Stops (spell x ++ rest)

pub field_of : {A : Type 0} {r : Reader A} {spell : A → List ℕ} {Fits : A → Type 0}
    → IsPiece r spell Fits → IsField r spell Fits
field_of p = record {
  takes = p.takes;
  again = λ line at x rest fits ends e. p.again line at x rest fits (word_stops rest ends) e;
}

-- ---- one behind the other

module _ {A B : Type 0} {r : Reader A} {spell_r : A → List ℕ} {FitsR : A → Type 0} {s : Reader B}
    {spell_s : B → List ℕ} {FitsS : B → Type 0} (first : IsPiece r spell_r FitsR)
    (second : IsTail s spell_s FitsS) where
  abbrev spell_both : A × B → List ℕ
  spell_both x = spell_r x.0 ++ spell_s x.1

  abbrev FitBoth : A × B → Type 0
  FitBoth x = FitsR x.0 × FitsS x.1

  abbrev pair_of : A → B → ℕ → Read (A × B)
  pair_of x y n = Ok ((x, y), n)

  both_takes : (line : List ℕ) (at : ℕ) (x : (A × B) × ℕ) → both_at r s line at ≡ Ok x
      → Spells line at (spell_both x.0) x.1 × FitBoth x.0
  both_takes line at x e =
      let p = bind_ok (r line at) (λ y. s line y.1 >>= λ z. pair_of y.0 z.0 z.1) x e in
      let q = bind_ok (s line p.0.1) (λ z. pair_of p.0.0 z.0 z.1) x p.2 in
      let one = first.takes line at p.0 p.1 in
      let two = second.piece.takes line p.0.1 q.0 q.1 in
      let all = Spells-then line at (spell_r p.0.0) p.0.1 (spell_s q.0.0) q.0.1 one.0 two.0 in
      subst (λ (y : (A × B) × ℕ). Spells line at (spell_both y.0) y.1 × FitBoth y.0)
      (ok_is ((p.0.0, q.0.0), q.0.1) x q.2) (all, (one.1, two.1))

  both_again : (line : List ℕ) (at : ℕ) (x : A × B) (rest : List ℕ) → FitBoth x → Stops rest
      → drop at line ≡ spell_both x ++ rest
      → both_at r s line at ≡ Ok (x, at + length (spell_both x))
  both_again line at x rest fits stops e =
      let front : drop at line ≡ spell_r x.0 ++ (spell_s x.1 ++ rest) =
      e ∙ append_assoc (spell_r x.0) (spell_s x.1) rest in
      let one = first.again line at x.0 (spell_s x.1 ++ rest) fits.0 (second.apart x.1 rest)
      front in
      let mid = at + length (spell_r x.0) in
      let two = second.piece.again line mid x.1 rest fits.1 stops
      (drop_past line at (spell_r x.0) (spell_s x.1 ++ rest) front) in
      let end : mid + length (spell_s x.1) ≡ at + length (spell_both x) = omega
      (arith, length-append (spell_r x.0) (spell_s x.1)) in
      ap (λ (o : Read A). o >>= λ y. s line y.1 >>= λ z. pair_of y.0 z.0 z.1) one
      ∙ ap (λ (o : Read B). o >>= λ z. pair_of x.0 z.0 z.1) two ∙ ap (pair_of x.0 x.1) end

  both_placed : PlacedReader (both_at r s)
  both_placed line at =
      faults.bind (r line at) _ (first.placed line at)
      (λ x. faults.bind (s line x.1) _ (second.piece.placed line x.1) (λ y. tt))

  pub both_piece : IsPiece (both_at r s) (λ x. spell_r x.0 ++ spell_s x.1)
      (λ x. FitsR x.0 × FitsS x.1)
  both_piece = record { takes = both_takes; again = both_again; placed = both_placed }

module _ {A B : Type 0} {r : Reader A} {spell_r : A → List ℕ} {FitsR : A → Type 0} {s : Reader B}
    {spell_s : B → List ℕ} {FitsS : B → Type 0} (first : IsTail r spell_r FitsR)
    (second : IsTail s spell_s FitsS) where
  pub both_tail : IsTail (both_at r s) (λ x. spell_r x.0 ++ spell_s x.1)
      (λ x. FitsR x.0 × FitsS x.1)
  both_tail = record {
    piece = both_piece first.piece second;
    apart = λ x rest. subst Stops (sym (append_assoc (spell_r x.0) (spell_s x.1) rest))
        (first.apart x.0 (spell_s x.1 ++ rest));
  }

-- ---- behind a sign

pub sign_takes : (sign : ℕ) → 0 < sign → (line : List ℕ) (at next : ℕ)
    → sign_at sign line at ≡ Ok next → Spells line at (sign ∷ []) next
sign_takes sign some line at next e =
    let p = passed (eqb (get_or line at 0) sign) (Grammar at) (Ok (at + 1)) next e in
    subst (λ (n : ℕ). Spells line at (sign ∷ []) n) (ok_is (at + 1) next p.1)
    (Spells-byte line at sign (eqb-true _ sign p.0) some)

abbrev signed : ℕ → Bool → Result ℕ TextFault
signed at stands = cond stands (Ok (at + 1)) (Err (Grammar at))

pub sign_again : (sign : ℕ) (line : List ℕ) (at : ℕ) (rest : List ℕ) → drop at line ≡ sign ∷ rest
    → sign_at sign line at ≡ Ok (at + 1)
sign_again sign line at rest e =
    ap (signed at) (eq-eqb _ sign (head_at line at (sign ∷ rest) e))

pub sign_placed : (sign : ℕ) (line : List ℕ) (at : ℕ) → faults.Placed (sign_at sign line at)
sign_placed sign line at = faults.choice (eqb (get_or line at 0) sign) _ _ tt tt

module _ {A : Type 0} {r : Reader A} {spell : A → List ℕ} {Fits : A → Type 0} (sign : ℕ)
    (some : 0 < sign) (stops : (sign < 48) ⊎ (sign ≡ 58)) (behind : IsPiece r spell Fits) where
  behind_takes : (line : List ℕ) (at : ℕ) (x : A × ℕ) → behind_at sign r line at ≡ Ok x
      → Spells line at (sign ∷ spell x.0) x.1 × Fits x.0
  behind_takes line at x e =
      let p = bind_ok (sign_at sign line at) (λ from. r line from) x e in
      let t = behind.takes line p.0 x p.2 in (
        Spells-then line at (sign ∷ []) p.0 (spell x.0) x.1
            (sign_takes sign some line at p.0 p.1) t.0,
        t.1,
      )

  behind_again : (line : List ℕ) (at : ℕ) (x : A) (rest : List ℕ) → Fits x → Stops rest
      → drop at line ≡ (sign ∷ spell x) ++ rest
      → behind_at sign r line at ≡ Ok (x, at + length (sign ∷ spell x))
  behind_again line at x rest fits more e =
      let past = drop_past line at (sign ∷ []) (spell x ++ rest) e in
      let next : at + 1 + length (spell x) ≡ at + suc (length (spell x)) = omega arith in
      ap (λ (o : Result ℕ TextFault). o >>= λ from. r line from)
      (sign_again sign line at (spell x ++ rest) e)
      ∙ behind.again line (at + 1) x rest fits more past ∙ ap (read_of x) next

  pub behind_tail : IsTail (behind_at sign r) (λ x. sign ∷ spell x) Fits
  behind_tail = record {
    piece = record {
      takes = behind_takes;
      again = behind_again;
      placed = λ line at. faults.bind (sign_at sign line at) _ (sign_placed sign line at)
          (λ from. behind.placed line from);
    };
    apart = λ x rest. stops;
  }

-- ---- what is made of a piece

-- what is made of a piece's value, and how the value is had back
pub record IsMade {A B : Type 0} (spell : A → List ℕ) (Fits : A → Type 0) (made : A → B)
    (text : B → List ℕ) (Says : B → Type 0) : Type 0 where
  pub back : B → A
  pub there : (a : A) → Fits a → (text (made a) ≡ spell a) × Says (made a)
  pub here : (b : B) → Says b
      → Fits (back b) × ((made (back b) ≡ b) × (text b ≡ spell (back b)))

module _ {A B : Type 0} {r : Reader A} {spell : A → List ℕ} {Fits : A → Type 0}
    (p : IsPiece r spell Fits) (made : A → B) {text : B → List ℕ} {Says : B → Type 0}
    (is : IsMade spell Fits made text Says) where
  made_takes : (line : List ℕ) (at : ℕ) (x : B × ℕ) → made_at r made line at ≡ Ok x
      → Spells line at (text x.0) x.1 × Says x.0
  made_takes line at x e =
      let q = bind_ok (r line at) (λ y. read_of (made y.0) y.1) x e in
      let t = p.takes line at q.0 q.1 in
      let s = is.there q.0.0 t.1 in
      subst (λ (y : B × ℕ). Spells line at (text y.0) y.1 × Says y.0)
      (ok_is (made q.0.0, q.0.1) x q.2)
      (subst (λ (l : List ℕ). Spells line at l q.0.1) (sym s.0) t.0, s.1)

  made_again : (line : List ℕ) (at : ℕ) (b : B) (rest : List ℕ) → Says b → Stops rest
      → drop at line ≡ text b ++ rest → made_at r made line at ≡ Ok (b, at + length (text b))
  made_again line at b rest says stops e =
      let h = is.here b says in
      ap (λ (o : Read A). o >>= λ y. read_of (made y.0) y.1)
      (p.again line at (is.back b) rest h.0 stops (e ∙ ap (λ (l : List ℕ). l ++ rest) h.1.1))
      ∙ (λ i. read_of (h.1.0 i) (at + length (sym h.1.1 i)))

  pub made_piece : IsPiece (made_at r made) text Says
  made_piece = record {
    takes = made_takes;
    again = made_again;
    placed = λ line at. faults.bind (r line at) _ (p.placed line at) (λ x. tt);
  }

-- the same of words behind spaces
pub made_row : {A B : Type 0} {r : Reader A} {spell : A → List ℕ} {Fits : A → Type 0}
    (row : IsRow r spell Fits) (made : A → B) {text : B → List ℕ} {Says : B → Type 0}
    → IsMade spell Fits made text Says → ((b : B) (rest : List ℕ) → EndsWord (text b ++ rest))
    → IsRow (made_at r made) text Says
made_row row made {text} {Says} is apart = record {
  field = record {
    takes = λ line at x e. rows.made_takes row made text Says is.there line at x e;
    again = λ line at b rest says ends e.
        let h = is.here b says in
        rows.made_again row made (is.back b) h.0 line at rest ends
        (e ∙ ap (λ (l : List ℕ). l ++ rest) h.1.1)
        ∙ (λ i. read_of (h.1.0 i) (at + length (sym h.1.1 i)));
  };
  placed = rows.made_placed row made;
  apart = apart;
}

-- the same under another name for its text
pub respelled : {A : Type 0} {r : Reader A} {spell : A → List ℕ} {Fits : A → Type 0}
    (text : A → List ℕ) → ((x : A) → text x ≡ spell x) → IsField r spell Fits
    → IsField r text Fits
respelled text is f = record {
  takes = λ line at x e. let t = f.takes line at x e in
      (subst (λ (l : List ℕ). Spells line at l x.1) (sym (is x.0)) t.0, t.1);
  again = λ line at x rest fits ends e.
      f.again line at x rest fits ends (e ∙ ap (λ (l : List ℕ). l ++ rest) (is x))
      ∙ ap (λ (l : List ℕ). read_of x (at + length l)) (sym (is x));
}

-- ---- numbers, servers and names

pub u32_piece : IsPiece u32_at decimal (λ n. n < 2 ^ 32)
u32_piece = record {
  takes = λ line at x e. let t = number_takes 10 4294967295 base_ten (omega arith) line at x e in
      (t.0, omega (arith, t.1));
  again = λ line at n rest fits stops e. number_again 10 4294967295 base_ten (omega arith) line at
      n rest (omega (arith, fits)) (stops_ten rest stops) e;
  placed = faults.number 10 4294967295;
}

pub count_piece : IsPiece count_at decimal (λ n. n < 10 ^ 18)
count_piece = record {
  takes = λ line at x e. let t =
      number_takes 10 999999999999999999 base_ten (omega arith) line at x e in
      (t.0, omega (arith, t.1));
  again = λ line at n rest fits stops e. number_again 10 999999999999999999 base_ten (omega arith)
      line at n rest (omega (arith, fits)) (stops_ten rest stops) e;
  placed = faults.number 10 999999999999999999;
}

pub mode_piece : IsPiece mode_at octal (λ n. n < 2 ^ 16)
unfolding octal
mode_piece = record {
  takes = λ line at x e. let t = number_takes 8 65535 base_eight (omega arith) line at x e in
      (t.0, omega (arith, t.1));
  again = λ line at n rest fits stops e. number_again 8 65535 base_eight (omega arith) line at
      n rest (omega (arith, fits)) (stops_eight rest stops) e;
  placed = faults.number 8 65535;
}

pub server_piece : IsPiece server_at server_text (λ s. Unit {0})
server_piece = record {
  takes = server_field.takes;
  again = λ line at s rest fits stops e. server_reads line at s rest e;
  placed = faults.server;
}

pub hex_piece : (most : ℕ) → IsPiece (hex_at most) hex_text (AreBytes most)
hex_piece most = record {
  takes = (name_field most).takes;
  again = λ line at bytes rest fits stops e. names.name_again most line at bytes rest fits
      (stops_hex rest stops) e;
  placed = faults.name most;
}

-- ---- marks

abbrev mark_text : ℕ → Unit {0} → List ℕ
mark_text sign u = sign ∷ []

abbrev AnyMark : Unit {0} → Type 0
AnyMark u = Unit {0}

abbrev marked : ℕ → Read (Unit {0})
marked next = Ok (tt, next)

pub mark_piece : (sign : ℕ) → 0 < sign → IsPiece (mark_at sign) (mark_text sign) AnyMark
mark_piece sign some = record {
  takes = λ line at x e.
      let p = bind_ok (sign_at sign line at) marked x e in
      subst (λ (y : Unit {0} × ℕ). Spells line at (mark_text sign y.0) y.1 × AnyMark y.0)
      (ok_is (tt, p.0) x p.2) (sign_takes sign some line at p.0 p.1, tt);
  again = λ line at u rest fits stops e.
      ap (λ (o : Result ℕ TextFault). o >>= marked) (sign_again sign line at rest e);
  placed = λ line at. faults.bind (sign_at sign line at) _ (sign_placed sign line at) (λ next. tt);
}

-- a mark behind a space
pub mark_row : (sign : ℕ) → 0 < sign
    → IsRow (spaced_at (mark_at sign)) (λ u. spaced (sign ∷ [])) AnyMark
mark_row sign some = spaced_row (mark_at sign) (mark_text sign) AnyMark
    (field_of (mark_piece sign some)) ((mark_piece sign some).placed)
