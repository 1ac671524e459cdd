-- Texts at places of a line, and fields that are read from places.
use Rattle.std.proofs.Common.{◌≡◌, ℕ, suc, ◌+◌, ◌<◌, ◌⊎◌, inl, inr, Bool, true, false, cond, eqb, List, [], ◌∷◌, ◌++◌, length, get_or, drop, Result, Ok, Err, refl, sym, ap, subst, ◌∙◌, append_assoc, arith, add-one}
use Rattle.std.proofs.lemmas.Bool.{cases_lt, eqb-true, eq-eqb}
use Rattle.std.proofs.lemmas.List.{drop_at, drop-drop, length-append, get_or-drop, get_or_past}
use Rattle.std.proofs.Math.Seq.{drop-cons}
use Rattle.schedule_text.specs.declared.fault.TextFault.{TextFault}
use Rattle.schedule_text.specs.declared.fault.TextFault.TheVariants.{Grammar}
use Rattle.text_spelling.specs.Text.{spaced}
use Rattle.schedule_text.specs.Fields.{EndsWord, Reader, Read, ◌>>=◌, space_at, spaced_at}

-- from a place on the line is this text, up to the next place
pub record Spells (line : List ℕ) (at : ℕ) (text : List ℕ) (next : ℕ) : Type 0 where
  pub parts : drop at line ≡ text ++ drop next line
  pub length_is : next ≡ at + length text

pub Spells-then : (line : List ℕ) (a : ℕ) (x : List ℕ) (b : ℕ) (y : List ℕ) (c : ℕ)
    → Spells line a x b → Spells line b y c → Spells line a (x ++ y) c
Spells-then line a x b y c p q = record {
  parts = p.parts ∙ ap (λ (t : List ℕ). x ++ t) q.parts ∙ sym (append_assoc x y (drop c line));
  length_is = omega (arith, p.length_is, q.length_is, length-append x y);
}

-- what stands after a text that stands at a place
pub drop_past : (line : List ℕ) (at : ℕ) (x rest : List ℕ) → drop at line ≡ x ++ rest
    → drop (at + length x) line ≡ rest
drop_past line at x rest e =
    sym (drop-drop (length x) at line) ∙ rw e (drop_at x rest (length x) refl)

pub Spells-from : (line : List ℕ) (at : ℕ) (x rest : List ℕ) (next : ℕ) → drop at line ≡ x ++ rest
    → next ≡ at + length x → Spells line at x next
Spells-from line at x rest next e is = record {
  parts = e ∙ ap (λ (t : List ℕ). x ++ t)
      (sym (ap (λ (n : ℕ). drop n line) is ∙ drop_past line at x rest e));
  length_is = is;
}

-- the byte at a place is the first of what stands there
pub head_at : (line : List ℕ) (at : ℕ) (rest : List ℕ) → drop at line ≡ rest
    → get_or line at 0 ≡ get_or rest 0 0
head_at line at rest e = ap (λ (n : ℕ). get_or line n 0) {x = at} {y = at + 0} (omega arith)
    ∙ sym (get_or-drop at line 0 0) ∙ ap (λ (l : List ℕ). get_or l 0 0) e

-- a byte other than 0 stands in the line
pub byte_here : (line : List ℕ) (at b : ℕ) → get_or line at 0 ≡ b → 0 < b → drop at line ≡ b
    ∷ drop (at + 1) line
byte_here line at b e some =
    elim (cases_lt at (length line)) [
      | inl lt ↦ drop-cons line at 0 lt ∙ (λ i. e i ∷ drop (sym (add-one at) i) line)
      | inr le ↦ let zero : get_or line at 0 ≡ 0 = get_or_past line at 0 le in absurd (omega arith)
    ]

pub Spells-byte : (line : List ℕ) (at b : ℕ) → get_or line at 0 ≡ b → 0 < b
    → Spells line at (b ∷ []) (at + 1)
Spells-byte line at b e some = record { parts = byte_here line at b e some; length_is = refl }

-- ---- results

pub bind_ok : {A B : Type 0} (r : Result A TextFault) (f : A → Result B TextFault) (y : B)
    → (r >>= f) ≡ Ok y → (x : A) × (r ≡ Ok x) × (f x ≡ Ok y)
bind_ok (Ok x) f y e = (x, refl, e)
bind_ok (Err d) f y e = absurd cc

-- what was chosen, and which way the test went
pub chosen : {A : Type 0} (b : Bool) (x y z : A) → cond b x y ≡ z → ((b ≡ true) × (x ≡ z))
    ⊎ ((b ≡ false) × (y ≡ z))
chosen true x y z e = inl (refl, e)
chosen false x y z e = inr (refl, e)

abbrev done : {A : Type 0} → A → Result A TextFault
done x = Ok x

pub ok_is : {A : Type 0} (x y : A) → done x ≡ done y → x ≡ y
ok_is x y e = cc

pub passed : {A : Type 0} (b : Bool) (d : TextFault) (x : Result A TextFault) (y : A)
    → cond b x (Err d) ≡ Ok y → (b ≡ true) × (x ≡ Ok y)
passed true d x y e = (refl, e)
passed false d x y e = absurd cc

abbrev pub read_of : {A : Type 0} → A → ℕ → Read A
read_of x n = Ok (x, n)

-- ---- fields

-- a reader and a spelling that undo each other, for values that fit, where a word ends behind them
pub record IsField {A : Type 0} (read : Reader A) (spell : A → List ℕ) (Fits : A → Type 0)
    : Type 0 where
  pub takes : (line : List ℕ) (at : ℕ) (x : A × ℕ) → read line at ≡ Ok x
      → Spells line at (spell x.0) x.1 × Fits x.0
  pub again : (line : List ℕ) (at : ℕ) (x : A) (rest : List ℕ) → Fits x → EndsWord rest
      → drop at line ≡ spell x ++ rest → read line at ≡ Ok (x, at + length (spell x))

pub space_takes : (line : List ℕ) (at next : ℕ) → space_at line at ≡ Ok next
    → Spells line at (32 ∷ []) next
space_takes line at next e =
    let p = passed (eqb (get_or line at 0) 32) (Grammar at) (Ok (at + 1)) next e in
    subst (λ (n : ℕ). Spells line at (32 ∷ []) n) (ok_is _ _ p.1)
    (Spells-byte line at 32 (eqb-true _ 32 p.0) (omega arith))

pub space_again : (line : List ℕ) (at : ℕ) (rest : List ℕ) → drop at line ≡ 32 ∷ rest
    → space_at line at ≡ Ok (at + 1)
space_again line at rest e =
    ap (λ (b : Bool). cond b (done (at + 1)) (Err (Grammar at)))
    (eq-eqb _ 32 (head_at line at (32 ∷ rest) e))

spaced_takes : {A : Type 0} (r : Reader A) (spell : A → List ℕ) (Fits : A → Type 0)
    → IsField r spell Fits → (line : List ℕ) (at : ℕ) (x : A × ℕ) → spaced_at r line at ≡ Ok x
    → Spells line at (spaced (spell x.0)) x.1 × Fits x.0
spaced_takes r spell Fits field line at x e =
    let p = bind_ok (space_at line at) (λ from. r line from) x e in
    let t = field.takes line p.0 x p.2 in
    (Spells-then line at (32 ∷ []) p.0 (spell x.0) x.1 (space_takes line at p.0 p.1) t.0, t.1)

spaced_again : {A : Type 0} (r : Reader A) (spell : A → List ℕ) (Fits : A → Type 0)
    → IsField r spell Fits → (line : List ℕ) (at : ℕ) (x : A) (rest : List ℕ) → Fits x
    → EndsWord rest → drop at line ≡ spaced (spell x) ++ rest
    → spaced_at r line at ≡ Ok (x, at + length (spaced (spell x)))
spaced_again r spell Fits field line at x rest fits ends e =
    let past : drop (at + 1) line ≡ spell x ++ rest =
    drop_past line at (32 ∷ []) (spell x ++ rest) e in
    let next : at + 1 + length (spell x) ≡ at + suc (length (spell x)) = omega arith in
    ap (λ (r' : Result ℕ TextFault). r' >>= λ from. r line from)
    (space_again line at (spell x ++ rest) e) ∙ field.again line (at + 1) x rest fits ends past
    ∙ ap (λ (n : ℕ). read_of x n) next

pub spaced_field : {A : Type 0} (r : Reader A) (spell : A → List ℕ) (Fits : A → Type 0)
    → IsField r spell Fits → IsField (spaced_at r) (λ x. spaced (spell x)) Fits
spaced_field r spell Fits field =
    record { takes = spaced_takes r spell Fits field; again = spaced_again r spell Fits field }
