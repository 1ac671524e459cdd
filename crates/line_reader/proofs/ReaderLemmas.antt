-- What a reader holds, and what it gives of it.
use Rattle.std.proofs.Common.{◌≡◌, ℕ, ◌<◌, ◌≤◌, false, List, [], ◌∷◌, ◌++◌, length, drop, refl, sym, ap, ◌∙◌, arith, Option, Some, None, append_assoc, length-append, subst, Vec, Global}
use Rattle.std.proofs.lemmas.List.{append-nil}
use Rattle.std.specs.Prelude.{◌==◌, vec_len}
use Rattle.std.proofs.lemmas.Bool.{eqb-false}
use Rattle.std.specs.Io.KnownBytes.{Keeps, prepend_known}
use Rattle.line_reader.specs.declared.reader.Next.TheVariants as next
use Rattle.line_reader.specs.Lines.{Feedless, lines_of, Peeked}
use Rattle.line_reader.specs.Reading.{GivesKnown, BeginsLong}
use Rattle.line_reader.proofs.LineLemmas.{lines_of-ended, lines_of-last, begins}

-- the text is the line so far, what is at hand and what the source has left
pub record ReadsOn (text : Option (List ℕ)) (line ahead : List ℕ) (left : Option (List ℕ)) : Type 0 where
  pub few : length line ≤ 20001
  pub feedless : Feedless line
  pub kept : Keeps text (prepend_known (line ++ ahead) left)

-- a look ahead keeps it
pub looked : (text : Option (List ℕ)) (line ahead ahead' : List ℕ) (left left' : Option (List ℕ)) → Keeps text (prepend_known (line ++ ahead) left)
    → Keeps (prepend_known ahead left) (prepend_known ahead' left') → Keeps text (prepend_known (line ++ ahead') left')
looked None line ahead ahead' left left' k l = tt
looked (Some t) line ahead ahead' None left' k l = absurd k
looked (Some t) line ahead ahead' (Some x) None k l = absurd l
looked (Some t) line ahead ahead' (Some x) (Some y) k l =
    append_assoc line ahead' y ∙ ap (λ s. line ++ s) l ∙ sym (append_assoc line ahead x) ∙ k

given : (text : Option (List ℕ)) (v : Vec ℕ Global) (rest : List ℕ) (left : Option (List ℕ)) → Feedless v.items → length v.items ≤ 20000
    → Keeps text (prepend_known (v.items ++ 10 ∷ rest) left) → GivesKnown text (prepend_known rest left) (next.Line v)
given None v rest left h few k = tt
given (Some t) v rest None h few k = absurd k
given (Some t) v rest (Some x) h few k =
    let whole = sym k ∙ append_assoc v.items (10 ∷ rest) x in (
      ap lines_of whole ∙ lines_of-ended v.items (rest ++ x) h,
      few,
      v.items ++ 10 ∷ [],
      whole
          ∙ sym (append_assoc v.items (10 ∷ []) (rest ++ x)),
    )

-- a line that is ended is given
pub gives-ended : (text : Option (List ℕ)) (v : Vec ℕ Global) (ahead left_ahead : List ℕ) (left : Option (List ℕ)) (old : List ℕ) (old_left : Option (List ℕ)) (byte : Option ℕ)
    → Feedless v.items → length v.items ≤ 20000 → Keeps text (prepend_known (v.items ++ ahead) left) → byte ≡ Some 10 → Peeked old old_left ahead byte
    → left_ahead ≡ drop 1 ahead → GivesKnown text (prepend_known left_ahead left) (next.Line v)
gives-ended text v ahead left_ahead left old old_left byte h few k is peeked taken =
    let p : Peeked old old_left ahead (Some 10) = subst (Peeked old old_left ahead) is peeked in
    let rest : left_ahead ≡ p.0 = taken ∙ ap (λ (s : List ℕ). drop 1 s) p.1 in
    rw rest (given text v p.0 left h few (subst (λ s. Keeps text (prepend_known (v.items ++ s) left)) p.1 k))

-- what a source at its end leaves
rests : (ahead ahead' x y : List ℕ) → ahead ≡ [] → x ≡ [] → ahead' ≡ [] → ahead' ++ y ≡ ahead ++ x → y ≡ []
rests ahead ahead' x y a e a' k = (let same : y ≡ [] ++ y = refl in same) ∙ ap (λ (s : List ℕ). s ++ y) (sym a') ∙ k ∙ rw (a, e) refl

last_lines : (line : List ℕ) → 0 < length line → Feedless line → lines_of line ≡ line ∷ lines_of []
unfolding lines_of
last_lines [] some h = absurd (omega arith)
last_lines (b ∷ line) some h = lines_of-last b line h

last_given : (text : Option (List ℕ)) (v : Vec ℕ Global) (ahead ahead' : List ℕ) (left left' : Option (List ℕ)) → Feedless v.items → length v.items ≤ 20000
    → 0 < length v.items → Keeps text (prepend_known (v.items ++ ahead) left) → Keeps (prepend_known ahead left) (prepend_known ahead' left')
    → Peeked ahead left ahead' None → GivesKnown text (prepend_known ahead' left') (next.Line v)
last_given None v ahead ahead' left left' h few some k l e = tt
last_given (Some t) v ahead ahead' None left' h few some k l e = absurd k
last_given (Some t) v ahead ahead' (Some x) None h few some k l e = absurd l
last_given (Some t) v ahead ahead' (Some x) (Some y) h few some k l e =
    let none : ahead' ++ y ≡ [] = rw (e.2, rests ahead ahead' x y e.0 e.1 e.2 l) refl in
    let whole : t ≡ v.items = sym k ∙ rw (e.0, e.1, append-nil v.items, append-nil v.items) refl in (
      ap lines_of whole ∙ last_lines v.items some h ∙ ap (λ ls. v.items ∷ lines_of ls) (sym none),
      few,
      v.items,
      whole ∙ sym (ap (λ s. v.items ++ s) none ∙ append-nil v.items),
    )

-- a last line that isn't ended is given
pub gives-last : (text : Option (List ℕ)) (v : Vec ℕ Global) (ahead ahead' : List ℕ) (left left' : Option (List ℕ)) (byte : Option ℕ) → Feedless v.items
    → length v.items ≤ 20000 → (vec_len v == 0) ≡ false → Keeps text (prepend_known (v.items ++ ahead) left)
    → Keeps (prepend_known ahead left) (prepend_known ahead' left') → byte ≡ None → Peeked ahead left ahead' byte
    → GivesKnown text (prepend_known ahead' left') (next.Line v)
gives-last text v ahead ahead' left left' byte h few some k l is peeked =
    let differs : vec_len v ≡ 0 → ⊥ = eqb-false (vec_len v) 0 some in
    last_given text v ahead ahead' left left' h few (omega arith) k l (subst (Peeked ahead left ahead') is peeked)

-- the end is given
pub gives-end : (text : Option (List ℕ)) (line ahead ahead' : List ℕ) (left left' : Option (List ℕ)) → line ≡ []
    → Keeps text (prepend_known (line ++ ahead) left) → Keeps (prepend_known ahead left) (prepend_known ahead' left')
    → Peeked ahead left ahead' None → GivesKnown text (prepend_known (line ++ ahead') left') next.End
gives-end None line ahead ahead' left left' n k l e = tt
gives-end (Some t) line ahead ahead' None left' n k l e = absurd k
gives-end (Some t) line ahead ahead' (Some x) None n k l e = absurd l
gives-end (Some t) line ahead ahead' (Some x) (Some y) n k l e =
    (sym k ∙ rw (n, e.0, e.1) refl, rw (n, e.2, rests ahead ahead' x y e.0 e.1 e.2 l) refl)

begins_long : (line rest : List ℕ) → 20000 < length line → Feedless line → BeginsLong (line ++ rest)
begins_long [] rest long h = absurd (omega arith)
begins_long (b ∷ line) rest long h =
    let r = begins b line rest h in
    ((b ∷ line) ++ r.0, r.1, r.2, omega (arith, length-append (b ∷ line) r.0))

-- a line that is too long is told of
pub gives-long : (text : Option (List ℕ)) (line ahead : List ℕ) (left : Option (List ℕ)) → Feedless line → 20000 < length line
    → Keeps text (prepend_known (line ++ ahead) left) → GivesKnown text (prepend_known (line ++ ahead) left) next.TooLong
gives-long None line ahead left h long k = tt
gives-long (Some t) line ahead None h long k = absurd k
gives-long (Some t) line ahead (Some x) h long k =
    (k, subst BeginsLong (sym (append_assoc line ahead x) ∙ k) (begins_long line (ahead ++ x) long h))
