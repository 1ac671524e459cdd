-- Words that name values, and the fields that a name calls for.
use Rattle.std.proofs.Common.{◌≡◌, ℕ, ◌+◌, ◌<◌, ◌≤◌, Bool, true, false, cond, eqb, ◌&&◌, List, [], ◌∷◌, ◌++◌, length, drop, Option, Some, None, Ok, Err, refl, sym, ap, subst, ◌∙◌, append_assoc, arith}
use Rattle.std.specs.Prelude.{not, find, map}
use Rattle.std.specs.List.{take_while}
use Rattle.std.specs.Str.{bytes_eq}
use Rattle.std.proofs.lemmas.Bool.{eq-eqb, and_parts}
use Rattle.std.proofs.lemmas.List.{length-append, length-drop}
use Rattle.std.proofs.lemmas.List.Sums.{take_while-cons}
use Rattle.schedule_text.specs.declared.fault.TextFault.TheVariants.{Grammar}
use Rattle.schedule_text.specs.Fields.{Reader, Read, ◌>>=◌, EndsWord, not_space, word_at}
use Rattle.schedule_text.specs.Words.{farthest, named_at}
use Rattle.schedule_text.proofs.Places.{Spells, Spells-then, IsField, drop_past, bind_ok, read_of}
use Rattle.schedule_text.proofs.Faults.{PlacedReader}
use Rattle.schedule_text.proofs.Faults as faults
use Rattle.schedule_text.proofs.Words.{word_spells, same_word, name_takes, name_placed}
use Rattle.trace_text.specs.Fields.{value_named, name_at, by_name_at}

-- ---- words without spaces

abbrev spaceless : List ℕ → Bool
spaceless [] = true
spaceless (b ∷ bytes) = not (eqb b 32) && spaceless bytes

-- a byte at least, and none that is a space
abbrev pub is_word : List ℕ → Bool
is_word [] = false
is_word (b ∷ bytes) = not (eqb b 32) && spaceless bytes

word_spaceless : (word : List ℕ) → is_word word ≡ true → spaceless word ≡ true
word_spaceless [] is = absurd cc
word_spaceless (b ∷ word) is = is

word_some : (word : List ℕ) → is_word word ≡ true → 0 < length word
word_some [] is = absurd cc
word_some (b ∷ word) is = omega arith

none_left : (rest : List ℕ) → EndsWord rest → take_while not_space rest ≡ []
none_left [] ends = refl
none_left (b ∷ rest) ends =
    take_while-cons not_space b rest
    ∙ ap (λ (c : Bool). cond (not c) (b ∷ take_while not_space rest) []) (eq-eqb b 32 ends)

bytes_taken : (word rest : List ℕ) → spaceless word ≡ true → EndsWord rest
    → take_while not_space (word ++ rest) ≡ word
bytes_taken [] rest all ends = none_left rest ends
bytes_taken (b ∷ word) rest all ends =
    let parts = and_parts (not (eqb b 32)) (spaceless word) all in
    take_while-cons not_space b (word ++ rest)
    ∙ ap (λ (c : Bool). cond c (b ∷ take_while not_space (word ++ rest)) []) parts.0
    ∙ ap (λ (l : List ℕ). b ∷ l) (bytes_taken word rest parts.1 ends)

abbrev named_read : {A : Type 0} → List (List ℕ) → ℕ → List ℕ → Option A → Read A
named_read names at word o =
    elim o [
      | None ↦ Err (Grammar (at + farthest names word 0))
      | Some x ↦ Ok (x, at + length word)
    ]

-- a word that stands is read as what it means
word_again : {N : Type 0} (names : List (List ℕ)) (meaning : List ℕ → Option N) (line : List ℕ)
    (at : ℕ) (word rest : List ℕ) (n : N) → meaning word ≡ Some n → is_word word ≡ true
    → EndsWord rest → drop at line ≡ word ++ rest
    → named_at names meaning line at ≡ Ok (n, at + length word)
word_again names meaning line at word rest n means is ends e =
    ap (λ (w : List ℕ). named_read names at w (meaning w))
    (ap (take_while not_space) e ∙ bytes_taken word rest (word_spaceless word is) ends)
    ∙ ap (named_read names at word) means

-- ---- values by their words

value_is : {N : Type 0} (n m : N) → Some n ≡ Some m → n ≡ m
value_is n m e = cc

value_step : {N : Type 0} (name : N → List ℕ) (b : Bool) (w : List ℕ) (n m : N)
    (others : Option N) → (b ≡ true → w ≡ name n) → (others ≡ Some m → w ≡ name m)
    → cond b (Some n) others ≡ Some m → w ≡ name m
value_step name true w n m others is more e = is refl ∙ ap name (value_is n m e)
value_step name false w n m others is more e = more e

-- a word that names a value is its word
pub value_unique : {N : Type 0} (name : N → List ℕ) (all : List N) (w : List ℕ) (m : N)
    → value_named name all w ≡ Some m → w ≡ name m
value_unique name [] w m e = absurd cc
value_unique name (n ∷ all) w m e =
    value_step name (bytes_eq w (name n)) w n m (find (λ n. bytes_eq w (name n)) all)
    (same_word w (name n)) (value_unique name all w m) e

-- words that tell these values apart
pub record IsNaming {N : Type 0} (name : N → List ℕ) (all : List N) : Type 0 where
  pub again : (n : N) → value_named name all (name n) ≡ Some n
  pub word : (n : N) → is_word (name n) ≡ true

abbrev pub Any : {N : Type 0} → N → Type 0
Any n = Unit {0}

pub naming_field : {N : Type 0} (name : N → List ℕ) (all : List N) → IsNaming name all
    → IsField (name_at name all) name Any
naming_field name all is = record {
  takes = λ line at x e.
      let n = name_takes (map name all) (value_named name all) line at x e in (
        subst (λ (l : List ℕ). Spells line at l x.1)
            (value_unique name all (word_at line at) x.0 n.means)
            (subst (λ (k : ℕ). Spells line at (word_at line at) k) (sym n.place)
            (word_spells line at)),
        tt,
      );
  again = λ line at n rest fits ends e. word_again (map name all) (value_named name all) line at
      (name n) rest n (is.again n) (is.word n) ends e;
}

pub naming_placed : {N : Type 0} (name : N → List ℕ) (all : List N)
    → PlacedReader (name_at name all)
naming_placed name all = name_placed (map name all) (value_named name all)

-- ---- a name, and the fields that it calls for

-- names, and the fields of each, for values that fit where what stands behind them may follow
pub record IsByName {N A : Type 0} (meaning : List ℕ → Option N) (fields : N → Reader A)
    (name : N → List ℕ) (name_of : A → N) (rest : A → List ℕ) (Fits : A → Type 0)
    (Follows : List ℕ → Type 0) : Type 0 where
  pub unique : (w : List ℕ) (n : N) → meaning w ≡ Some n → w ≡ name n
  pub again : (a : A) → Fits a → meaning (name (name_of a)) ≡ Some (name_of a)
  pub word : (n : N) → is_word (name n) ≡ true
  pub take : (n : N) (line : List ℕ) (at : ℕ) (x : A × ℕ) → meaning (name n) ≡ Some n
      → fields n line at ≡ Ok x
      → Spells line at (rest x.0) x.1 × (Fits x.0 × (name_of x.0 ≡ n))
  pub give : (a : A) (line : List ℕ) (at : ℕ) (more : List ℕ) → Fits a → Follows more
      → at ≤ length line → drop at line ≡ rest a ++ more
      → fields (name_of a) line at ≡ Ok (a, at + length (rest a))
  pub ends : (a : A) (more : List ℕ) → Follows more → EndsWord (rest a ++ more)
  pub placed : (n : N) → PlacedReader (fields n)

module _ {N A : Type 0} {meaning : List ℕ → Option N} {fields : N → Reader A} {name : N → List ℕ}
    {name_of : A → N} {rest : A → List ℕ} {Fits : A → Type 0} {Follows : List ℕ → Type 0}
    (names : List (List ℕ))
    (is : IsByName meaning fields name name_of rest Fits Follows) where
  abbrev whole : A → List ℕ
  whole a = name (name_of a) ++ rest a

  pub by_takes : (line : List ℕ) (at : ℕ) (x : A × ℕ)
      → by_name_at (named_at names meaning) fields line at ≡ Ok x
      → Spells line at (name (name_of x.0) ++ rest x.0) x.1 × Fits x.0
  by_takes line at x e =
      let p = bind_ok (named_at names meaning line at) (λ n. fields n.0 line n.1) x e in
      let n = name_takes names meaning line at p.0 p.1 in
      let w = word_at line at in
      let own : w ≡ name p.0.0 = is.unique w p.0.0 n.means in
      let t = is.take p.0.0 line p.0.1 x (ap meaning (sym own) ∙ n.means) p.2 in
      let front = subst (λ (k : ℕ). Spells line at w k) (sym n.place) (word_spells line at) in
      let all = Spells-then line at w p.0.1 (rest x.0) x.1 front t.0 in
      let named : w ≡ name (name_of x.0) = own ∙ ap name (sym t.1.1) in
      (subst (λ (l : List ℕ). Spells line at (l ++ rest x.0) x.1) named all, t.1.0)

  pub by_again : (line : List ℕ) (at : ℕ) (a : A) (more : List ℕ) → Fits a → Follows more
      → drop at line ≡ (name (name_of a) ++ rest a) ++ more
      → by_name_at (named_at names meaning) fields line at ≡ Ok (a, at + length (whole a))
  by_again line at a more fits follows e =
      let w = name (name_of a) in
      let front : drop at line ≡ w ++ (rest a ++ more) = e ∙ append_assoc w (rest a) more in
      let one = word_again names meaning line at w (rest a ++ more) (name_of a) (is.again a fits)
      (is.word (name_of a)) (is.ends a more follows) front in
      let mid = at + length w in
      let within : mid ≤ length line = omega (
        arith,
        ap length front,
        length-drop at line,
        length-append w (rest a ++ more),
        word_some w (is.word (name_of a)),
      ) in
      let two = is.give a line mid more fits follows within
      (drop_past line at w (rest a ++ more) front) in
      let end : mid + length (rest a) ≡ at + length (whole a) = omega
      (arith, length-append w (rest a)) in
      ap (λ (o : Read N). o >>= λ n. fields n.0 line n.1) one ∙ two ∙ ap (read_of a) end

  pub by_placed : PlacedReader (by_name_at (named_at names meaning) fields)
  by_placed line at =
      faults.bind (named_at names meaning line at) _ (name_placed names meaning line at)
      (λ n. is.placed n.0 line n.1)

-- the same where a word ends behind it
pub by_field : {N A : Type 0} {meaning : List ℕ → Option N} {fields : N → Reader A}
    {name : N → List ℕ} {name_of : A → N} {rest : A → List ℕ} {Fits : A → Type 0}
    (names : List (List ℕ)) → IsByName meaning fields name name_of rest Fits EndsWord
    → IsField (by_name_at (named_at names meaning) fields) (λ a. name (name_of a) ++ rest a) Fits
by_field names is = record { takes = by_takes names is; again = by_again names is }
