-- Words of a line, and the names that stand there.
use Rattle.std.proofs.Common.{◌≡◌, ℕ, suc, ◌+◌, ◌<◌, ◌≤◌, Bool, true, false, cond, eqb, ◌&&◌, List, [], ◌∷◌, ◌++◌, length, get_or, drop, Option, Some, None, Ok, Err, refl, sym, ap, subst, ◌∙◌, arith}
use Rattle.std.specs.Prelude.{nat_le, not, find, codes}
use Rattle.std.specs.List.{prefix_len, take_while}
use Rattle.std.specs.Str.{bytes_eq}
use Rattle.std.proofs.lemmas.Bool.{eqb-true, eq-eqb, ne_eqb, and_parts, leb-true}
use Rattle.std.proofs.lemmas.List.{take-append-drop, drop-drop}
use Rattle.std.proofs.lemmas.List.Sums.{take_while-cons}
use Rattle.std.proofs.lemmas.List.Folds.{length-prefix_len}
use Rattle.std.proofs.lemmas.Slice.Eq.{bytes_eq-Decides}
use Rattle.harp_types.specs.Procedures.{procedures, procedure_name, procedure_named}
use Rattle.harp_types.specs.declared.procedure.Procedure.{Procedure}
use Rattle.harp_types.specs.declared.procedure.Procedure.TheVariants as procedure
use Rattle.schedule_text.specs.declared.fault.TextFault.TheVariants.{Grammar}
use Rattle.schedule_text.specs.Fields.{Read, EndsWord, not_space, word_at}
use Rattle.schedule_text.specs.Words.{farthest, named_at}
use Rattle.schedule_text.proofs.Places.{Spells, ok_is}
use Rattle.schedule_text.proofs.Faults.{PlacedReader, Placed}
use Rattle.schedule_text.specs.declared.form.Form.{Form}
use Rattle.schedule_text.specs.declared.form.Form.TheVariants as form
use Rattle.schedule_text.specs.Reading.{form_named}

-- ---- where a word ends

ends_here : (rest : List ℕ) → EndsWord (drop (prefix_len not_space rest) rest)
ends_here [] = tt
ends_here (b ∷ rest) = by (eqb b 32) refl (ends_here rest)
  where
    by : (space : Bool) → eqb b 32 ≡ space → EndsWord (drop (prefix_len not_space rest) rest)
        → EndsWord (drop (cond (not space) (1 + prefix_len not_space rest) 0) (b ∷ rest))
    by true is more = eqb-true b 32 is
    by false is more =
        subst (λ n. EndsWord (drop n (b ∷ rest))) {x = suc (prefix_len not_space rest)}
        (omega arith) more

pub word_spells : (line : List ℕ) (at : ℕ)
    → Spells line at (word_at line at) (at + length (word_at line at))
word_spells line at =
    let rest = drop at line in
    let n = prefix_len not_space rest in
    let len : length (word_at line at) ≡ n = length-prefix_len not_space rest in
    let behind : drop (at + length (word_at line at)) line ≡ drop n rest =
    ap (λ k. drop (at + k) line) len
    ∙ sym (drop-drop n at line) in
    record {
      parts = sym (take-append-drop n rest)
          ∙ ap (λ (l : List ℕ). word_at line at ++ l) (sym behind);
      length_is = refl;
    }

pub word_ends : (line : List ℕ) (at : ℕ) → EndsWord (drop (at + length (word_at line at)) line)
word_ends line at =
    let rest = drop at line in
    let n = prefix_len not_space rest in
    let len : length (word_at line at) ≡ n = length-prefix_len not_space rest in
    let behind : drop n rest ≡ drop (at + length (word_at line at)) line = drop-drop n at line
    ∙ ap (λ k. drop (at + k) line) (sym len) in
    subst EndsWord behind (ends_here rest)

-- ---- a word that stands

-- letters alone
abbrev letters : List ℕ → Bool
letters [] = true
letters (b ∷ bytes) = nat_le 97 b && letters bytes

-- one letter at least, and letters alone
abbrev pub is_name : List ℕ → Bool
is_name [] = false
is_name (b ∷ bytes) = nat_le 97 b && letters bytes

none_left : (rest : List ℕ) → EndsWord rest → take_while not_space rest ≡ []
none_left [] ends = refl
none_left (b ∷ rest) ends =
    take_while-cons not_space b rest
    ∙ ap (λ (c : Bool). cond (not c) (b ∷ take_while not_space rest) [])
    (eq-eqb b 32 ends)

letter : (b : ℕ) → nat_le 97 b ≡ true → 97 ≤ b
letter b e = leb-true 97 b e

letters_taken : (word rest : List ℕ) → letters word ≡ true → EndsWord rest
    → take_while not_space (word ++ rest) ≡ word
letters_taken [] rest all ends = none_left rest ends
letters_taken (b ∷ word) rest all ends =
    let parts = and_parts (nat_le 97 b) (letters word) all in
    let above = letter b parts.0 in
    take_while-cons not_space b (word ++ rest)
    ∙ ap (λ (c : Bool). cond (not c) (b ∷ take_while not_space (word ++ rest)) [])
    (ne_eqb b 32 (λ e. omega arith))
    ∙ ap (λ (l : List ℕ). b ∷ l) (letters_taken word rest parts.1 ends)

name_letters : (word : List ℕ) → is_name word ≡ true → letters word ≡ true
name_letters [] name = absurd cc
name_letters (b ∷ word) name = name

pub word_stands : (line : List ℕ) (at : ℕ) (word rest : List ℕ) → is_name word ≡ true
    → EndsWord rest
    → drop at line ≡ word ++ rest → word_at line at ≡ word
word_stands line at word rest name ends e =
    ap (take_while not_space) e ∙ letters_taken word rest (name_letters word name) ends

-- a name begins with a letter
pub name_first : (word rest : List ℕ) → is_name word ≡ true → 97 ≤ get_or (word ++ rest) 0 0
name_first [] rest name = absurd cc
name_first (b ∷ word) rest name = letter b (and_parts (nat_le 97 b) (letters word) name).0

-- ---- the lists of names

pub same_word : (x y : List ℕ) → bytes_eq x y ≡ true → x ≡ y
same_word x y e = (bytes_eq-Decides x y).0 e

-- ---- a name that is read

abbrev named_read : {A : Type 0} → List (List ℕ) → ℕ → List ℕ → Option A → Read A
named_read names at word o =
    elim o [
      | None ↦ Err (Grammar (at + farthest names word 0))
      | Some x ↦ Ok (x, at + length word)
    ]

-- what a name that is read says
pub record NameRead {A : Type 0} (meaning : List ℕ → Option A) (line : List ℕ) (at : ℕ)
    (x : A × ℕ) : Type 0 where
  pub means : meaning (word_at line at) ≡ Some x.0
  pub place : x.1 ≡ at + length (word_at line at)

pub name_takes : {A : Type 0} (names : List (List ℕ)) (meaning : List ℕ → Option A)
    (line : List ℕ) (at : ℕ) (x : A × ℕ) → named_at names meaning line at ≡ Ok x
    → NameRead meaning line at x
name_takes {A} names meaning line at x e = by (meaning (word_at line at)) refl e
  where
    by : (o : Option A) → meaning (word_at line at) ≡ o
        → named_read names at (word_at line at) o ≡ Ok x → NameRead meaning line at x
    by None is e = absurd cc
    by (Some y) is e =
        let same = ok_is (y, at + length (word_at line at)) x e in
        record {
          means = is ∙ ap (λ (z : A × ℕ). Some z.0) same;
          place = sym (ap (λ (z : A × ℕ). z.1) same);
        }

pub name_again : {A : Type 0} (names : List (List ℕ)) (meaning : List ℕ → Option A)
    (line : List ℕ) (at : ℕ) (name rest : List ℕ) (x : A) → meaning name ≡ Some x
    → is_name name ≡ true → EndsWord rest → drop at line ≡ name ++ rest
    → named_at names meaning line at ≡ Ok (x, at + length name)
name_again names meaning line at name rest x means letters ends e =
    ap (λ (w : List ℕ). named_read names at w (meaning w))
    (word_stands line at name rest letters ends e)
    ∙ ap (named_read names at name) means

pub name_placed : {A : Type 0} (names : List (List ℕ)) (meaning : List ℕ → Option A)
    → PlacedReader (named_at names meaning)
name_placed {A} names meaning line at = by (meaning (word_at line at))
  where
    by : (o : Option A) → Placed (named_read names at (word_at line at) o)
    by None = tt
    by (Some y) = tt

-- ---- the forms of steps

abbrev pub form_name : Form → List ℕ
form_name form.Ask = codes "ask"
form_name form.Deliver = codes "deliver"
form_name form.Pump = codes "pump"
form_name form.Tick = codes "tick"
form_name form.Suspect = codes "suspect"
form_name form.Apply = codes "apply"
form_name form.Flush = codes "flush"
form_name form.List = codes "list"
form_name form.Boot = codes "boot"
form_name form.Power = codes "power"
form_name form.Crash = codes "crash"
form_name form.Stop = codes "stop"
form_name form.Noise = codes "noise"
form_name form.Clock = codes "clock"
form_name form.Advance = codes "advance"
form_name form.Delta = codes "delta"

pub form_again : (f : Form) → form_named (form_name f) ≡ Some f
form_again form.Ask = refl
form_again form.Deliver = refl
form_again form.Pump = refl
form_again form.Tick = refl
form_again form.Suspect = refl
form_again form.Apply = refl
form_again form.Flush = refl
form_again form.List = refl
form_again form.Boot = refl
form_again form.Power = refl
form_again form.Crash = refl
form_again form.Stop = refl
form_again form.Noise = refl
form_again form.Clock = refl
form_again form.Advance = refl
form_again form.Delta = refl

pub form_letters : (f : Form) → is_name (form_name f) ≡ true
form_letters form.Ask = refl
form_letters form.Deliver = refl
form_letters form.Pump = refl
form_letters form.Tick = refl
form_letters form.Suspect = refl
form_letters form.Apply = refl
form_letters form.Flush = refl
form_letters form.List = refl
form_letters form.Boot = refl
form_letters form.Power = refl
form_letters form.Crash = refl
form_letters form.Stop = refl
form_letters form.Noise = refl
form_letters form.Clock = refl
form_letters form.Advance = refl
form_letters form.Delta = refl

form_is : (f g : Form) → Some f ≡ Some g → f ≡ g
form_is f g e = cc

one_form : (b : Bool) (word : List ℕ) (f g : Form) (other : Option Form)
    → (b ≡ true → word ≡ form_name f) → (other ≡ Some g → word ≡ form_name g)
    → cond b (Some f) other ≡ Some g → word ≡ form_name g
one_form true word f g other is more e = is refl ∙ ap form_name (form_is f g e)
one_form false word f g other is more e = more e

no_form : (word : List ℕ) (g : Form) → None ≡ Some g → word ≡ form_name g
no_form word g e = absurd cc

-- a word that names a form is its name
pub names_form : (word : List ℕ) (g : Form) → form_named word ≡ Some g → word ≡ form_name g
names_form word g e =
    one_form (bytes_eq word (codes "ask")) word form.Ask g _ (same_word word (codes "ask"))
    (λ e1. one_form (bytes_eq word (codes "deliver")) word form.Deliver g _ (same_word word (codes "deliver"))
    (λ e2. one_form (bytes_eq word (codes "pump")) word form.Pump g _ (same_word word (codes "pump"))
    (λ e3. one_form (bytes_eq word (codes "tick")) word form.Tick g _ (same_word word (codes "tick"))
    (λ e4. one_form (bytes_eq word (codes "suspect")) word form.Suspect g _ (same_word word (codes "suspect"))
    (λ e5. one_form (bytes_eq word (codes "apply")) word form.Apply g _ (same_word word (codes "apply"))
    (λ e6. one_form (bytes_eq word (codes "flush")) word form.Flush g _ (same_word word (codes "flush"))
    (λ e7. one_form (bytes_eq word (codes "list")) word form.List g _ (same_word word (codes "list"))
    (λ e8. one_form (bytes_eq word (codes "boot")) word form.Boot g _ (same_word word (codes "boot"))
    (λ e9. one_form (bytes_eq word (codes "power")) word form.Power g _ (same_word word (codes "power"))
    (λ e10. one_form (bytes_eq word (codes "crash")) word form.Crash g _ (same_word word (codes "crash"))
    (λ e11. one_form (bytes_eq word (codes "stop")) word form.Stop g _ (same_word word (codes "stop"))
    (λ e12. one_form (bytes_eq word (codes "noise")) word form.Noise g _ (same_word word (codes "noise"))
    (λ e13. one_form (bytes_eq word (codes "clock")) word form.Clock g _ (same_word word (codes "clock"))
    (λ e14. one_form (bytes_eq word (codes "advance")) word form.Advance g _ (same_word word (codes "advance"))
    (λ e15. one_form (bytes_eq word (codes "delta")) word form.Delta g _ (same_word word (codes "delta"))
    (λ e16. no_form word g e16) e15) e14) e13) e12) e11) e10) e9) e8) e7) e6) e5) e4) e3) e2) e1) e

-- ---- the names of calls

some_is : (n m : Procedure) → Some n ≡ Some m → n ≡ m
some_is n m e = cc

named_step : (b : Bool) (word : List ℕ) (n m : Procedure) (rest : Option Procedure)
    → (b ≡ true → word ≡ procedure_name n)
    → (rest ≡ Some m → word ≡ procedure_name m) → cond b (Some n) rest ≡ Some m
    → word ≡ procedure_name m
named_step true word n m rest is more e = is refl ∙ ap procedure_name (some_is n m e)
named_step false word n m rest is more e = more e

named_among : (word : List ℕ) (names : List Procedure) (m : Procedure)
    → find (λ n. bytes_eq word (procedure_name n)) names ≡ Some m → word ≡ procedure_name m
named_among word [] m e = absurd cc
named_among word (n ∷ names) m e =
    named_step (bytes_eq word (procedure_name n)) word n m
    (find (λ n. bytes_eq word (procedure_name n)) names)
    (same_word word (procedure_name n)) (named_among word names m) e

-- a word that names a call is its name
pub names_call : (word : List ℕ) (n : Procedure) → procedure_named word ≡ Some n
    → word ≡ procedure_name n
names_call word n e = named_among word procedures n e

-- a call is found by its name
pub named_again : (n : Procedure) → procedure_named (procedure_name n) ≡ Some n
named_again procedure.Null = refl
named_again procedure.GetAttr = refl
named_again procedure.SetAttr = refl
named_again procedure.Lookup = refl
named_again procedure.ReadLink = refl
named_again procedure.Read = refl
named_again procedure.Write = refl
named_again procedure.Create = refl
named_again procedure.Remove = refl
named_again procedure.Rename = refl
named_again procedure.Link = refl
named_again procedure.SymLink = refl
named_again procedure.MkDir = refl
named_again procedure.RmDir = refl
named_again procedure.ReadDir = refl
named_again procedure.StatFs = refl

pub name_is_name : (n : Procedure) → is_name (procedure_name n) ≡ true
name_is_name procedure.Null = refl
name_is_name procedure.GetAttr = refl
name_is_name procedure.SetAttr = refl
name_is_name procedure.Lookup = refl
name_is_name procedure.ReadLink = refl
name_is_name procedure.Read = refl
name_is_name procedure.Write = refl
name_is_name procedure.Create = refl
name_is_name procedure.Remove = refl
name_is_name procedure.Rename = refl
name_is_name procedure.Link = refl
name_is_name procedure.SymLink = refl
name_is_name procedure.MkDir = refl
name_is_name procedure.RmDir = refl
name_is_name procedure.ReadDir = refl
name_is_name procedure.StatFs = refl

-- a name has a letter
pub name_some : (word : List ℕ) → is_name word ≡ true → 0 < length word
name_some [] name = absurd cc
name_some (b ∷ word) name = omega arith
